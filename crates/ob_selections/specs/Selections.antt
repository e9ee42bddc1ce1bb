-- Selections: which interruptions count, over which customers and days.
use Rattle.std.specs.Prelude.{◌≤◌, ◌<◌, ℕ, ◌==◌, ◌&&◌, Bool, true, false, not, nat_le, nat_lt, List, [], Option, None, length, map, if◌then◌else◌}
use Rattle.std.specs.List.{filter, sum_by, count_by, range_with_len}
use Rattle.std.specs.Option.{option_map_or}
use Rattle.ob_base.specs.Seconds.{seconds}
use Rattle.ob_base.specs.declared.interval.Interval.{Interval}
use Rattle.ob_net.specs.Network.{home_feeder}
use Rattle.ob_cust.specs.declared.Customer.{Customer}
use Rattle.ob_cust.specs.Service.{in_service}
use Rattle.ob_time.specs.Calendar.{Calendar, bound_of, day_at, day_count, holds}
use Rattle.ob_index.specs.Interruptions.{duration, interruptions, is_counted}
use Rattle.ob_index.specs.declared.figures.Counts.{Counts}
use Rattle.ob_index.specs.declared.figures.Which.{Which}
use Rattle.ob_state.specs.State.{BookState}
use Rattle.ob_rows.specs.Rows.{posted_cause}
use Rattle.ob_selections.specs.declared.figures.Figures.{Figures}
use Rattle.ob_selections.specs.declared.selection.Selection.{Selection}

-- all interruptions that count among these, of all customers and days, where so many seconds are the longest momentary one
abbrev pub whole : BookState → Which → ℕ → Selection
whole b which longest =
    record { feeder = None; section = None; cause = None; day = None; first = 0; end = day_count b.period; which = which; longest = longest }

-- its days are days of the period, one or more
pub record IsSelection (b : BookState) (x : Selection) : Type 0 where
  pub some : x.first < x.end
  pub within : x.end ≤ day_count b.period

-- the days are all days of the period
abbrev pub is_whole_period : BookState → Selection → Bool
is_whole_period b x = x.first == 0 && x.end == day_count b.period

-- the seconds of the days
abbrev pub days_of_selection : BookState → Selection → Interval
days_of_selection b x = record { since = bound_of b.period x.first; until = bound_of b.period x.end }

-- how many seconds the days have
abbrev pub length_of_selection : BookState → Selection → ℕ
length_of_selection b x = duration (days_of_selection b x)

-- it is the one that is wanted, or any is
abbrev pub fits : Option ℕ → ℕ → Bool
fits wanted n = option_map_or (λ w. w == n) wanted true

-- the home feeder is the one that is wanted, or any is
abbrev pub fits_feeder : Option ℕ → Option ℕ → Bool
fits_feeder wanted home = option_map_or (λ w. option_map_or (λ f. w == f) home false) wanted true

-- the customers of the section are among those of the selection
abbrev pub has_section : BookState → Selection → ℕ → Bool
has_section b x v = fits x.section v && fits_feeder x.feeder (home_feeder b.network v)

-- the interval has the second
abbrev pub has_at : Interval → ℕ → Bool
has_at i s = nat_le i.since s && nat_lt s i.until

-- the second lies on the day that is wanted, or any day is
abbrev pub begins_on : Calendar → Option ℕ → ℕ → Bool
begins_on period wanted s = option_map_or (λ day. holds (day_at period day) s) wanted true

-- an interruption of customers of the section begins on one of the days, and on the one that is wanted, has the cause, and counts
abbrev pub is_selected : BookState → Selection → ℕ → Interval → Bool
is_selected b x v i =
    has_at (days_of_selection b x) i.since && begins_on b.period x.day i.since && fits x.cause (posted_cause b v i.since) && is_counted b.period b.marks x.which i

-- the interruptions of a customer that are selected
abbrev pub selected : BookState → Selection → Customer → List Interval
selected b x c =
    if has_section b x c.section then filter (is_selected b x c.section) (interruptions b.network b.entries b.period c) else []

-- it lasts longer than so many seconds
abbrev pub lasts_longer : ℕ → Interval → Bool
lasts_longer longest i = nat_lt longest (duration i)

-- how many customers have n or more that last longer than so many seconds
abbrev pub interrupted_beyond : ℕ → (Customer → List Interval) → List Customer → ℕ → ℕ
interrupted_beyond longest interruptions_of roll n = count_by (λ c. nat_le n (length (filter (lasts_longer longest) (interruptions_of c)))) roll

-- the counts of the interruptions that each customer has, where so many seconds are the longest momentary one
abbrev pub counts_beyond : ℕ → (Customer → List Interval) → List Customer → Counts
counts_beyond longest interruptions_of roll = record {
  ci = sum_by (λ c. count_by (lasts_longer longest) (interruptions_of c)) roll;
  csi = sum_by (λ c. sum_by duration (filter (lasts_longer longest) (interruptions_of c))) roll;
  cn = interrupted_beyond longest interruptions_of roll 1;
  cn_n = map (interrupted_beyond longest interruptions_of roll) (range_with_len 1 10);
  mi = sum_by (λ c. count_by (λ i. not (lasts_longer longest i)) (interruptions_of c)) roll;
}

-- the counts of a selection
abbrev pub counts_of_selection : BookState → Selection → Counts
counts_of_selection b x = counts_beyond x.longest (selected b x) b.customers

-- the customer-seconds in service in an interval
abbrev pub service_in : Interval → List Customer → ℕ
service_in i roll = sum_by (λ c. count_by (in_service c) (seconds i.since i.until)) roll

-- the customer-seconds in service of the selection's customers on its days
abbrev pub service_of_selection : BookState → Selection → ℕ
service_of_selection b x = service_in (days_of_selection b x) (filter (λ c. has_section b x c.section) b.customers)

-- the figures of a selection
abbrev pub figures_of_selection : BookState → Selection → Figures
figures_of_selection b x = record { counts = counts_of_selection b x; served = service_of_selection b x; length = length_of_selection b x }
