-- The definitions of version 1 from positions to amounts, moves and counts: no device has a life.
use Rattle.std.specs.Prelude.{ℕ, ◌==◌, ◌&&◌, pos, ◌-ℤ◌, Bool, false, not, List, Option, map, option_map}
use Rattle.std.specs.List.{filter, enumerate_from}
use Rattle.std.specs.Option.{option_map_or, option_and_then}
use Rattle.ob_base.specs.Seconds.{seconds, intervals}
use Rattle.ob_base.specs.declared.Pos.{Pos}
use Rattle.ob_base.specs.declared.interval.Interval.{Interval}
use Rattle.ob_net.specs.Network.{Network, home_feeder}
use Rattle.ob_net.specs.Walk.{is_supplied}
use Rattle.ob_sheet.specs.declared.Entry.{Entry}
use Rattle.ob_sheet.specs.Order.{upto, before, through, greatest, cause_of}
use Rattle.ob_sheet.specs.Positions.{position_of}
use Rattle.ob_cust.specs.declared.Customer.{Customer}
use Rattle.ob_cust.specs.WithoutSupply.{customer_seconds, is_without_supply}
use Rattle.ob_time.specs.Calendar.{Calendar, day_count, first_second_of, end_second_of}
use Rattle.ob_sweep.specs.Runs.{History, start_of}
use Rattle.ob_post.specs.CustomerSeconds.{Days, is_in_day}
use Rattle.ob_post.specs.Moved.{moves_by}
use Rattle.ob_post.specs.declared.Dim.{Dim}
use Rattle.ob_post.specs.declared.Dim.TheVariants.{Cause, Feeder, Day}
use Rattle.ob_post.specs.declared.Moved.{Moved}
use Rattle.ob_index.specs.Counts.{counts_of}
use Rattle.ob_index.specs.Interruptions.{is_counted}
use Rattle.ob_index.specs.declared.figures.Counts.{Counts}
use Rattle.ob_index.specs.declared.figures.Which.{Which}
use Rattle.ob_state.specs.Amounts.{days_of_book}
use Rattle.ob_state.specs.State.{BookState}

-- the position of each device under a set of entries, by number
abbrev pub old_positions : Network → List Entry → List Pos
old_positions net set = map (λ d. position_of set d.0 d.1) (enumerate_from 0 net.devices)

-- the node is supplied under a set of entries
abbrev pub old_is_supplied_under : Network → List Entry → ℕ → Bool
old_is_supplied_under net set v = is_supplied net (old_positions net set) v

-- the node isn't supplied at the second s: all entries of s act before it is looked at
abbrev pub old_is_deenergized : Network → List Entry → ℕ → ℕ → Bool
old_is_deenergized net entries v s = not (old_is_supplied_under net (upto entries s) v)

-- the kept entry of the second s cuts the section off: it is supplied under the entries before this one, and not with it
abbrev pub old_cuts_off : Network → List Entry → ℕ → ℕ → Entry → Bool
old_cuts_off net entries v s e =
    e.kept && e.second == s && old_is_supplied_under net (before entries e) v && not (old_is_supplied_under net (through entries e) v)

-- the number of the cutter: the last entry of the second s that cuts the section off
abbrev pub old_cutter_at : Network → List Entry → ℕ → ℕ → Option ℕ
old_cutter_at net entries v s = option_map (λ e. e.no) (greatest (filter (old_cuts_off net entries v s) entries))

-- the history of a section of the network under the sheet
abbrev pub old_history : Network → List Entry → ℕ → History
old_history net entries v = record { deenergized = old_is_deenergized net entries v; cutter = old_cutter_at net entries v }

-- the cause that a second without supply is posted to, where the seconds begin at a: the one that the cutter of its run has
-- now; 0, unassigned, where there is no cutter
abbrev pub old_cause_at : Network → List Entry → ℕ → ℕ → ℕ → ℕ
old_cause_at net entries a v s =
    option_map_or (cause_of entries) (option_and_then (old_cutter_at net entries v) (start_of (old_history net entries v) a s)) 0

-- the customer-second counts under this key of the dimension
abbrev pub old_has_key : Network → List Entry → Days → Dim → ℕ → Customer → ℕ → Bool
old_has_key net entries p Cause code c s = old_cause_at net entries p.first c.section s == code
old_has_key net entries p Feeder feeder c s = option_map_or (λ f. f == feeder) (home_feeder net c.section) false
old_has_key net entries p Day day c s = is_in_day p.days day s

-- the customer-seconds without supply that count under a key of a dimension
abbrev pub old_customer_seconds_by : Network → List Entry → List Customer → Days → Dim → ℕ → ℕ
old_customer_seconds_by net entries roll p dim key =
    customer_seconds (λ c s. is_without_supply (old_is_deenergized net entries) c s && old_has_key net entries p dim key c s) (seconds p.first p.end) roll

-- the customer-seconds without supply of a state that count under a key of a dimension
abbrev pub old_amount : BookState → Dim → ℕ → ℕ
old_amount b dim key = old_customer_seconds_by b.network b.entries b.customers (days_of_book b) dim key

-- the amounts after a change less those before it: by cause, feeder and day and then by key, zeros left out
abbrev pub old_moves : BookState → BookState → List Moved
old_moves old new = moves_by (λ dim key. pos (old_amount new dim key) -ℤ pos (old_amount old dim key)) (day_count old.period)

-- the longest intervals of the period in which the customer is in service and without supply, rising
abbrev pub old_interruptions : Network → List Entry → Calendar → Customer → List Interval
old_interruptions net entries period c =
    intervals (is_without_supply (old_is_deenergized net entries) c) (first_second_of period) (end_second_of period)

-- the interruptions of the customer that count
abbrev pub old_counted : Network → List Entry → Calendar → List (Option (List ℕ)) → Which → Customer → List Interval
old_counted net entries period marks which c = filter (is_counted period marks which) (old_interruptions net entries period c)

-- the counts over all interruptions, or over the unmarked ones
abbrev pub old_counts : Network → List Entry → List Customer → Calendar → List (Option (List ℕ)) → Which → Counts
old_counts net entries roll period marks which = counts_of (old_counted net entries period marks which) roll

-- the counts of a state
abbrev pub old_counts_of_book : BookState → Which → Counts
old_counts_of_book b which = old_counts b.network b.entries b.customers b.period b.marks which
