-- Parts of runs, from one second up to another: lists of runs are compared part by part.
use Rattle.std.specs.Prelude.{◌≡◌, ◌==◌, ◌&&◌, ℕ, nat_le, nat_lt, Bool, true, List, [], ◌∷◌, Option, Some, None, if◌then◌else◌}
use Rattle.std.specs.Option.{option_map_or}
use Rattle.ob_base.specs.declared.interval.Interval.{Interval}
use Rattle.ob_sheet.specs.declared.Entry.{Entry}
use Rattle.ob_cust.specs.declared.Customer.{Customer}
use Rattle.ob_sweep.specs.declared.Run.{Run}
use Rattle.ob_post.specs.RunAmounts.{customer_seconds_in}
use Rattle.ob_post.specs.SectionAmounts.{run_cause}
use Rattle.ob_post.specs.declared.Dim.{Dim}

-- the first run begins at the second a or later, and no other one before the one ahead of it ends
abbrev pub rise_from : ℕ → List Run → Bool
rise_from a [] = true
rise_from a (r ∷ rs) = nat_le a r.since && rise_from r.until rs

-- the first second behind a at which the first run begins or ends; b where there is no run
abbrev pub bound_behind : ℕ → ℕ → List Run → ℕ
bound_behind a b [] = b
bound_behind a b (r ∷ rs) = if nat_lt a r.since then r.since else r.until

-- the part of the first run from a up to b; none where that run begins later
abbrev pub part_from : ℕ → ℕ → List Run → Option Run
part_from a b [] = None
part_from a b (r ∷ rs) = if nat_lt a r.since then None else Some (record r { since = a; until = b })

-- the runs that are left from b on, without the first one where it ends there
abbrev pub left_from : ℕ → List Run → List Run
left_from b [] = []
left_from b (r ∷ rs) = if r.until == b then rs else r ∷ rs

-- the customer-seconds of a part of a run, if there is one, under the cause that its cutter has now
abbrev pub amount_of_part : List Entry → List Customer → List Interval → ℕ → Option Run → Dim → ℕ → ℕ
amount_of_part entries roll days feeder part dim key = option_map_or (λ r. customer_seconds_in roll r (run_cause entries r) feeder days dim key) part 0

-- two parts are of the same seconds
abbrev pub AreOfSameSeconds : Option Run → Option Run → Type 0
AreOfSameSeconds was is = (r s : Run) → was ≡ Some r → is ≡ Some s → (r.since ≡ s.since) × (r.until ≡ s.until)
