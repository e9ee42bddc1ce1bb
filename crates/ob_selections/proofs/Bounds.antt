-- The bounds of a period's days.
use Rattle.std.proofs.Common.{◌≡◌, ℕ, ◌-◌, ◌^◌, ◌<◌, ◌≤◌, List, length, slice_index, inl, inr, arith}
use Rattle.std.specs.List.Sorted.{IsStrictlyIncreasing}
use Rattle.std.proofs.lemmas.Bool.{cases_lt}
use Rattle.std.proofs.lemmas.List.Kept.{AllPairs-from_increasing}
use Rattle.ob_time.specs.Calendar.{Calendar, IsCalendar, bound_of, day_count, first_second_of, end_second_of}

-- no bound is above a later one
at_most_later : (b : List ℕ) (i j : ℕ) → IsStrictlyIncreasing b → i ≤ j → j < length b → slice_index b i ≤ slice_index b j
at_most_later b i j rising h lt =
    elim (cases_lt i j) [
      | inl less ↦ omega (arith, AllPairs-from_increasing b rising i j 0 less lt)
      | inr ge ↦ let e : i ≡ j = omega arith in rw e (omega arith)
    ]

pub bound_at_most : (c : Calendar) (i j : ℕ) → IsCalendar c → i ≤ j → j ≤ day_count c → bound_of c i ≤ bound_of c j
bound_at_most c i j kept h le =
    let some = kept.days.0 in
    let count = kept.count in
    at_most_later c.bounds i j kept.rising h (omega (arith, le, some, count))

-- the first second is no later than the end
pub first_to_end : (c : Calendar) → IsCalendar c → first_second_of c ≤ end_second_of c
first_to_end c kept = bound_at_most c 0 (day_count c) kept (omega arith) (omega arith)

-- days of a period are no longer than it
pub days_short : (c : Calendar) (i j : ℕ) → IsCalendar c → i ≤ j → j ≤ day_count c → bound_of c j - bound_of c i < 2 ^ 25
days_short c i j kept h le =
    let low = bound_at_most c 0 i kept (omega arith) (omega (arith, h, le)) in
    let high = bound_at_most c j (day_count c) kept le (omega arith) in
    let short = kept.short in
    let rising = bound_at_most c i j kept h le in
    omega (arith, low, high, short, rising)
