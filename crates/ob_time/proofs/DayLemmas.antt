-- The days of a calendar part its seconds.
use Rattle.std.proofs.Common.{◌≡◌, ◌∙◌, ap, refl, ℕ, zero, suc, ◌+◌, ◌<◌, ◌≤◌, true, false, cond, List, [], ◌∷◌, length, map, arith, inl, inr, Some, slice_get}
use Rattle.std.proofs.lemmas.Bool.{cases_lt}
use Rattle.std.proofs.lemmas.List.FromFn.{get_or-map-range_with_len, length-map-range_with_len}
use Rattle.std.proofs.lemmas.List.Sums.{sum_by-cons}
use Rattle.std.proofs.lemmas.Option.{slice_get-get_or}
use Rattle.std.specs.List.{count_by, range_with_len, sum_by}
use Rattle.ob_base.specs.declared.interval.Interval.{Interval}
use Rattle.ob_time.specs.Calendar.{Calendar, IsCalendar, PartSeconds, bound_of, day_at, day_count, days_of, end_second_of, first_second_of, holds, seconds_in}

-- the days from one on part the seconds from its bound on
days-part : (c : Calendar) (k n : ℕ) → IsCalendar c → k + n ≡ day_count c → PartSeconds (bound_of c k) (end_second_of c) (map (day_at c) (range_with_len k n))
days-part c k zero kept e = let same : k ≡ day_count c = omega arith in ap (bound_of c) same
days-part c k (suc n) kept e =
    let count = kept.count in
    (refl, kept.rising k (omega arith), days-part c (k + 1) n kept (omega arith))

pub length-days_of : (c : Calendar) → length (days_of c) ≡ day_count c
length-days_of c = length-map-range_with_len (day_at c) 0 (day_count c)

pub days_of-part : (c : Calendar) → IsCalendar c → PartSeconds (first_second_of c) (end_second_of c) (days_of c)
days_of-part c kept = days-part c 0 (day_count c) kept (omega arith)

-- the lengths of days that part the seconds from a to b are b - a seconds in all
pub PartSeconds-sum : (a b : ℕ) (days : List Interval) → PartSeconds a b days → sum_by seconds_in days + a ≡ b
PartSeconds-sum a b [] h = omega (arith, h)
PartSeconds-sum a b (day ∷ days) h =
    let since = h.0 in
    let some = h.1 in
    let rest = PartSeconds-sum day.until b days h.2 in
    omega (arith, rest, sum_by-cons seconds_in day days)

pub days_add_up : (c : Calendar) → IsCalendar c → sum_by seconds_in (days_of c) + first_second_of c ≡ end_second_of c
days_add_up c kept = PartSeconds-sum _ _ _ (days_of-part c kept)

-- a list's first day counts, or it does not
counted : (days : List Interval) (day : Interval) (s n : ℕ) → holds day s ≡ true → count_by (λ d. holds d s) days ≡ n → count_by (λ d. holds d s) (day ∷ days) ≡ 1 + n
counted days day s n in_it rest = sum_by-cons (λ d. cond (holds d s) 1 0) day days ∙ rw (in_it, rest) refl

passed : (days : List Interval) (day : Interval) (s n : ℕ) → holds day s ≡ false → count_by (λ d. holds d s) days ≡ n → count_by (λ d. holds d s) (day ∷ days) ≡ n
passed days day s n out rest = sum_by-cons (λ d. cond (holds d s) 1 0) day days ∙ rw (out, rest) (omega arith)

-- no day holds a second before them, and one day each of theirs
pub PartSeconds-before : (a b s : ℕ) (days : List Interval) → PartSeconds a b days → s < a → count_by (λ day. holds day s) days ≡ 0
PartSeconds-before a b s [] h lt = refl
PartSeconds-before a b s (day ∷ days) h lt =
    let since = h.0 in
    let some = h.1 in
    let early : s < day.since = omega arith in
    passed days day s 0 (grind (arith, early)) (PartSeconds-before day.until b s days h.2 (omega arith))

pub PartSeconds-once : (a b s : ℕ) (days : List Interval) → PartSeconds a b days → a ≤ s → s < b → count_by (λ day. holds day s) days ≡ 1
PartSeconds-once a b s [] h low high = absurd (omega (arith, h))
PartSeconds-once a b s (day ∷ days) h low high =
    let since = h.0 in
    let begun : day.since ≤ s = omega arith in
    elim (cases_lt s day.until) [
      | inl lt ↦ counted days day s 0 (grind (arith, lt, begun)) (PartSeconds-before day.until b s days h.2 lt)
      | inr ge ↦ passed days day s 1 (grind (arith, ge)) (PartSeconds-once day.until b s days h.2 ge high)
    ]

-- the day of each number in the list
pub days_of-at : (c : Calendar) (k : ℕ) → k < day_count c → slice_get (days_of c) k ≡ Some (day_at c k)
days_of-at c k lt =
    let within = length-days_of c in
    slice_get-get_or (days_of c) k (day_at c k) (omega arith)
    ∙ ap (λ (d : Interval). Some d) (get_or-map-range_with_len (day_at c) 0 (day_count c) k k (day_at c k) lt (omega arith))
