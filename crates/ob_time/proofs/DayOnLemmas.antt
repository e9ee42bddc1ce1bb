-- The day of a day number, found among the numbers of a period's days.
use Rattle.std.proofs.Common.{◌≡◌, ◌≢◌, ◌∙◌, ap, ℕ, ℤ, pos, ◌<◌, ◌+ℤ◌, Bool, true, false, List, Some, None, length, get_or, slice_get, inl, inr, arith}
use Rattle.std.specs.List.{position_or_len, range_with_len}
use Rattle.std.specs.Ordering.{int_eq}
use Rattle.std.proofs.lemmas.Bool.{cases_Bool}
use Rattle.std.proofs.lemmas.Bool.Decides.{Decides-int_eq}
use Rattle.std.proofs.lemmas.List.Folds.{find_at}
use Rattle.std.proofs.lemmas.List.FromFn.{length-range_with_len, get_or-range_with_len}
use Rattle.std.proofs.lemmas.List.Sums.{position_or_len_is}
use Rattle.std.proofs.lemmas.Option.{slice_get_past, slice_get-get_or}
use Rattle.jiff.proofs.SpanFacts.{signed_arith}
use Rattle.ob_time.specs.Calendar.{Calendar, IsDayOn, day_count, day_on}

-- the test of a day number
abbrev is_on : Calendar → ℤ → ℕ → Bool
is_on c day k = int_eq day (c.first_day +ℤ pos k)

not_same : (x y : ℤ) → x ≢ y → int_eq x y ≡ false
not_same x y ne = elim (cases_Bool (int_eq x y)) [ inl t ↦ absurd (ne ((Decides-int_eq x y).0 t)) | inr n ↦ n ]

number_at : (c : Calendar) (k : ℕ) → k < day_count c → get_or (range_with_len 0 (day_count c)) k 0 ≡ k
number_at c k lt = get_or-range_with_len 0 (day_count c) k 0 lt ∙ omega arith

not_on : (c : Calendar) (day : ℤ) (i k : ℕ) → day ≡ c.first_day +ℤ pos k → i < k → is_on c day i ≡ false
not_on c day i k is lt = not_same day (c.first_day +ℤ pos i) (λ e. omega (arith, signed_arith, e, is))

pub day_on_found : (c : Calendar) (day : ℤ) (k : ℕ) → IsDayOn c k day → day_on c day ≡ Some k
day_on_found c day k h =
    let xs : List ℕ = range_with_len 0 (day_count c) in
    let lt : k < day_count c = h.0 in
    let long : length xs ≡ day_count c = length-range_with_len 0 (day_count c) in
    let apart : (i : ℕ) → i < k → is_on c day (get_or xs i 0) ≡ false = λ i m.
    ap (is_on c day) (number_at c i (omega arith)) ∙ not_on c day i k h.1 m in
    let here : is_on c day (get_or xs k 0) ≡ true = ap (is_on c day) (number_at c k lt) ∙ (Decides-int_eq day (c.first_day +ℤ pos k)).1 h.1 in
    let at : position_or_len (is_on c day) xs ≡ k = position_or_len_is (is_on c day) xs k 0 (omega arith) apart (λ m. here) in
    find_at (is_on c day) xs ∙ ap (slice_get xs) at ∙ slice_get-get_or xs k 0 (omega arith) ∙ ap Some (number_at c k lt)

pub day_on_none : (c : Calendar) (day : ℤ) → ((k : ℕ) → ¬ (IsDayOn c k day)) → day_on c day ≡ None
day_on_none c day h =
    let xs : List ℕ = range_with_len 0 (day_count c) in
    let long : length xs ≡ day_count c = length-range_with_len 0 (day_count c) in
    let apart : (i : ℕ) → i < length xs → is_on c day (get_or xs i 0) ≡ false = λ i m.
    let lt : i < day_count c = omega arith in
    ap (is_on c day) (number_at c i lt) ∙ not_same day (c.first_day +ℤ pos i) (λ e. h i (lt, e)) in
    let past : position_or_len (is_on c day) xs ≡ length xs = position_or_len_is (is_on c day) xs (length xs) 0 (omega arith) apart (λ l. absurd (omega arith)) in
    find_at (is_on c day) xs ∙ ap (slice_get xs) past ∙ slice_get_past xs (length xs) (omega arith)
