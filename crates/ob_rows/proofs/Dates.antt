-- The year, the month and the place in it of a date's day number. (`ob_time` has the same lemmas for its own texts, not for others.)
use Rattle.std.proofs.Common.{◌≡◌, ◌∙◌, ap, ℕ, zero, suc, ℤ, pos, ◌+◌, ◌-◌, ◌<◌, ◌≤◌, ◌≤ℤ◌, ◌<ℤ◌, ◌-ℤ◌, Bool, true, false, int_le, arith, inl, inr, cond, refl}
use Rattle.std.specs.List.{count_by, range_with_len}
use Rattle.std.specs.Int.{IsInRange}
use Rattle.std.proofs.lemmas.Bool.{cases_Bool, cases_lt}
use Rattle.std.proofs.lemmas.Int.{by_lt_z}
use Rattle.std.proofs.lemmas.List.Sums.{sum_by-cons}
use Rattle.jiff_core.specs.Calendar.{day_count, days_from_civil, IsCivilDate}
use Rattle.jiff_core.specs.Date.{epoch_day}
use Rattle.jiff_core.specs.declared.civil.date.Date.{Date}
use Rattle.jiff_core.proofs.CalendarLemmas.{days_from_civil-day_count, day_count-epoch, day_count-day_of_year, day_count-lt_year, day_count-lt_month, day_count-day, days_in_month_bounds}
use Rattle.jiff_core.proofs.DateLemmas.{civil}
use Rattle.jiff_core.proofs.SignedLemmas.{signed_arith}
use Rattle.ob_time.specs.Dates.{day_text, last_year, month_of_day, place_of_day, year_of_day, ymd_text}

last_year-is : last_year ≡ 9999
unfolding last_year
last_year-is = refl

moved : (p : ℕ → Bool) (i j : ℕ) (b : Bool) → i ≡ j → p i ≡ b → p j ≡ b
moved p i j b e h = rw (← e) h

abbrev one_if : Bool → ℕ
one_if b = cond b 1 0

-- a test that holds of the first k numbers alone counts them
counted : (p : ℕ → Bool) (k n a : ℕ) → ((i : ℕ) → i < k → p (a + i) ≡ true) → ((i : ℕ) → k ≤ i → i < n → p (a + i) ≡ false) → k ≤ n → count_by p (range_with_len a n) ≡ k
counted p k zero a some others le = omega arith
counted p zero (suc n) a some others le =
    let here : p a ≡ false = moved p (a + 0) a false (omega arith) (others 0 (omega arith) (omega arith)) in
    let none : one_if (p a) ≡ 0 = ap one_if here in
    let rest = counted p zero n (a + 1)
    (λ i lt. absurd (omega arith))
    (λ i ge lt. moved p (a + suc i) (a + 1 + i) false (omega arith) (others (suc i) (omega arith) (omega arith)))
    (omega arith) in
    omega (arith, sum_by-cons (λ x. one_if (p x)) a (range_with_len (a + 1) n), none, rest)
counted p (suc k) (suc n) a some others le =
    let here : p a ≡ true = moved p (a + 0) a true (omega arith) (some 0 (omega arith)) in
    let one : one_if (p a) ≡ 1 = ap one_if here in
    let rest = counted p k n (a + 1)
    (λ i lt. moved p (a + suc i) (a + 1 + i) true (omega arith) (some (suc i) (omega arith)))
    (λ i ge lt. moved p (a + suc i) (a + 1 + i) false (omega arith) (others (suc i) (omega arith) (omega arith)))
    (omega arith) in
    omega (arith, sum_by-cons (λ x. one_if (p x)) a (range_with_len (a + 1) n), one, rest)

is_before : (a b : ℤ) → a ≤ℤ b → int_le a b ≡ true
is_before a b h = elim (cases_Bool (int_le a b)) [ inl t ↦ t | inr n ↦ absurd (omega (arith, signed_arith, n, h)) ]

is_after : (a b : ℤ) → b <ℤ a → int_le a b ≡ false
is_after a b h = elim (cases_Bool (int_le a b)) [ inl t ↦ absurd (omega (arith, signed_arith, t, h)) | inr n ↦ n ]

january : (y : ℕ) → y ≤ 9999 → IsCivilDate (pos y) 1 1
january y le = ((omega (arith, signed_arith), omega (arith, signed_arith)), (omega arith, omega arith), (omega arith, omega (arith, days_in_month_bounds (pos y) 1)))

-- a day from 1970 on is of no year below 0
pub no_year_below_zero : (d : Date) → pos 0 ≤ℤ epoch_day d → pos 0 ≤ℤ d.year
no_year_below_zero d low =
    by_lt_z d.year (pos 1970)
    (λ lt. absurd (omega (arith, signed_arith, days_from_civil-day_count d.year d.month d.day, day_count-epoch, day_count-lt_year d.year d.month d.day (pos 1970) 1 1 (civil d) (omega arith) lt, low)))
    (λ late. omega (arith, signed_arith))

module _ (d : Date) (y : ℕ) (of : d.year ≡ pos y) where
  first_of_month : (m : ℕ) → IsInRange 1 12 m → IsCivilDate d.year m 1
  first_of_month m h = (d.year_in, h, (omega arith, omega (arith, days_in_month_bounds d.year m)))

  year_begun : (j : ℕ) → j < y → days_from_civil (pos (j + 1)) 1 1 ≤ℤ epoch_day d
  year_begun j lt =
      let first = civil d in
      elim (cases_lt (j + 1) y) [
        | inl less ↦ omega (arith, signed_arith, days_from_civil-day_count, day_count-lt_year (pos (j + 1)) 1 1 d.year d.month d.day (january (j + 1) (omega (arith, signed_arith, d.year_in, of))) first.2.0 (omega (arith, signed_arith, of)))
        | inr ge ↦ let same : d.year ≡ pos (j + 1) = omega (arith, signed_arith, of) in
            rw (← same) (omega (arith, signed_arith, days_from_civil-day_count, day_count-day_of_year d.year d.month d.day first.2.0, first.2.0))
      ]

  year_ahead : (j : ℕ) → y ≤ j → epoch_day d <ℤ days_from_civil (pos (j + 1)) 1 1
  year_ahead j le =
      omega (arith, signed_arith, days_from_civil-day_count, day_count-lt_year d.year d.month d.day (pos (j + 1)) 1 1 (civil d) (omega arith) (omega (arith, signed_arith, of)))

  year : year_of_day (epoch_day d) ≡ y
  unfolding year_of_day
  year =
      let most : y ≤ last_year = rw last_year-is (omega (arith, signed_arith, d.year_in, of)) in
      counted (λ j. int_le (days_from_civil (pos (j + 1)) 1 1) (epoch_day d)) y last_year 0
      (λ i lt. is_before _ _ (year_begun (0 + i) (omega arith)))
      (λ i ge lt. is_after _ _ (year_ahead (0 + i) (omega arith)))
      most

  month_begun : (j : ℕ) → 1 ≤ j → j < d.month → days_from_civil (pos y) (j + 1) 1 ≤ℤ epoch_day d
  month_begun j low lt =
      let first = civil d in
      let later : day_count d.year (j + 1) 1 ≤ day_count d.year d.month d.day =
      elim (cases_lt (j + 1) d.month) [
        | inl less ↦ omega (arith, day_count-lt_month d.year (j + 1) 1 d.month d.day (first_of_month (j + 1) (omega arith, omega arith)) first.2.0 less)
        | inr ge ↦ let same : d.month ≡ j + 1 = omega arith in
            rw (← same) (omega (arith, day_count-day d.year d.month d.day 1 first.2.0 (omega arith), first.2.0))
      ] in
      rw (← of) (omega (arith, signed_arith, days_from_civil-day_count, later))

  month_ahead : (j : ℕ) → d.month ≤ j → epoch_day d <ℤ days_from_civil (pos y) (j + 1) 1
  month_ahead j le =
      rw (← of) (omega (arith, signed_arith, days_from_civil-day_count, day_count-lt_month d.year d.month d.day (j + 1) 1 (civil d) (omega arith) (omega arith)))

  month : month_of_day y (epoch_day d) ≡ d.month
  unfolding month_of_day
  month =
      let in_year = d.month_in in
      let before : count_by (λ m. int_le (days_from_civil (pos y) (m + 1) 1) (epoch_day d)) (range_with_len 1 11) ≡ d.month - 1 =
      counted (λ m. int_le (days_from_civil (pos y) (m + 1) 1) (epoch_day d)) (d.month - 1) 11 1
      (λ i lt. is_before _ _ (month_begun (1 + i) (omega arith) (omega arith)))
      (λ i ge lt. is_after _ _ (month_ahead (1 + i) (omega arith)))
      (omega arith) in
      omega (arith, before, in_year)

  place : place_of_day y d.month (epoch_day d) ≡ d.day
  unfolding place_of_day
  place =
      let first = civil d in
      let apart : epoch_day d -ℤ days_from_civil d.year d.month 1 ≡ pos (d.day - 1) =
      omega (arith, signed_arith, days_from_civil-day_count, day_count-day d.year d.month d.day 1 first.2.0 (omega arith), first.2.0) in
      rw (← of, apart) (omega (arith, first.2.0))

  -- the text of its day is that of its numbers
  pub day_text-is : day_text (epoch_day d) ≡ ymd_text y d.month d.day
  unfolding day_text
  day_text-is =
      let day = epoch_day d in
      ap (λ x. ymd_text x (month_of_day x day) (place_of_day x (month_of_day x day) day)) year
      ∙ ap (λ m. ymd_text y m (place_of_day y m day)) month
      ∙ ap (ymd_text y d.month) place
