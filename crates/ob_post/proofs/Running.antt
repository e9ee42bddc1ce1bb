-- The amounts of a run, day by day.
use Rattle.std.proofs.Common.{◌≡◌, ◌∙◌, sym, ap, subst, refl, ℕ, ◌+◌, ◌-◌, ◌<◌, ◌≤◌, ◌==◌, min, max, List, [], ◌∷◌, ◌++◌, length, take, Option, Some, None, slice_get, ℤ, pos, ◌+ℤ◌, inl, inr, arith}
use Rattle.std.specs.Option.{option_map_or}
use Rattle.std.proofs.lemmas.Bool.{cases_Bool, cases_lt, eqb-true, eqb-false, ne_eqb}
use Rattle.std.proofs.lemmas.Int.{ints}
use Rattle.std.proofs.Math.Seq.{take-append_seam}
use Rattle.std.proofs.lemmas.List.{append_assoc}
use Rattle.std.proofs.lemmas.List.Elements.{All-append, All-push, All-cons, All-nil}
use Rattle.std.proofs.lemmas.List.FromFn.{get_or-map-range_with_len, length-map-range_with_len}
use Rattle.std.proofs.lemmas.List.Kept.{AllPairs-from_increasing}
use Rattle.std.proofs.lemmas.Option.{slice_get-get_or, slice_get_cases}
use Rattle.ob_base.specs.declared.interval.Interval.{Interval}
use Rattle.ob_cust.specs.declared.Customer.{Customer}
use Rattle.ob_cust.specs.Service.{served_seconds}
use Rattle.ob_sweep.specs.declared.Run.{Run}
use Rattle.ob_time.specs.Calendar.{Calendar, IsCalendar, IsInDay, bound_of, day_at, day_count, days_of}
use Rattle.ob_post.specs.declared.Dim.{Dim}
use Rattle.ob_post.specs.declared.Dim.TheVariants.{Cause, Feeder, Day}
use Rattle.ob_post.specs.declared.Moved.{Moved}
use Rattle.ob_post.specs.Keys.{IsKey}
use Rattle.ob_post.specs.Moved.{delta_of, HaveKeys}
use Rattle.ob_post.specs.RunAmounts.{served_in}
use Rattle.ob_post.proofs.Deltas.{delta_under, delta_of-append, delta_of_push}
use Rattle.ob_post.proofs.Served.{served_nothing}

-- the amount of a run under a day
abbrev pub on_day : List Customer → Run → Calendar → ℕ → ℕ
on_day roll run c day = served_in roll run 0 0 (days_of c) Day day

-- the rows so far: the run's cause and feeder, and the days below this one
pub record AreAmounts (roll : List Customer) (run : Run) (cause feeder : ℕ) (c : Calendar) (moved : List Moved) (day : ℕ) : Type 0 where
  pub causes : (key : ℕ) → delta_of moved Cause key ≡ pos (served_in roll run cause feeder (days_of c) Cause key)
  pub feeders : (key : ℕ) → delta_of moved Feeder key ≡ pos (served_in roll run cause feeder (days_of c) Feeder key)
  pub done : (key : ℕ) → key < day → delta_of moved Day key ≡ pos (on_day roll run c key)
  pub rest : (key : ℕ) → day ≤ key → delta_of moved Day key ≡ pos 0
  pub keys : HaveKeys (day_count c) moved

-- ---- the days of a calendar
bounds_rise : (c : Calendar) (i j : ℕ) → IsCalendar c → i ≤ j → j < length c.bounds → bound_of c i ≤ bound_of c j
bounds_rise c i j kept l within = elim (cases_lt i j) [
  | inl less ↦ omega (arith, AllPairs-from_increasing c.bounds kept.rising i j 0 less within)
  | inr past ↦ let same : i ≡ j = omega arith in ap-le same
]
  where
    ap-le : i ≡ j → bound_of c i ≤ bound_of c j
    ap-le same = subst (λ (k : ℕ). bound_of c i ≤ bound_of c k) same (omega arith)

day_listed : (c : Calendar) (day : ℕ) → day < day_count c → slice_get (days_of c) day ≡ Some (day_at c day)
day_listed c day l =
    slice_get-get_or (days_of c) day (day_at c day) (omega (arith, length-map-range_with_len (day_at c) 0 (day_count c)))
    ∙ ap (λ (d : Interval). Some d) (get_or-map-range_with_len (day_at c) 0 (day_count c) day day (day_at c day) l (omega arith))

no_day_listed : (c : Calendar) (day : ℕ) → day_count c ≤ day → slice_get (days_of c) day ≡ None
no_day_listed c day l = elim (slice_get_cases (days_of c) day).1 [
  | inl there ↦ absurd (omega (arith, there.1, length-map-range_with_len (day_at c) 0 (day_count c)))
  | inr past ↦ past.1
]

pub on_day_is : (roll : List Customer) (run : Run) (c : Calendar) (day : ℕ) → day < day_count c
    → on_day roll run c day ≡ served_seconds roll run.section (max run.since (bound_of c day)) (min run.until (bound_of c (day + 1)))
on_day_is roll run c day l = ap (λ (o : Option Interval). option_map_or (λ d. served_seconds roll run.section (max run.since d.since) (min run.until d.until)) o 0) (day_listed c day l)

nothing_past : (roll : List Customer) (run : Run) (c : Calendar) (day : ℕ) → day_count c ≤ day → on_day roll run c day ≡ 0
nothing_past roll run c day l =
    ap (λ (o : Option Interval). option_map_or (λ d. served_seconds roll run.section (max run.since d.since) (min run.until d.until)) o 0) (no_day_listed c day l)

-- before the day that holds the run's first second it has nothing
nothing_before : (roll : List Customer) (run : Run) (c : Calendar) (first day : ℕ) → IsCalendar c → IsInDay c first run.since → day < first → on_day roll run c day ≡ 0
nothing_before roll run c first day kept held l =
    let within : day < day_count c = omega (arith, held.0) in
    let rise = bounds_rise c (day + 1) first kept (omega arith) (omega (arith, kept.count, held.0)) in
    on_day_is roll run c day within
    ∙ served_nothing roll run.section (max run.since (bound_of c day)) (min run.until (bound_of c (day + 1))) (omega (arith, rise, held.1))

-- after the day that holds its last second it has nothing
nothing_after : (roll : List Customer) (run : Run) (c : Calendar) (last day : ℕ) → IsCalendar c → IsInDay c last (run.until - 1) → last < day → on_day roll run c day ≡ 0
nothing_after roll run c last day kept held l = elim (cases_lt day (day_count c)) [
  | inl within ↦
      let rise = bounds_rise c (last + 1) day kept (omega arith) (omega (arith, kept.count)) in
      on_day_is roll run c day within
      ∙ served_nothing roll run.section (max run.since (bound_of c day)) (min run.until (bound_of c (day + 1))) (omega (arith, rise, held.2))
  | inr past ↦ nothing_past roll run c day past
]

-- ---- the rows
-- the rows of the run's cause and feeder
pub two_rows : (roll : List Customer) (run : Run) (cause feeder : ℕ) (c : Calendar) (first : ℕ) (z : ℤ) → IsCalendar c → IsInDay c first run.since → cause < 64 → 1 ≤ feeder → feeder < 256
    → z ≡ pos (served_seconds roll run.section run.since run.until)
    → AreAmounts roll run cause feeder c (record { dim = Cause; key = cause; delta = z } ∷ record { dim = Feeder; key = feeder; delta = z } ∷ []) first
two_rows roll run cause feeder c first z kept held low some high e = record {
  causes = λ key. elim (cases_Bool (cause == key)) [ inl t ↦ rw t (omega (arith, ints, e)) | inr f ↦ rw f (omega (arith, ints)) ];
  feeders = λ key. elim (cases_Bool (feeder == key)) [ inl t ↦ rw t (omega (arith, ints, e)) | inr f ↦ rw f (omega (arith, ints)) ];
  done = λ key l. ap pos (sym (nothing_before roll run c first key kept held l));
  rest = λ key l. omega (arith, ints);
  keys = All-cons (λ n. IsKey (day_count c) n.dim n.key) (record { dim = Cause; key = cause; delta = z }) (record { dim = Feeder; key = feeder; delta = z } ∷ []) low
      (All-cons (λ n. IsKey (day_count c) n.dim n.key) (record { dim = Feeder; key = feeder; delta = z }) [] (some, high) (All-nil (λ n. IsKey (day_count c) n.dim n.key)));
}

-- one more row of a day
pub day_row : (roll : List Customer) (run : Run) (cause feeder : ℕ) (c : Calendar) (moved : List Moved) (day : ℕ) (z : ℤ) → AreAmounts roll run cause feeder c moved day → day < day_count c
    → z ≡ pos (served_seconds roll run.section (max run.since (bound_of c day)) (min run.until (bound_of c (day + 1))))
    → AreAmounts roll run cause feeder c (moved ++ record { dim = Day; key = day; delta = z } ∷ []) (day + 1)
day_row roll run cause feeder c moved day z so l e =
    let m : Moved = record { dim = Day; key = day; delta = z } in
    record {
      causes = λ key. omega (arith, ints, delta_of_push moved m Cause key, so.causes key);
      feeders = λ key. omega (arith, ints, delta_of_push moved m Feeder key, so.feeders key);
      done = λ key below.
          elim (cases_Bool (day == key)) [
            | inl t ↦
                let now : day ≡ key = eqb-true day key t in
                let here : delta_under Day key m ≡ z = rw t refl in
                let value : z ≡ pos (on_day roll run c key) = e ∙ ap pos (sym (on_day_is roll run c day l)) ∙ ap (λ (k : ℕ). pos (on_day roll run c k)) now in
                omega (arith, ints, delta_of_push moved m Day key, here, so.rest key (omega arith), value)
            | inr f ↦
                let apart = eqb-false day key f in
                let none : delta_under Day key m ≡ pos 0 = rw f refl in
                let before : key < day = omega (arith, apart) in
                omega (arith, ints, delta_of_push moved m Day key, none, so.done key before)
          ];
      rest = λ key past.
          let none : delta_under Day key m ≡ pos 0 = rw (ne_eqb day key (λ same. omega arith)) refl in
          omega (arith, ints, delta_of_push moved m Day key, none, so.rest key (omega arith));
      keys = All-push (λ n. IsKey (day_count c) n.dim n.key) moved m so.keys l;
    }

-- all rows
pub all_amounts : (roll : List Customer) (run : Run) (cause feeder : ℕ) (c : Calendar) (moved : List Moved) (last day : ℕ) (dim : Dim) (key : ℕ) → IsCalendar c → IsInDay c last (run.until - 1)
    → AreAmounts roll run cause feeder c moved day → last + 1 ≤ day → delta_of moved dim key ≡ pos (served_in roll run cause feeder (days_of c) dim key)
all_amounts roll run cause feeder c moved last day Cause key kept held so l = so.causes key
all_amounts roll run cause feeder c moved last day Feeder key kept held so l = so.feeders key
all_amounts roll run cause feeder c moved last day Day key kept held so l = elim (cases_lt key day) [
  | inl below ↦ so.done key below
  | inr past ↦ so.rest key past ∙ ap pos (sym (nothing_after roll run c last key kept held (omega arith)))
]

-- ---- rows appended to others
-- rows of the run so far stand after the old ones
pub record AreAppended (roll : List Customer) (run : Run) (cause feeder : ℕ) (c : Calendar) (old new : List Moved) (day : ℕ) : Type 0 where
  pub more : List Moved
  pub appended : new ≡ old ++ more
  pub amounts : AreAmounts roll run cause feeder c more day

pub two_appended : (roll : List Customer) (run : Run) (cause feeder : ℕ) (c : Calendar) (old new : List Moved) (first : ℕ) (z : ℤ) → IsCalendar c → IsInDay c first run.since → cause < 64 → 1 ≤ feeder → feeder < 256
    → z ≡ pos (served_seconds roll run.section run.since run.until)
    → new ≡ (old ++ record { dim = Cause; key = cause; delta = z } ∷ []) ++ record { dim = Feeder; key = feeder; delta = z } ∷ [] → AreAppended roll run cause feeder c old new first
two_appended roll run cause feeder c old new first z kept held low some high e is = record {
  more = record { dim = Cause; key = cause; delta = z } ∷ record { dim = Feeder; key = feeder; delta = z } ∷ [];
  appended = is ∙ append_assoc old (record { dim = Cause; key = cause; delta = z } ∷ []) (record { dim = Feeder; key = feeder; delta = z } ∷ []);
  amounts = two_rows roll run cause feeder c first z kept held low some high e;
}

pub day_appended : (roll : List Customer) (run : Run) (cause feeder : ℕ) (c : Calendar) (old now new : List Moved) (day : ℕ) (z : ℤ) → AreAppended roll run cause feeder c old now day → day < day_count c
    → z ≡ pos (served_seconds roll run.section (max run.since (bound_of c day)) (min run.until (bound_of c (day + 1))))
    → new ≡ now ++ record { dim = Day; key = day; delta = z } ∷ [] → AreAppended roll run cause feeder c old new (day + 1)
day_appended roll run cause feeder c old now new day z so l e is =
    let m : Moved = record { dim = Day; key = day; delta = z } in
    record {
      more = so.more ++ m ∷ [];
      appended = is ∙ ap (λ (xs : List Moved). xs ++ m ∷ []) so.appended ∙ append_assoc old so.more (m ∷ []);
      amounts = day_row roll run cause feeder c so.more day z so.amounts l e;
    }

pub all_appended : (roll : List Customer) (run : Run) (cause feeder : ℕ) (c : Calendar) (old new : List Moved) (last day : ℕ) (dim : Dim) (key : ℕ) → IsCalendar c → IsInDay c last (run.until - 1)
    → AreAppended roll run cause feeder c old new day → last + 1 ≤ day → delta_of new dim key ≡ delta_of old dim key +ℤ pos (served_in roll run cause feeder (days_of c) dim key)
all_appended roll run cause feeder c old new last day dim key kept held so l =
    ap (λ (ms : List Moved). delta_of ms dim key) so.appended
    ∙ delta_of-append old so.more dim key
    ∙ ap (λ (z : ℤ). delta_of old dim key +ℤ z) (all_amounts roll run cause feeder c so.more last day dim key kept held so.amounts l)

-- the old rows stay, and all have keys where those did
pub old_stay : (old new more : List Moved) → new ≡ old ++ more → take (length old) new ≡ old
old_stay old new more e = ap (take (length old)) e ∙ take-append_seam old more

pub keys_stay : (days : ℕ) (old new more : List Moved) → new ≡ old ++ more → HaveKeys days more → HaveKeys days old → HaveKeys days new
keys_stay days old new more e h g = subst (HaveKeys days) (sym e) (All-append (λ m. IsKey days m.dim m.key) old more g h)
