-- One record more, and how many there can be.
use Rattle.std.proofs.Common.{◌≡◌, ◌<◌, ◌≤◌, ℕ, zero, suc, ◌+◌, ◌-◌, List, [], ◌∷◌, ◌++◌, length, Bool, true, false, Option, Some, None, arith, ap, refl, subst, add-one}
use Rattle.std.specs.Prelude.{◌==◌, ◌||◌, ◌&&◌, if◌then◌else◌}
use Rattle.csv.specs.Machine.{Read, after_end, ends_at_end, fields_after, field_after, in_field, is_end, next_record, start_field, start_record, step}
use Rattle.csv.specs.Reading.{default_config, records_from, records_next}
use Rattle.csv.specs.declared.parser.Action.{Action}
use Rattle.csv.specs.declared.parser.Action.TheVariants as act
use Rattle.csv.specs.declared.parser.State.{State}
use Rattle.csv.specs.declared.parser.State.TheVariants as st
use Rattle.csv.specs.declared.parser.Terminator.TheVariants as term
use Rattle.std.proofs.lemmas.Bool.{cases_Bool, false≢true}
use Rattle.std.proofs.Common.{inl, inr}
use Rattle.std.specs.Prelude.{not, option_map}
use Rattle.csv.specs.Reading.{NextIs, ReadRecord, ReadsNext, Ready, has_failed, names_headers, pending_of, reader_headers, source_of, took_first}
use Rattle.csv.specs.declared.reader.Reader.{Reader}
use Rattle.ob_csv.specs.CsvSetup.{ReadsRows, is_absent, reads_one, rows_in, rows_known}
use Rattle.ob_csv.specs.Rows.{Fields, TakesRow, rows_from}

-- what ends a record leaves a state between records
abbrev pub LeavesBetween : State × Action → Type 0
LeavesBetween next = is_end next.1 ≡ true → ends_at_end next.0 ≡ false

either : (b : Bool) (x y : State × Action) → LeavesBetween x → LeavesBetween y → LeavesBetween (if b then x else y)
either true x y p q = p
either false x y p q = q

goes_on : (s : State) (a : Action) → is_end a ≡ false → LeavesBetween (s, a)
goes_on s a e h = cc (e, h)

ends_line : (c : ℕ) → ends_at_end (after_end term.CRLF c) ≡ false
ends_line c = elim (c == 13) as (λ b. ends_at_end (if b then st.AfterCr else st.StartRecord) ≡ false) [ true ↦ refl | false ↦ refl ]

in_field_leaves : (c : ℕ) → LeavesBetween (in_field default_config c)
in_field_leaves c = either (c == 44) _ _ (goes_on st.StartField act.EndField refl)
    (either ((c == 13) || (c == 10)) _ _ (λ h. ends_line c) (goes_on st.InField act.Copy refl))

start_field_leaves : (c : ℕ) → LeavesBetween (start_field default_config c)
start_field_leaves c = either (c == 34) _ _ (goes_on st.InQuoted act.Skip refl) (in_field_leaves c)

start_record_leaves : (c : ℕ) → LeavesBetween (start_record default_config c)
start_record_leaves c = either ((c == 13) || (c == 10)) _ _ (goes_on st.StartRecord act.Skip refl) (start_field_leaves c)

pub step_leaves : (s : State) (c : ℕ) → LeavesBetween (step default_config s c)
step_leaves st.StartRecord c = start_record_leaves c
step_leaves st.StartField c = start_field_leaves c
step_leaves st.InField c = in_field_leaves c
step_leaves st.InQuoted c = either (c == 34) _ _ (goes_on st.AfterQuote act.Skip refl) (goes_on st.InQuoted act.Copy refl)
step_leaves st.InEscape c = goes_on st.InQuoted act.Copy refl
step_leaves st.AfterQuote c = either (c == 34) _ _ (goes_on st.InQuoted act.Copy refl) (in_field_leaves c)
step_leaves st.InComment c = either (c == 10) _ _ (goes_on st.StartRecord act.Skip refl) (goes_on st.InComment act.Skip refl)
step_leaves st.AfterCr c = either (c == 10) _ _ (goes_on st.StartRecord act.Skip refl) (start_record_leaves c)

-- a record that was read leaves a state between records, and fewer bytes
pub record Goes (text : List ℕ) (next : Read) : Type 0 where
  pub between : ends_at_end next.1 ≡ false
  pub shorter : length next.2 ≤ length text - 1

some_is : {A : Type 0} (x y : A) → Some x ≡ Some y → x ≡ y
some_is x y e = cc

none_some : {A : Type 0} {P : Type 0} (x : A) → ◌≡◌ {A = Option A} None (Some x) → P
none_some x e = cc

pub next_goes : (s : State) (fields : List (List ℕ)) (field : List ℕ) (text : List ℕ) (next : Read) → next_record default_config s fields field text ≡ Some next → Goes text next
unfolding next_record
next_goes s fields field [] next e =
    elim (ends_at_end s) as (λ b. (if b then Some (fields ++ (field ∷ []), st.StartRecord, []) else None) ≡ Some next → Goes [] next) [
      | true ↦ λ h. subst (Goes []) (some_is _ next h) (record { between = refl; shorter = omega arith })
      | false ↦ λ h. none_some next h
    ] e
next_goes s fields field (c ∷ rest) next e =
    let t = step default_config s c in
    let leaves = step_leaves s c in
    let later = next_goes t.0 (fields_after t.1 fields field) (field_after t.1 c field) rest next in
    elim (is_end t.1) as (λ b. (b ≡ true → ends_at_end t.0 ≡ false)
    → (if b then Some (fields_after t.1 fields field, t.0, rest) else next_record default_config t.0 (fields_after t.1 fields field) (field_after t.1 c field) rest) ≡ Some next
    → Goes (c ∷ rest) next) [
      | true ↦ λ l h. subst (Goes (c ∷ rest)) (some_is _ next h) (record { between = l refl; shorter = omega arith })
      | false ↦ λ l h. let g = later h in record { between = g.between; shorter = omega arith }
    ] leaves e

-- between records an empty text has none
no_bytes : (s : State) (next : Read) → ends_at_end s ≡ false → next_record default_config s [] [] [] ≡ Some next → ⊥
unfolding next_record
no_bytes s next between e = none_some next (rw between at e)

pub fewer : (s : State) (text : List ℕ) (next : Read) → ends_at_end s ≡ false → next_record default_config s [] [] text ≡ Some next → length next.2 < length text
fewer s [] next between e = absurd (no_bytes s next between e)
fewer s (c ∷ rest) next between e = let g = next_goes s [] [] (c ∷ rest) next e in omega (arith, g.shorter)

-- with turns enough, their number makes no difference
pub turns_same : (n m : ℕ) (s : State) (text : List ℕ) → ends_at_end s ≡ false → length text < n → length text < m
    → records_from default_config n s text ≡ records_from default_config m s text
unfolding records_from
turns_same zero m s text between h k = absurd (omega arith)
turns_same (suc n) zero s text between h k = absurd (omega arith)
turns_same (suc n) (suc m) s text between h k =
    elim (next_record default_config s [] [] text) as (λ o. next_record default_config s [] [] text ≡ o
    → records_next (records_from default_config n) o ≡ records_next (records_from default_config m) o) [
      | None ↦ λ e. refl
      | Some next ↦ λ e.
          let g = next_goes s [] [] text next e in
          let less = fewer s text next between e in
          ap (λ rows. next.0 ∷ rows) (turns_same n m next.1 next.2 g.between (omega arith) (omega arith))
    ] refl

-- the rows of a text that has a record: that, and the rows after it
pub rows_more : (s : State) (text : List ℕ) (next : Read) → ends_at_end s ≡ false → next_record default_config s [] [] text ≡ Some next
    → rows_from s text ≡ next.0 ∷ rows_from next.1 next.2
unfolding rows_from records_from
rows_more s text next between e =
    let g = next_goes s [] [] text next e in
    let less = fewer s text next between e in
    rw (add-one (length text), e) (ap (λ rows. next.0 ∷ rows) (turns_same (length text) (length next.2 + 1) next.1 next.2 g.between less (omega arith)))

-- a text that has no record has no rows
pub rows_none : (s : State) (text : List ℕ) → next_record default_config s [] [] text ≡ None → rows_from s text ≡ []
unfolding rows_from records_from
rows_none s text e = rw (add-one (length text), e) refl

absent_is : {A : Type 0} (o : Option A) → is_absent o ≡ true → o ≡ None
absent_is None e = refl
absent_is (Some x) e = cc

-- what `csv` asks of a reader whose next read gives one record
pub ready_of : {R : Type 0} (records : Reader R) → reads_one records ≡ true → Ready records
ready_of records one =
    elim (cases_Bool (took_first records)) [
      | inl first ↦ inl first
      | inr fresh ↦
          let plain : (not (names_headers records) && is_absent (reader_headers records)) ≡ true = rw fresh at one in
          elim (cases_Bool (names_headers records)) [
            | inl named ↦ absurd (false≢true (rw named at plain))
            | inr bare ↦ inr (inr (bare, absent_is (reader_headers records) (rw bare at plain)))
          ]
    ]

-- a read of a record takes the first of the rows
takes_go : (s s2 : State) (text after : Option (List ℕ)) (found : Bool) (fields : Fields) → ends_at_end s ≡ false
    → ReadsNext default_config s text after found fields s2 → TakesRow (option_map (rows_from s) text) (rows_known s2 after) found fields
takes_go s s2 None after found fields between r = tt
takes_go s s2 (Some xs) None found fields between r = absurd r
takes_go s s2 (Some xs) (Some ys) found fields between r =
    elim (next_record default_config s [] [] xs) as (λ o. next_record default_config s [] [] xs ≡ o → NextIs o found fields s2 ys
    → TakesRow (Some (rows_from s xs)) (rows_known s2 (Some ys)) found fields) [
      | None ↦ λ e n. rw n (rows_none s xs e)
      | Some next ↦ λ e n.
          let g = next_goes s [] [] xs next e in
          rw (n.0, n.1, n.2, n.3, g.between) (rows_more s xs next between e)
    ] refl r

takes_from : (s s2 : State) (text after : Option (List ℕ)) (found : Bool) (fields : Fields)
    → ReadsNext default_config s text after found fields s2 → TakesRow (rows_known s text) (rows_known s2 after) found fields
takes_from s s2 text after found fields r =
    elim (cases_Bool (ends_at_end s)) [
      | inl inside ↦ rw inside tt
      | inr between ↦ rw between (takes_go s s2 text after found fields between r)
    ]

pub takes_row : {R : Type 0} (remaining : R → Option (List ℕ)) (a b : Reader R) (found : Bool) (fields : Fields) → ReadsRows a
    → ReadRecord remaining a b found fields → TakesRow (rows_in remaining a) (rows_in remaining b) found fields
takes_row remaining a b found fields set_up r =
    let next : ReadsNext default_config a.state (source_of remaining a) (pending_of (remaining b.rdr) b) found fields b.state = rw set_up.config at r.0 in
    let later : source_of remaining b ≡ pending_of (remaining b.rdr) b = rw r.1 refl in
    rw later (takes_from a.state b.state (source_of remaining a) (pending_of (remaining b.rdr) b) found fields next)

-- a reader that failed has no row that is known
pub failed_takes : {R : Type 0} (remaining : R → Option (List ℕ)) (a b : Reader R) (found : Bool) (fields : Fields) → has_failed a ≡ true
    → TakesRow (rows_in remaining a) (rows_in remaining b) found fields
failed_takes remaining a b found fields failed =
    elim (cases_Bool (ends_at_end a.state)) [
      | inl inside ↦ rw inside tt
      | inr between ↦ rw (between, failed) tt
    ]
