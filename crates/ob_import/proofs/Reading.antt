-- The rows of a text that were given as lines.
use Rattle.std.proofs.Common.{◌≡◌, ◌≢◌, ◌≤◌, ◌∙◌, sym, ap, subst, refl, ℕ, ◌+◌, Bool, true, false, true≢false, List, [], ◌∷◌, ◌++◌, length, cond, Option, Some, None, Result, Ok, Err, inl, inr, nat_lt, arith}
use Rattle.ob_base.specs.declared.stop.Fault.{Fault}
use Rattle.ob_base.specs.declared.stop.Fault.TheVariants as faults
use Rattle.ob_base.specs.declared.stop.Refusal.{Refusal}
use Rattle.ob_base.specs.declared.stop.Refusal.TheVariants.{Full}
use Rattle.ob_csv.specs.Header.{is_header}
use Rattle.ob_csv.specs.Rows.{Fields, TakesRow}
use Rattle.ob_csv.specs.RowReading.{rows_left}
use Rattle.ob_command.specs.declared.command.Command.{Command}
use Rattle.ob_command.specs.Fields.{IsRow}
use Rattle.ob_store.specs.Lines.{Ends, GivesAll, OverLines}
use Rattle.ob_store.specs.Whole.{Line}
use Rattle.ob_import.specs.Imports.{after_header}
use Rattle.ob_import.specs.Reports.{HasCause}
use Rattle.ob_import.specs.Whole.{AreLines, GivesLine, GivesNone, IsLine}
use Rattle.ob_import.specs.declared.whole.RowLines.{RowLines}
use Rattle.ob_import.proofs.Lines.{is_within, number_is}

-- these rows begin with some that say these lines, numbered from here
pub record BeginAs (number : ℕ) (rows : List Fields) (list : List Line) : Type 0 where
  pub front : List Fields
  pub back : List Fields
  pub parts : rows ≡ front ++ back
  pub lines : AreLines number front list

begin_more : (number : ℕ) (rows rest : List Fields) (row : Fields) (said : List ℕ × Command) (list : List Line) → rows ≡ row ∷ rest → IsLine number row (Ok said) → BeginAs (number + 1) rest list → BeginAs number rows (Ok said ∷ list)
begin_more number rows rest row said list is says it = record {
  front = row ∷ it.front;
  back = it.back;
  parts = is ∙ ap (λ l. row ∷ l) it.parts;
  lines = (says, it.lines);
}

-- a row was taken: it is the first of those that are left
took : (left after : Option (List Fields)) (later : List Fields) (row : Fields) → left ≡ Some later → TakesRow left after true row → (rest : List Fields) × (after ≡ Some rest) × (later ≡ row ∷ rest)
took None after later row is takes = absurd (let e : ◌≡◌ {A = Option (List Fields)} None (Some later) = is in cc)
took (Some l) None later row is takes = absurd takes
took (Some l) (Some rest) later row is takes = let same : l ≡ later = cc in (rest, refl, sym same ∙ takes)

-- none is left
no_row : (left after : Option (List Fields)) (later : List Fields) (row : Fields) → left ≡ Some later → TakesRow left after false row → later ≡ []
no_row None after later row is takes = absurd (let e : ◌≡◌ {A = Option (List Fields)} None (Some later) = is in cc)
no_row (Some l) after later row is takes = let same : l ≡ later = (let e : Some l ≡ Some later = is in cc) in sym same ∙ takes

-- ---- the lines that were given
module _ {R : Type 0} (remaining : R → Option (List ℕ)) where
  -- none after one that says no command
  none_after : (was is : RowLines R) (list : List Line) → was.ended ≡ true → GivesAll (GivesLine remaining) was list is → list ≡ []
  none_after was is [] over all = refl
  none_after was is (line ∷ list) over all = absurd (true≢false (sym over ∙ all.1.going))

  -- they are those of the first rows
  pub given_first : (was is : RowLines R) (rows : List Fields) (list : List Line) → rows_left remaining was.rows ≡ Some rows → GivesAll (GivesLine remaining) was list is → BeginAs (was.given + 1) rows list
  given_first was is rows [] left all = record { front = []; back = rows; parts = refl; lines = tt }
  given_first was is rows (Ok said ∷ list) left all =
      let one = all.1 in
      let next = took (rows_left remaining was.rows) (rows_left remaining all.0.rows) rows one.row left one.takes in
      begin_more (was.given + 1) rows next.0 one.row said list next.2 one.says (subst (λ n. BeginAs (n + 1) next.0 list) one.counted (given_first all.0 is next.0 list next.1 all.2))
  given_first was is rows (Err refusal ∷ list) left all =
      let one = all.1 in
      let next = took (rows_left remaining was.rows) (rows_left remaining all.0.rows) rows one.row left one.takes in
      record { front = one.row ∷ []; back = next.0; parts = next.2; lines = (one.says, none_after all.0 is list one.ended all.2) }

  -- where no other is left, of all
  pub given_all : (was last is : RowLines R) (rows : List Fields) (list : List Line) → rows_left remaining was.rows ≡ Some rows → was.ended ≡ false → was.given ≤ 1_000_000 → GivesAll (GivesLine remaining) was list last → GivesNone remaining last is
      → AreLines (was.given + 1) rows list
  given_all was last is rows [] left going few all none =
      let end = subst (λ x. GivesNone remaining x is) all none in
      let over : rows ≡ [] = elim end.why [
        | inl over ↦ absurd (true≢false (sym over ∙ going))
        | inr rest ↦ elim rest [
          | inl past ↦ absurd (omega (arith, few, past))
          | inr takes ↦ no_row (rows_left remaining was.rows) (rows_left remaining is.rows) rows end.row left takes
        ]
      ] in
      subst (λ r. AreLines (was.given + 1) r []) (sym over) tt
  given_all was last is rows (Ok said ∷ list) left going few all none =
      let one = all.1 in
      let next = took (rows_left remaining was.rows) (rows_left remaining all.0.rows) rows one.row left one.takes in
      let within = number_is (was.given + 1) (is_within (was.given + 1) one.row said one.says).0 in
      let rest = given_all all.0 last is next.0 list next.1 one.ended (omega (arith, one.counted, within)) all.2 none in
      subst (λ r. AreLines (was.given + 1) r (Ok said ∷ list)) (sym next.2) (one.says, subst (λ n. AreLines (n + 1) next.0 list) one.counted rest)
  given_all was last is rows (Err refusal ∷ list) left going few all none =
      let one = all.1 in
      let next = took (rows_left remaining was.rows) (rows_left remaining all.0.rows) rows one.row left one.takes in
      subst (λ r. AreLines (was.given + 1) r (Err refusal ∷ list)) (sym next.2) (one.says, none_after all.0 last list one.ended all.2)

  -- so many were given
  given_count : (was last : RowLines R) (list : List Line) → GivesAll (GivesLine remaining) was list last → last.given ≡ was.given + length list
  given_count was last [] all = let same = ap (λ (x : RowLines R). x.given) all in omega (arith, same)
  given_count was last (line ∷ list) all = let rest = given_count all.0 last list all.2 in omega (arith, all.1.counted, rest)

  given_few : (was last : RowLines R) (list : List Line) → was.given ≤ 1_000_001 → GivesAll (GivesLine remaining) was list last → last.given ≤ 1_000_001
  given_few was last [] few all = let same = ap (λ (x : RowLines R). x.given) all in omega (arith, same, few)
  given_few was last (line ∷ list) few all = given_few all.0 last list (omega (arith, all.1.counted, all.1.few)) all.2

  end_count : (last is : RowLines R) (ended : Bool) → Ends (GivesLine remaining) last ended is → is.given ≡ last.given
  end_count last is true ends = ends.counted
  end_count last is false ends = elim ends [
    | inl same ↦ ap (λ (x : RowLines R). x.given) same
    | inr failed ↦ failed.1
  ]

  pub counted : (was is : RowLines R) (Holds : List Line → Type 0) → was.given ≡ 0 → (it : OverLines (GivesLine remaining) was is Holds) → (is.given ≡ length it.taken) × (is.given ≤ 1_000_001)
  counted was is Holds none it =
      let end = end_count it.last is it.ended it.ends in
      let count = given_count was it.last it.taken it.took in
      let few = given_few was it.last it.taken (omega (arith, none)) it.took in
      ((let e : is.given ≡ length it.taken = omega (arith, end, count, none) in e), (let e : is.given ≤ 1_000_001 = omega (arith, end, few) in e))

-- ---- a line
pub line_full : (number : ℕ) (row : Fields) → nat_lt 1_000_000 number ≡ true → IsLine number row (Err (Full 1_000_000))
line_full number row past = rw past refl

pub line_read : (number : ℕ) (row : Fields) (line : Line) → nat_lt 1_000_000 number ≡ false → IsRow row line → IsLine number row line
line_read number row line within is = rw within is

-- ---- a header
pub header_none : (left after : Option (List Fields)) (found : Bool) (row : Fields) (all : List Fields) → left ≡ Some all → TakesRow left after found row → cond found (is_header row) false ≡ false → after_header all ≡ None
header_none None after found row all is takes lacks = absurd (let e : ◌≡◌ {A = Option (List Fields)} None (Some all) = is in cc)
header_none (Some l) None true row all is takes lacks = absurd takes
header_none (Some l) (Some rest) true row all is takes lacks =
    let same : all ≡ row ∷ rest = (let e : l ≡ all = cc in sym e ∙ takes) in rw (same, lacks) refl
header_none (Some l) after false row all is takes lacks = let same : all ≡ [] = (let e : l ≡ all = cc in sym e ∙ takes) in rw same refl

pub header_there : (left after : Option (List Fields)) (row : Fields) (all : List Fields) → left ≡ Some all → TakesRow left after true row → is_header row ≡ true
    → (rest : List Fields) × (after ≡ Some rest) × (after_header all ≡ Some rest)
header_there left after row all is takes header =
    let next = took left after all row is takes in
    (next.0, next.1, ap after_header next.2 ∙ (let e : after_header (row ∷ next.0) ≡ Some next.0 = rw header refl in e))

-- ---- why the rows of a text in memory can't be taken
pub memory_only : (fault : Fault) → HasCause fault (true ≡ false) → fault ≢ faults.Store → fault ≡ faults.OutOfMemory
memory_only faults.OutOfMemory cause other = refl
memory_only faults.Input cause other = absurd (let e : true ≡ false = cause in cc)
memory_only faults.Store cause other = absurd (other refl)
memory_only faults.Reopen cause other = absurd cause
memory_only faults.Output cause other = absurd cause
