-- The rows of a text as the lines of a list, and what the list makes of a book.
use Rattle.std.proofs.Common.{◌≡◌, ◌≤◌, ◌<◌, ◌∙◌, sym, ap, subst, refl, ℕ, ◌+◌, Bool, true, false, true≢false, List, [], ◌∷◌, ◌++◌, length, cond, Option, Some, None, Result, Ok, Err, inl, inr, nat_lt, arith, append_assoc, append-nil, length-append}
use Rattle.std.specs.Bool.{MatchBool}
use Rattle.std.specs.Result.{is_ok}
use Rattle.std.proofs.lemmas.Bool.{cases_Bool}
use Rattle.std.proofs.lemmas.Bool.Decides.{nat_tests}
use Rattle.ob_base.specs.declared.stop.Refusal.{Refusal}
use Rattle.ob_base.specs.declared.stop.Refusal.TheVariants.{Full}
use Rattle.ob_command.specs.declared.command.Command.{Command}
use Rattle.ob_command.specs.Fields.{IsRow}
use Rattle.ob_csv.specs.Rows.{Fields}
use Rattle.ob_book.specs.Acts.{ActState, Referenced, Reply, act, answer, is_accepted}
use Rattle.ob_store.specs.Acting.{under}
use Rattle.ob_store.specs.Whole.{Line, after_lines, goes_on}
use Rattle.ob_import.specs.Imports.{IsRefused, Says, Stops, Taken}
use Rattle.ob_import.specs.Whole.{AreLines, IsLine}
use Rattle.ob_import.proofs.Importing.{taken_more}

-- ---- a row that says a command
-- a row that says a command is none past the last that a text may have
pub is_within : (number : ℕ) (row : Fields) (said : List ℕ × Command) → IsLine number row (Ok said) → (nat_lt 1_000_000 number ≡ false) × IsRow row (Ok said)
is_within number row said is = elim (cases_Bool (nat_lt 1_000_000 number)) [
  | inl past ↦ absurd (let e : ◌≡◌ {A = Line} (Ok said) (Err (Full 1_000_000)) = rw past at is in cc)
  | inr within ↦ (within, rw within at is)
]

pub number_is : (number : ℕ) → nat_lt 1_000_000 number ≡ false → number ≤ 1_000_000
number_is number within = elim (cases_Bool (nat_lt 1_000_000 number)) [
  | inl past ↦ absurd (true≢false (sym past ∙ within))
  | inr same ↦ grind (arith, nat_tests, within)
]

-- ---- what the list makes of a book
-- a line is refused
line_stops : (c : ActState) (number : ℕ) (row : Fields) (said : List ℕ × Command) (refusal : Refusal) → IsLine number row (Ok said) → answer c (under said.0 said.1) ≡ Err refusal → Stops c number row refusal
line_stops c number row said refusal is err =
    let it = is_within number row said is in
    rw it.0 (inr (under said.0 said.1, it.1, err))

none_stops : (c : ActState) (number : ℕ) (row : Fields) (refusal : Refusal) → IsLine number row (Err refusal) → Stops c number row refusal
none_stops c number row refusal is = elim (cases_Bool (nat_lt 1_000_000 number)) [
  | inl past ↦ let e : ◌≡◌ {A = Line} (Err refusal) (Err (Full 1_000_000)) = rw past at is in let same : refusal ≡ Full 1_000_000 = cc in rw past same
  | inr within ↦ rw within (inl (rw within at is))
]

-- so many rows, from the first on, were taken, and all of them
pub record TakesAll (b d : ActState) (rows : List Fields) : Type 0 where
  pub added : ℕ
  pub again : ℕ
  pub taken : Taken b d rows added again

-- so many were taken, and the next one stops them
pub record TakesSome (b : ActState) (rows : List Fields) (place : ℕ) (refusal : Refusal) : Type 0 where
  pub state : ActState
  pub added : ℕ
  pub again : ℕ
  pub done : List Fields
  pub row : Fields
  pub later : List Fields
  pub taken : Taken b state done added again
  pub parts : rows ≡ done ++ row ∷ later
  pub at : place ≡ added + again
  pub why : Stops state (added + again + 1) row refusal

counts : (t : Bool) → cond t 1 0 + cond t 0 1 ≡ 1
counts true = refl
counts false = refl

module _ (b c : ActState) (done : List Fields) (added again number : ℕ) (taken : Taken b c done added again) (at : number ≡ added + again + 1) (row : Fields) (said : List ℕ × Command) (is : IsLine number row (Ok said))
    (ok : is_ok (answer c (under said.0 said.1)) ≡ true) where
  pub taken_line : Taken b (act c (under said.0 said.1)) (done ++ row ∷ []) (added + cond (is_accepted c (under said.0 said.1)) 1 0) (again + cond (is_accepted c (under said.0 said.1)) 0 1)
  taken_line =
      let a = under said.0 said.1 in
      let it = is_within number row said is in
      let few = number_is number it.0 in
      let one = counts (is_accepted c a) in
      taken_more b c done added again (added + cond (is_accepted c a) 1 0) (again + cond (is_accepted c a) 0 1) row a taken it.1 ok (omega (arith, few, at)) refl (omega (arith, one))

never_ok : (refusal : Refusal) (place : ℕ) (d : ActState) → ◌≡◌ {A = Result ActState (ℕ × Refusal)} (Err (place, refusal)) (Ok d) → ⊥
never_ok refusal place d e = cc

same_stop : (a b : ℕ) (r q : Refusal) → ◌≡◌ {A = Result ActState (ℕ × Refusal)} (Err (a, r)) (Err (b, q)) → (a ≡ b) × (r ≡ q)
same_stop a b r q e =
    let pair : ◌≡◌ {A = ℕ × Refusal} (a, r) (b, q) = cc in
    (ap (λ (p : ℕ × Refusal). p.0) pair, ap (λ (p : ℕ × Refusal). p.1) pair)

pub takes_all : (b c d : ActState) (done rows : List Fields) (added again number place : ℕ) (list : List Line) → Taken b c done added again → number ≡ added + again + 1 → AreLines number rows list
    → after_lines c place list ≡ Ok d → TakesAll b d (done ++ rows) × (length list ≡ length rows)
takes_all b c d done [] added again number place [] taken at lines all =
    let same : c ≡ d = cc in
    (record { added = added; again = again; taken = subst (λ x. Taken b x (done ++ []) added again) same (subst (λ x. Taken b c x added again) (sym (append-nil done)) taken) }, refl)
takes_all b c d done [] added again number place (line ∷ list) taken at lines all = absurd lines
takes_all b c d done (row ∷ rows) added again number place [] taken at lines all = absurd lines
takes_all b c d done (row ∷ rows) added again number place (Err refusal ∷ list) taken at lines all = absurd (never_ok refusal place d all)
takes_all b c d done (row ∷ rows) added again number place (Ok said ∷ list) taken at lines all =
    let a = under said.0 said.1 in
    elim (answer c a) as (λ r. answer c a ≡ r → goes_on r place (after_lines (act c a) (place + 1) list) ≡ Ok d → TakesAll b d (done ++ row ∷ rows) × (length (Ok said ∷ list) ≡ length (row ∷ rows))) [
      | Ok reply ↦ λ is rest.
          let one = counts (is_accepted c a) in
          let it = takes_all b (act c a) d (done ++ row ∷ []) rows (added + cond (is_accepted c a) 1 0) (again + cond (is_accepted c a) 0 1) (number + 1) (place + 1) list
          (taken_line b c done added again number taken at row said lines.0 (ap is_ok is)) (omega (arith, at, one)) lines.1 rest in
          let same : length (Ok said ∷ list) ≡ length (row ∷ rows) = omega (arith, it.1) in
          (subst (TakesAll b d) (append_assoc done (row ∷ []) rows) it.0, same)
      | Err refusal ↦ λ is rest. absurd (never_ok refusal place d rest)
    ] refl all

pub takes_some : (b c : ActState) (done rows : List Fields) (added again number place : ℕ) (list : List Line) (end : ℕ) (refused : Refusal) → Taken b c done added again → number ≡ added + again + 1 → place ≡ added + again
    → AreLines number rows list → after_lines c place list ≡ Err (end, refused) → TakesSome b (done ++ rows) end refused
takes_some b c done [] added again number place [] end refused taken at from lines all = absurd (let e : ◌≡◌ {A = Result ActState (ℕ × Refusal)} (Ok c) (Err (end, refused)) = all in cc)
takes_some b c done [] added again number place (line ∷ list) end refused taken at from lines all = absurd lines
takes_some b c done (row ∷ rows) added again number place [] end refused taken at from lines all = absurd lines
takes_some b c done (row ∷ rows) added again number place (Err refusal ∷ list) end refused taken at from lines all =
    let here : place ≡ end = (same_stop place end refusal refused all).0 in
    let same : refusal ≡ refused = (same_stop place end refusal refused all).1 in
    record {
      state = c;
      added = added;
      again = again;
      done = done;
      row = row;
      later = rows;
      taken = taken;
      parts = refl;
      at = sym here ∙ from;
      why = subst (λ n. Stops c n row refused) at (none_stops c number row refused (subst (λ r. IsLine number row (Err r)) same lines.0));
    }
takes_some b c done (row ∷ rows) added again number place (Ok said ∷ list) end refused taken at from lines all =
    let a = under said.0 said.1 in
    elim (answer c a) as (λ r. answer c a ≡ r → goes_on r place (after_lines (act c a) (place + 1) list) ≡ Err (end, refused) → TakesSome b (done ++ row ∷ rows) end refused) [
      | Ok reply ↦ λ is rest.
          let one = counts (is_accepted c a) in
          subst (λ x. TakesSome b x end refused) (append_assoc done (row ∷ []) rows)
          (takes_some b (act c a) (done ++ row ∷ []) rows (added + cond (is_accepted c a) 1 0) (again + cond (is_accepted c a) 0 1) (number + 1) (place + 1) list end refused
          (taken_line b c done added again number taken at row said lines.0 (ap is_ok is)) (omega (arith, at, one)) (omega (arith, from, one)) lines.1 rest)
      | Err refusal ↦ λ is rest.
          let here : place ≡ end = (same_stop place end refusal refused rest).0 in
          let same : refusal ≡ refused = (same_stop place end refusal refused rest).1 in
          record {
            state = c;
            added = added;
            again = again;
            done = done;
            row = row;
            later = rows;
            taken = taken;
            parts = refl;
            at = sym here ∙ from;
            why = subst (λ n. Stops c n row refused) at (line_stops c number row said refused lines.0 (is ∙ ap Err same));
          }
    ] refl all
