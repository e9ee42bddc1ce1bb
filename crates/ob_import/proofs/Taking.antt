-- What a whole import makes of a keeper that takes the rows of a text one after another.
use Rattle.std.proofs.Common.{◌≡◌, ◌∙◌, ◌≤◌, sym, ap, subst, refl, ℕ, ◌+◌, Bool, true, false, List, [], ◌∷◌, ◌++◌, length, Option, Some, None, Result, Ok, Err, inl, inr, arith, append_assoc, append-nil}
use Rattle.std.specs.Prelude.{◌⊎◌, IfErr, IfOk, IsSome}
use Rattle.ob_base.specs.declared.stop.Fault.TheVariants as faults
use Rattle.ob_base.specs.declared.stop.Refusal.{Refusal}
use Rattle.ob_base.specs.declared.stop.Refusal.TheVariants.{BadField}
use Rattle.ob_base.specs.declared.stop.Stop.{Stop}
use Rattle.ob_base.specs.declared.stop.Stop.TheVariants as stops
use Rattle.ob_csv.specs.Rows.{Fields}
use Rattle.ob_csv.specs.RowReading.{rows_left}
use Rattle.ob_book.specs.Acts.{ActState}
use Rattle.ob_book.specs.Searches.{Bound}
use Rattle.ob_store.specs.Acting.{IsActStop}
use Rattle.ob_store.specs.Calls.{ActsOnList, HasListCause, IfHeld, StoreFailed, UndidTables, WasClean}
use Rattle.ob_store.specs.Keepers.{Ghosts, IsClean, StoresNumbers, Ties, book_of}
use Rattle.ob_store.specs.Lines.{BeginsWith, Ends, GivesAll, OverLines}
use Rattle.ob_store.specs.Whole.{Line, after_lines}
use Rattle.ob_store.specs.declared.whole.Halted.{Halted}
use Rattle.ob_store.specs.declared.keeper.Keeper.{Keeper}
use Rattle.ob_store.proofs.Giving.{begins_all}
use Rattle.ob_store.proofs.Within.{never_led}
use Rattle.ob_import.specs.Imports.{Import, ImportsBody, after_header}
use Rattle.ob_import.specs.Reports.{IsStoreFault}
use Rattle.ob_import.specs.Whole.{AreLines, GivesBody, GivesLine, ImportStops, ImportsAll, IsEndOf, IsStopOf, LeavesWhole, RunsWhole}
use Rattle.ob_import.specs.declared.report.ImportReport.{ImportReport}
use Rattle.ob_import.specs.declared.report.ImportFault.{ImportFault}
use Rattle.ob_import.specs.declared.whole.RowLines.{RowLines}
use Rattle.ob_import.proofs.Importing.{taken_none}
use Rattle.ob_import.proofs.Lines.{takes_some}
use Rattle.ob_import.proofs.Reading.{BeginAs, counted, given_all, given_first}
use Rattle.ob_import.proofs.Wholly.{cause_of, no_book_ties, runs_whole, stop_of_store}

-- a line of the first rows was refused
stops_first : (b : ActState) (all rows : List Fields) (list : List Line) → after_header all ≡ Some rows → BeginAs 1 rows list → (place : ℕ) (refusal : Refusal) → after_lines b 0 list ≡ Err (place, refusal) → ImportStops b all (place + 1, refusal)
stops_first b all rows list header begin place refusal stops =
    let it = takes_some b b [] begin.front 0 0 1 0 list place refusal (taken_none b) refl refl begin.lines stops in
    let i : Import = record { state = it.state; added = it.added; again = it.again; stopped = Some (place + 1, refusal) } in
    let number : place + 1 ≡ it.added + it.again + 1 = omega (arith, it.at) in
    let parts : rows ≡ it.done ++ (it.row ∷ (it.later ++ begin.back)) = begin.parts ∙ ap (λ l. l ++ begin.back) it.parts ∙ append_assoc it.done (it.row ∷ it.later) begin.back in (
      i,
      subst (λ body. ImportsBody b body i) (sym header)
          (it.row ∷ (it.later ++ begin.back), (it.done, parts, it.taken), (refusal, ap (λ n. Some (n, refusal)) number, it.why)),
      refl,
    )

-- ---- the lines ended early
module _ {S T : Type 0} {g : Ghosts S} (old new : Keeper S T g) (all rows : List Fields) (list : List Line) (header : after_header all ≡ Some rows) (begin : BeginAs 1 rows list) (bound : Bound) where
  stop_part : (b : ActState) (place : ℕ) (stop : Stop) (result : Result ImportReport ImportFault) → IsActStop stop
      → ((rest : List Line) → ActsOnList old new bound (list ++ rest) (Err (record { place = place; stop = stop })))
      → IsClean new → Ties old b → IsSome (book_of old) → IsStopOf place stop result → LeavesWhole new b all result
  stop_part b place (stops.Refused refusal) result may acts clean ties some is =
      let it = (acts []).acted clean b ties some in
      let stopped : after_lines b 0 list ≡ Err (place, refusal) = subst (λ l. after_lines b 0 l ≡ Err (place, refusal)) (append-nil list) it.0.0 in
      subst (LeavesWhole new b all) (sym is) (stops_first b all rows list header begin place refusal stopped, refl, refl, no_book_ties new b it.0.1 it.1)
  stop_part b place (stops.Fault faults.OutOfMemory) result may acts clean ties some is =
      let it = (acts []).acted clean b ties some in
      subst (LeavesWhole new b all) (sym is) (no_book_ties new b it.0 it.1, refl, refl)
  stop_part b place (stops.Fault faults.Store) result may acts clean ties some is =
      let it = (acts (Err (BadField 0) ∷ [])).acted clean b ties some in
      subst (LeavesWhole new b all) (sym is) (
        (
          elim it.0 [
            | inl keeps ↦ inl keeps
            | inr last ↦ absurd (never_led b last.0 0 list (BadField 0) last.1)
          ],
          it.1,
        ),
        refl,
        refl,
      )
  stop_part b place (stops.Fault faults.Reopen) result may acts clean ties some is = absurd may
  stop_part b place (stops.Fault faults.Input) result may acts clean ties some is = absurd may
  stop_part b place (stops.Fault faults.Output) result may acts clean ties some is = absurd may

  left_part : (run : Result ℕ Halted) (lines : ℕ) (result : Result ImportReport ImportFault) → IfErr run (λ e. IsActStop e.stop) → ((rest : List Line) → ActsOnList old new bound (list ++ rest) run)
      → IsEndOf run lines result → IfHeld old new (λ b. LeavesWhole new b all result)
  left_part (Ok added) lines result may acts is = λ clean b ties some.
      let it = (acts (Err (BadField 0) ∷ [])).acted clean b ties some in
      absurd (never_led b it.0 0 list (BadField 0) it.1)
  left_part (Err e) lines result may acts is = λ clean b ties some. stop_part b e.place e.stop result may acts clean ties some is

  cause_part : (b : ActState) (run : Result ℕ Halted) (lines : ℕ) (result : Result ImportReport ImportFault) → IsEndOf run lines result → IsStoreFault result → HasListCause old new b (list ++ Err (BadField 0) ∷ []) run
      → StoreFailed old new ⊎ ((c : ActState) × ImportsAll all b c × UndidTables new c)
  cause_part b (Ok added) lines result is fails cause = absurd (subst IsStoreFault is fails)
  cause_part b (Err e) lines result is fails cause = elim (cause (stop_of_store e.place e.stop result is fails)) [
    | inl failed ↦ inl failed
    | inr undone ↦ absurd (never_led b undone.0 0 list (BadField 0) undone.1)
  ]

  runs_part : (run : Result ℕ Halted) (lines : ℕ) (result : Result ImportReport ImportFault) → WasClean old new → IfErr run (λ e. IsActStop e.stop) → ((b : ActState) → Ties old b → StoresNumbers old → StoresNumbers new)
      → ((rest : List Line) → ActsOnList old new bound (list ++ rest) run) → IsEndOf run lines result → RunsWhole old new all result
  runs_part run lines result clean may numbered acts is =
      let never = acts (Err (BadField 0) ∷ []) in
      record {
        clean = clean;
        cause = cause_of run lines result may is;
        left = left_part run lines result may acts is;
        commits = record {
          clean = never.commits.clean;
          shield = never.commits.shield;
          counts = never.commits.counts;
          limit = never.commits.limit;
          closes = never.commits.closes;
          crash = λ cl db leaves. elim (never.commits.crash cl db leaves) [
            | inl before ↦ inl before
            | inr leads ↦ inr (λ b ties some. let it = leads b ties some in absurd (never_led b it.0 0 list (BadField 0) it.1))
          ];
        };
        tells = record {
          numbered = λ cl b ties some numbers. numbered b ties numbers;
          cause = λ cl b ties some numbers fails. cause_part b run lines result is fails (never.cause cl b ties some numbers);
        };
      }

-- ---- the lines of a text
module _ {S T R : Type 0} {g : Ghosts S} (remaining : R → Option (List ℕ)) (old new : Keeper S T g) (all rows : List Fields) (was is : RowLines R) (bound : Bound) (run : Result ℕ Halted) (result : Result ImportReport ImportFault)
    (header : after_header all ≡ Some rows) (left : rows_left remaining was.rows ≡ Some rows) (none : was.given ≡ 0) (going : was.ended ≡ false)
    (clean : WasClean old new) (may : IfErr run (λ e. IsActStop e.stop)) (numbered : (b : ActState) → Ties old b → StoresNumbers old → StoresNumbers new) where
  runs_taken : (taken : List Line) (ended : Bool) (last : RowLines R) → GivesAll (GivesLine remaining) was taken last → Ends (GivesLine remaining) last ended is → ((list : List Line) → BeginsWith taken ended list → ActsOnList old new bound list run)
      → is.given ≡ length taken → IsEndOf run is.given result → RunsWhole old new all result
  runs_taken taken true last took ends acts count end =
      let it = acts taken refl in
      let one : was.given + 1 ≡ 1 = omega (arith, none) in
      let lines = subst (λ n. AreLines n rows taken) one (given_all remaining was last is rows taken left going (omega (arith, none)) took ends) in
      runs_whole old new all rows taken run result header lines clean may it.acted it.commits numbered it.cause (subst (λ n. IsEndOf run n result) count end)
  runs_taken taken false last took ends acts count end =
      let one : was.given + 1 ≡ 1 = omega (arith, none) in
      let begin = subst (λ n. BeginAs n rows taken) one (given_first remaining was last rows taken left took) in
      runs_part old new all rows taken header begin bound run is.given result clean may numbered (λ rest. acts (taken ++ rest) (rest, refl)) end

  pub runs_over : OverLines (GivesLine remaining) was is (λ list. ActsOnList old new bound list run) → IsEndOf run is.given result → RunsWhole old new all result
  runs_over over end = runs_taken over.taken over.ended over.last over.took over.ends over.holds (counted remaining was is _ none over).0 end

-- no more were new than were given, and none further on was halted at
pub few_given : {S T R : Type 0} {g : Ghosts S} (remaining : R → Option (List ℕ)) (old new : Keeper S T g) (was is : RowLines R) (bound : Bound) (run : Result ℕ Halted) → was.given ≡ 0
    → OverLines (GivesLine remaining) was is (λ list. ActsOnList old new bound list run) → IfOk run (λ added. added ≤ is.given) × IfErr run (λ e. e.place ≤ is.given) × (is.given ≤ 1_000_001)
few_given remaining old new was is bound run none over =
    let count = counted remaining was is _ none over in
    let it = over.holds over.taken (begins_all over.taken over.ended) in
    (subst (λ n. IfOk run (λ added. added ≤ n)) (sym count.0) it.few, subst (λ n. IfErr run (λ e. e.place ≤ n)) (sym count.0) it.within, count.1)

-- the header of a text
pub body_of : {R : Type 0} (remaining : R → Option (List ℕ)) (body : Option (List Fields)) (lines : RowLines R) → GivesBody remaining body (Some lines)
    → (rows : List Fields) × (body ≡ Some rows) × (rows_left remaining lines.rows ≡ Some rows) × (lines.given ≡ 0) × (lines.ended ≡ false)
body_of remaining None lines gives = absurd gives
body_of remaining (Some rows) lines gives = (rows, refl, gives.0, gives.1, gives.2)

pub no_body : {R : Type 0} (remaining : R → Option (List ℕ)) (body : Option (List Fields)) → GivesBody remaining body None → body ≡ None
no_body remaining None gives = refl
no_body remaining (Some rows) gives = absurd gives
