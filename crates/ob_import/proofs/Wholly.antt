-- What a whole import leaves of a keeper, where its list of lines was applied, and where it was not.
use Rattle.std.proofs.Common.{◌≡◌, ◌≢◌, ◌∙◌, sym, ap, subst, refl, ℕ, ◌+◌, ◌-◌, Bool, true, false, List, [], ◌∷◌, ◌++◌, ◌≤◌, ◌⊎◌, length, Option, Some, None, Result, Ok, Err, inl, inr, arith, append-nil, true≢false}
use Rattle.std.specs.Prelude.{IfErr, IfOk, IsSome, option_map, unwrap_or}
use Rattle.std.specs.Io.KnownBytes.{Consumes}
use Rattle.sqlite.specs.Held.{state}
use Rattle.ob_base.specs.declared.stop.Fault.{Fault}
use Rattle.ob_base.specs.declared.stop.Fault.TheVariants as faults
use Rattle.ob_base.specs.declared.stop.Refusal.{Refusal}
use Rattle.ob_base.specs.declared.stop.Refusal.TheVariants.{BadField}
use Rattle.ob_base.specs.declared.stop.Stop.{Stop}
use Rattle.ob_base.specs.declared.stop.Stop.TheVariants as stops
use Rattle.ob_csv.specs.Rows.{Fields, rows_of}
use Rattle.ob_stream.specs.Retrying.{TriesAll, TriesAnew, TriesOrGivesUp}
use Rattle.ob_stream.specs.Streams.{Passes}
use Rattle.ob_stream.specs.Watching.{HasJustFailed, watched_bytes}
use Rattle.ob_stream.specs.declared.watched.Watched.{Watched}
use Rattle.ob_stream.proofs.Trying.{none_tried, tried_all}
use Rattle.ob_book.specs.Acts.{ActState}
use Rattle.ob_store.specs.Acting.{IsActStop}
use Rattle.ob_store.specs.Calls.{ActedAll, CommitsOf, HasListCause, IfHeld, StoreFailed, UndidTables, WasClean}
use Rattle.ob_store.specs.Keepers.{Ghosts, Stores, StoresNumbers, Ties, book_of}
use Rattle.ob_store.specs.Whole.{EndsAt, LeadTo, Line, after_lines}
use Rattle.ob_store.specs.declared.whole.Halted.{Halted}
use Rattle.ob_store.specs.declared.keeper.Keeper.{Keeper}
use Rattle.ob_import.specs.Imports.{Import, ImportsBody, Taken, after_header, headless}
use Rattle.ob_import.specs.Gathering.{IsWithin, is_over}
use Rattle.ob_import.specs.Reports.{AreRows, HasCause, IsStoreFault, no_book}
use Rattle.ob_import.specs.Whole.{AreLines, BreaksWhole, ImportStops, ImportsAll, IsEndOf, IsStopOf, LeavesWhole, RunsWhole, TellsWholeFaults, WholeOf}
use Rattle.ob_import.specs.declared.report.ImportReport.{ImportReport}
use Rattle.ob_import.specs.declared.report.ImportFault.{ImportFault}
use Rattle.ob_import.proofs.Importing.{cause_by, not_bookless, not_none, taken_none, within_gathered}
use Rattle.ob_import.proofs.Lines.{TakesAll, TakesSome, takes_all, takes_some}

-- ---- the list of the rows after a header
module _ (b : ActState) (all rows : List Fields) (list : List Line) (header : after_header all ≡ Some rows) (lines : AreLines 1 rows list) where
  all_taken : (c : ActState) → LeadTo list b c → TakesAll b c rows × (length list ≡ length rows)
  all_taken c lead = takes_all b b c [] rows 0 0 1 0 list (taken_none b) refl lines lead

  pub imports_all : (c : ActState) (added : ℕ) → LeadTo list b c → length b.accepted + added ≡ length c.accepted
      → ImportsBody b (after_header all) (record { state = c; added = added; again = length list - added; stopped = None })
  imports_all c added lead count =
      let it = all_taken c lead in
      let t = it.0.taken in
      let first : it.0.added ≡ added = omega (arith, t.grown, count) in
      let rest : it.0.again ≡ length list - added = omega (arith, t.all, it.1, first) in
      subst (λ body. ImportsBody b body (record { state = c; added = added; again = length list - added; stopped = None })) (sym header)
      ([], (rows, sym (append-nil rows), subst (λ n. Taken b c rows n (length list - added)) first (subst (λ n. Taken b c rows it.0.added n) rest t)), refl)

  pub leads_all : (c : ActState) → LeadTo list b c → ImportsAll all b c
  leads_all c lead =
      let it = all_taken c lead in
      let t = it.0.taken in (
        it.0.added,
        it.0.again,
        subst (λ body. ImportsBody b body (record { state = c; added = it.0.added; again = it.0.again; stopped = None })) (sym header) ([], (rows, sym (append-nil rows), t), refl),
      )

  pub imports_stop : (place : ℕ) (refusal : Refusal) → after_lines b 0 list ≡ Err (place, refusal) → ImportStops b all (place + 1, refusal)
  imports_stop place refusal stops =
      let it = takes_some b b [] rows 0 0 1 0 list place refusal (taken_none b) refl refl lines stops in
      let i : Import = record { state = it.state; added = it.added; again = it.again; stopped = Some (place + 1, refusal) } in
      let number : place + 1 ≡ it.added + it.again + 1 = omega (arith, it.at) in (
        i,
        subst (λ body. ImportsBody b body i) (sym header)
            (it.row ∷ it.later, (it.done, it.parts, it.taken), (refusal, ap (λ n. Some (n, refusal)) number, it.why)),
        refl,
      )

pub no_book_ties : {S T : Type 0} {g : Ghosts S} (k : Keeper S T g) (b : ActState) → Stores k b → book_of k ≡ None → Ties k b
no_book_ties k b keeps none = record { kept = keeps; book = rw none tt }

module _ {S T : Type 0} {g : Ghosts S} (new : Keeper S T g) (b : ActState) (all rows : List Fields) (list : List Line) (header : after_header all ≡ Some rows) (lines : AreLines 1 rows list) where
  stop_left : (place : ℕ) (stop : Stop) (result : Result ImportReport ImportFault) → EndsAt (state g new.parts.conn) b list place stop → book_of new ≡ None → IsStopOf place stop result → LeavesWhole new b all result
  stop_left place (stops.Refused refusal) result ends none is =
      subst (LeavesWhole new b all) (sym is) (imports_stop b all rows list header lines place refusal ends.0, refl, refl, no_book_ties new b ends.1 none)
  stop_left place (stops.Fault faults.OutOfMemory) result ends none is = subst (LeavesWhole new b all) (sym is) (no_book_ties new b ends none, refl, refl)
  stop_left place (stops.Fault faults.Store) result ends none is =
      subst (LeavesWhole new b all) (sym is) (
        (
          elim ends [
            | inl keeps ↦ inl keeps
            | inr last ↦ inr (last.0, leads_all b all rows list header lines last.0 last.1, last.2)
          ],
          none,
        ),
        refl,
        refl,
      )
  stop_left place (stops.Fault faults.Reopen) result ends none is = absurd ends
  stop_left place (stops.Fault faults.Input) result ends none is = absurd ends
  stop_left place (stops.Fault faults.Output) result ends none is = absurd ends

  pub left_by : (run : Result ℕ Halted) (result : Result ImportReport ImportFault) → ActedAll new b list run → IsEndOf run (length list) result → LeavesWhole new b all result
  left_by (Ok added) result acted is =
      subst (LeavesWhole new b all) (sym is) (acted.0, imports_all b all rows list header lines acted.0 added acted.1 acted.2, (acted.3, acted.4))
  left_by (Err e) result acted is = stop_left e.place e.stop result acted.0 acted.1 is

stop_cause : (place : ℕ) (stop : Stop) (result : Result ImportReport ImportFault) → IsActStop stop → IsStopOf place stop result → IfErr result (λ e. HasCause e.fault ⊥)
stop_cause place (stops.Refused refusal) result may is = rw is tt
stop_cause place (stops.Fault faults.OutOfMemory) result may is = rw is tt
stop_cause place (stops.Fault faults.Store) result may is = rw is tt
stop_cause place (stops.Fault faults.Reopen) result may is = absurd may
stop_cause place (stops.Fault faults.Input) result may is = absurd may
stop_cause place (stops.Fault faults.Output) result may is = absurd may

pub cause_of : (run : Result ℕ Halted) (lines : ℕ) (result : Result ImportReport ImportFault) → IfErr run (λ e. IsActStop e.stop) → IsEndOf run lines result → IfErr result (λ e. HasCause e.fault ⊥)
cause_of (Ok added) lines result may is = rw is tt
cause_of (Err e) lines result may is = stop_cause e.place e.stop result may is

-- ---- the faults of the store
pub memory_no_store : ◌≡◌ {A = Fault} faults.OutOfMemory faults.Store → ⊥
memory_no_store e = cc

reopen_no_store : ◌≡◌ {A = Fault} faults.Reopen faults.Store → ⊥
reopen_no_store e = cc

pub stop_of_store : (place : ℕ) (stop : Stop) (result : Result ImportReport ImportFault) → IsStopOf place stop result → IsStoreFault result
    → stop ≡ stops.Fault faults.Store
stop_of_store place (stops.Refused refusal) result is fails = absurd (subst IsStoreFault is fails)
stop_of_store place (stops.Fault fault) result is fails = ap (λ f. stops.Fault f) (subst IsStoreFault is fails)

-- nothing was done, and no fault of the store is told
tells_none : {S T : Type 0} {g : Ghosts S} (k : Keeper S T g) (rows : List Fields) (result : Result ImportReport ImportFault) → (IsStoreFault result → ⊥)
    → TellsWholeFaults k k rows result
tells_none k rows result never = record {
  numbered = λ clean b ties some numbers. numbers;
  cause = λ clean b ties some numbers fails. absurd (never fails);
}

module _ {S T : Type 0} {g : Ghosts S} where
  list_failed : (old new : Keeper S T g) (b : ActState) (list : List Line) (lines : ℕ) (run : Result ℕ Halted) (result : Result ImportReport ImportFault)
      → IsEndOf run lines result → IsStoreFault result → HasListCause old new b list run
      → StoreFailed old new ⊎ ((c : ActState) × LeadTo list b c × UndidTables new c)
  list_failed old new b list lines (Ok added) result is fails cause = absurd (subst IsStoreFault is fails)
  list_failed old new b list lines (Err e) result is fails cause = cause (stop_of_store e.place e.stop result is fails)

  tells_whole : (old new : Keeper S T g) (all rows : List Fields) (list : List Line) (run : Result ℕ Halted) (result : Result ImportReport ImportFault)
      → after_header all ≡ Some rows → AreLines 1 rows list → ((b : ActState) → Ties old b → StoresNumbers old → StoresNumbers new)
      → IfHeld old new (λ b. StoresNumbers old → HasListCause old new b list run)
      → IsEndOf run (length list) result → TellsWholeFaults old new all result
  tells_whole old new all rows list run result header lines numbered cause is = record {
    numbered = λ clean b ties some numbers. numbered b ties numbers;
    cause = λ clean b ties some numbers fails.
        elim (list_failed old new b list (length list) run result is fails (cause clean b ties some numbers)) [
          | inl failed ↦ inl failed
          | inr undone ↦ inr (undone.0, leads_all b all rows list header lines undone.0 undone.1, undone.2)
        ];
  }

pub runs_whole : {S T : Type 0} {g : Ghosts S} (old new : Keeper S T g) (all rows : List Fields) (list : List Line) (run : Result ℕ Halted) (result : Result ImportReport ImportFault) → after_header all ≡ Some rows → AreLines 1 rows list
    → WasClean old new → IfErr run (λ e. IsActStop e.stop) → IfHeld old new (λ b. ActedAll new b list run) → CommitsOf (LeadTo list) old new
    → ((b : ActState) → Ties old b → StoresNumbers old → StoresNumbers new)
    → IfHeld old new (λ b. StoresNumbers old → HasListCause old new b list run)
    → IsEndOf run (length list) result → RunsWhole old new all result
runs_whole old new all rows list run result header lines clean may acted commits numbered cause is = record {
  clean = clean;
  cause = cause_of run (length list) result may is;
  left = λ cl b ties some. left_by new b all rows list header lines run result (acted cl b ties some) is;
  commits = record {
    clean = commits.clean;
    shield = commits.shield;
    counts = commits.counts;
    limit = commits.limit;
    closes = commits.closes;
    crash = λ cl db may. elim (commits.crash cl db may) [
      | inl before ↦ inl before
      | inr leads ↦ inr (λ b ties some. let it = leads b ties some in (it.0, leads_all b all rows list header lines it.0 it.1, it.2))
    ];
  };
  tells = tells_whole old new all rows list run result header lines numbered cause is;
}

-- ---- nothing was applied
pub commits_none : {S T : Type 0} {g : Ghosts S} (k : Keeper S T g) (Leads : ActState → ActState → Type 0) → CommitsOf Leads k k
commits_none k Leads = record { clean = omega arith; shield = λ x. x; counts = omega arith; limit = refl; closes = λ clean live. inl live; crash = λ clean db may. inl may }

pub runs_headless : {S T : Type 0} {g : Ghosts S} (k : Keeper S T g) (all : List Fields) (result : Result ImportReport ImportFault) → after_header all ≡ None → result ≡ Ok (record { added = 0; again = 0; stopped = Some (0, BadField 0) })
    → RunsWhole k k all result
runs_headless k all result none is = record {
  clean = λ clean. clean;
  cause = rw is tt;
  left = λ cl b ties some. subst (LeavesWhole k b all) (sym is)
      ((headless b, subst (λ body. ImportsBody b body (headless b)) (sym none) refl, refl), refl, refl, ties);
  commits = commits_none k (ImportsAll all);
  tells = tells_none k all result (λ fails. subst IsStoreFault is fails);
}

pub runs_starved : {S T : Type 0} {g : Ghosts S} (k : Keeper S T g) (all : List Fields) (fault : Fault) (result : Result ImportReport ImportFault) → fault ≡ faults.OutOfMemory
    → result ≡ Err (record { fault = fault; added = 0; again = 0 }) → RunsWhole k k all result
runs_starved k all fault result memory is =
    let told : result ≡ Err (record { fault = faults.OutOfMemory; added = 0; again = 0 }) = is ∙ ap (λ f. Err (record { fault = f; added = 0; again = 0 })) memory in
    record {
      clean = λ clean. clean;
      cause = rw told tt;
      left = λ cl b ties some. subst (LeavesWhole k b all) (sym told) (ties, refl, refl);
      commits = commits_none k (ImportsAll all);
      tells = tells_none k all result (λ fails. memory_no_store (subst IsStoreFault told fails));
    }

-- ---- a text from a reader
-- the rows of what was gathered are those of the text
rows_known : (old new : Option (List ℕ)) (bytes : List ℕ) → Consumes old new bytes → is_over new ≡ true → AreRows (option_map rows_of old) (rows_of bytes)
rows_known None new bytes c over = tt
rows_known (Some xs) None bytes c over = absurd c
rows_known (Some xs) (Some []) bytes c over = rw (c, append-nil bytes) refl
rows_known (Some xs) (Some (y ∷ ys)) bytes c over = absurd (true≢false (sym over))

are_any : (known : Option (List Fields)) → AreRows known (unwrap_or known [])
are_any None = tt
are_any (Some rows) = refl

bound_any : (done : Result ImportReport ImportFault) (P : Type 0) → P → IfOk done (λ r. r.stopped ≡ None → P)
bound_any (Ok r) P p = λ none. p
bound_any (Err e) P p = tt

module _ {S T R : Type 0} {g : Ghosts S} (remaining : R → Option (List ℕ)) where
  pub whole_of : (old new : Keeper S T g) (was is : Watched R) (bytes : List ℕ) (done : Result ImportReport ImportFault) → IsSome (book_of old) → Consumes (watched_bytes remaining was) (watched_bytes remaining is) bytes
      → is_over (watched_bytes remaining is) ≡ true → length bytes ≤ 268435456 → (left : ℕ) → TriesAll 65536 left was is
      → RunsWhole old new (rows_of bytes) done → WholeOf remaining old new was is done
  whole_of old new was is bytes done some consumed over few left tries runs =
      let known = rows_known (watched_bytes remaining was) (watched_bytes remaining is) bytes consumed over in
      record {
        reopen = not_bookless (book_of old) done ⊥ some runs.cause;
        unopened = λ none. absurd (not_none (book_of old) some none);
        imported = λ clean b ties there. (rows_of bytes, known, runs.left clean b ties there);
        clean = runs.clean;
        cause = λ there. cause_by done ⊥ (HasJustFailed is ⊎ Passes (watched_bytes remaining was) 268435456) (λ never. absurd never) runs.cause;
        bound = bound_any done (IsWithin (watched_bytes remaining was) 268435456)
            (within_gathered (watched_bytes remaining was) (watched_bytes remaining is) bytes 268435456 consumed over few);
        tries = (left, tried_all done tries);
        commits = (rows_of bytes, known, runs.commits);
        tells = (rows_of bytes, known, runs.tells);
      }

  breaks_so : (k : Keeper S T g) (b : ActState) (rows : List Fields) (fault : Fault) (X : Type 0) → HasCause fault X → fault ≢ faults.Store → Ties k b → BreaksWhole k b rows fault
  breaks_so k b rows faults.OutOfMemory X cause other ties = ties
  breaks_so k b rows faults.Input X cause other ties = ties
  breaks_so k b rows faults.Store X cause other ties = absurd (other refl)
  breaks_so k b rows faults.Reopen X cause other ties = absurd cause
  breaks_so k b rows faults.Output X cause other ties = absurd cause

  -- the text was not read whole
  pub nothing_of : (k : Keeper S T g) (was is : Watched R) (fault : Fault) (done : Result ImportReport ImportFault) → IsSome (book_of k) → HasCause fault (HasJustFailed is ⊎ Passes (watched_bytes remaining was) 268435456)
      → fault ≢ faults.Store → done ≡ Err (record { fault = fault; added = 0; again = 0 }) → (left : ℕ) → TriesOrGivesUp 65536 left was is
      → WholeOf remaining k k was is done
  nothing_of k was is fault done some cause other told left tries =
      let X = HasJustFailed is ⊎ Passes (watched_bytes remaining was) 268435456 in
      let known = option_map rows_of (watched_bytes remaining was) in
      let rows : List Fields = unwrap_or known [] in
      let why : IfErr done (λ e. HasCause e.fault X) = rw told cause in
      record {
        reopen = not_bookless (book_of k) done X some why;
        unopened = λ none. absurd (not_none (book_of k) some none);
        imported = λ clean b ties there. (rows, are_any known, subst (LeavesWhole k b rows) (sym told) (breaks_so k b rows fault X cause other ties, refl, refl));
        clean = λ clean. clean;
        cause = λ there. why;
        bound = rw told tt;
        tries = subst (λ (r : Result ImportReport ImportFault). TriesAnew was is r) (sym told) (left, tries);
        commits = (rows, are_any known, commits_none k (ImportsAll rows));
        tells = (rows, are_any known, tells_none k rows done (λ fails. other (subst IsStoreFault told fails)));
      }

  -- there is no book
  pub bookless_of : (k : Keeper S T g) (was : Watched R) (done : Result ImportReport ImportFault) → book_of k ≡ None → done ≡ no_book → WholeOf remaining k k was was done
  bookless_of k was done none told =
      let known = option_map rows_of (watched_bytes remaining was) in
      let rows : List Fields = unwrap_or known [] in
      record {
        reopen = ((λ _. told), λ _. none);
        unopened = λ _. refl;
        imported = λ clean b ties there. absurd (not_none (book_of k) there none);
        clean = λ clean. clean;
        cause = λ there. absurd (not_none (book_of k) there none);
        bound = rw told tt;
        tries = (65536, tried_all done (none_tried 65536 was));
        commits = (rows, are_any known, commits_none k (ImportsAll rows));
        tells = (rows, are_any known, tells_none k rows done (λ fails. reopen_no_store (subst IsStoreFault told fails)));
      }

pub input_no_store : ◌≡◌ {A = Fault} faults.Input faults.Store → ⊥
input_no_store e = cc
