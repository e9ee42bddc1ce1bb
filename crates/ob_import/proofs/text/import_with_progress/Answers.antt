use Rattle.std.proofs.Common.{◌≢◌, ◌∙◌, [], None, Some, ap, inl, refl, rules, subst}
use Rattle.std.specs.Prelude.{◌≡◌, ◌⊎◌, false, true, option_map, IfOk, IsSome}
use Rattle.ob_stream.proofs.Trying.{none_tried}
use Rattle.ob_stream.specs.Retrying.{TriesAll}
use Rattle.ob_stream.specs.Streams.{Passes, retries_left}
use Rattle.ob_stream.specs.Watching.{HasJustFailed, watched_bytes}
use Rattle.ob_csv.specs.Rows.{rows_of}
use Rattle.ob_import.specs.Imports.{after_header}
use Rattle.ob_import.specs.Reports.{Runs}
use Rattle.ob_store.proofs.Faults.{tells_nothing}
use Rattle.ob_store.specs.Keepers.{book_of}
use Rattle.ob_import.proofs.Importing.{bound_by, broken_gathered, cause_by, ended_so, imported_gathered, leaves_nothing, memory_not_store, no_book_fault, not_bookless, not_lost, not_none}
use Rattle.ob_import.proofs.text.import_with_progress.Goals as goal

pub returns : goal.returns
returns g c =
    let bytes = watched_bytes g.R.Read.remaining in
    let it = c.in-Ok.gathered in
    let k = c.args.keeper.now in
    let new = c.import_rows-run.new.keeper in
    let done = c.import_rows-run.result in
    let known = c.new-rows.ensures.rows ∙ ap (λ l. Some l) c.whole_part-part.ensures in
    let runs = subst (λ l. Runs after_header k new l it.whole done) known c.import_rows-run.ensures.runs in
    let some_rows = subst (λ l. it.whole ≡ false → IfOk done (λ _. l ≢ Some [])) known c.import_rows-run.ensures.some in
    let some : IsSome (book_of k) = search rules in
    record {
      reopen = not_bookless (book_of k) done (it.whole ≡ false) some runs.cause;
      unopened = λ none. absurd (not_none (book_of k) some none);
      imported = λ clean b ties is.
          imported_gathered new b (bytes c.args.reader.now) (bytes c.gather.new.reader) it.bytes.items it.whole done
          c.whole_rows_law.ensures c.in-Ok.ensures.consumed (λ whole. (c.in-Ok.ensures.whole whole).0) runs.ended some_rows (runs.left clean b ties);
      clean = runs.clean;
      dropped = λ is. runs.dropped;
      cause = λ is.
          cause_by done (it.whole ≡ false) (HasJustFailed c.gather.new.reader ⊎ Passes (bytes c.args.reader.now) 268435456) c.in-Ok.ensures.cut runs.cause;
      broken = λ clean b ties is.
          broken_gathered new b (bytes c.args.reader.now) (bytes c.gather.new.reader) it.bytes.items it.whole done
          c.in-Ok.ensures.consumed runs.cause (runs.all clean b ties);
      bound = bound_by done (bytes c.args.reader.now) (bytes c.gather.new.reader) it.bytes.items it.whole 268435456 c.in-Ok.ensures.consumed c.in-Ok.ensures.whole runs.ended;
      tries = (
        retries_left c.gather.new.retries,
        rw c.new-retries.ensures at c.in-Ok.ensures.tries,
        ended_so done (it.whole ≡ true) (TriesAll 65536 (retries_left c.gather.new.retries) c.args.reader.now c.gather.new.reader) runs.ended
            (rw c.new-retries.ensures at c.in-Ok.ensures.ends),
      );
      tells = c.import_rows-run.ensures.tells;
    }

pub returns-in_default : goal.returns-in_default
returns-in_default g c =
    let k = c.args.keeper.now in
    let some : IsSome (book_of k) = search rules in
    record {
      reopen = not_bookless (book_of k) _ (Unit {0}) some tt;
      unopened = λ none. absurd (not_none (book_of k) some none);
      imported = λ clean b ties is. leaves_nothing k (option_map rows_of (watched_bytes g.R.Read.remaining c.args.reader.now)) b is ties;
      clean = λ clean. clean;
      dropped = λ is. not_lost (book_of k) some;
      cause = λ is. tt;
      broken = λ clean b ties is e. cc;
      bound = tt;
      tries = (retries_left c.gather.new.retries, rw c.new-retries.ensures at c.gather.ensures.tries, tt);
      tells = tells_nothing k k _ refl memory_not_store;
    }

pub returns-then-is_none : goal.returns-then-is_none
returns-then-is_none g c =
    let k = c.args.keeper.now in
    let none : book_of k ≡ None = search rules in
    record {
      reopen = ((λ _. c.fault_without_book.ensures), λ _. none);
      unopened = λ _. refl;
      imported = λ clean b ties is. absurd (not_none (book_of k) is none);
      clean = λ clean. clean;
      dropped = λ is. absurd (not_none (book_of k) is none);
      cause = λ is. absurd (not_none (book_of k) is none);
      broken = λ clean b ties is. absurd (not_none (book_of k) is none);
      bound = tt;
      tries = (65536, inl (none_tried 65536 c.args.reader.now), tt);
      tells = tells_nothing k k _ refl (no_book_fault c.fault_without_book.result c.fault_without_book.ensures);
    }
