-- What the writing of a book's interruption rows leaves behind.
use Rattle.std.specs.Prelude.{◌≡◌, ℕ, List, length, Option, Some, None, Result, Ok, Err}
use Rattle.std.specs.Io.KnownBytes.{Appends}
use Rattle.ob_base.specs.declared.stop.Fault.{Fault as AFault}
use Rattle.ob_base.specs.declared.stop.Fault.TheVariants.{OutOfMemory, Output, Reopen}
use Rattle.ob_base.specs.declared.stop.Stop.{Stop}
use Rattle.ob_base.specs.declared.stop.Stop.TheVariants.{Fault}
use Rattle.ob_stream.specs.Retrying.{TriesAnew}
use Rattle.ob_stream.specs.Watching.{HasJustFailed, watched_bytes}
use Rattle.ob_stream.specs.declared.watched.Watched.{Watched}
use Rattle.ob_state.specs.State.{BookState}
use Rattle.ob_rows.specs.Rows.{interruption_rows}
use Rattle.ob_rows.specs.RowText.{interruptions_text}
use Rattle.ob_jobs.specs.After.{TellsAfter}
use Rattle.ob_jobs.specs.Exporting.{AppendsPart}
use Rattle.ob_jobs.specs.Importing.{export_line}

module _ {F : Type 0} (contents : F → Option (List ℕ)) where
  -- behind these bytes the text was written whole, which has so many rows; or a first part of it, and then memory was refused or
  -- the writer's last call failed
  abbrev pub WritesRows : Option (List ℕ) → Watched F → List ℕ → ℕ → Result ℕ AFault → Type 0
  WritesRows was is text rows (Ok count) = Appends was (watched_bytes contents is) text × (count ≡ rows)
  WritesRows was is text rows (Err OutOfMemory) = AppendsPart was (watched_bytes contents is) text
  WritesRows was is text rows (Err Output) = AppendsPart was (watched_bytes contents is) text × HasJustFailed is
  WritesRows was is text rows (Err fault) = ⊥

  -- the interruption rows of a state were written to a writer
  abbrev pub WritesRowsOf : BookState → Watched F → Watched F → Result ℕ AFault → Type 0
  WritesRowsOf b was is result =
      WritesRows (watched_bytes contents was) is (interruptions_text b) (length (interruption_rows b)) result

  -- the same of a job, which stops at a fault and at nothing else
  abbrev pub RowsAs : BookState → Watched F → Watched F → Result ℕ Stop → Type 0
  RowsAs b was is (Ok count) = WritesRowsOf b was is (Ok count)
  RowsAs b was is (Err (Fault fault)) = WritesRowsOf b was is (Err fault)
  RowsAs b was is (Err stop) = ⊥

  -- the same of a book that there may be, with 65,536 retries of interrupted writes in all; where there is none this is answered,
  -- and nothing is written
  abbrev pub RowsOfBook : Option BookState → Watched F → Watched F → Result ℕ Stop → Type 0
  RowsOfBook None was is done = (done ≡ Err (Fault Reopen)) × (is ≡ was)
  RowsOfBook (Some b) was is done = RowsAs b was is done × TriesAnew was is done

-- the rows of a job, and what is told of them
abbrev pub TellsRows : {F W : Type 0} → (F → Option (List ℕ)) → (W → Option (List ℕ)) → Option BookState
    → Watched F → Watched F → Watched W → Watched W → Result ℕ Stop → Type 0
TellsRows filled contents book was is before after done =
    TellsAfter (RowsOfBook filled book was is) export_line contents before after done
