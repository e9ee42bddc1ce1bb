-- What an import and an export tell, and what they leave.
use Rattle.std.specs.Prelude.{◌≡◌, ◌↔◌, ℕ, List, ◌++◌, Option, None, Result, Ok, Err, IfErr, OnOk, codes}
use Rattle.std.specs.Fmt.{decimal}
use Rattle.ob_base.specs.declared.stop.Stop.{Stop}
use Rattle.ob_base.specs.declared.stop.Stop.TheVariants.{Refused, Fault}
use Rattle.ob_base.specs.declared.stop.Fault.{Fault as AFault}
use Rattle.ob_base.specs.declared.stop.Fault.TheVariants as faults
use Rattle.ob_stream.specs.Retrying.{TriesAnew}
use Rattle.ob_stream.specs.Watching.{HasJustFailed, watched_bytes}
use Rattle.ob_stream.specs.declared.watched.Watched.{Watched}
use Rattle.ob_store.specs.Calls.{CommitsNothing, IfHeld, WasClean}
use Rattle.ob_store.specs.Keepers.{Ghosts, book_of}
use Rattle.ob_store.specs.Keeping.{IsBookAfter}
use Rattle.ob_store.specs.declared.keeper.Keeper.{Keeper}
use Rattle.ob_import.specs.Reports.{ImportOf}
use Rattle.ob_import.specs.Whole.{WholeOf}
use Rattle.ob_import.specs.declared.report.ImportReport.{ImportReport}
use Rattle.ob_import.specs.declared.report.ImportFault.{ImportFault}
use Rattle.ob_jobs.specs.Exporting.{Exports}
use Rattle.ob_jobs.specs.Text.{moves_text}
use Rattle.ob_jobs.specs.After.{TellsAfter}

-- how many rows added a command, and how many named one that the book had
abbrev pub import_line : ImportReport → List ℕ
import_line report = codes "added " ++ (decimal report.added ++ (codes " again " ++ (decimal report.again ++ codes "\n")))

-- how many amounts were written
abbrev pub export_line : ℕ → List ℕ
export_line rows = codes "rows " ++ (decimal rows ++ codes "\n")

-- what an import says of a fault, whatever the counts up to it
abbrev pub IsBroken : (Result ImportReport ImportFault → Type 0) → AFault → Type 0
IsBroken Says fault = (added : ℕ) × (again : ℕ) × Says (Err (record { fault = fault; added = added; again = again }))

-- what an import says, of its answer less the counts up to a fault
abbrev pub ImportsAs : (Result ImportReport ImportFault → Type 0) → Result ImportReport Stop → Type 0
ImportsAs Says (Ok report) = Says (Ok report)
ImportsAs Says (Err (Refused refusal)) = ⊥
ImportsAs Says (Err (Fault fault)) = IsBroken Says fault

module _ {S T : Type 0} {g : Ghosts S} where
  -- the import of a job, and what is told of it
  abbrev pub TellsImport : {R W : Type 0} → (R → Option (List ℕ)) → (W → Option (List ℕ)) → Keeper S T g → Keeper S T g
      → Watched R → Watched R → Watched W → Watched W → Result ImportReport Stop → Type 0
  TellsImport remaining contents old new was is before after done =
      TellsAfter (ImportsAs (ImportOf remaining old new was is)) import_line contents before after done

  -- the same of a whole import
  abbrev pub TellsWhole : {R W : Type 0} → (R → Option (List ℕ)) → (W → Option (List ℕ)) → Keeper S T g → Keeper S T g
      → Watched R → Watched R → Watched W → Watched W → Result ImportReport Stop → Type 0
  TellsWhole remaining contents old new was is before after done =
      TellsAfter (ImportsAs (WholeOf remaining old new was is)) import_line contents before after done

  -- an export to a writer: there is a book or it is answered that there is none; what is written, and what then stands
  pub record ExportOf {F : Type 0} (contents : F → Option (List ℕ)) (old new : Keeper S T g) (was is : Watched F)
      (done : Result ℕ Stop) : Type 0 where
    pub reopen : (book_of old ≡ None) ↔ (done ≡ Err (Fault faults.Reopen))
    pub unopened : book_of old ≡ None → (new ≡ old) × (is ≡ was)
    pub output : done ≡ Err (Fault faults.Output) → HasJustFailed is
    pub kept : OnOk done (book_of new ≡ book_of old)
    pub dropped : IfErr done (IsBookAfter (book_of old) (book_of new))
    pub clean : WasClean old new
    pub survives : CommitsNothing old new
    pub exports : IfHeld old new (λ b. Exports contents old new (watched_bytes contents was) is b (moves_text b) done)
    -- interrupted writes were tried again, with 65,536 retries in all
    pub tries : TriesAnew was is done

  -- the export of a job, and what is told of it
  abbrev pub TellsExport : {F W : Type 0} → (F → Option (List ℕ)) → (W → Option (List ℕ)) → Keeper S T g → Keeper S T g
      → Watched F → Watched F → Watched W → Watched W → Result ℕ Stop → Type 0
  TellsExport filled contents old new was is before after done =
      TellsAfter (ExportOf filled old new was is) export_line contents before after done
