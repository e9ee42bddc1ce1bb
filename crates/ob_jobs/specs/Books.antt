-- What each of the program's jobs does to the book in a store, and how it ends.
use Rattle.std.specs.Prelude.{◌≡◌, ⊤, ℕ, List, Option, Result}
use Rattle.ob_base.specs.declared.stop.Stop.{Stop}
use Rattle.ob_base.specs.declared.stop.Fault.TheVariants.{Input, Output}
use Rattle.ob_stream.specs.declared.watched.Watched.{Watched}
use Rattle.ob_store.specs.Keepers.{Ghosts, book_of}
use Rattle.ob_store.specs.declared.keeper.Keeper.{Keeper}
use Rattle.ob_import.specs.declared.report.ImportReport.{ImportReport}
use Rattle.ob_cli.specs.declared.status.Unfinished.{Unfinished}
use Rattle.ob_selections.specs.declared.selection.By.{By}
use Rattle.ob_jobs.specs.After.{TellsAfter}
use Rattle.ob_jobs.specs.Endings.{audit_end, import_end, job_end}
use Rattle.ob_jobs.specs.Importing.{TellsExport, TellsImport, TellsWhole}
use Rattle.ob_jobs.specs.Lines.{audit_line, created_line, migrate_line}
use Rattle.ob_jobs.specs.Loads.{AuditOf, LoadsThen, OpensThen, TakesThen}
use Rattle.ob_jobs.specs.Making.{MakingOf}
use Rattle.ob_jobs.specs.Migrations.{MigrationOf}
use Rattle.ob_jobs.specs.Rows.{TellsRows}
use Rattle.ob_jobs.specs.Tabling.{HasTable, indices_text, table_text}
use Rattle.ob_jobs.specs.Telling.{Tells}

-- the job was done or stopped so, and the run ends as this says of it
abbrev pub EndsAs : {X : Type 0} → (Result X Stop → Result ⊤ Unfinished) → (Result X Stop → Type 0) → Result ⊤ Unfinished → Type 0
EndsAs {X} end Works result = (done : Result X Stop) × (result ≡ end done) × Works done

module _ {S T : Type 0} {g : Ghosts S} where
  -- a book is made
  abbrev pub MakesBook : {W : Type 0} → (W → Option (List ℕ)) → Keeper S T g → Keeper S T g → List ℕ → ℕ → List ℕ
      → Watched W → Watched W → Result ⊤ Unfinished → Type 0
  MakesBook contents old new first days zone before after result =
      EndsAs job_end (Tells (MakingOf old new first days zone) (λ _. created_line) contents before after) result

  -- the tables are compared with the commands; no book is loaded
  abbrev pub AuditsBook : {W : Type 0} → (W → Option (List ℕ)) → Keeper S T g → Keeper S T g → Watched W → Watched W
      → Result ⊤ Unfinished → Type 0
  AuditsBook contents old new before after result =
      EndsAs audit_end (TellsAfter (AuditOf old new) audit_line contents before after) result

  -- the tables of version 1 are made those of version 2; no book is loaded
  abbrev pub MigratesBook : {W : Type 0} → (W → Option (List ℕ)) → Keeper S T g → Keeper S T g → Watched W → Watched W
      → Result ⊤ Unfinished → Type 0
  MigratesBook contents old new before after result =
      EndsAs job_end (Tells (MigrationOf old new) migrate_line contents before after) result

  -- the book is loaded, and its annual table is printed
  abbrev pub PrintsBook : {W : Type 0} → (W → Option (List ℕ)) → Keeper S T g → Keeper S T g → Watched W → Watched W
      → Result ⊤ Unfinished → Type 0
  PrintsBook contents old new before after result =
      EndsAs job_end (LoadsThen
      (λ mid done. (new ≡ mid) × Tells (HasTable (book_of mid)) (λ _. table_text (book_of mid)) contents before after done)
      (after ≡ before) old new) result

  -- the book is loaded, and its indices are printed
  abbrev pub PrintsIndices : {W : Type 0} → (W → Option (List ℕ)) → By → ℕ → Keeper S T g → Keeper S T g → Watched W → Watched W
      → Result ⊤ Unfinished → Type 0
  PrintsIndices contents by longest old new before after result =
      EndsAs job_end (LoadsThen
      (λ mid done. (new ≡ mid) × Tells (HasTable (book_of mid)) (λ _. indices_text by longest (book_of mid)) contents before after done)
      (after ≡ before) old new) result

  -- the book is loaded, then the input is opened, and then imported
  abbrev pub ImportsInput : {A R W : Type 0} → (A → Option R → A → Type 0) → (R → Option (List ℕ)) → (W → Option (List ℕ))
      → Keeper S T g → Keeper S T g → A → A → Watched W → Watched W → Result ImportReport Stop → Type 0
  ImportsInput {A} {R} opens remaining contents old new was is before after done =
      OpensThen opens Input
      (λ opened done. (left : Watched R) × TellsImport remaining contents old new opened left before after done)
      ((new ≡ old) × (after ≡ before)) was is done

  abbrev pub ImportsIntoBook : {A R W : Type 0} → (A → Option R → A → Type 0) → (R → Option (List ℕ)) → (W → Option (List ℕ))
      → Keeper S T g → Keeper S T g → A → A → Watched W → Watched W → Result ⊤ Unfinished → Type 0
  ImportsIntoBook opens remaining contents old new was is before after result =
      EndsAs import_end (LoadsThen (λ mid done. ImportsInput opens remaining contents mid new was is before after done)
      ((is ≡ was) × (after ≡ before)) old new) result

  -- the same of a whole import
  abbrev pub ImportsWholeInput : {A R W : Type 0} → (A → Option R → A → Type 0) → (R → Option (List ℕ)) → (W → Option (List ℕ))
      → Keeper S T g → Keeper S T g → A → A → Watched W → Watched W → Result ImportReport Stop → Type 0
  ImportsWholeInput {A} {R} opens remaining contents old new was is before after done =
      OpensThen opens Input
      (λ opened done. (left : Watched R) × TellsWhole remaining contents old new opened left before after done)
      ((new ≡ old) × (after ≡ before)) was is done

  abbrev pub ImportsWholeIntoBook : {A R W : Type 0} → (A → Option R → A → Type 0) → (R → Option (List ℕ)) → (W → Option (List ℕ))
      → Keeper S T g → Keeper S T g → A → A → Watched W → Watched W → Result ⊤ Unfinished → Type 0
  ImportsWholeIntoBook opens remaining contents old new was is before after result =
      EndsAs import_end (LoadsThen (λ mid done. ImportsWholeInput opens remaining contents mid new was is before after done)
      ((is ≡ was) × (after ≡ before)) old new) result

  -- the book is loaded, then the output is made anew, and what the commands moved is written into it
  abbrev pub ExportsOutput : {A F W : Type 0} → (A → Option F → A → Type 0) → (F → Option (List ℕ)) → (W → Option (List ℕ))
      → Keeper S T g → Keeper S T g → A → A → Watched W → Watched W → Result ℕ Stop → Type 0
  ExportsOutput {A} {F} opens filled contents old new was is before after done =
      OpensThen opens Output
      (λ opened done. (left : Watched F) × TellsExport filled contents old new opened left before after done)
      ((new ≡ old) × (after ≡ before)) was is done

  abbrev pub ExportsFromBook : {A F W : Type 0} → (A → Option F → A → Type 0) → (F → Option (List ℕ)) → (W → Option (List ℕ))
      → Keeper S T g → Keeper S T g → A → A → Watched W → Watched W → Result ⊤ Unfinished → Type 0
  ExportsFromBook opens filled contents old new was is before after result =
      EndsAs job_end (LoadsThen (λ mid done. ExportsOutput opens filled contents mid new was is before after done)
      ((is ≡ was) × (after ≡ before)) old new) result

  -- the book is loaded, then the output is made anew, and the book's interruption rows are written into it; the book stays as
  -- it was loaded
  abbrev pub WritesOutput : {A F W : Type 0} → (A → Option F → A → Type 0) → (F → Option (List ℕ)) → (W → Option (List ℕ))
      → Keeper S T g → A → A → Watched W → Watched W → Result ℕ Stop → Type 0
  WritesOutput {A} {F} opens filled contents mid was is before after done =
      OpensThen opens Output
      (λ opened done. (left : Watched F) × TellsRows filled contents (book_of mid) opened left before after done)
      (after ≡ before) was is done

  abbrev pub WritesRowsOfBook : {A F W : Type 0} → (A → Option F → A → Type 0) → (F → Option (List ℕ)) → (W → Option (List ℕ))
      → Keeper S T g → Keeper S T g → A → A → Watched W → Watched W → Result ⊤ Unfinished → Type 0
  WritesRowsOfBook opens filled contents old new was is before after result =
      EndsAs job_end (LoadsThen
      (λ mid done. (new ≡ mid) × WritesOutput opens filled contents mid was is before after done)
      ((is ≡ was) × (after ≡ before)) old new) result

  -- the book is loaded, then the port is taken, and then the book is served there
  abbrev pub ServesBook : {A I : Type 0} → (A → Result I Stop → A → Type 0)
      → (A → I → Keeper S T g → Result ⊤ Stop → Keeper S T g → A → Type 0)
      → Keeper S T g → Keeper S T g → A → A → Result ⊤ Unfinished → Type 0
  ServesBook takes serves old new was is result =
      EndsAs job_end (LoadsThen
      (λ mid done. TakesThen takes (λ port at done. serves at port mid done new is) (new ≡ mid) was is done)
      (is ≡ was) old new) result
