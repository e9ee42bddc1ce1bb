-- What a job makes of a book, by its name.
use Rattle.std.specs.Prelude.{◌≡◌, ⊤, ℕ, Bool, true, false, List, Option, Result}
use Rattle.ob_base.specs.declared.stop.Stop.{Stop}
use Rattle.ob_stream.specs.declared.watched.Watched.{Watched}
use Rattle.ob_store.specs.Keepers.{Ghosts}
use Rattle.ob_store.specs.declared.keeper.Keeper.{Keeper}
use Rattle.ob_cli.specs.declared.status.Unfinished.{Unfinished}
use Rattle.ob_jobs.specs.Books.{AuditsBook, ExportsFromBook, ImportsIntoBook, ImportsWholeIntoBook, MakesBook, MigratesBook, PrintsBook, PrintsIndices, ServesBook, WritesRowsOfBook}
use Rattle.ob_jobs.specs.declared.tasks.Task.{Task}
use Rattle.ob_jobs.specs.declared.tasks.Task.TheVariants as tasks

module _ {I O V : Type 0} where
  -- the job makes the book
  abbrev pub makes_book : Task I O V → Bool
  makes_book (tasks.Init first days zone) = true
  makes_book task = false

  -- the job may write into the book
  abbrev pub may_write : Task I O V → Bool
  may_write (tasks.Init first days zone) = true
  may_write (tasks.Import was) = true
  may_write (tasks.ImportWhole was) = true
  may_write tasks.Migrate = true
  may_write (tasks.Serve was) = true
  may_write task = false

module _ {S T I R O F V Q W : Type 0} {g : Ghosts S}
    (opens : I → Option R → I → Type 0) (remaining : R → Option (List ℕ))
    (makes : O → Option F → O → Type 0) (filled : F → Option (List ℕ))
    (takes : V → Result Q Stop → V → Type 0) (serves : V → Q → Keeper S T g → Result ⊤ Stop → Keeper S T g → V → Type 0)
    (contents : W → Option (List ℕ)) where
  -- the job that a task names was done on a book, or stopped, and so it ends; serving tells this writer nothing
  abbrev pub RunsTask : Task I O V → Keeper S T g → Keeper S T g → Watched W → Watched W → Result ⊤ Unfinished → Type 0
  RunsTask (tasks.Init first days zone) old new before after result =
      MakesBook contents old new first.now days zone.now before after result
  RunsTask (tasks.Import was) old new before after result =
      (is : I) × ImportsIntoBook opens remaining contents old new was is before after result
  RunsTask (tasks.ImportWhole was) old new before after result =
      (is : I) × ImportsWholeIntoBook opens remaining contents old new was is before after result
  RunsTask (tasks.Export was) old new before after result =
      (is : O) × ExportsFromBook makes filled contents old new was is before after result
  RunsTask (tasks.Interruptions was) old new before after result =
      (is : O) × WritesRowsOfBook makes filled contents old new was is before after result
  RunsTask tasks.Table old new before after result = PrintsBook contents old new before after result
  RunsTask (tasks.Indices by longest) old new before after result = PrintsIndices contents by longest old new before after result
  RunsTask tasks.Audit old new before after result = AuditsBook contents old new before after result
  RunsTask tasks.Migrate old new before after result = MigratesBook contents old new before after result
  RunsTask (tasks.Serve was) old new before after result =
      (is : V) × ServesBook takes serves old new was is result × (after ≡ before)
