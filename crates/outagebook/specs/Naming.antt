-- The task that a job names.
use Rattle.std.specs.Prelude.{◌≡◌, ⊤, ℕ, true, false, List, Option, Some, None}
use Rattle.ob_cli.specs.declared.job.By as words
use Rattle.ob_cli.specs.declared.job.By.TheVariants as named
use Rattle.ob_selections.specs.declared.selection.By.{By}
use Rattle.ob_selections.specs.declared.selection.By.TheVariants as listing
use Rattle.ob_cli.specs.declared.job.Job.{Job}
use Rattle.ob_cli.specs.declared.job.Job.TheVariants as jobs
use Rattle.ob_jobs.specs.declared.tasks.Task.{Task}
use Rattle.ob_jobs.specs.declared.tasks.Task.TheVariants as tasks
use Rattle.outagebook.specs.declared.books.InputFile.{InputFile}
use Rattle.outagebook.specs.declared.books.OutputFile.{OutputFile}
use Rattle.outagebook.specs.declared.desk.Server.{Server}
use Rattle.outagebook.specs.declared.task.BookTask.{BookTask}

-- what indices are listed by, as the task has it
abbrev pub listed_by : words.By → By
listed_by named.Whole = listing.Whole
listed_by named.Feeder = listing.Feeder
listed_by named.Month = listing.Month
listed_by named.Day = listing.Day
listed_by named.Cause = listing.Cause
listed_by named.Section = listing.Section

module _ {B O E : Type 0} where
  -- the task of a job's name is done on the book that the job names, with the values of its options, and no other
  abbrev pub DoesJob : Job → List ℕ → Task InputFile OutputFile (Server B O E) → Type 0
  DoesJob (jobs.Init book first days zone) on (tasks.Init start count rule) =
      (on ≡ book) × (start.now ≡ first) × (count ≡ days) × (rule.now ≡ zone)
  DoesJob (jobs.Import book input false) on (tasks.Import file) = (on ≡ book) × (file.path.now ≡ input)
  DoesJob (jobs.Import book input true) on (tasks.ImportWhole file) = (on ≡ book) × (file.path.now ≡ input)
  DoesJob (jobs.Export book output) on (tasks.Export file) = (on ≡ book) × (file.path.now ≡ output)
  DoesJob (jobs.Interruptions book output) on (tasks.Interruptions file) = (on ≡ book) × (file.path.now ≡ output)
  DoesJob (jobs.Table book) on tasks.Table = on ≡ book
  DoesJob (jobs.Indices book by over) on (tasks.Indices which longest) = (on ≡ book) × (which ≡ listed_by by) × (longest ≡ over)
  DoesJob (jobs.Audit book) on tasks.Audit = on ≡ book
  DoesJob (jobs.Migrate book) on tasks.Migrate = on ≡ book
  DoesJob (jobs.Serve book port streams) on (tasks.Serve server) = (on ≡ book) × (server.port ≡ port) × (server.streams ≡ streams)
  DoesJob job on task = ⊥

-- the task of a job and its book; the total has none
abbrev pub IsTaskOf : Job → Option BookTask → Type 0
IsTaskOf jobs.Total None = ⊤
IsTaskOf jobs.Total (Some found) = ⊥
IsTaskOf job None = ⊥
IsTaskOf job (Some found) = DoesJob job found.book.now found.task
