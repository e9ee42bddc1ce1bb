-- What a job that takes memory for its line leaves of the writer that it tells its end to.
use Rattle.std.specs.Prelude.{◌⊎◌, ℕ, List, Option, Result, Ok, Err}
use Rattle.ob_base.specs.declared.stop.Stop.{Stop}
use Rattle.ob_base.specs.declared.stop.Stop.TheVariants.{Refused, Fault}
use Rattle.ob_base.specs.declared.stop.Fault.TheVariants.{OutOfMemory, Store, Reopen, Input, Output}
use Rattle.ob_stream.specs.declared.watched.Watched.{Watched}
use Rattle.ob_jobs.specs.Telling.{FailsToWrite, Writes, WritesNothing}

-- the work was done, and its line is written. Or it stopped, and nothing is written: of work that writes elsewhere, also for
-- a fault of output. Or it was done and memory for the line was refused, or the writer failed on it
abbrev pub TellsAfter : {X W : Type 0} → (Result X Stop → Type 0) → (X → List ℕ) → (W → Option (List ℕ)) → Watched W → Watched W
    → Result X Stop → Type 0
TellsAfter Works text contents old new (Ok x) = Works (Ok x) × Writes contents old new (text x)
TellsAfter {X} Works text contents old new (Err (Fault Output)) =
    (Works (Err (Fault Output)) × WritesNothing contents old new) ⊎ ((x : X) × Works (Ok x) × FailsToWrite contents old new (text x))
TellsAfter {X} Works text contents old new (Err (Fault OutOfMemory)) =
    (Works (Err (Fault OutOfMemory)) ⊎ ((x : X) × Works (Ok x))) × WritesNothing contents old new
TellsAfter Works text contents old new (Err (Refused refusal)) = Works (Err (Refused refusal)) × WritesNothing contents old new
TellsAfter Works text contents old new (Err (Fault Store)) = Works (Err (Fault Store)) × WritesNothing contents old new
TellsAfter Works text contents old new (Err (Fault Reopen)) = Works (Err (Fault Reopen)) × WritesNothing contents old new
TellsAfter Works text contents old new (Err (Fault Input)) = Works (Err (Fault Input)) × WritesNothing contents old new
