-- What a job leaves of the writer that it tells its end to.
use Rattle.std.specs.Prelude.{⊤, ℕ, List, Option, Result, Ok, Err}
use Rattle.std.specs.Io.KnownBytes.{Appends, Keeps}
use Rattle.ob_base.specs.declared.stop.Stop.{Stop}
use Rattle.ob_base.specs.declared.stop.Stop.TheVariants.{Refused, Fault}
use Rattle.ob_base.specs.declared.stop.Fault.TheVariants.{OutOfMemory, Store, Reopen, Input, Output}
use Rattle.ob_stream.specs.Streams.{AppendsFront}
use Rattle.ob_stream.specs.Watching.{HasJustFailed, watched_bytes}
use Rattle.ob_stream.specs.declared.watched.Watched.{Watched}

-- the text is written behind what was written before
abbrev pub Writes : {W : Type 0} → (W → Option (List ℕ)) → Watched W → Watched W → List ℕ → Type 0
Writes contents old new text = Appends (watched_bytes contents old) (watched_bytes contents new) text

-- the writer failed, and less than the text is written
abbrev pub FailsToWrite : {W : Type 0} → (W → Option (List ℕ)) → Watched W → Watched W → List ℕ → Type 0
FailsToWrite contents old new text =
    AppendsFront (watched_bytes contents old) (watched_bytes contents new) text × HasJustFailed new

-- nothing is written
abbrev pub WritesNothing : {W : Type 0} → (W → Option (List ℕ)) → Watched W → Watched W → Type 0
WritesNothing contents old new = Keeps (watched_bytes contents old) (watched_bytes contents new)

-- a text is written, or the writer failed on it
abbrev pub Told : {W : Type 0} → (W → Option (List ℕ)) → Watched W → Watched W → List ℕ → Result ⊤ Stop → Type 0
Told contents old new text (Ok done) = Writes contents old new text
Told contents old new text (Err (Fault Output)) = FailsToWrite contents old new text
Told contents old new text (Err stop) = ⊥

-- the work was done, and the text of what it gave is written; or it was done, and the writer failed on the text; or it
-- stopped, and nothing is written
abbrev pub Tells : {X W : Type 0} → (Result X Stop → Type 0) → (X → List ℕ) → (W → Option (List ℕ)) → Watched W → Watched W
    → Result X Stop → Type 0
Tells Works text contents old new (Ok x) = Works (Ok x) × Writes contents old new (text x)
Tells {X} Works text contents old new (Err (Fault Output)) =
    (x : X) × Works (Ok x) × FailsToWrite contents old new (text x)
Tells Works text contents old new (Err (Refused refusal)) = Works (Err (Refused refusal)) × WritesNothing contents old new
Tells Works text contents old new (Err (Fault OutOfMemory)) = Works (Err (Fault OutOfMemory)) × WritesNothing contents old new
Tells Works text contents old new (Err (Fault Store)) = Works (Err (Fault Store)) × WritesNothing contents old new
Tells Works text contents old new (Err (Fault Reopen)) = Works (Err (Fault Reopen)) × WritesNothing contents old new
Tells Works text contents old new (Err (Fault Input)) = Works (Err (Fault Input)) × WritesNothing contents old new
