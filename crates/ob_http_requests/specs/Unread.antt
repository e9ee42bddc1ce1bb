-- The bytes of a stream that no request has taken yet.
use Rattle.std.specs.Prelude.{◌≡◌, ℕ, List, ◌++◌, Option}
use Rattle.std.specs.Io.KnownBytes.{prepend_known, Consumes}
use Rattle.ob_base.specs.declared.stop.Fault.{Fault}
use Rattle.ob_base.specs.declared.stop.Fault.TheVariants.{OutOfMemory, Store, Reopen, Input, Output}
use Rattle.ob_stream.specs.Watching.{HasJustFailed}
use Rattle.ob_stream.specs.declared.watched.Watched.{Watched}

-- those that were read ahead, and then those that the reader has left, where it tells them
abbrev pub unread : List ℕ → Option (List ℕ) → Option (List ℕ)
unread ahead left = prepend_known ahead left

-- a list grew by bytes that were read
abbrev pub ReadsMore : Option (List ℕ) → Option (List ℕ) → List ℕ → List ℕ → Type 0
ReadsMore had left old new = (more : List ℕ) × (new ≡ old ++ more) × Consumes had left more

-- why reading stopped: memory was refused, or the reader's last call failed
abbrev pub IsReadFault : {D : Type 0} → Watched D → Fault → Type 0
IsReadFault reader OutOfMemory = Unit {0}
IsReadFault reader Input = HasJustFailed reader
IsReadFault reader Store = ⊥
IsReadFault reader Reopen = ⊥
IsReadFault reader Output = ⊥
