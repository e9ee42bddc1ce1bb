-- What a clause sees of a `Watched`.
use Rattle.std.specs.Prelude.{◌≡◌, ◌↔◌, ℕ, ◌+◌, Bool, true, false, ◌==◌, ◌&&◌, not, List, [], ◌∷◌, Option, Result, Ok, Err}
use Rattle.std.specs.IoError.{error_kind}
use Rattle.std.specs.declared.io.Error.{Error}
use Rattle.std.specs.declared.io.ErrorKind.TheVariants.{Interrupted}
use Rattle.ob_stream.specs.declared.watched.Watched.{Watched}

-- the reader or writer that is watched
abbrev pub watched_inner : {D : Type 0} → Watched D → D
watched_inner w = w.inner

-- a call of it answered an error or, as a write, took no byte of some
abbrev pub watched_failed : {D : Type 0} → Watched D → Bool
watched_failed w = w.failed

-- its last call did
abbrev pub watched_last_failed : {D : Type 0} → Watched D → Bool
watched_last_failed w = w.last_failed

-- its last call failed, so that some call of it has failed
abbrev pub HasJustFailed : {D : Type 0} → Watched D → Type 0
HasJustFailed w = (watched_failed w ≡ true) × (watched_last_failed w ≡ true)

-- how many of its calls were interrupted
abbrev pub interruptions : {D : Type 0} → Watched D → ℕ
interruptions w = w.interruptions.count

-- its last call was interrupted
abbrev pub was_interrupted : {D : Type 0} → Watched D → Bool
was_interrupted w = w.interruptions.last

-- a call answered that it was interrupted
abbrev pub IsInterruption : {A : Type 0} → Result A Error → Type 0
IsInterruption (Ok x) = ⊥
IsInterruption (Err e) = error_kind e ≡ Interrupted

-- a call with this answer was counted, if the answer is that it was interrupted
pub record CountsAnswer {D A : Type 0} (old new : Watched D) (answer : Result A Error) : Type 0 where
  pub last : (was_interrupted new ≡ true) ↔ IsInterruption answer
  pub counted : was_interrupted new ≡ true → interruptions new ≡ interruptions old + 1
  pub kept : was_interrupted new ≡ false → interruptions new ≡ interruptions old

-- the bytes of the reader or writer that is watched
abbrev pub watched_bytes : {D : Type 0} → (D → Option (List ℕ)) → Watched D → Option (List ℕ)
watched_bytes bytes w = bytes w.inner

-- whether a list is empty
abbrev pub is_nil : List ℕ → Bool
is_nil [] = true
is_nil (x ∷ xs) = false

-- a write answered an error, or took no byte of some
abbrev pub took_none : {E : Type 0} → Result ℕ E → List ℕ → Bool
took_none (Ok count) buf = (count == 0) && not (is_nil buf)
took_none (Err e) buf = true
