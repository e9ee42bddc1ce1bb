-- The interrupted calls of a reader or a writer, one call after another.
use Rattle.std.proofs.Common.{◌≡◌, ℕ, ◌+◌, Bool, true, false, refl, arith}
use Rattle.std.specs.Prelude.{Ok}
use Rattle.ob_stream.specs.Watching.{CountsAnswer, interruptions, was_interrupted}
use Rattle.ob_stream.specs.Retrying.{TriesAll}
use Rattle.ob_stream.specs.declared.watched.Watched.{Watched}

not_true : (b : Bool) → (b ≡ true → ⊥) → b ≡ false
not_true true never = absurd (never refl)
not_true false never = refl

-- a call that gave an answer ends a row of interrupted ones
pub ends_by_answer : {D A : Type 0} (had left : ℕ) (start now new : Watched D) → interruptions now + left ≡ interruptions start + had → (x : A)
    → CountsAnswer now new (Ok x) → TriesAll had left start new
ends_by_answer had left start now new so x counts =
    let unbroken : was_interrupted new ≡ false = not_true (was_interrupted new) counts.last.0 in
    record { taken = omega (arith, counts.kept unbroken); ends = λ is. absurd (counts.last.0 is) }
