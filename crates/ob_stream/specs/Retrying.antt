-- Which interrupted calls were tried again: `had` retries were left before, and `left` are left after.
use Rattle.std.specs.Prelude.{◌≡◌, ◌⊎◌, ℕ, ◌+◌, true, Result, Ok, Err}
use Rattle.ob_stream.specs.Watching.{interruptions, was_interrupted}
use Rattle.ob_stream.specs.declared.watched.Watched.{Watched}

-- its last call was not interrupted, or was so before already
abbrev pub EndsUninterrupted : {D : Type 0} → Watched D → Watched D → Type 0
EndsUninterrupted old new = was_interrupted new ≡ true → was_interrupted old ≡ true

-- ---- the calls of one reader or writer
-- each interrupted call was tried again, and took one retry
pub record TriesAll {D : Type 0} (had left : ℕ) (old new : Watched D) : Type 0 where
  pub taken : interruptions new + left ≡ interruptions old + had
  pub ends : EndsUninterrupted old new

-- one more call was interrupted than there were retries
pub record GivesUp {D : Type 0} (had : ℕ) (old new : Watched D) : Type 0 where
  pub more : interruptions new ≡ interruptions old + had + 1

-- the one or the other
abbrev pub TriesOrGivesUp : {D : Type 0} → ℕ → ℕ → Watched D → Watched D → Type 0
TriesOrGivesUp had left old new = TriesAll had left old new ⊎ GivesUp had old new

-- the same of a call with this result: only a fault gives up
abbrev pub Tries : {D A E : Type 0} → ℕ → ℕ → Watched D → Watched D → Result A E → Type 0
Tries had left old new (Ok done) = TriesAll had left old new
Tries had left old new (Err fault) = TriesOrGivesUp had left old new

-- the same of a call that begins with all retries
abbrev pub TriesAnew : {D A E : Type 0} → Watched D → Watched D → Result A E → Type 0
TriesAnew old new result = (left : ℕ) × Tries 65536 left old new result

-- ---- the calls of a reader and of a writer that share the retries
-- each interrupted call was tried again, and took one retry
pub record BothTryAll {R W : Type 0} (had left : ℕ) (reader read : Watched R) (writer written : Watched W) : Type 0 where
  pub taken : interruptions read + interruptions written + left ≡ interruptions reader + interruptions writer + had
  pub reads : EndsUninterrupted reader read
  pub writes : EndsUninterrupted writer written

-- one more call was interrupted than there were retries
pub record BothGiveUp {R W : Type 0} (had : ℕ) (reader read : Watched R) (writer written : Watched W) : Type 0 where
  pub more : interruptions read + interruptions written ≡ interruptions reader + interruptions writer + had + 1

-- the same of a call with this result: only a fault gives up
abbrev pub BothTry : {R W A E : Type 0} → ℕ → ℕ → Watched R → Watched R → Watched W → Watched W → Result A E → Type 0
BothTry had left reader read writer written (Ok done) = BothTryAll had left reader read writer written
BothTry had left reader read writer written (Err fault) =
    BothTryAll had left reader read writer written ⊎ BothGiveUp had reader read writer written

-- the same of a call that begins with all retries
abbrev pub BothTryAnew : {R W A E : Type 0} → Watched R → Watched R → Watched W → Watched W → Result A E → Type 0
BothTryAnew reader read writer written result = (left : ℕ) × BothTry 65536 left reader read writer written result
