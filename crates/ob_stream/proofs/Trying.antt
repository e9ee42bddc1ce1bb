-- Calls one after another that share the retries.
use Rattle.std.proofs.Common.{◌⊎◌, ℕ, inl, inr, refl, arith}
use Rattle.std.specs.Prelude.{Result, Ok, Err}
use Rattle.ob_stream.specs.Retrying.{BothGiveUp, BothTry, BothTryAll, GivesUp, Tries, TriesAll}
use Rattle.ob_stream.specs.declared.watched.Watched.{Watched}

-- ---- one reader or writer
-- no call was made
pub none_tried : {D : Type 0} (had : ℕ) (w : Watched D) → TriesAll had had w w
none_tried had w = record { taken = refl; ends = λ is. is }

module _ {D : Type 0} {had mid : ℕ} {old now new : Watched D} where
  pub all_then_all : {left : ℕ} → TriesAll had mid old now → TriesAll mid left now new → TriesAll had left old new
  all_then_all a b = record { taken = omega (arith, a.taken, b.taken); ends = λ is. a.ends (b.ends is) }

  all_then_none : TriesAll had mid old now → GivesUp mid now new → GivesUp had old new
  all_then_none a b = record { more = omega (arith, a.taken, b.more) }

  pub all_then : {left : ℕ} → TriesAll had mid old now → TriesAll mid left now new ⊎ GivesUp mid now new → TriesAll had left old new ⊎ GivesUp had old new
  all_then a (inl b) = inl (all_then_all a b)
  all_then a (inr b) = inr (all_then_none a b)

-- what is said of a result where each interrupted call was tried again
pub tried_all : {D A E : Type 0} {had left : ℕ} {old new : Watched D} (r : Result A E) → TriesAll had left old new → Tries had left old new r
tried_all (Ok x) t = t
tried_all (Err e) t = inl t

-- what is said of every result
pub tries_any : {D A E : Type 0} {had left : ℕ} {old new : Watched D} (r : Result A E) → Tries had left old new r → TriesAll had left old new ⊎ GivesUp had old new
tries_any (Ok x) t = inl t
tries_any (Err e) t = t

-- ---- a reader and a writer
pub both_none : {R W : Type 0} (had : ℕ) (r : Watched R) (w : Watched W) → BothTryAll had had r r w w
both_none had r w = record { taken = refl; reads = λ is. is; writes = λ is. is }

module _ {R W : Type 0} {had left : ℕ} {r0 r1 : Watched R} (w : Watched W) where
  -- the reader was called alone
  pub by_reader : TriesAll had left r0 r1 → BothTryAll had left r0 r1 w w
  by_reader a = record { taken = omega (arith, a.taken); reads = a.ends; writes = λ is. is }

  pub by_reader_or : TriesAll had left r0 r1 ⊎ GivesUp had r0 r1 → BothTryAll had left r0 r1 w w ⊎ BothGiveUp had r0 r1 w w
  by_reader_or (inl a) = inl (by_reader a)
  by_reader_or (inr a) = inr (record { more = omega (arith, a.more) })

module _ {R W : Type 0} {had left : ℕ} (r : Watched R) {w0 w1 : Watched W} where
  -- the writer was called alone
  pub by_writer : TriesAll had left w0 w1 → BothTryAll had left r r w0 w1
  by_writer a = record { taken = omega (arith, a.taken); reads = λ is. is; writes = a.ends }

  pub by_writer_or : TriesAll had left w0 w1 ⊎ GivesUp had w0 w1 → BothTryAll had left r r w0 w1 ⊎ BothGiveUp had r r w0 w1
  by_writer_or (inl a) = inl (by_writer a)
  by_writer_or (inr a) = inr (record { more = omega (arith, a.more) })

module _ {R W : Type 0} {had mid : ℕ} {r0 r1 r2 : Watched R} {w0 w1 w2 : Watched W} where
  pub both_then_all : {left : ℕ} → BothTryAll had mid r0 r1 w0 w1 → BothTryAll mid left r1 r2 w1 w2 → BothTryAll had left r0 r2 w0 w2
  both_then_all a b = record {
    taken = omega (arith, a.taken, b.taken);
    reads = λ is. a.reads (b.reads is);
    writes = λ is. a.writes (b.writes is);
  }

  both_then_none : BothTryAll had mid r0 r1 w0 w1 → BothGiveUp mid r1 r2 w1 w2 → BothGiveUp had r0 r2 w0 w2
  both_then_none a b = record { more = omega (arith, a.taken, b.more) }

  pub both_then : {left : ℕ} → BothTryAll had mid r0 r1 w0 w1 → BothTryAll mid left r1 r2 w1 w2 ⊎ BothGiveUp mid r1 r2 w1 w2
      → BothTryAll had left r0 r2 w0 w2 ⊎ BothGiveUp had r0 r2 w0 w2
  both_then a (inl b) = inl (both_then_all a b)
  both_then a (inr b) = inr (both_then_none a b)

pub both_all : {R W A E : Type 0} {had left : ℕ} {r0 r1 : Watched R} {w0 w1 : Watched W} (r : Result A E) → BothTryAll had left r0 r1 w0 w1
    → BothTry had left r0 r1 w0 w1 r
both_all (Ok x) t = t
both_all (Err e) t = inl t

pub both_any : {R W A E : Type 0} {had left : ℕ} {r0 r1 : Watched R} {w0 w1 : Watched W} (r : Result A E) → BothTry had left r0 r1 w0 w1 r
    → BothTryAll had left r0 r1 w0 w1 ⊎ BothGiveUp had r0 r1 w0 w1
both_any (Ok x) t = inl t
both_any (Err e) t = t
