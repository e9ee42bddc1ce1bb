-- Under which numbers a book has a reply.
use Rattle.std.proofs.Common.{◌≡◌, ℕ, ◌<◌, ◌≤◌, length, Some, None, Err, inl, inr, true, false, refl, sym, subst, arith}
use Rattle.std.specs.Prelude.{nat_le}
use Rattle.std.proofs.lemmas.Bool.Decides.{nat_tests}
use Rattle.sqlite_trees.specs.declared.store.Store.{Ghosts}
use Rattle.sqlite.specs.Held.{Held, state}
use Rattle.ob_base.specs.declared.stop.Stop.{Stop}
use Rattle.ob_book.specs.Acts.{ActState, reply_of}
use Rattle.ob_sql_rows.specs.Steps.{IsStoreFault}
use Rattle.ob_store.specs.Keeping.{KeepsBook}
use Rattle.ob_store.specs.Replying.{Replies, kept_reply}

pub none_at_zero : (b : ActState) (n : ℕ) → n ≡ 0 → None ≡ kept_reply b n
none_at_zero b n zero =
    let low : nat_le 1 n ≡ false = grind (arith, nat_tests, zero) in
    rw low refl

pub none_past : (b : ActState) (n : ℕ) → length b.accepted < n → None ≡ kept_reply b n
none_past b n past =
    let low : nat_le 1 n ≡ true = grind (arith, nat_tests, past) in
    let high : nat_le n (length b.accepted) ≡ false = grind (arith, nat_tests, past) in
    rw (low, high) refl

pub some_within : (b : ActState) (n : ℕ) → 1 ≤ n → n ≤ length b.accepted → Some (reply_of b n) ≡ kept_reply b n
some_within b n least most =
    let low : nat_le 1 n ≡ true = grind (arith, nat_tests, least) in
    let high : nat_le n (length b.accepted) ≡ true = grind (arith, nat_tests, most) in
    rw (low, high) refl

pub fault_replies : {S : Type 0} (g : Ghosts S) (new : Held S) (b : ActState) (n : ℕ) (stop : Stop) → IsStoreFault stop → KeepsBook (state g new) b → Replies g new b n (Err stop)
fault_replies g new b n stop (inl memory) keeps = subst (λ s. Replies g new b n (Err s)) (sym memory) keeps
fault_replies g new b n stop (inr store) keeps = subst (λ s. Replies g new b n (Err s)) (sym store) keeps
