-- The columns that a command doesn't name, looked at one by one.
use Rattle.std.proofs.Common.{◌≡◌, ℕ, ◌+◌, ◌-◌, ◌<◌, ◌≤◌, ◌==◌, true, false, zero, suc, List, [], ◌∷◌, Result, Err, drop, get_or, length, refl, sym, ◌∙◌, arith, ap}
use Rattle.std.proofs.lemmas.Bool.{false≢true}
use Rattle.std.proofs.lemmas.Bool.Decides.{nat_tests}
use Rattle.ob_base.specs.declared.stop.Refusal.{Refusal}
use Rattle.ob_base.specs.declared.stop.Refusal.TheVariants.{BadField}
use Rattle.ob_csv.specs.Rows.{Fields}
use Rattle.ob_total.specs.Commands.{column, with_empty, with_unused}

not_nil : (n : ℕ) → (suc n == 0) ≡ true → ⊥
not_nil n h = grind (arith, nat_tests)

drop_next : {X : Type 0} (k : ℕ) (x : X) (xs : List X) → drop (suc k + 1) (x ∷ xs) ≡ drop (k + 1) xs
drop_next k x xs = let e : suc k + 1 ≡ suc (k + 1) = omega arith in rw e refl

used_at : {B : Type 0} (n k : ℕ) (fields : Fields) (r : Result B Refusal) → k < length fields → (length (get_or fields k []) == 0) ≡ false → with_empty n (drop k fields) r ≡ Err (BadField n)
used_at n k [] r within used = absurd (omega arith)
used_at n zero ([] ∷ fields) r within used = absurd (false≢true (sym used))
used_at n zero ((byte ∷ bytes) ∷ fields) r within used = refl
used_at n (suc k) (f ∷ fields) r within used = used_at n k fields r (omega arith) used

empty_at : {B : Type 0} (n k : ℕ) (fields : Fields) (r : Result B Refusal) → k < length fields → (length (get_or fields k []) == 0) ≡ true → with_empty n (drop k fields) r ≡ with_empty (n + 1) (drop (k + 1) fields) r
empty_at n k [] r within empty = absurd (omega arith)
empty_at n zero ([] ∷ fields) r within empty = refl
empty_at n zero ((byte ∷ bytes) ∷ fields) r within empty = absurd (not_nil (length bytes) empty)
empty_at n (suc k) (f ∷ fields) r within empty =
    empty_at n k fields r (omega arith) empty ∙ ap (λ rest. with_empty (n + 1) rest r) (sym (drop_next k f fields))

none_at : {B : Type 0} (n k : ℕ) (fields : Fields) (r : Result B Refusal) → length fields ≤ k → with_empty n (drop k fields) r ≡ r
none_at n zero [] r past = refl
none_at n (suc k) [] r past = refl
none_at n zero (f ∷ fields) r past = absurd (omega arith)
none_at n (suc k) (f ∷ fields) r past = none_at n k fields r (omega arith)

-- a column that isn't empty is refused
pub used_here : {B : Type 0} (row : Fields) (n : ℕ) (r : Result B Refusal) → 1 ≤ n → n ≤ length row → (length (column row n) == 0) ≡ false → with_unused row n r ≡ Err (BadField n)
used_here row n r first last used = used_at n (n - 1) row r (omega arith) used

-- an empty one is passed over
pub unused_here : {B : Type 0} (row : Fields) (n : ℕ) (r : Result B Refusal) → 1 ≤ n → n ≤ length row → (length (column row n) == 0) ≡ true → with_unused row n r ≡ with_unused row (n + 1) r
unused_here row n r first last empty =
    let e : n - 1 + 1 ≡ n + 1 - 1 = omega arith in
    empty_at n (n - 1) row r (omega arith) empty ∙ ap (λ k. with_empty (n + 1) (drop k row) r) e

-- behind the last there is none
pub none_left : {B : Type 0} (row : Fields) (n : ℕ) (r : Result B Refusal) → length row < n → with_unused row n r ≡ r
none_left row n r past = none_at n (n - 1) row r (omega arith)
