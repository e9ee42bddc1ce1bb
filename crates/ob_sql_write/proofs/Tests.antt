-- Tests on the numbers of rows, and lists of rows of which none passes, or the last.
use Rattle.std.proofs.Common.{◌≡◌, ◌≢◌, ◌∙◌, ap, refl, ℕ, zero, suc, ℤ, pos, Bool, true, false, ◌&&◌, ◌||◌, List, [], ◌∷◌, ◌++◌, Some, arith, true≢false, inl, inr}
use Rattle.std.specs.List.{AllByRecursion, list_any}
use Rattle.std.specs.Ordering.{is_eq, nat_cmp, int_cmp}
use Rattle.std.proofs.lemmas.Bool.{or_from, or_right, or_left, or_parts, cases_order}
use Rattle.std.proofs.lemmas.Bool.Decides.{nat_tests}
use Rattle.std.proofs.lemmas.Cmp.{tied_itself}
use Rattle.std.proofs.lemmas.List.Folds.{list_any-append}
use Rattle.sqlite_value.specs.Order.{value_cmp}
use Rattle.sqlite_value.proofs.OrderLemmas.{value_cmp_total, value_cmp-Int}
use Rattle.sqlite_schema.specs.Rules.{equal}
use Rattle.sqlite_sql.specs.Ops.{from_truth}
use Rattle.sqlite.specs.Ops.{is_true, binary}
use Rattle.sqlite.specs.Order.{column}
use Rattle.sqlite.specs.Collation.TheVariants.{Binary}
use Rattle.sqlite.specs.declared.types.Value.TheVariants.{Int}
use Rattle.ob_sql_rows.specs.Rows.{Columns, number}
use Rattle.ob_sql_rows.specs.Rules.{IsShortValue}

-- ---- numbers
truth_is : (b : Bool) → is_true (from_truth (Some b)) ≡ b
truth_is true = refl
truth_is false = refl

-- SQL's = on integers is the order's tie
same_test : (m n : ℤ) → equal Binary (Int m) (Int n) ≡ is_eq (value_cmp (Int m) (Int n))
unfolding binary value_cmp
same_test m n = truth_is _

same_pos : (m n : ℕ) → int_cmp (pos m) (pos n) ≡ nat_cmp m n
same_pos m n = grind (arith, nat_tests)

nat_apart : (m n : ℕ) → m ≢ n → is_eq (nat_cmp m n) ≡ false
nat_apart m n apart = elim (cases_order m n) [
  | inl same ↦ absurd (apart same)
  | inr (inl less) ↦ grind (arith, nat_tests)
  | inr (inr more) ↦ grind (arith, nat_tests)
]

pub same_number : (n : ℕ) → equal Binary (number n) (number n) ≡ true
same_number n = same_test (pos n) (pos n) ∙ ap is_eq (tied_itself value_cmp_total (Int (pos n)))

pub other_number : (m n : ℕ) → m ≢ n → equal Binary (number m) (number n) ≡ false
other_number m n apart = same_test (pos m) (pos n) ∙ ap is_eq (value_cmp-Int (pos m) (pos n) ∙ same_pos m n) ∙ nat_apart m n apart

-- a row whose first column is a number has it for its key
pub keyed : (n : ℕ) → (equal Binary (number n) (number n) && true) ≡ true
keyed n = ap (λ b. b && true) (same_number n)

-- and no other
pub not_keyed : (m n : ℕ) → m ≢ n → (equal Binary (number m) (number n) && true) ≡ false
not_keyed m n apart = ap (λ b. b && true) (other_number m n apart)

-- ---- lists of rows
pub last_passes : {X : Type 0} (p : X → Bool) (xs : List X) (x : X) → p x ≡ true → list_any p (xs ++ x ∷ []) ≡ true
last_passes p xs x is = list_any-append p xs (x ∷ []) ∙ or_right (list_any p xs) (p x || false) (or_left (p x) false is)

pub none_more : {X : Type 0} (p : X → Bool) (xs : List X) (x : X) → list_any p xs ≡ false → p x ≡ false → list_any p (xs ++ x ∷ []) ≡ false
none_more p xs x none not = list_any-append p xs (x ∷ []) ∙ or_from (list_any p xs) (p x || false) none (or_from (p x) false not refl)

-- where none passes one test, none passes another that lets fewer pass
pub none_of_fewer : {X : Type 0} (p q : X → Bool) → ((x : X) → p x ≡ false → q x ≡ false) → (xs : List X) → list_any p xs ≡ false → list_any q xs ≡ false
none_of_fewer p q fewer [] none = refl
none_of_fewer p q fewer (x ∷ xs) none =
    let both = or_parts (p x) (list_any p xs) none in
    or_from (q x) (list_any q xs) (fewer x both.0) (none_of_fewer p q fewer xs both.1)

pub no_front : (x b : Bool) → (x && true) ≡ false → (x && b) ≡ false
no_front true b is = absurd (true≢false is)
no_front false b is = refl

-- ---- short values
pub short_column : (row : Columns) (i : ℕ) → AllByRecursion IsShortValue row → IsShortValue (column row i)
short_column [] i all = tt
short_column (v ∷ vs) zero all = all.0
short_column (v ∷ vs) (suc i) all = short_column vs i all.1
