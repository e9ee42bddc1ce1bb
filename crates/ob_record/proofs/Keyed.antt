-- Rows by their key: a row that begins with a number has it for its key, and has no other; and by the name next to it.
use Rattle.std.proofs.Common.{◌≡◌, ℕ, ◌==◌, ◌&&◌, Bool, true, false, List, [], ◌∷◌, pos, refl, sym, ap, ◌∙◌, arith, inl, inr, true≢false, Ordering, Less, Equal, Greater}
use Rattle.std.specs.Prelude.{Some, nat_eq}
use Rattle.std.specs.Ordering.{is_eq, int_cmp, nat_cmp, ordering_then}
use Rattle.std.specs.Cmp.Lexicographic.{slice_cmp}
use Rattle.std.specs.Str.{bytes_eq}
use Rattle.std.proofs.lemmas.Bool.{cases_Bool}
use Rattle.std.proofs.lemmas.Bool.Decides.{nat_tests}
use Rattle.sqlite_value.proofs.OrderLemmas.{value_cmp-Int, value_cmp-Text}
use Rattle.sqlite_sql.specs.Ops.{binary, is_true, from_truth}
use Rattle.sqlite_schema.specs.Rules.{equal}
use Rattle.sqlite.specs.Order.{column}
use Rattle.sqlite.specs.Collation.TheVariants.{Binary}
use Rattle.sqlite.specs.declared.types.Value.TheVariants.{Text}
use Rattle.ob_sql_rows.specs.Rows.{Columns, number, is_key, is_reference}

truth_is : (b : Bool) → is_true (from_truth (Some b)) ≡ b
truth_is true = refl
truth_is false = refl

same_pos : (m n : ℕ) → is_eq (int_cmp (pos m) (pos n)) ≡ (m == n)
same_pos m n = grind (arith, nat_tests)

equal_numbers : (m n : ℕ) → equal Binary (number m) (number n) ≡ (m == n)
unfolding binary
equal_numbers m n = truth_is _ ∙ ap is_eq (value_cmp-Int (pos m) (pos n)) ∙ same_pos m n

and_true : (b : Bool) → (b && true) ≡ b
and_true true = refl
and_true false = refl

-- SQL's test of the key is that of the number
pub key_is : (key n : ℕ) (row : Columns) → column row 0 ≡ number n → is_key key row ≡ (n == key)
key_is key n row first = ap (λ v. equal Binary v (number key) && true) first ∙ and_true (equal Binary (number n) (number key)) ∙ equal_numbers n key

same_numbers : (x y : ℕ) (rest : Ordering) (more : Bool) → is_eq rest ≡ more → is_eq (ordering_then (nat_cmp x y) rest) ≡ (nat_eq x y && more)
same_numbers x y rest more is = elim (cases_Bool (nat_eq x y)) [
  | inl same ↦ let e : nat_cmp x y ≡ Equal = grind (arith, nat_tests) in rw (e, same) is
  | inr other ↦ elim (nat_cmp x y) as (λ o. nat_cmp x y ≡ o → is_eq (ordering_then o rest) ≡ (nat_eq x y && more)) [
    | Less ↦ λ e. rw other
    | Equal ↦ λ e. absurd (true≢false (let yes : nat_eq x y ≡ true = grind (arith, nat_tests) in sym yes ∙ other))
    | Greater ↦ λ e. rw other
  ] refl
]

same_texts : (s t : List ℕ) → is_eq (slice_cmp nat_cmp s t) ≡ bytes_eq s t
same_texts [] [] = refl
same_texts [] (y ∷ ys) = refl
same_texts (x ∷ xs) [] = refl
same_texts (x ∷ xs) (y ∷ ys) = same_numbers x y (slice_cmp nat_cmp xs ys) (bytes_eq xs ys) (same_texts xs ys)

equal_texts : (s t : List ℕ) → equal Binary (Text s) (Text t) ≡ bytes_eq s t
unfolding binary
equal_texts s t = truth_is _ ∙ ap is_eq (value_cmp-Text s t) ∙ same_texts s t

-- SQL's test of the name is that of the text
pub name_is : (name s : List ℕ) (row : Columns) → column row 1 ≡ Text s → is_reference name row ≡ bytes_eq s name
name_is name s row second = ap (λ v. equal Binary v (Text name) && true) second ∙ and_true (equal Binary (Text s) (Text name)) ∙ equal_texts s name
