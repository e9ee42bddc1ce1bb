-- What the one row under a reference is, and what tells it.
use Rattle.std.proofs.Common.{◌≡◌, ◌≢◌, ℕ, Bool, true, false, List, [], ◌∷◌, length, sym, ap, ◌∙◌, arith, bytes_eq, not, true≢false, inl, inr}
use Rattle.std.specs.List.Sorted.{IsPermutation}
use Rattle.std.proofs.lemmas.List.{nil_from_length}
use Rattle.std.proofs.lemmas.Slice.Eq.{bytes_eq-Decides}
use Rattle.std.proofs.lemmas.List.Sorted.{IsPermutation-sym, length_permutation}
use Rattle.sqlite.proofs.Callers.{one_permutation}
use Rattle.sqlite.specs.Order.{column}
use Rattle.sqlite.specs.declared.types.Value.TheVariants.{Text}
use Rattle.ob_sql_rows.specs.Rows.{Columns, number, command_row}
use Rattle.ob_sql_write.specs.Known.{AreOfOne, IsUnder}
use Rattle.ob_sql_write.specs.declared.known.Known.{Known}
use Rattle.ob_sql_write.specs.declared.known.Known.TheVariants.{New, Same, Other}

-- what a comparison of two texts tells
pub same_texts : (a b : List ℕ) → bytes_eq a b ≡ true → a ≡ b
same_texts a b e = (bytes_eq-Decides a b).0 e

pub other_texts : (a b : List ℕ) → bytes_eq a b ≡ false → a ≢ b
other_texts a b e same = true≢false (sym ((bytes_eq-Decides a b).1 same) ∙ e)

pub not_other : (b : Bool) → not b ≡ false → b ≡ true
not_other true e = sym (ap not e)
not_other false e = sym e

-- a row of three columns, of which each is known
pub is_command : (row : Columns) (n : ℕ) (reference body : List ℕ) → length row ≡ 3 → column row 0 ≡ number n → column row 1 ≡ Text reference → column row 2 ≡ Text body → row ≡ command_row n reference body
is_command [] n reference body long first second third = absurd (omega arith)
is_command (a ∷ []) n reference body long first second third = absurd (omega arith)
is_command (a ∷ b ∷ []) n reference body long first second third = absurd (omega arith)
is_command (a ∷ b ∷ c ∷ []) n reference body long first second third = rw (first, second, third)
is_command (a ∷ b ∷ c ∷ d ∷ more) n reference body long first second third = absurd (omega arith)

-- with at most one row there is one order
pub under_any : (rows found : List Columns) (reference body : List ℕ) (known : Known) → IsPermutation rows found → IsUnder found reference body known → IsUnder rows reference body known
under_any rows found reference body New same is = nil_from_length rows (sym (length_permutation rows found same) ∙ ap length is)
under_any rows found reference body (Same n) same is = one_permutation _ rows (rw is at (IsPermutation-sym rows found same))
under_any rows found reference body (Other n) same (other, differs, is) = (other, differs, one_permutation _ rows (rw is at (IsPermutation-sym rows found same)))

pub one_any : (rows found : List Columns) (reference : List ℕ) → IsPermutation rows found → AreOfOne rows reference → AreOfOne found reference
one_any rows found reference same (inl none) = inl (nil_from_length found (length_permutation rows found same ∙ ap length none))
one_any rows found reference same (inr (n, low, body, is)) = inr (n, low, body, one_permutation _ found (rw is at same))
