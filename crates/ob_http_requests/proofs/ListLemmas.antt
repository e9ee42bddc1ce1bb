-- The elements of a value, one after another.
use Rattle.std.proofs.Common.{◌≡◌, ◌≢◌, ℕ, zero, suc, ◌<◌, cond, Bool, true, false, ◌||◌, sym, List, [], ◌∷◌, map, length, get_or, take, drop, refl, ap, ◌∙◌, arith}
use Rattle.std.proofs.lemmas.Bool.{eq-eqb, ne_eqb}
use Rattle.httparse.specs.Grammar.{trim_ows}
use Rattle.std.specs.Str.{str_eq_ignore_ascii_case}
use Rattle.ob_http_requests.specs.Fields.{cons_first, split_commas, elements, says}

-- the first piece ends at the first comma
split_commas_at : (xs : List ℕ) (i : ℕ) → i < length xs → get_or xs i 0 ≡ 44 → ((k : ℕ) → k < i → get_or xs k 0 ≢ 44) → split_commas xs ≡ take i xs ∷ split_commas (drop (suc i) xs)
split_commas_at [] i inside comma before = absurd (omega arith)
split_commas_at (b ∷ bs) zero inside comma before =
    ap (λ t. cond t ([] ∷ split_commas bs) (cons_first b (split_commas bs))) (eq-eqb b 44 comma)
split_commas_at (b ∷ bs) (suc i) inside comma before =
    ap (λ t. cond t ([] ∷ split_commas bs) (cons_first b (split_commas bs))) (ne_eqb b 44 (before 0 (omega arith)))
    ∙ ap (cons_first b) (split_commas_at bs i (omega arith) comma (λ k below. before (suc k) (omega arith)))

split_commas_whole : (xs : List ℕ) → ((k : ℕ) → k < length xs → get_or xs k 0 ≢ 44) → split_commas xs ≡ xs ∷ []
split_commas_whole [] none = refl
split_commas_whole (b ∷ bs) none =
    ap (λ t. cond t ([] ∷ split_commas bs) (cons_first b (split_commas bs))) (ne_eqb b 44 (none 0 (omega arith)))
    ∙ ap (cons_first b) (split_commas_whole bs (λ k below. none (suc k) (omega arith)))

pub elements_at : (xs : List ℕ) (i : ℕ) → i < length xs → get_or xs i 0 ≡ 44 → ((k : ℕ) → k < i → get_or xs k 0 ≢ 44) → elements xs ≡ trim_ows (take i xs) ∷ elements (drop (suc i) xs)
unfolding elements
elements_at xs i inside comma before = ap (map trim_ows) (split_commas_at xs i inside comma before)

pub elements_whole : (xs : List ℕ) → ((k : ℕ) → k < length xs → get_or xs k 0 ≢ 44) → elements xs ≡ trim_ows xs ∷ []
unfolding elements
elements_whole xs none = ap (map trim_ows) (split_commas_whole xs none)

-- the first element says it
pub says_first : (option rest value : List ℕ) (i : ℕ) → i < length rest → get_or rest i 0 ≡ 44 → ((k : ℕ) → k < i → get_or rest k 0 ≢ 44)
    → says option (elements rest) ≡ says option (elements value) → str_eq_ignore_ascii_case (trim_ows (take i rest)) option ≡ true → true ≡ says option (elements value)
says_first option rest value i inside comma before same here =
    sym (sym same ∙ ap (says option) (elements_at rest i inside comma before) ∙ ap (λ t. t || says option (elements (drop (suc i) rest))) here)

-- the first element does not say it, and so the others do, or none
pub says_later : (option rest value left : List ℕ) (i : ℕ) → i < length rest → get_or rest i 0 ≡ 44 → ((k : ℕ) → k < i → get_or rest k 0 ≢ 44)
    → left ≡ drop (suc i) rest
    → says option (elements rest) ≡ says option (elements value) → str_eq_ignore_ascii_case (trim_ows (take i rest)) option ≡ false → says option (elements left) ≡ says option (elements value)
says_later option rest value left i inside comma before same_left same here =
    ap (λ t. says option (elements t)) same_left
    ∙ sym (ap (λ t. t || says option (elements (drop (suc i) rest))) here) ∙ sym (ap (says option) (elements_at rest i inside comma before)) ∙ same

-- the one element is the last
pub says_last : (option rest value : List ℕ) (answer : Bool) → ((k : ℕ) → k < length rest → get_or rest k 0 ≢ 44)
    → says option (elements rest) ≡ says option (elements value) → answer ≡ str_eq_ignore_ascii_case (trim_ows rest) option → answer ≡ says option (elements value)
says_last option rest value answer none same is =
    is ∙ sym (or-false _) ∙ sym (ap (says option) (elements_whole rest none)) ∙ same
  where
    or-false : (b : Bool) → (b || false) ≡ b
    or-false true = refl
    or-false false = refl
