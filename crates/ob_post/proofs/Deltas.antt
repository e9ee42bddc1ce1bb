-- Sums of deltas, key by key.
use Rattle.std.proofs.Common.{◌≡◌, ◌∙◌, ap, refl, ℕ, zero, suc, ◌+◌, ◌<◌, ◌==◌, true, false, cond, List, [], ◌∷◌, ◌++◌, length, take, get_or, ℤ, pos, ◌+ℤ◌, eq-eqb, inl, inr, arith}
use Rattle.std.specs.List.{All}
use Rattle.std.proofs.lemmas.Bool.{ne_eqb, and_left, and_right, and_from, and_parts, eqb-true, cases_Bool}
use Rattle.std.proofs.lemmas.Int.{ints}
use Rattle.std.proofs.lemmas.List.{take_more}
use Rattle.std.proofs.lemmas.List.Elements.{All-tail}
use Rattle.ob_post.specs.declared.Dim.{Dim}
use Rattle.ob_post.specs.declared.Moved.{Moved}
use Rattle.ob_post.specs.Keys.{dim_number}
use Rattle.ob_post.specs.Moved.{is_under, delta_of, IsBefore, AreInOrder}
use Rattle.ob_post.proofs.Keying.{same_dim}

-- by how much one row moves the amount under a key
abbrev pub delta_under : Dim → ℕ → Moved → ℤ
delta_under dim key m = cond (is_under dim key m) m.delta (pos 0)

pub delta_of-append : (ms ns : List Moved) (dim : Dim) (key : ℕ) → delta_of (ms ++ ns) dim key ≡ delta_of ms dim key +ℤ delta_of ns dim key
delta_of-append [] ns dim key = omega (arith, ints)
delta_of-append (m ∷ ms) ns dim key = omega (arith, ints, delta_of-append ms ns dim key)

pub delta_of_push : (ms : List Moved) (m : Moved) (dim : Dim) (key : ℕ) → delta_of (ms ++ m ∷ []) dim key ≡ delta_of ms dim key +ℤ delta_under dim key m
delta_of_push ms m dim key = omega (arith, ints, delta_of-append ms (m ∷ []) dim key)

pub delta_of_more : (ms : List Moved) (i : ℕ) (d : Moved) (dim : Dim) (key : ℕ) → i < length ms → delta_of (take (i + 1) ms) dim key ≡ delta_of (take i ms) dim key +ℤ delta_under dim key (get_or ms i d)
delta_of_more ms i d dim key l = ap (λ (ns : List Moved). delta_of ns dim key) (take_more ms i d l) ∙ delta_of_push (take i ms) (get_or ms i d) dim key

pub is_under_itself : (m : Moved) → is_under m.dim m.key m ≡ true
is_under_itself m = and_from (dim_number m.dim == dim_number m.dim) (m.key == m.key) (eq-eqb (dim_number m.dim) (dim_number m.dim) refl) (eq-eqb m.key m.key refl)

pub is_under_of : (dim : Dim) (key : ℕ) (m : Moved) → m.dim ≡ dim → m.key ≡ key → is_under dim key m ≡ true
is_under_of dim key m d k = and_from (dim_number m.dim == dim_number dim) (m.key == key) (eq-eqb (dim_number m.dim) (dim_number dim) (ap dim_number d)) (eq-eqb m.key key k)

-- a row under a key has that dimension and that key
pub under_is : (dim : Dim) (key : ℕ) (m : Moved) → is_under dim key m ≡ true → (m.dim ≡ dim) × (m.key ≡ key)
under_is dim key m h =
    let parts = and_parts (dim_number m.dim == dim_number dim) (m.key == key) h in
    (same_dim m.dim dim (eqb-true (dim_number m.dim) (dim_number dim) parts.0), eqb-true m.key key parts.1)

pub other_under : (dim : Dim) (key : ℕ) (m : Moved) → ((m.dim ≡ dim) × (m.key ≡ key) → ⊥) → is_under dim key m ≡ false
other_under dim key m h = elim (cases_Bool (is_under dim key m)) [ inl t ↦ absurd (h (under_is dim key m t)) | inr f ↦ f ]

delta_under_itself : (m : Moved) → delta_under m.dim m.key m ≡ m.delta
delta_under_itself m = rw (is_under_itself m) refl

delta_under_other : (dim : Dim) (key : ℕ) (m : Moved) → is_under dim key m ≡ false → delta_under dim key m ≡ pos 0
delta_under_other dim key m h = rw h refl

-- of two rows, one before the other, neither is under the other's key
before_under : (m n : Moved) → IsBefore m n → is_under n.dim n.key m ≡ false
before_under m n (inl l) = and_left (dim_number m.dim == dim_number n.dim) (m.key == n.key) (ne_eqb (dim_number m.dim) (dim_number n.dim) (λ e. omega arith))
before_under m n (inr h) = and_right (dim_number m.dim == dim_number n.dim) (m.key == n.key) (ne_eqb m.key n.key (λ e. omega (arith, h.1)))

pub after_under : (m n : Moved) → IsBefore m n → is_under m.dim m.key n ≡ false
after_under m n (inl l) = and_left (dim_number n.dim == dim_number m.dim) (n.key == m.key) (ne_eqb (dim_number n.dim) (dim_number m.dim) (λ e. omega arith))
after_under m n (inr h) = and_right (dim_number n.dim == dim_number m.dim) (n.key == m.key) (ne_eqb n.key m.key (λ e. omega (arith, h.1)))

-- rows of other keys don't move an amount
pub delta_of_none : (ms : List Moved) (dim : Dim) (key : ℕ) → All (λ m. is_under dim key m ≡ false) ms → delta_of ms dim key ≡ pos 0
delta_of_none [] dim key h = refl
delta_of_none (m ∷ ms) dim key h =
    let here : delta_under dim key m ≡ pos 0 = delta_under_other dim key m (h 0 m (omega arith)) in
    let rest = delta_of_none ms dim key (All-tail (λ n. is_under dim key n ≡ false) m ms h) in
    omega (arith, ints, here, rest)

pub tail_in_order : (m : Moved) (ms : List Moved) → AreInOrder (m ∷ ms) → AreInOrder ms
tail_in_order m ms h = λ i j d l k. h (suc i) (suc j) d (omega arith) (omega arith)

-- where the rows are in order, each alone moves the amount under its key
pub only_once : (ms : List Moved) (i : ℕ) (d : Moved) → AreInOrder ms → i < length ms
    → delta_of ms (get_or ms i d).dim (get_or ms i d).key ≡ (get_or ms i d).delta
only_once [] i d h l = absurd (omega arith)
only_once (m ∷ ms) zero d h l =
    let rest = delta_of_none ms m.dim m.key (λ k e n. after_under m (get_or ms k e) (h 0 (suc k) e (omega arith) (omega arith))) in
    omega (arith, ints, delta_under_itself m, rest)
only_once (m ∷ ms) (suc i) d h l =
    let n = get_or ms i d in
    let here : delta_under n.dim n.key m ≡ pos 0 = delta_under_other n.dim n.key m (before_under m n (h 0 (suc i) d (omega arith) l)) in
    omega (arith, ints, here, only_once ms i d (tail_in_order m ms h) (omega arith))
