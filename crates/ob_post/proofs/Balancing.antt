-- What the rows of a posting come to as more of them are taken and given.
use Rattle.std.proofs.Common.{◌≡◌, ◌∙◌, sym, ap, ap₂, subst, ℕ, ◌+◌, List, [], pos, ◌+ℤ◌, ◌-ℤ◌, arith}
use Rattle.std.proofs.lemmas.Int.{ints}
use Rattle.ob_post.specs.Moved.{delta_of, HaveKeys}
use Rattle.ob_post.specs.declared.Dim.{Dim}
use Rattle.ob_post.specs.declared.Moved.{Moved}
use Rattle.ob_post.specs.declared.posting.Posting.{Posting}
use Rattle.ob_post.specs.Balances.{together, Balances}

-- no row
pub none_yet : (days : ℕ) (p : Posting) (a : Dim → ℕ → ℕ) → p.taken.items ≡ [] → p.given.items ≡ [] → Balances days p a a
none_yet days p a t g = record {
  taken = subst (HaveKeys days) (sym t) (λ k d l. absurd (omega arith));
  given = subst (HaveKeys days) (sym g) (λ k d l. absurd (omega arith));
  change = λ dim key. ap₂ (λ (xs ys : List Moved). delta_of xs dim key -ℤ delta_of ys dim key) g t ∙ (let e : pos 0 -ℤ pos 0 ≡ pos (a dim key) -ℤ pos (a dim key) = omega (arith, ints) in e);
}

-- amounts are taken
pub more_taken : (days : ℕ) (p q : Posting) (old new x : Dim → ℕ → ℕ) → q.given.items ≡ p.given.items → (HaveKeys days p.taken.items → HaveKeys days q.taken.items)
    → ((dim : Dim) (key : ℕ) → delta_of q.taken.items dim key ≡ delta_of p.taken.items dim key +ℤ pos (x dim key)) → Balances days p old new → Balances days q (together old x) new
more_taken days p q old new x e keys more b = record {
  taken = keys b.taken;
  given = subst (HaveKeys days) (sym e) b.given;
  change = λ dim key.
      let given : delta_of q.given.items dim key ≡ delta_of p.given.items dim key = ap (λ (xs : List Moved). delta_of xs dim key) e in
      let taken = more dim key in
      let was = b.change dim key in
      omega (arith, ints);
}

-- amounts are given
pub more_given : (days : ℕ) (p q : Posting) (old new x : Dim → ℕ → ℕ) → q.taken.items ≡ p.taken.items → (HaveKeys days p.given.items → HaveKeys days q.given.items)
    → ((dim : Dim) (key : ℕ) → delta_of q.given.items dim key ≡ delta_of p.given.items dim key +ℤ pos (x dim key)) → Balances days p old new → Balances days q old (together new x)
more_given days p q old new x e keys more b = record {
  taken = subst (HaveKeys days) (sym e) b.taken;
  given = keys b.given;
  change = λ dim key.
      let taken : delta_of q.taken.items dim key ≡ delta_of p.taken.items dim key = ap (λ (xs : List Moved). delta_of xs dim key) e in
      let given = more dim key in
      let was = b.change dim key in
      omega (arith, ints);
}

-- the same amounts stand on both sides
pub same_more : (days : ℕ) (p : Posting) (old new x y : Dim → ℕ → ℕ) → ((dim : Dim) (key : ℕ) → y dim key ≡ x dim key) → Balances days p old new → Balances days p (together old x) (together new y)
same_more days p old new x y same b = record {
  taken = b.taken;
  given = b.given;
  change = λ dim key.
      let was = b.change dim key in
      let e = same dim key in
      omega (arith, ints);
}

-- the amounts put otherwise
pub balances_as : (days : ℕ) (p : Posting) (old new old' new' : Dim → ℕ → ℕ) → ((dim : Dim) (key : ℕ) → old' dim key ≡ old dim key) → ((dim : Dim) (key : ℕ) → new' dim key ≡ new dim key)
    → Balances days p old new → Balances days p old' new'
balances_as days p old new old' new' o n b = record {
  taken = b.taken;
  given = b.given;
  change = λ dim key. b.change dim key ∙ ap₂ (λ i j. pos j -ℤ pos i) (sym (o dim key)) (sym (n dim key));
}

-- other amounts with the same change
pub same_change : (days : ℕ) (p : Posting) (old new old' new' : Dim → ℕ → ℕ) → ((dim : Dim) (key : ℕ) → new' dim key + old dim key ≡ old' dim key + new dim key)
    → Balances days p old new → Balances days p old' new'
same_change days p old new old' new' e b = record {
  taken = b.taken;
  given = b.given;
  change = λ dim key.
      let was = b.change dim key in
      let same = e dim key in
      omega (arith, ints);
}
