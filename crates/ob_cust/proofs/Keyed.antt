-- The order of blocks by section and then by service.
use Rattle.std.proofs.Common.{◌≡◌, ℕ, ◌+◌, ◌<◌, ◌≤◌, ◌==◌, ◌&&◌, ◌||◌, true, false, nat_lt, nat_le, List, Option, Result, Ok, Err, IfOk, IfErr, length, get_or, refl, sym, ap, ◌∙◌, arith, inl, inr, ◌⊎◌}
use Rattle.std.specs.Cmp.{IsTotalOrder}
use Rattle.std.specs.List.{AllPairs, AllWithin}
use Rattle.std.specs.List.Sorted.{IsNonDecreasingBy, IsPartitionedBy, IsSearchInRange, IsBinarySearchResult}
use Rattle.std.specs.Ordering.{nat_cmp, is_lt, ordering_then, ordering_reverse, ordering_index}
use Rattle.std.specs.declared.cmp.Ordering.{Ordering}
use Rattle.std.specs.declared.cmp.Ordering.TheVariants.{Less, Equal, Greater}
use Rattle.std.proofs.lemmas.Bool.{cases_lt, false≢true}
use Rattle.std.proofs.lemmas.Bool.Decides.{nat_tests}
use Rattle.std.proofs.lemmas.Cmp.{ranked, nat_cmp_total, then_total, on_total}
use Rattle.std.proofs.lemmas.List.Sorted.{searchable_from_sorted}
use Rattle.ob_cust.specs.declared.SectionBlock.{SectionBlock}
use Rattle.ob_cust.specs.Blocks.{service_cmp, service_of}
use Rattle.ob_cust.specs.Services.{key, key_cmp, begins_before}
use Rattle.ob_cust.proofs.Order.{services_total, same_service, same_numbers, first_equal, second_equal}

-- blocks in order
abbrev pub AreInOrder : List SectionBlock → Type 0
AreInOrder bs = AllPairs (λ a b. key_cmp (key a) (key b) ≡ Less) bs

pub keys_total : IsTotalOrder key_cmp
keys_total = then_total (on_total (λ (q : ℕ × (ℕ × Option ℕ)). q.0) nat_cmp_total) (on_total (λ (q : ℕ × (ℕ × Option ℕ)). q.1) services_total)

pub same_key : (q r : ℕ × (ℕ × Option ℕ)) → key_cmp q r ≡ Equal → q ≡ r
same_key (m, s) (n, t) h =
    rw (same_numbers m n (first_equal (nat_cmp m n) (service_cmp s t) h), same_service s t (second_equal (nat_cmp m n) (service_cmp s t) h)) refl

then_less : (o p : Ordering) → ordering_then o p ≡ Less → (o ≡ Less) ⊎ ((o ≡ Equal) × (p ≡ Less))
then_less Less p h = inl refl
then_less Equal p h = inr (refl, h)
then_less Greater p h = absurd (false≢true (ap is_lt h))

less_numbers : (m n : ℕ) → nat_cmp m n ≡ Less → m < n
less_numbers m n h = ranked m n Less (sym h)

-- of two blocks in order the second is of no earlier section, and in one section begins no earlier
pub section_le : (a b : SectionBlock) → key_cmp (key a) (key b) ≡ Less → a.section ≤ b.section
section_le a b h =
    elim (then_less (nat_cmp a.section b.section) (service_cmp (service_of a.block) (service_of b.block)) h) [
      | inl l ↦ omega (arith, less_numbers a.section b.section l)
      | inr e ↦ omega (arith, same_numbers a.section b.section e.0)
    ]

pub service_less : (a b : SectionBlock) → key_cmp (key a) (key b) ≡ Less → a.section ≡ b.section → service_cmp (service_of a.block) (service_of b.block) ≡ Less
service_less a b h s =
    elim (then_less (nat_cmp a.section b.section) (service_cmp (service_of a.block) (service_of b.block)) h) [
      | inl l ↦ absurd (omega (arith, less_numbers a.section b.section l, s))
      | inr e ↦ e.1
    ]

since_le_of : (m n : ℕ) (p q : Option ℕ) → service_cmp (m, p) (n, q) ≡ Less → m ≤ n
since_le_of m n p q h =
    elim (then_less (nat_cmp m n) _ h) [
      | inl l ↦ omega (arith, less_numbers m n l)
      | inr e ↦ omega (arith, same_numbers m n e.0)
    ]

pub since_le : (a b : SectionBlock) → key_cmp (key a) (key b) ≡ Less → a.section ≡ b.section → a.block.since ≤ b.block.since
since_le a b h s = since_le_of a.block.since b.block.since a.block.until b.block.until (service_less a b h s)

pub sections_rise : (bs : List SectionBlock) → AreInOrder bs → IsNonDecreasingBy (λ b. b.section) bs
sections_rise bs h i j d l m =
    elim (cases_lt i j) [
      | inl lt ↦ section_le (get_or bs i d) (get_or bs j d) (h i j d lt m)
      | inr ge ↦ let e : i ≡ j = omega arith in omega (arith, ap (λ (k : ℕ). (get_or bs k d).section) e)
    ]

-- a binary search may look for any key
reversed_less : (o p : Ordering) → o ≡ ordering_reverse p → p ≡ Less → is_lt o ≡ false
reversed_less o p e l = rw (e, l) refl

pub searchable : (bs : List SectionBlock) (q : ℕ × (ℕ × Option ℕ)) → AreInOrder bs → IsNonDecreasingBy (λ b. ordering_index (key_cmp (key b) q)) bs
searchable bs q h =
    searchable_from_sorted keys_total key bs q (λ k d lo hi. reversed_less _ _ (keys_total.antisymm (key (get_or bs (k + 1) d)) (key (get_or bs k d))) (h k (k + 1) d (omega arith) hi))

earlier : (m n s p q x : ℕ) → m ≤ n → (m ≡ n → p ≤ q) → (nat_lt n s || n == s && nat_lt q x) ≡ true → (nat_lt m s || m == s && nat_lt p x) ≡ true
earlier m n s p q x l e h =
    elim (cases_lt m n) [
      | inl lt ↦ grind (arith, nat_tests)
      | inr ge ↦ let same : m ≡ n = omega arith in let le = e same in grind (arith, nat_tests)
    ]

pub begun_parts : (s x : ℕ) (bs : List SectionBlock) → AreInOrder bs → IsPartitionedBy (begins_before s x) bs
begun_parts s x bs h i j d l m y =
    elim (cases_lt i j) [
      | inl lt ↦
          let less = h i j d lt m in
          earlier (get_or bs i d).section (get_or bs j d).section s (get_or bs i d).block.since (get_or bs j d).block.since x (section_le (get_or bs i d) (get_or bs j d) less) (λ e. since_le (get_or bs i d) (get_or bs j d) less e) y
      | inr ge ↦ let e : i ≡ j = omega arith in ap (λ (k : ℕ). begins_before s x (get_or bs k d)) e ∙ y
    ]

pub less_is : (a b : ℕ) → nat_lt a b ≡ true → a < b
less_is a b h = grind (arith, nat_tests)

pub not_less : (a b : ℕ) → nat_lt a b ≡ false → b ≤ a
not_less a b h = grind (arith, nat_tests)

pub le_is : (a b : ℕ) → nat_le a b ≡ true → a ≤ b
le_is a b h = grind (arith, nat_tests)

pub not_le : (a b : ℕ) → nat_le a b ≡ false → b < a
not_le a b h = grind (arith, nat_tests)

-- what a search for a key answers
pub record IsPlaceOf (q : ℕ × (ℕ × Option ℕ)) (bs : List SectionBlock) (r : Result ℕ ℕ) : Type 0 where
  pub found : IfOk r (λ p. p < length bs)
  pub same : IfOk r (λ p. (d : SectionBlock) → key (get_or bs p d) ≡ q)
  pub bound : IfErr r (λ p. p ≤ length bs)
  pub below : IfErr r (λ p. AllWithin (λ b. key_cmp (key b) q ≡ Less) bs 0 p)
  pub above : IfErr r (λ p. AllWithin (λ b. key_cmp (key b) q ≡ Greater) bs p (length bs))

pub keyed_search : (q : ℕ × (ℕ × Option ℕ)) (bs : List SectionBlock) (r : Result ℕ ℕ) → AreInOrder bs → IsSearchInRange r (length bs) → IsBinarySearchResult (λ b. key_cmp (key b) q) bs r → IsPlaceOf q bs r
keyed_search q bs (Ok p) h range here = record {
  found = range;
  same = λ d. same_key (key (get_or bs p d)) q (here d);
  bound = tt;
  below = tt;
  above = tt;
}
keyed_search q bs (Err p) h range parted =
    let parts = parted (searchable bs q h) in
    record {
      found = tt;
      same = tt;
      bound = range;
      below = parts.0;
      above = parts.1;
    }
