-- Shelves where a customer is added or gets another service, and shelves with more room.
use Rattle.std.proofs.Common.{◌≡◌, ◌≢◌, ℕ, ◌+◌, ◌-◌, ◌%◌, ◌<◌, ◌≤◌, ◌==◌, Bool, true, false, List, [], Option, Some, None, length, get_or, set, cond, refl, sym, subst, ap, ◌∙◌, arith, inl, inr}
use Rattle.std.specs.List.{All, insert, remove, sum_by}
use Rattle.std.proofs.lemmas.Bool.{cases_eq, cases_lt}
use Rattle.std.proofs.lemmas.Bool.Decides.{nat_tests}
use Rattle.std.proofs.lemmas.List.{length-set, get_or-set_same, get_or-set_other, nil_from_length}
use Rattle.std.proofs.lemmas.List.Sums.{sum_by-le, sum_by-le-sum_by, sum_by-insert, sum_by-set, sum_by-remove}
use Rattle.ob_cust.specs.declared.Customer.{Customer}
use Rattle.ob_cust.specs.declared.shelf.Shelf.{Shelf}
use Rattle.ob_cust.specs.Services.{sum_of, customers_of}
use Rattle.ob_cust.specs.Shelves.{at_end, IsShelfOf, AreShelves}
use Rattle.ob_cust.proofs.Running.{same, apart}

-- a number for a customer that is on shelf k of n
abbrev pub on_shelf : ℕ → ℕ → (Customer → ℕ) → Customer → ℕ
on_shelf n k f c = cond (c.section % n == k) (f c) 0

pub on_it : (n k : ℕ) (f : Customer → ℕ) (c : Customer) → c.section % n ≡ k → on_shelf n k f c ≡ f c
on_it n k f c e = rw (same (c.section % n) k e) refl

pub off_it : (n k : ℕ) (f : Customer → ℕ) (c : Customer) → c.section % n ≢ k → on_shelf n k f c ≡ 0
off_it n k f c ne = rw (apart (c.section % n) k ne) refl

abbrev pub by_service : (ℕ → ℕ → Option ℕ → ℕ) → Customer → ℕ
by_service f c = f c.section c.since c.until

abbrev pub by_end : (ℕ → ℕ → Option ℕ → ℕ) → Customer → ℕ
by_end f c = at_end f c.section c.until

abbrev pub one : ℕ → ℕ → Option ℕ → ℕ
one section since until = 1

-- how many there are
one_end : (section : ℕ) (until : Option ℕ) → at_end one section until ≤ 1
one_end section None = omega arith
one_end section (Some u) = omega arith

cond_le : (t : Bool) (m n : ℕ) → m ≤ n → cond t m 0 ≤ cond t n 0
cond_le true m n l = l
cond_le false m n l = omega arith

cond_small : (t : Bool) → cond t 1 0 ≤ 1
cond_small true = omega arith
cond_small false = omega arith

fewer_ends : (n k : ℕ) (cs : List Customer) → sum_by (on_shelf n k (by_end one)) cs ≤ sum_by (on_shelf n k (by_service one)) cs
fewer_ends n k cs =
    sum_by-le-sum_by (on_shelf n k (by_end one)) (on_shelf n k (by_service one)) cs (λ c. cond_le (c.section % n == k) (at_end one c.section c.until) 1 (one_end c.section c.until))

few_here : (n k : ℕ) (cs : List Customer) → sum_by (on_shelf n k (by_service one)) cs ≤ length cs
few_here n k cs =
    omega (arith, sum_by-le (on_shelf n k (by_service one)) 1 cs (λ i d l. cond_small ((get_or cs i d).section % n == k)))

pub few_customers : (n k room : ℕ) (cs : List Customer) (s : Shelf) → IsShelfOf n k room cs s → s.customers ≤ length cs
few_customers n k room cs s h = omega (arith, h.counted, h.services one, few_here n k cs)

pub few_ends : (n k room : ℕ) (cs : List Customer) (s : Shelf) → IsShelfOf n k room cs s → customers_of s.ends.blocks ≤ s.customers
few_ends n k room cs s h = omega (arith, h.counted, h.services one, h.ends one, fewer_ends n k cs)

-- what a customer counts is counted on its shelf
pub counted_here : (n k at : ℕ) (f : Customer → ℕ) (c : Customer) (cs : List Customer) → at < length cs → c ≡ get_or cs at c → c.section % n ≡ k → f c ≤ sum_by (on_shelf n k f) cs
counted_here n k at f c cs l is e =
    omega (arith, sum_by-remove (on_shelf n k f) cs at c l, sym (ap (on_shelf n k f) is) ∙ on_it n k f c e)

-- an end that a customer gives up leaves room for another
pub ends_fit : (n k room at : ℕ) (c : Customer) (cs : List Customer) (s : Shelf) → at < length cs → c ≡ get_or cs at c → c.section % n ≡ k → IsShelfOf n k room cs s → customers_of s.ends.blocks < s.customers + at_end one c.section c.until
ends_fit n k room at c cs s l is e h =
    let ends = sum_by-remove (on_shelf n k (by_end one)) cs at c l in
    let services = sum_by-remove (on_shelf n k (by_service one)) cs at c l in
    let a = sym (ap (on_shelf n k (by_end one)) is) ∙ on_it n k (by_end one) c e in
    let b = sym (ap (on_shelf n k (by_service one)) is) ∙ on_it n k (by_service one) c e in
    omega (arith, h.counted, h.services one, h.ends one, ends, services, a, b, fewer_ends n k (remove cs at))

-- a customer more

-- what a shelf becomes by one customer more
pub record IsWith (c : Customer) (s t : Shelf) : Type 0 where
  pub services : (f : ℕ → ℕ → Option ℕ → ℕ) → sum_of f t.services.blocks ≡ sum_of f s.services.blocks + f c.section c.since c.until
  pub ends : (f : ℕ → ℕ → Option ℕ → ℕ) → sum_of f t.ends.blocks ≡ sum_of f s.ends.blocks + at_end f c.section c.until
  pub customers : t.customers ≡ s.customers + 1
  pub capacity : t.services.capacity ≡ s.services.capacity
  pub capacity_of_ends : t.ends.capacity ≡ s.ends.capacity

with_one : (n k room at : ℕ) (c : Customer) (cs : List Customer) (s t : Shelf) → c.section % n ≡ k → 0 < room → IsShelfOf n k room cs s → IsWith c s t → IsShelfOf n k (room - 1) (insert cs at c) t
with_one n k room at c cs s t e p h w = record {
  services = λ f. omega (arith, h.services f, w.services f, sum_by-insert (on_shelf n k (by_service f)) cs at c, on_it n k (by_service f) c e);
  ends = λ f. omega (arith, h.ends f, w.ends f, sum_by-insert (on_shelf n k (by_end f)) cs at c, on_it n k (by_end f) c e);
  counted = omega (arith, h.counted, w.customers, w.services one);
  room_of_services = omega (arith, h.room_of_services, w.customers, w.capacity);
  room_of_ends = omega (arith, h.room_of_ends, w.customers, w.capacity_of_ends);
}

without_it : (n k room at : ℕ) (c : Customer) (cs : List Customer) (s : Shelf) → c.section % n ≢ k → IsShelfOf n k room cs s → IsShelfOf n k (room - 1) (insert cs at c) s
without_it n k room at c cs s ne h = record {
  services = λ f. omega (arith, h.services f, sum_by-insert (on_shelf n k (by_service f)) cs at c, off_it n k (by_service f) c ne);
  ends = λ f. omega (arith, h.ends f, sum_by-insert (on_shelf n k (by_end f)) cs at c, off_it n k (by_end f) c ne);
  counted = h.counted;
  room_of_services = omega (arith, h.room_of_services);
  room_of_ends = omega (arith, h.room_of_ends);
}

pub shelves_with : (cs : List Customer) (room at k : ℕ) (c : Customer) (ss : List Shelf) (s t : Shelf) → AreShelves cs room ss → at ≤ length cs → k < length ss → k ≡ c.section % length ss → 0 < room → s ≡ get_or ss k s → IsWith c s t → AreShelves (insert cs at c) (room - 1) (set ss k t)
shelves_with cs room at k c ss s t h l m e p is w =
    let n = length-set ss k t in
    record {
      some = λ q. omega (arith, m);
      each = λ j d o. rw n (elim (cases_eq j k) [
        | inl q ↦ rw (q, get_or-set_same ss k t d m) (with_one (length ss) k room at c cs s t (sym e) p (subst (λ (r : Shelf). IsShelfOf (length ss) k room cs r) (sym is) (h.each k s m)) w)
        | inr ne ↦ rw (get_or-set_other ss k j t d ne) (without_it (length ss) j room at c cs (get_or ss j d) (λ r. ne (sym r ∙ sym e)) (h.each j d (omega arith)))
      ]);
    }

-- another service of a customer

pub record IsChanged (old new : Customer) (s t : Shelf) : Type 0 where
  pub services : (f : ℕ → ℕ → Option ℕ → ℕ) → sum_of f t.services.blocks + f old.section old.since old.until ≡ sum_of f s.services.blocks + f new.section new.since new.until
  pub ends : (f : ℕ → ℕ → Option ℕ → ℕ) → sum_of f t.ends.blocks + at_end f old.section old.until ≡ sum_of f s.ends.blocks + at_end f new.section new.until
  pub customers : t.customers ≡ s.customers
  pub capacity : t.services.capacity ≡ s.services.capacity
  pub capacity_of_ends : t.ends.capacity ≡ s.ends.capacity

changed_sum : (w : Customer → ℕ) (cs : List Customer) (at : ℕ) (old new : Customer) → at < length cs → old ≡ get_or cs at old → sum_by w (set cs at new) + w old ≡ sum_by w cs + w new
changed_sum w cs at old new l is = omega (arith, sum_by-set w cs at new old l, ap w is)

with_change : (n k room at : ℕ) (old new : Customer) (cs : List Customer) (s t : Shelf) → at < length cs → old ≡ get_or cs at old → old.section % n ≡ k → new.section % n ≡ k → IsShelfOf n k room cs s → IsChanged old new s t → IsShelfOf n k room (set cs at new) t
with_change n k room at old new cs s t l is e g h w = record {
  services = λ f. omega (arith, h.services f, w.services f, changed_sum (on_shelf n k (by_service f)) cs at old new l is, on_it n k (by_service f) old e, on_it n k (by_service f) new g);
  ends = λ f. omega (arith, h.ends f, w.ends f, changed_sum (on_shelf n k (by_end f)) cs at old new l is, on_it n k (by_end f) old e, on_it n k (by_end f) new g);
  counted = omega (arith, h.counted, w.customers, w.services one);
  room_of_services = omega (arith, h.room_of_services, w.customers, w.capacity);
  room_of_ends = omega (arith, h.room_of_ends, w.customers, w.capacity_of_ends);
}

without_change : (n k room at : ℕ) (old new : Customer) (cs : List Customer) (s : Shelf) → at < length cs → old ≡ get_or cs at old → old.section % n ≢ k → new.section % n ≢ k → IsShelfOf n k room cs s → IsShelfOf n k room (set cs at new) s
without_change n k room at old new cs s l is e g h = record {
  services = λ f. omega (arith, h.services f, changed_sum (on_shelf n k (by_service f)) cs at old new l is, off_it n k (by_service f) old e, off_it n k (by_service f) new g);
  ends = λ f. omega (arith, h.ends f, changed_sum (on_shelf n k (by_end f)) cs at old new l is, off_it n k (by_end f) old e, off_it n k (by_end f) new g);
  counted = h.counted;
  room_of_services = h.room_of_services;
  room_of_ends = h.room_of_ends;
}

pub shelves_changed : (cs : List Customer) (room at k : ℕ) (old new : Customer) (ss : List Shelf) (s t : Shelf) → AreShelves cs room ss → at < length cs → old ≡ get_or cs at old → new.section ≡ old.section → k < length ss → k ≡ old.section % length ss → s ≡ get_or ss k s → IsChanged old new s t → AreShelves (set cs at new) room (set ss k t)
shelves_changed cs room at k old new ss s t h l there section m e is w =
    let n = length-set ss k t in
    let g : k ≡ new.section % length ss = e ∙ ap (λ (i : ℕ). i % length ss) (sym section) in
    record {
      some = λ q. omega (arith, m);
      each = λ j d o. rw n (elim (cases_eq j k) [
        | inl q ↦ rw (q, get_or-set_same ss k t d m) (with_change (length ss) k room at old new cs s t l there (sym e) (sym g) (subst (λ (r : Shelf). IsShelfOf (length ss) k room cs r) (sym is) (h.each k s m)) w)
        | inr ne ↦ rw (get_or-set_other ss k j t d ne) (without_change (length ss) j room at old new cs (get_or ss j d) l there (λ r. ne (sym r ∙ sym e)) (λ r. ne (sym r ∙ sym g)) (h.each j d (omega arith)))
      ]);
    }

pub few_on_shelves : (cs : List Customer) (room : ℕ) (ss : List Shelf) → AreShelves cs room ss → length cs ≤ 100000 → All (λ s. s.customers ≤ 100000) ss
few_on_shelves cs room ss h few k d l = omega (arith, few_customers (length ss) k room cs (get_or ss k d) (h.each k d l))

-- without shelves there is no customer
is_zero : (n : ℕ) → (n == 0) ≡ true → n ≡ 0
is_zero n h = grind (arith, nat_tests)

pub nobody : (cs : List Customer) (room n : ℕ) (ss : List Shelf) → AreShelves cs room ss → n ≡ length ss → (n == 0) ≡ true → cs ≡ []
nobody cs room n ss h e none =
    nil_from_length cs (elim (cases_lt 0 (length cs)) [
      | inl lt ↦ absurd (omega (arith, h.some (omega arith), e, is_zero n none))
      | inr ge ↦ omega arith
    ])

-- the shelf of a section
pub shelf_is : (section m k room : ℕ) (cs : List Customer) (ss : List Shelf) (s : Shelf) → AreShelves cs room ss → m ≡ length ss → k < m → k ≡ section % m → s ≡ get_or ss k s → IsShelfOf (length ss) (section % length ss) room cs s
shelf_is section m k room cs ss s h e l is there =
    subst (λ (j : ℕ). IsShelfOf (length ss) j room cs s) (is ∙ ap (λ (i : ℕ). section % i) e)
    (subst (λ (t : Shelf). IsShelfOf (length ss) k room cs t) (sym there) (h.each k s (omega arith)))
