-- What a state keeps to stays where one of its parts changes.
use Rattle.std.proofs.Common.{◌≡◌, refl, ap, ℕ, ◌<◌, List, [], ◌∷◌, IsSome, Option, length, map, get_or, zero, suc, arith, nat_lt, ◌==◌, cond, Bool, true, false}
use Rattle.std.specs.List.{All}
use Rattle.std.proofs.lemmas.List.Elements.{All-map, All-cons}
use Rattle.ob_net.specs.declared.net.Node.{Node}
use Rattle.ob_base.specs.declared.life.Life.{Life}
use Rattle.ob_net.specs.declared.net.Device.{Device}
use Rattle.ob_net.specs.Network.{Network, home_feeder, with_life, with_life_at}
use Rattle.ob_cust.specs.declared.Customer.{Customer}
use Rattle.ob_cust.specs.Roll.{revised, with_customer, with_service}
use Rattle.ob_state.specs.State.{BookState}
use Rattle.ob_state.specs.States.{IsBookState}

within : (nodes : List Node) (v : ℕ) → IsSome (home_feeder (record { nodes = nodes; devices = [] }) v) → v < length nodes
within [] v h = cc
within (x ∷ xs) zero h = omega arith
within (x ∷ xs) (suc v) h = let l = within xs v h in omega (arith, l)

-- a section is a node of the network
pub section_within : (net : Network) (v : ℕ) → IsSome (home_feeder net v) → v < length net.nodes
section_within net v h = within net.nodes v h

rest_of : {X : Type 0} (P : X → Type 0) (x : X) (xs : List X) → All P (x ∷ xs) → All P xs
rest_of P x xs h = λ k d l. h (suc k) d (omega (arith, l))

placed : (P : Customer → Type 0) (c d : Customer) (ds rest : List Customer) (b : Bool) → P c → All P (d ∷ ds) → All P rest → All P (cond b (c ∷ d ∷ ds) (d ∷ rest))
placed P c d ds rest true p h r = All-cons P c (d ∷ ds) p h
placed P c d ds rest false p h r = All-cons P d rest (h 0 d (omega arith)) r

-- what holds of a customer and of a roll holds of the roll with the customer
pub All-with_customer : (P : Customer → Type 0) (c : Customer) (ds : List Customer) → P c → All P ds → All P (with_customer c ds)
All-with_customer P c [] p h = All-cons P c [] p h
All-with_customer P c (d ∷ ds) p h =
    placed P c d ds (with_customer c ds) (nat_lt c.no d.no) p h (All-with_customer P c ds p (rest_of P d ds h))

chosen : {X : Type 0} (P : X → Type 0) (x y : X) (b : Bool) → P x → P y → P (cond b x y)
chosen P x y true p q = p
chosen P x y false p q = q

-- what holds of elements, changed and unchanged, holds where some are changed
pub All-change_where : {X : Type 0} (P : X → Type 0) (test : X → Bool) (f : X → X) (xs : List X) → All (λ x. P (f x)) xs → All P xs → All P (map (λ x. cond (test x) (f x) x) xs)
All-change_where P test f xs h g =
    All-map P (λ x. cond (test x) (f x) x) xs (λ k d l. chosen P (f (get_or xs k d)) (get_or xs k d) (test (get_or xs k d)) (h k d l) (g k d l))

with_roll : (b : BookState) (customers : List Customer) → IsBookState b → All (λ c. IsSome (home_feeder b.network c.section)) customers → IsBookState (record b { customers = customers })
with_roll b customers h s = record {
  sections = s;
  devices = h.devices;
  between = h.between;
  entry_causes = h.entry_causes;
  few_entries = h.few_entries;
  causes = h.causes;
  marks = h.marks;
  few = h.few;
}

-- a state keeps to its rules where a customer of a section is connected
pub connected_is : (b : BookState) (customer : Customer) → IsBookState b → IsSome (home_feeder b.network customer.section) → IsBookState (record b { customers = with_customer customer b.customers })
connected_is b customer h s =
    with_roll b _ h (All-with_customer (λ c. IsSome (home_feeder b.network c.section)) customer b.customers s h.sections)

-- and where a customer gets another service
pub revised_is : (b : BookState) (number since : ℕ) (until : Option ℕ) → IsBookState b → IsBookState (record b { customers = with_service number since until b.customers })
revised_is b number since until h =
    with_roll b _ h (All-change_where (λ c. IsSome (home_feeder b.network c.section)) (λ c. c.no == number) (revised since until) b.customers h.sections h.sections)

-- another life leaves the number of devices
pub count_lived : (ds : List Device) (k : ℕ) (life : Life) → length (with_life_at ds k life) ≡ length ds
count_lived [] k life = refl
count_lived (d ∷ ds) zero life = refl
count_lived (d ∷ ds) (suc k) life = ap suc (count_lived ds k life)

-- and where a device has another life
pub lived_is : (b : BookState) (device : ℕ) (life : Life) → IsBookState b → IsBookState (record b { network = with_life b.network device life })
lived_is b device life h = record {
  sections = h.sections;
  devices = rw (count_lived b.network.devices device life) h.devices;
  between = h.between;
  entry_causes = h.entry_causes;
  few_entries = h.few_entries;
  causes = h.causes;
  marks = h.marks;
  few = h.few;
}
