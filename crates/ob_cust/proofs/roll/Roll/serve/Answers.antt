use Rattle.std.proofs.Common.{◌≡◌, ◌==◌, ◌<◌, ◌+◌, ◌%◌, ℕ, List, Some, true, is_some, length, get_or, set, slice_get, sym, subst, ap, ◌∙◌, arith}
use Rattle.std.specs.List.{find}
use Rattle.std.proofs.lemmas.List.{get_or_default, length-set}
use Rattle.std.proofs.lemmas.Option.{get_or_from_slice_get}
use Rattle.ob_cust.specs.declared.Customer.{Customer}
use Rattle.ob_cust.specs.declared.shelf.Shelf.{Shelf}
use Rattle.ob_cust.specs.Roll.{RollState, has_number}
use Rattle.ob_cust.specs.Services.{customers_of}
use Rattle.ob_cust.specs.Shelves.{IsShelfOf, at_end}
use Rattle.ob_cust.proofs.Revised.{serviced, IsRoll-set}
use Rattle.ob_cust.proofs.Searched.{has_found}
use Rattle.ob_cust.proofs.Shelved.{by_end, by_service, counted_here, ends_fit, few_customers, one, shelves_changed}
use Rattle.ob_cust.proofs.roll.Roll.serve.Goals.{After-new-1}
use Rattle.ob_cust.proofs.roll.Roll.serve.Goals as goal

-- where the customer stands
record Stands (cs : List Customer) (place : ℕ) (old : Customer) : Type 0 where
  within : place < length cs
  found : slice_get cs place ≡ find (λ d. d.«no» == old.«no») cs
  is : old ≡ get_or cs place old

standing : (cs : List Customer) (place : ℕ) (old : Customer) → find (λ d. d.«no» == old.«no») cs ≡ Some old → (has_number cs old.«no» ≡ true → slice_get cs place ≡ find (λ d. d.«no» == old.«no») cs) → (has_number cs old.«no» ≡ true → place < length cs) → Stands cs place old
standing cs place old on found within =
    let known : has_number cs old.«no» ≡ true = has_found old.«no» cs ∙ ap is_some on in
    record { within = within known; found = found known; is = sym (get_or_from_slice_get cs place old old (found known ∙ on)) }

-- the shelf that the customer is on
here : (c : After-new-1) → IsShelfOf (length c.self.inside.shelves.items) c.shelf_of-shelf.result c.self.inside.room c.self.inside.customers.items c.index_mut.result.now
here c =
    subst (λ (s : Shelf). IsShelfOf (length c.self.inside.shelves.items) c.shelf_of-shelf.result c.self.inside.room c.self.inside.customers.items s) (sym c.index_mut.ensures.value)
    (c.self.invariant.1.each c.shelf_of-shelf.result c.index_mut.result.now (omega (arith, c.shelf_of-shelf.ensures.within, c.len.ensures, c.self.inside.shelves.ok.0)))

pub revise-requires-clause-few : goal.revise-requires-clause-few
revise-requires-clause-few c =
    omega (arith, few_customers (length c.self.inside.shelves.items) c.shelf_of-shelf.result c.self.inside.room c.self.inside.customers.items c.index_mut.result.now (here c), (here c).counted, c.self.invariant.0.few)

section_here : (c : After-new-1) → c.args.old.section % length c.self.inside.shelves.items ≡ c.shelf_of-shelf.result
section_here c = sym (c.shelf_of-shelf.ensures.is ∙ ap (λ (k : ℕ). c.args.old.section % k) (c.len.ensures ∙ c.self.inside.shelves.ok.0))

pub revise-requires-clause-there : goal.revise-requires-clause-there
revise-requires-clause-there c f =
    let cs : List Customer = c.self.inside.customers.items in
    let old : Customer = c.args.old in
    let on : find (λ d. d.«no» == old.«no») cs ≡ Some old = subst (λ (v : RollState). find (λ d. d.«no» == old.«no») v.customers ≡ Some old) (sym c.self.view_is) c.requires.on in
    let at = standing cs c.place_in-place.result old on (rw c.deref.ensures.value at c.place_in-place.ensures.known) (rw c.deref.ensures.value at c.place_in-place.ensures.within) in
    omega (arith, (here c).services f, counted_here (length c.self.inside.shelves.items) c.shelf_of-shelf.result c.place_in-place.result (by_service f) old cs at.within at.is (section_here c))

pub revise-requires-clause-there_end : goal.revise-requires-clause-there_end
revise-requires-clause-there_end c f =
    let cs : List Customer = c.self.inside.customers.items in
    let old : Customer = c.args.old in
    let on : find (λ d. d.«no» == old.«no») cs ≡ Some old = subst (λ (v : RollState). find (λ d. d.«no» == old.«no») v.customers ≡ Some old) (sym c.self.view_is) c.requires.on in
    let at = standing cs c.place_in-place.result old on (rw c.deref.ensures.value at c.place_in-place.ensures.known) (rw c.deref.ensures.value at c.place_in-place.ensures.within) in
    omega (arith, (here c).ends f, counted_here (length c.self.inside.shelves.items) c.shelf_of-shelf.result c.place_in-place.result (by_end f) old cs at.within at.is (section_here c))

-- an end that the customer gives up leaves room for another
fit : (c : After-new-1) → customers_of c.index_mut.result.now.ends.blocks < c.index_mut.result.now.customers + at_end one c.args.old.section c.args.old.until
fit c =
    let cs : List Customer = c.self.inside.customers.items in
    let old : Customer = c.args.old in
    let on : find (λ d. d.«no» == old.«no») cs ≡ Some old = subst (λ (v : RollState). find (λ d. d.«no» == old.«no») v.customers ≡ Some old) (sym c.self.view_is) c.requires.on in
    let at = standing cs c.place_in-place.result old on (rw c.deref.ensures.value at c.place_in-place.ensures.known) (rw c.deref.ensures.value at c.place_in-place.ensures.within) in
    ends_fit (length c.self.inside.shelves.items) c.shelf_of-shelf.result c.self.inside.room c.place_in-place.result old cs c.index_mut.result.now at.within at.is (section_here c) (here c)

pub revise-requires-clause-room_of_ends : goal.revise-requires-clause-room_of_ends
revise-requires-clause-room_of_ends c = omega (arith, fit c, (here c).room_of_ends)

pub revise-requires-clause-few_ends : goal.revise-requires-clause-few_ends
revise-requires-clause-few_ends c =
    omega (arith, fit c, few_customers (length c.self.inside.shelves.items) c.shelf_of-shelf.result c.self.inside.room c.self.inside.customers.items c.index_mut.result.now (here c), c.self.invariant.0.few)

pub index_mut-requires-2 : goal.index_mut-requires-2
index_mut-requires-2 c =
    let cs : List Customer = c.self.inside.customers.items in
    let old : Customer = c.args.old in
    let on : find (λ d. d.«no» == old.«no») cs ≡ Some old = subst (λ (v : RollState). find (λ d. d.«no» == old.«no») v.customers ≡ Some old) (sym c.self.view_is) c.requires.on in
    let at = standing cs c.place_in-place.result old on (rw c.deref.ensures.value at c.place_in-place.ensures.known) (rw c.deref.ensures.value at c.place_in-place.ensures.within) in
    omega (arith, at.within, c.self.inside.customers.ok.0)

pub invariant_of-self : goal.invariant_of-self
invariant_of-self c =
    let cs : List Customer = c.self.inside.customers.items in
    let old : Customer = c.args.old in
    let on : find (λ d. d.«no» == old.«no») cs ≡ Some old = subst (λ (v : RollState). find (λ d. d.«no» == old.«no») v.customers ≡ Some old) (sym c.self.view_is) c.requires.on in
    let at = standing cs c.place_in-place.result old on (rw c.deref.ensures.value at c.place_in-place.ensures.known) (rw c.deref.ensures.value at c.place_in-place.ensures.within) in
    let ss : List Shelf = c.self.inside.shelves.items in
    let new : Customer = c.args.new in
    let place : ℕ = c.place_in-place.result in
    let number = ap (λ (d : Customer). d.«no») (c.requires.new) ∙ ap (λ (d : Customer). d.«no») (at.is ∙ get_or_default cs place old new at.within) in
    let n : c.len.result ≡ length ss = c.len.ensures ∙ c.self.inside.shelves.ok.0 in (
      IsRoll-set cs place new c.self.invariant.0 at.within number c.requires.service,
      shelves_changed cs c.self.inside.room place c.shelf_of-shelf.result old new ss c.index_mut.result.now c.revise.new.self c.self.invariant.1 at.within at.is (ap (λ (d : Customer). d.section) c.requires.new)
          (omega (arith, c.shelf_of-shelf.ensures.within, n))
          (c.shelf_of-shelf.ensures.is ∙ ap (λ (k : ℕ). old.section % k) n) c.index_mut.ensures.value
          (record { services = c.revise.ensures.services; ends = c.revise.ensures.ends; customers = c.revise.ensures.customers; capacity = c.revise.ensures.capacity; capacity_of_ends = c.revise.ensures.capacity_of_ends }),
      omega (arith, length-set cs place new, c.self.invariant.2),
    )

pub returns-clause-customers : goal.returns-clause-customers
returns-clause-customers c =
    let cs : List Customer = c.self.inside.customers.items in
    let old : Customer = c.args.old in
    let on : find (λ d. d.«no» == old.«no») cs ≡ Some old = subst (λ (v : RollState). find (λ d. d.«no» == old.«no») v.customers ≡ Some old) (sym c.self.view_is) c.requires.on in
    let at = standing cs c.place_in-place.result old on (rw c.deref.ensures.value at c.place_in-place.ensures.known) (rw c.deref.ensures.value at c.place_in-place.ensures.within) in
    rw (← c.self.view_is)
    (ap (λ (d : Customer). set cs c.place_in-place.result d) c.requires.new
    ∙ serviced old.«no» c.args.new.since c.args.new.until cs c.place_in-place.result old c.self.invariant.0.rising at.within at.found at.is)
