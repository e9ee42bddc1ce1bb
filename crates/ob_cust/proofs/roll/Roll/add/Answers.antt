use Rattle.std.proofs.Common.{◌≡◌, ◌<◌, ◌%◌, ℕ, List, None, true, false, not, is_ok, length, ap, subst, ◌∙◌, sym, arith}
use Rattle.std.specs.List.{insert}
use Rattle.std.proofs.lemmas.List.Edits.{length-insert}
use Rattle.ob_cust.specs.declared.Customer.{Customer}
use Rattle.ob_cust.specs.declared.shelf.Shelf.{Shelf}
use Rattle.ob_cust.specs.Roll.{IsRoll, RollState, connect_refusal, with_customer, has_number}
use Rattle.ob_cust.specs.Shelves.{IsShelfOf}
use Rattle.ob_cust.proofs.Rolls.{IsRoll-with_customer, with_customer_is, smaller, unrefused}
use Rattle.ob_cust.proofs.Shelved.{few_customers, few_ends, shelves_with}
use Rattle.ob_cust.proofs.roll.Roll.add.Goals.{After-customer-1}
use Rattle.ob_cust.proofs.roll.Roll.add.Goals as goal

-- where the new customer is inserted is its place
inserted : (customer : Customer) (customers customers' : List Customer) (place : ℕ) → IsRoll customers → has_number customers customer.«no» ≡ false → place ≡ smaller customer.«no» customers → customers' ≡ insert customers place customer → customers' ≡ with_customer customer customers
inserted customer customers customers' place roll new at is =
    is ∙ ap (λ (k : ℕ). insert customers k customer) at ∙ sym (with_customer_is customer customers roll.rising new)

pub returns-clause-customers : goal.returns-clause-customers
returns-clause-customers c =
    let own = unrefused c.self.inside.customers.items c.args.customer (subst (λ (v : RollState). connect_refusal v.customers c.args.customer ≡ None) (sym c.self.view_is) c.requires.free) in
    let done : is_ok c.insert.result ≡ true = c.is_err.ensures.negation ∙ ap not c.if-is_err.false in
    rw (← c.self.view_is)
    (inserted c.args.customer c.self.inside.customers.items c.insert.new.self.items c.place_in-place.result c.self.invariant.0 own.0
    ((rw c.deref.ensures.value at c.place_in-place.ensures.new) own.0)
    (rw done at c.insert.ensures.items))

-- the shelf that the customer is added to
here : (c : After-customer-1) → IsShelfOf (length c.self.inside.shelves.items) c.shelf_of-shelf.result c.self.inside.room c.self.inside.customers.items c.index_mut.result.now
here c =
    subst (λ (s : Shelf). IsShelfOf (length c.self.inside.shelves.items) c.shelf_of-shelf.result c.self.inside.room c.self.inside.customers.items s) (sym c.index_mut.ensures.value)
    (c.self.invariant.1.each c.shelf_of-shelf.result c.index_mut.result.now (omega (arith, c.shelf_of-shelf.ensures.within, c.len.ensures, c.self.inside.shelves.ok.0)))

pub add-requires-clause-ends : goal.add-requires-clause-ends
add-requires-clause-ends c = few_ends (length c.self.inside.shelves.items) c.shelf_of-shelf.result c.self.inside.room c.self.inside.customers.items c.index_mut.result.now (here c)

pub add-requires-clause-few : goal.add-requires-clause-few
add-requires-clause-few c =
    let own = unrefused c.self.inside.customers.items c.args.customer (subst (λ (v : RollState). connect_refusal v.customers c.args.customer ≡ None) (sym c.self.view_is) c.requires.free) in
    omega (arith, few_customers (length c.self.inside.shelves.items) c.shelf_of-shelf.result c.self.inside.room c.self.inside.customers.items c.index_mut.result.now (here c), c.self.invariant.0.few, own.2)

pub invariant_of-self : goal.invariant_of-self
invariant_of-self c =
    let cs : List Customer = c.self.inside.customers.items in
    let ss : List Shelf = c.self.inside.shelves.items in
    let own = unrefused c.self.inside.customers.items c.args.customer (subst (λ (v : RollState). connect_refusal v.customers c.args.customer ≡ None) (sym c.self.view_is) c.requires.free) in
    let done : is_ok c.insert.result ≡ true = c.is_err.ensures.negation ∙ ap not c.if-is_err.false in
    let items : c.insert.new.self.items ≡ insert cs c.place_in-place.result c.args.customer = rw done at c.insert.ensures.items in
    let is : c.insert.new.self.items ≡ with_customer c.args.customer cs = inserted c.args.customer cs c.insert.new.self.items c.place_in-place.result c.self.invariant.0 own.0
    ((rw c.deref.ensures.value at c.place_in-place.ensures.new) own.0) items in
    let n : c.len.result ≡ length ss = c.len.ensures ∙ c.self.inside.shelves.ok.0 in
    let room : 0 < c.self.inside.room = subst (λ (v : RollState). 0 < v.room) (sym c.self.view_is) c.requires.room in
    let within = rw c.deref.ensures.value at c.place_in-place.ensures.bound in (
      rw is (IsRoll-with_customer c.args.customer cs c.self.invariant.0 own.0 own.1 own.2),
      rw items (shelves_with cs c.self.inside.room c.place_in-place.result c.shelf_of-shelf.result c.args.customer ss c.index_mut.result.now c.add.new.self c.self.invariant.1 within
          (omega (arith, c.shelf_of-shelf.ensures.within, n))
          (c.shelf_of-shelf.ensures.is ∙ ap (λ (k : ℕ). c.args.customer.section % k) n) room c.index_mut.ensures.value
          (record { services = c.add.ensures.services; ends = c.add.ensures.ends; customers = c.add.ensures.customers; capacity = c.add.ensures.capacity; capacity_of_ends = c.add.ensures.capacity_of_ends })),
      rw items (omega (arith, length-insert cs c.place_in-place.result c.args.customer within, c.self.invariant.2, c.insert.ensures.capacity, room)),
    )
