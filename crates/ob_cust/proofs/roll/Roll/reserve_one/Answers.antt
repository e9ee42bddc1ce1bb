use Rattle.ob_cust.proofs.Shelved.{few_on_shelves}
use Rattle.ob_cust.proofs.roll.Roll.reserve_one.Goals as goal

pub reserve_each-requires : goal.reserve_each-requires
reserve_each-requires c =
    let ss = c.make_shelves.new.shelves.items in
    let shelves = c.in_ok-make_shelves.ensures.shelves c.self.inside.customers.items c.self.inside.room c.self.invariant.1 in
    record { few = rw c.deref_mut.ensures.value (few_on_shelves c.self.inside.customers.items c.self.inside.room ss shelves c.self.invariant.0.few) }
