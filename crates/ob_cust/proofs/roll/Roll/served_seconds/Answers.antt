use Rattle.std.proofs.Common.{◌≡◌, ◌+◌, ℕ, List, length, sym, ap, ◌∙◌, arith}
use Rattle.ob_cust.specs.declared.Customer.{Customer}
use Rattle.ob_cust.specs.Service.{served_seconds}
use Rattle.ob_cust.proofs.Served.{none_served, ArePassed, passed_on, difference}
use Rattle.ob_cust.proofs.Shelved.{nobody, shelf_is}
use Rattle.ob_cust.proofs.roll.Roll.served_seconds.Goals.{then-b-a-via-then-b-a, then-b-a-via-else-b-a+then-is_empty}
use Rattle.ob_cust.proofs.roll.Roll.served_seconds.Goals as goal

pub returns-then-b-a : goal.returns-then-b-a
returns-then-b-a c =
    elim c.then-b-a.branch [
      | then-b-a-via-then-b-a w ↦ sym (none_served c.args.section c.args.a c.args.b c.args.self.now.customers w.if-b-a.true)
      | then-b-a-via-else-b-a+then-is_empty w ↦
          let none = nobody c.self.inside.customers.items c.self.inside.room _ c.self.inside.shelves.items c.self.invariant.1 c.self.inside.shelves.ok.0 (sym w.is_empty.ensures ∙ w.if-is_empty.true) in
          rw (← c.self.view_is) (ap (λ (cs : List Customer). served_seconds cs c.args.section c.args.a c.args.b) (sym none))
    ]

first : (c : goal.After-seconds_passed-2) (x : ℕ) → ArePassed c.args.section x c.self.inside.customers.items c.index-shelf.result.now
first c x =
    passed_on c.args.section x (length c.self.inside.shelves.items) c.self.inside.room c.self.inside.customers.items c.index-shelf.result.now c.self.invariant.0.few
    (shelf_is c.args.section c.len.result c.shelf_of.result c.self.inside.room c.self.inside.customers.items c.self.inside.shelves.items c.index-shelf.result.now c.self.invariant.1 (c.len.ensures ∙ c.self.inside.shelves.ok.0) c.shelf_of.ensures.within c.shelf_of.ensures.is c.index-shelf.ensures)

all : (c : goal.After-seconds_passed-4) (x : ℕ) → ArePassed c.args.section x c.self.inside.customers.items c.index-shelf.result.now
all c x =
    passed_on c.args.section x (length c.self.inside.shelves.items) c.self.inside.room c.self.inside.customers.items c.index-shelf.result.now c.self.invariant.0.few
    (shelf_is c.args.section c.len.result c.shelf_of.result c.self.inside.room c.self.inside.customers.items c.self.inside.shelves.items c.index-shelf.result.now c.self.invariant.1 (c.len.ensures ∙ c.self.inside.shelves.ok.0) c.shelf_of.ensures.within c.shelf_of.ensures.is c.index-shelf.ensures)

whole : (c : goal.After-seconds_passed-4) → c.seconds_passed.result + c.seconds_passed-2.result ≡ served_seconds c.self.inside.customers.items c.args.section c.args.a c.args.b + (c.seconds_passed-3.result + c.seconds_passed-4.result)
whole c =
    omega (arith, difference c.args.section c.args.a c.args.b c.self.inside.customers.items c.index-shelf.result.now (all c c.args.a) (all c c.args.b) (omega (arith, c.if-b-a.false)) c.self.invariant.0.services, c.seconds_passed.ensures, c.seconds_passed-2.ensures, c.seconds_passed-3.ensures, c.seconds_passed-4.ensures)

pub overflow_add-begun : goal.overflow_add-begun
overflow_add-begun c = omega (arith, (first c c.args.b).small, (first c c.args.a).small_ends, c.seconds_passed.ensures, c.seconds_passed-2.ensures, c.ranges.a.fits, c.ranges.b.fits)

pub overflow_add-over : goal.overflow_add-over
overflow_add-over c = omega (arith, (all c c.args.a).small, (all c c.args.b).small_ends, c.seconds_passed-3.ensures, c.seconds_passed-4.ensures, c.ranges.a.fits, c.ranges.b.fits)

pub overflow_sub-result : goal.overflow_sub-result
overflow_sub-result c = omega (arith, whole c)

pub overflow_cast-result : goal.overflow_cast-result
overflow_cast-result c = omega (arith, (all c c.args.b).small, (all c c.args.a).small_ends, c.seconds_passed.ensures, c.seconds_passed-2.ensures, c.if-b-a.false, c.requires)

pub returns : goal.returns
returns c = rw (← c.self.view_is) (omega (arith, whole c))
