use Rattle.ob_total.proofs.world.World.count.Goals as goal

pub returns-clause-total : goal.returns-clause-total
returns-clause-total c = rw (← c.self.view_is) (rw c.customers-customers.ensures.customers at c.count_seconds.ensures.total)
