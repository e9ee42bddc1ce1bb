use Rattle.outagebook.proofs.period.begin.Goals as goal

pub returns-in-Init : goal.returns-in-Init
returns-in-Init g c = rw c.in-Init.is (c.look_at_period.ensures.refused, c.look_at_period.ensures.errors)
