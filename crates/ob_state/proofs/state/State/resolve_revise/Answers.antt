use Rattle.ob_state.specs.contracts.state.State.{the_view}
use Rattle.ob_state.proofs.Resolving.{resolves_revise}
use Rattle.ob_state.proofs.state.State.resolve_revise.Goals as goal

pub returns-clause-resolved : goal.returns-clause-resolved
returns-clause-resolved c =
    rw (← c.self.view_is, c.second-since.ensures.value, c.end-until.ensures.value)
    (resolves_revise (the_view c.self.inside).state c.args.customer c.args.service c.in_ok-old.old (rw c.get.ensures.value at c.in_ok-old.ensures.found)
    (rw (c.second-since.ensures.value, c.end-until.ensures.value) at c.in_ok-old.ensures.service) (c.second-since.ensures.range, c.end-until.ensures.range))
