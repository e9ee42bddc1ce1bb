use Rattle.ob_state.specs.contracts.state.State.{the_view}
use Rattle.ob_state.proofs.Resolving.{resolves_withdraw}
use Rattle.ob_state.proofs.state.State.resolve_withdraw.Goals as goal

pub returns-clause-resolved : goal.returns-clause-resolved
returns-clause-resolved c =
    rw (← c.self.view_is, c.saturating_add.ensures)
    (resolves_withdraw (the_view c.self.inside).state c.args.entry c.args.revision c.in_ok-old.old c.in_ok-old.ensures.numbered
    (rw c.get.ensures.value at c.in_ok-old.ensures.entry) c.in_ok-old.ensures.kept)
