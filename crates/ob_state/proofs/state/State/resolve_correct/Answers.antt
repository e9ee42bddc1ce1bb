use Rattle.std.proofs.Common.{◌≡◌, ◌<◌, length, Some}
use Rattle.ob_sheet.specs.Order.{entry_of}
use Rattle.ob_state.specs.State.{BookState}
use Rattle.ob_state.specs.contracts.state.State.{the_view}
use Rattle.ob_state.proofs.Accepted.{entry_holds}
use Rattle.ob_state.proofs.Resolving.{resolves_correct}
use Rattle.ob_state.proofs.state.State.resolve_correct.Goals as goal

pub returns-clause-resolved : goal.returns-clause-resolved
returns-clause-resolved c =
    let b : BookState = (the_view c.self.inside).state in
    let o = c.args.operation in
    let old = c.in_ok-old.old in
    let found : entry_of b.entries c.args.entry ≡ Some old = rw c.get.ensures.value at c.in_ok-old.ensures.entry in
    let inside = rw (← c.self.view_is) at c.in_ok-check_operation.ensures.inside in
    let cause = rw (← c.self.view_is) at c.in_ok-check_operation.ensures.cause in
    rw (← c.self.view_is, c.saturating_add.ensures, c.second.ensures.value, c.get-3.ensures.value)
    (resolves_correct b c.args.entry c.args.revision o old c.in_ok-old.ensures.numbered found c.in_ok-old.ensures.kept (record {
      device = entry_holds (λ e. e.device < length b.network.devices) b.entries c.args.entry old found c.self.invariant.devices;
      from = inside.0;
      before = inside.1;
      cause = cause;
      code = c.in_ok-check_operation.ensures.code;
    }))
