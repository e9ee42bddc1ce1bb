use Rattle.std.proofs.Common.{◌∙◌, Err, ap, ap₂, is_some}
use Rattle.ob_net.specs.Network.{Network}
use Rattle.ob_state.specs.declared.resolved.Resolved.{Resolved}
use Rattle.ob_sql_read.specs.Layout.{network_by}
use Rattle.ob_sql_read.proofs.SameNetwork.{network_after}
use Rattle.ob_sql_read.proofs.leading.decide_noting.Goals as goal

pub returns-in-Err-Refused-clause-refused : goal.returns-in-Err-Refused-clause-refused
returns-in-Err-Refused-clause-refused g c _ = ap is_some ((c.decide.ensures.refused c.in-Err-Refused.field-0-0).0 (c.in-Err-Refused.is ∙ ap Err c.in-Err-Refused.field-0-is))

pub returns-clause-noted : goal.returns-clause-noted
returns-clause-noted g c are =
    c.in_ok-note.ensures.noted
    ∙ ap₂ (λ (net : Network) (r : Resolved). network_by net r) are c.resolved.ensures
    ∙ network_after c.decide.new.self.state c.args.book.now.state c.in-Ok.plan c.args.command.now c.in-Ok.ensures.plan c.decide.ensures.state c.in-Ok.ensures.command
