use Rattle.std.proofs.Common.{rules}
use Rattle.ob_state.specs.Refusals.{if_full, refusals}
use Rattle.ob_state.proofs.Firsts.{first-push}
use Rattle.ob_state.proofs.state.State.resolve.Goals as goal

pub returns-in_err-resolved-clause-refused : goal.returns-in_err-resolved-clause-refused
returns-in_err-resolved-clause-refused c =
    let b = c.args.self.now.state in
    rw (first-push (refusals b c.args.command.now) (if_full b), ← c.in_err-resolved.ensures.refused) (search rules)

pub returns-then-self-eq-MOST_COMMANDS-clause-refused : goal.returns-then-self-eq-MOST_COMMANDS-clause-refused
returns-then-self-eq-MOST_COMMANDS-clause-refused c =
    let b = c.args.self.now.state in
    rw (first-push (refusals b c.args.command.now) (if_full b), ← c.in_ok-resolved.ensures.refused) (search rules)

pub returns-clause-refused : goal.returns-clause-refused
returns-clause-refused c =
    let b = c.args.self.now.state in
    rw (first-push (refusals b c.args.command.now) (if_full b), ← c.in_ok-resolved.ensures.refused) (search rules)
