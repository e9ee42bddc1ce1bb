use Rattle.ob_state.proofs.Amounting.{small}
use Rattle.ob_state.proofs.Serving.{next_small}
use Rattle.ob_state.proofs.amounts.amounts_are_small.Goals as goal

pub returns-clause-before : goal.returns-clause-before
returns-clause-before c = small c.args.state.now.state c.total_laws.ensures.amounts c.accepted.ensures.sound.period c.accepted.ensures.sound.roll.few

pub returns-clause-after : goal.returns-clause-after
returns-clause-after c =
    next_small c.args.state.now.state c.args.command.now c.total_laws.ensures.amounts c.accepted.ensures.sound.period c.accepted.ensures.sound.roll.few
    c.requires.accepted
