use Rattle.ob_state.proofs.state.State.change_parts.Goals as goal

pub returns-in-Corrected-clause-state : goal.returns-in-Corrected-clause-state
returns-in-Corrected-clause-state c = rw c.in-Corrected.is c.correct.ensures.state

pub returns-in-Withdrawn-clause-state : goal.returns-in-Withdrawn-clause-state
returns-in-Withdrawn-clause-state c = rw c.in-Withdrawn.is c.withdraw.ensures.state
