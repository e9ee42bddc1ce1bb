use Rattle.ob_post.proofs.EntryCauses.{entered_cause, changed_cause, same_cause}
use Rattle.ob_post.proofs.laws.cause_laws.Goals as goal

pub returns-clause-entered : goal.returns-clause-entered
returns-clause-entered c = entered_cause

pub returns-clause-changed : goal.returns-clause-changed
returns-clause-changed c = changed_cause

pub returns-clause-same : goal.returns-clause-same
returns-clause-same c = same_cause
