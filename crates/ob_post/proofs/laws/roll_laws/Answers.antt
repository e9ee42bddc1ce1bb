use Rattle.ob_post.proofs.Rolls.{nobody, connected, connected_to_runs, changed, changed_in_runs}
use Rattle.ob_post.proofs.Sections.{one_customer}
use Rattle.ob_post.proofs.laws.roll_laws.Goals as goal

pub returns-clause-nobody : goal.returns-clause-nobody
returns-clause-nobody c = nobody

pub returns-clause-one : goal.returns-clause-one
returns-clause-one c = one_customer

pub returns-clause-connected : goal.returns-clause-connected
returns-clause-connected c = connected

pub returns-clause-connected_to_runs : goal.returns-clause-connected_to_runs
returns-clause-connected_to_runs c = connected_to_runs

pub returns-clause-changed : goal.returns-clause-changed
returns-clause-changed c = changed

pub returns-clause-changed_in_runs : goal.returns-clause-changed_in_runs
returns-clause-changed_in_runs c = changed_in_runs
