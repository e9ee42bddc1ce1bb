use Rattle.ob_record.proofs.Starting.{accepted_is_reached, of_its_commands, reached_count, start_has_first_rows}
use Rattle.ob_record.proofs.act.reached_law.Goals as goal

pub returns-clause-goes_on : goal.returns-clause-goes_on
returns-clause-goes_on c = accepted_is_reached c.next_law.ensures.period

pub returns-clause-commands : goal.returns-clause-commands
returns-clause-commands c = of_its_commands c.acts_law.ensures.state

pub returns-clause-counts : goal.returns-clause-counts
returns-clause-counts c = reached_count c.acts_law.ensures.state

pub returns-clause-empty : goal.returns-clause-empty
returns-clause-empty c = start_has_first_rows
