use Rattle.ob_record.proofs.Named.{reached_are_few, rows_name_commands}
use Rattle.ob_record.proofs.naming.naming_law.Goals as goal

pub returns-clause-named : goal.returns-clause-named
returns-clause-named c = rows_name_commands c.bodies_law.ensures

pub returns-clause-few : goal.returns-clause-few
returns-clause-few c = reached_are_few c.acts_law.ensures.state
