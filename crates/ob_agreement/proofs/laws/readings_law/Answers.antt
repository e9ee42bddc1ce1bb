use Rattle.ob_agreement.proofs.Alike.{rows_are_read_alike}
use Rattle.ob_agreement.proofs.Taken.{other_rows_are_refused, taken_rows_are_read}
use Rattle.ob_agreement.proofs.laws.readings_law.Goals as goal

pub returns-clause-alike : goal.returns-clause-alike
returns-clause-alike c = rows_are_read_alike

pub returns-clause-taken : goal.returns-clause-taken
returns-clause-taken c = taken_rows_are_read

pub returns-clause-others : goal.returns-clause-others
returns-clause-others c = other_rows_are_refused
