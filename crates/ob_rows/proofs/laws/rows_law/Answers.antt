use Rattle.ob_rows.proofs.Found.{rows_are_interrupted, rows_are_interruptions}
use Rattle.ob_rows.proofs.Keyed.{rows_are_by_cause, rows_are_by_day, rows_are_by_feeder}
use Rattle.ob_rows.proofs.RowLaws.{momentary_rows_are_counted, rows_are_without_supply, sustained_rows_are_counted, sustained_rows_are_timed}
use Rattle.ob_rows.proofs.laws.rows_law.Goals as goal

pub returns-clause-interruptions : goal.returns-clause-interruptions
returns-clause-interruptions c = rows_are_interruptions

pub returns-clause-without_supply : goal.returns-clause-without_supply
returns-clause-without_supply c = rows_are_without_supply

pub returns-clause-causes : goal.returns-clause-causes
returns-clause-causes c = rows_are_by_cause

pub returns-clause-feeders : goal.returns-clause-feeders
returns-clause-feeders c = rows_are_by_feeder

pub returns-clause-days : goal.returns-clause-days
returns-clause-days c = rows_are_by_day

pub returns-clause-sustained : goal.returns-clause-sustained
returns-clause-sustained c = sustained_rows_are_counted

pub returns-clause-seconds : goal.returns-clause-seconds
returns-clause-seconds c = sustained_rows_are_timed

pub returns-clause-customers : goal.returns-clause-customers
returns-clause-customers c = rows_are_interrupted

pub returns-clause-momentary : goal.returns-clause-momentary
returns-clause-momentary c = momentary_rows_are_counted
