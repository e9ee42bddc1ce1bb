use Rattle.ob_selections.proofs.CauseSums.{causes_add_up}
use Rattle.ob_selections.proofs.CustomerSums.{feeders_add_up, sections_add_up}
use Rattle.ob_selections.proofs.DaySums.{days_add_up}
use Rattle.ob_selections.proofs.MonthSums.{months_add_up}
use Rattle.ob_selections.proofs.laws.sums_law.Goals as goal

pub returns-clause-feeders : goal.returns-clause-feeders
returns-clause-feeders c = feeders_add_up

pub returns-clause-sections : goal.returns-clause-sections
returns-clause-sections c = sections_add_up

pub returns-clause-months : goal.returns-clause-months
returns-clause-months c = months_add_up

pub returns-clause-days : goal.returns-clause-days
returns-clause-days c = days_add_up

pub returns-clause-causes : goal.returns-clause-causes
returns-clause-causes c = causes_add_up
