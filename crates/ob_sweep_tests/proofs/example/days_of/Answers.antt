use Rattle.ob_sweep_tests.proofs.example.days_of.Goals as goal

pub returns-clause-all : goal.returns-clause-all
returns-clause-all c = rw c.deref.ensures at c.in_ok-sheet.ensures.all
