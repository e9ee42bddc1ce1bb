use Rattle.ob_post.proofs.Sections.{runs_lie_within, section_by_runs, by_section, by_runs, same_by_cause}
use Rattle.ob_post.proofs.laws.section_laws.Goals as goal

pub returns-clause-within : goal.returns-clause-within
returns-clause-within c = runs_lie_within

pub returns-clause-section_by_runs : goal.returns-clause-section_by_runs
returns-clause-section_by_runs c = section_by_runs

pub returns-clause-by_section : goal.returns-clause-by_section
returns-clause-by_section c = by_section

pub returns-clause-by_runs : goal.returns-clause-by_runs
returns-clause-by_runs c = by_runs

pub returns-clause-same_by_cause : goal.returns-clause-same_by_cause
returns-clause-same_by_cause c = same_by_cause
