use Rattle.std.proofs.Common.{rules}
use Rattle.ob_sql_check.proofs.part.holds_period.Goals as goal

pub returns-in-Ok : goal.returns-in-Ok
returns-in-Ok g c v has = let held = c.holds_heading.ensures v has in search rules
