use Rattle.ob_sql_check.proofs.Letting.{lets_upgraded}
use Rattle.ob_sql_check.proofs.Renewed.{holds_one_old_book}
use Rattle.ob_sql_check.proofs.Same.{old_is_reached, tables_are_alike}
use Rattle.ob_sql_check.proofs.Upgrades.{upgraded}
use Rattle.ob_sql_check.proofs.laws.upgrade_law.Goals as goal

pub returns-clause-reached : goal.returns-clause-reached
returns-clause-reached c =
    let law = c.version_law.ensures in
    old_is_reached law.reached law.accepted law.step

pub returns-clause-alike : goal.returns-clause-alike
returns-clause-alike c =
    let law = c.version_law.ensures in
    tables_are_alike law.reached law.accepted law.step law.figures

pub returns-clause-upgraded : goal.returns-clause-upgraded
returns-clause-upgraded c =
    let law = c.version_law.ensures in
    let reached = old_is_reached law.reached law.accepted law.step in
    upgraded law.bodies reached (tables_are_alike law.reached law.accepted law.step law.figures)

pub returns-clause-lets : goal.returns-clause-lets
returns-clause-lets c =
    let law = c.version_law.ensures in
    lets_upgraded law.bodies (old_is_reached law.reached law.accepted law.step)

pub returns-clause-one : goal.returns-clause-one
returns-clause-one c =
    let law = c.version_law.ensures in
    holds_one_old_book law.bodies (old_is_reached law.reached law.accepted law.step) c.naming_law.ensures.named
