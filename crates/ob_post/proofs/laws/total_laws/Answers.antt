use Rattle.ob_post.proofs.AllKeys.{keys_add_up, amounts_are_small, totals_are_small, totals_agree}
use Rattle.ob_post.proofs.laws.total_laws.Goals as goal

pub returns-clause-add_up : goal.returns-clause-add_up
returns-clause-add_up c = keys_add_up

pub returns-clause-amounts : goal.returns-clause-amounts
returns-clause-amounts c = amounts_are_small

pub returns-clause-totals : goal.returns-clause-totals
returns-clause-totals c = totals_are_small

pub returns-clause-agree : goal.returns-clause-agree
returns-clause-agree c = totals_agree
