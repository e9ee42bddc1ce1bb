use Rattle.ob_post.proofs.Listed.{delta_of-moves_by, keys_of_moves_by, order_of_moves_by}
use Rattle.ob_post.proofs.Reposted.{none_reposted, node_stays, node_reposted, have_keys_of_more, reposted_differ, differences_fit, moves_lead_to}
use Rattle.ob_post.proofs.laws.move_laws.Goals as goal

pub returns-clause-none_reposted : goal.returns-clause-none_reposted
returns-clause-none_reposted c = none_reposted

pub returns-clause-node_stays : goal.returns-clause-node_stays
returns-clause-node_stays c = node_stays

pub returns-clause-node_reposted : goal.returns-clause-node_reposted
returns-clause-node_reposted c = node_reposted

pub returns-clause-more_days : goal.returns-clause-more_days
returns-clause-more_days c = have_keys_of_more

pub returns-clause-reposted : goal.returns-clause-reposted
returns-clause-reposted c = reposted_differ

pub returns-clause-fit : goal.returns-clause-fit
returns-clause-fit c = differences_fit

pub returns-clause-keys : goal.returns-clause-keys
returns-clause-keys c = keys_of_moves_by

pub returns-clause-change : goal.returns-clause-change
returns-clause-change c = delta_of-moves_by

pub returns-clause-lead_to : goal.returns-clause-lead_to
returns-clause-lead_to c = moves_lead_to

pub returns-clause-order : goal.returns-clause-order
returns-clause-order c = order_of_moves_by
