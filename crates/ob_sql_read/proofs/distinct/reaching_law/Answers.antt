use Rattle.ob_sql_read.proofs.Ordered.{one_order}
use Rattle.ob_sql_read.proofs.Reaching.{reached_by_commands, acts_are_accepted, moved_is_of}
use Rattle.ob_sql_read.proofs.Versions.{bodies_differ}
use Rattle.ob_sql_read.proofs.distinct.reaching_law.Goals as goal

pub returns : goal.returns
returns c = record {
  reached = reached_by_commands;
  accepted = acts_are_accepted;
  moved = moved_is_of c.next_law.ensures.period;
  ordered = λ version. one_order version (bodies_differ c.bodies_law.ensures c.version_law.ensures.differ version);
}
