use Rattle.ob_net.proofs.Marked.{Behind}
use Rattle.ob_net.proofs.search.join_behind.Given as goal

abbrev pub invariant-loop-number : goal.invariant-loop-number
invariant-loop-number l = Behind l.devices l.positions l.number l.parents
