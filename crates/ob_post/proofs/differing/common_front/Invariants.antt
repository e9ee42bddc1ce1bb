use Rattle.std.proofs.Common.{◌≡◌, take}
use Rattle.ob_post.proofs.differing.common_front.Given as goal

abbrev pub invariant-loop-count : goal.invariant-loop-count
invariant-loop-count l = take l.count l.old ≡ take l.count l.new
