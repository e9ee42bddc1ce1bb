use Rattle.std.proofs.Common.{refl, ap, arith}
use Rattle.std.specs.List.{range_with_len}
use Rattle.ob_post.specs.Keys.{keys}
use Rattle.ob_post.proofs.Dim.keys.Goals as goal

pub returns-in-Cause-clause-all : goal.returns-in-Cause-clause-all
unfolding keys
returns-in-Cause-clause-all c = rw c.in-Cause.is refl

pub returns-in-Feeder-clause-all : goal.returns-in-Feeder-clause-all
unfolding keys
returns-in-Feeder-clause-all c = rw c.in-Feeder.is refl

pub returns-in-Day-clause-all : goal.returns-in-Day-clause-all
unfolding keys
returns-in-Day-clause-all c = rw c.in-Day.is (ap (range_with_len 0) (omega arith))
