use Rattle.std.proofs.Common.{take}
use Rattle.jiff.specs.Words.{plain_zone, epoch_day}
use Rattle.ob_time.specs.Period.{AreMidnights}
use Rattle.ob_time.proofs.bounds.day_bounds_from.Given as goal

abbrev pub invariant-loop-k : goal.invariant-loop-k
invariant-loop-k l = AreMidnights (plain_zone l.zone) (epoch_day l.first) l.k (take l.k l.bounds)
