use Rattle.std.proofs.Common.{◌-◌}
use Rattle.ob_sweep.specs.Changed.{changed}
use Rattle.ob_time.specs.Calendar.{day_count, days_of, first_second_of, end_second_of}
use Rattle.ob_post.proofs.PartByPart.{IsPostedUpTo}
use Rattle.ob_post.proofs.posting.Posting.replace_by_parts.Given as goal

abbrev pub invariant-loop-at : goal.invariant-loop-at
invariant-loop-at l =
    IsPostedUpTo (day_count l.basis.period.now) (first_second_of l.basis.period.now) (end_second_of l.basis.period.now) l.initial.self l.self l.basis.sheet.now.entries (changed l.change l.basis.sheet.now.entries) l.basis.roll.now.customers (days_of l.basis.period.now) l.basis.feeder l.taken l.given l.at l.old l.new

abbrev pub decreases-loop-at : goal.decreases-loop-at
decreases-loop-at l = l.end - l.at
