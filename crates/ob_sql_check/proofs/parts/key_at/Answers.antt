use Rattle.std.proofs.Common.{arith}
use Rattle.ob_sql_check.proofs.Keyed.{cause_key, feeder_key, day_key}
use Rattle.ob_sql_check.proofs.parts.key_at.Goals as goal

pub returns-then-at-lt-FIRST_FEEDER-clause-key : goal.returns-then-at-lt-FIRST_FEEDER-clause-key
returns-then-at-lt-FIRST_FEEDER-clause-key c = cause_key c.args.days c.args.at (omega (arith, c.if-at-lt-FIRST_FEEDER.true))

pub returns-then-at-lt-FIRST_DAY-clause-key : goal.returns-then-at-lt-FIRST_DAY-clause-key
returns-then-at-lt-FIRST_DAY-clause-key c =
    feeder_key c.args.days c.args.at _ (omega (arith, c.if-at-lt-FIRST_DAY.true)) (omega (arith, c.if-at-lt-FIRST_FEEDER.false)) (omega arith)

pub returns-else-at-lt-FIRST_DAY-clause-key : goal.returns-else-at-lt-FIRST_DAY-clause-key
returns-else-at-lt-FIRST_DAY-clause-key c =
    day_key c.args.days c.args.at _ (omega (arith, c.if-at-lt-FIRST_DAY.false)) (omega (arith, c.if-at-lt-FIRST_DAY.false, c.requires))
