use Rattle.std.proofs.Common.{None}
use Rattle.ob_sweep.specs.declared.Run.{Run}
use Rattle.ob_sweep.proofs.Local.{parts_rise}
use Rattle.ob_sweep.proofs.splice.places_touching.Goals as goal

no_run : Run
no_run = record { section = 0; since = 0; until = 0; cutter = None }

pub returns-clause-rise : goal.returns-clause-rise
returns-clause-rise c =
    parts_rise c.args.runs.now c.ending_before.result c.begun_by.result c.args.first c.args.end no_run c.ending_before.ensures.within c.requires.some c.ending_before.ensures.before c.begun_by.ensures.after c.requires.seconds
