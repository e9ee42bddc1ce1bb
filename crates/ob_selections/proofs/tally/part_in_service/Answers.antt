use Rattle.ob_cust.proofs.Ranges.{seconds_within, seconds_from}
use Rattle.ob_selections.proofs.tally.part_in_service.Goals.{in-Some, in-None}
use Rattle.ob_selections.proofs.tally.part_in_service.Goals as goal

pub returns-clause-seconds : goal.returns-clause-seconds
returns-clause-seconds c =
    elim c.match-block.branch [
      | in-Some w ↦
          rw (c.max.ensures, w.until-is, w.min-until.ensures, w.in-Some.is)
          (seconds_within c.args.block.now.block.since w.in-Some.end c.args.since c.args.until)
      | in-None w ↦
          rw (c.max.ensures, w.until-is, w.in-None.is)
          (seconds_from c.args.block.now.block.since c.args.since c.args.until)
    ]
