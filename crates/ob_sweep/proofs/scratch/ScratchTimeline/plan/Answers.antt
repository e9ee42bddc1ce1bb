use Rattle.std.proofs.Common.{◌≡◌, ◌+◌, arith}
use Rattle.ob_time.specs.Calendar.{end_second_of, first_second_of}
use Rattle.ob_sweep.proofs.PartMore.{bus_plan, section_plan}
use Rattle.ob_sweep.proofs.scratch.ScratchTimeline.plan.Goals as goal

pub returns-in-Bus-clause-delta : goal.returns-in-Bus-clause-delta
returns-in-Bus-clause-delta c =
    let period = c.args.period.now in
    bus_plan c.args.net.now.network c.args.sheet.now.entries (first_second_of period) (end_second_of period) c.args.self.now c.args.change.now c.requires.after c.requires.runs
    c.none.result c.in-Bus.is c.none.ensures

pub returns-in-Section-clause-delta : goal.returns-in-Section-clause-delta
returns-in-Section-clause-delta c =
    let period = c.args.period.now in
    let last : c.first_second-first.result + c.length.result ≡ end_second_of period = omega (arith, c.first_second-first.ensures.value, c.length.ensures.value) in
    section_plan c.args.net.now.network c.args.sheet.now.entries (first_second_of period) (end_second_of period) c.args.self.now c.args.change.now c.requires.after c.requires.runs
    c.in-Section.feeder c.first_second-first.result (c.first_second-first.result + c.length.result) c.plan_section.result c.in-Section.is c.first_second-first.ensures.value last
    c.plan_section.ensures.delta

pub returns-in-Section-clause-fits : goal.returns-in-Section-clause-fits
returns-in-Section-clause-fits c = c.plan_section.ensures.fits c.args.self.now c.requires.runs.places
