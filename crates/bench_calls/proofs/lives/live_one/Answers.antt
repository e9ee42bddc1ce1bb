use Rattle.std.proofs.Common.{rules, ◌≡◌, ◌∙◌, arith}
use Rattle.ob_net.specs.Network.{with_life}
use Rattle.ob_time.specs.Calendar.{first_second_of, end_second_of}
use Rattle.ob_sweep.specs.Deltas.{IsDeltaTo}
use Rattle.ob_sweep.specs.Timeline.{AreRuns}
use Rattle.bench_calls.specs.Builds.{case_of}
use Rattle.bench_calls.proofs.Lived.{devices_still, life_again, life_now, runs_then}
use Rattle.bench_calls.proofs.lives.live_one.Goals as goal

pub plan-requires-clause-runs : goal.plan-requires-clause-runs
plan-requires-clause-runs c =
    let net = c.args.made.now.net.network in
    let k = c.args.device in
    let is : c.set_life.new.self.network ≡ with_life net k c.args.life = search rules in
    rw (c.deref.ensures, is, life_again net.devices k c.life_of-old.result c.args.life c.life_of-old.ensures.life) c.requires.runs.runs

pub plan-requires-clause-after : goal.plan-requires-clause-after
plan-requires-clause-after c =
    let net = c.args.made.now.net.network in
    let k = c.args.device in
    let is : c.set_life.new.self.network ≡ with_life net k c.args.life = search rules in
    rw is (life_now net.devices k c.args.life (omega (arith, c)))

pub plan-requires-clause-devices : goal.plan-requires-clause-devices
plan-requires-clause-devices c =
    let net = c.args.made.now.net.network in
    devices_still net c.set_life.new.self.network c.args.made.now.sheet.entries c.args.device c.args.life (search rules) c.requires.runs.devices

pub plan-requires-clause-changed_devices : goal.plan-requires-clause-changed_devices
plan-requires-clause-changed_devices c =
    let net = c.args.made.now.net.network in
    devices_still net c.set_life.new.self.network c.args.made.now.sheet.entries c.args.device c.args.life (search rules) c.requires.runs.devices

pub returns-clause-runs : goal.returns-clause-runs
returns-clause-runs c =
    let m = c.args.made.now in
    let net = m.net.network in
    let after = c.plan.new.net.network in
    let lists = c.args.timeline.now in
    let a = first_second_of m.year in
    let b = end_second_of m.year in
    let set : c.set_life.new.self.network ≡ with_life net c.args.device c.args.life = search rules in
    let is : after ≡ with_life net c.args.device c.args.life = c.in-Ok.ensures.network ∙ set in
    let delta : IsDeltaTo after m.sheet.entries a b c.in-Ok.delta lists = rw c.in-Ok.ensures.network (rw c.deref.ensures at c.in-Ok.ensures.delta) in
    let runs : AreRuns after m.sheet.entries a b c.adopt.new.self =
    c.adopt.ensures.runs net after m.sheet.entries m.sheet.entries a b c.requires.runs.runs (rw is (omega arith)) (rw is c.requires.runs.runs.count) delta in
    runs_then (case_of net m.sheet.entries m.year) after c.args.device c.args.life lists c.adopt.new.self is c.requires.runs runs
