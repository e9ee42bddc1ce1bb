use Rattle.std.proofs.Common.{◌<◌, length, refl, subst}
use Rattle.ob_time.specs.Calendar.{first_second_of, end_second_of}
use Rattle.ob_sweep_tests.proofs.Asked.{devices_corrected, lie_corrected}
use Rattle.ob_sweep_tests.proofs.change.corrected.Goals as goal

pub returns-clause-devices : goal.returns-clause-devices
returns-clause-devices c =
    devices_corrected c.args.sheet.now.entries (length c.args.net.now.network.devices) (first_second_of c.args.period.now) (end_second_of c.args.period.now) c.requires.devices c.requires.all c.in_ok-old.old _ (subst (λ n. c.in_ok-old.old.device < n) c.devices.ensures.count c.if-devices-old.false)

pub returns-clause-between : goal.returns-clause-between
returns-clause-between c =
    lie_corrected c.args.sheet.now.entries (length c.args.net.now.network.devices) (first_second_of c.args.period.now) (end_second_of c.args.period.now) c.requires.devices c.requires.all c.in_ok-old.old _ (c.if-is_outside.ensures.inside refl)
