use Rattle.std.proofs.Common.{arith}
use Rattle.ob_sheet.proofs.Listed.{on_next}
use Rattle.ob_sheet.proofs.by_device.gaps_at.Goals as goal

pub loop-device-preserved : goal.loop-device-preserved
loop-device-preserved c =
    omega (arith, c.place_near-place.ensures.place, on_next c.args.entries.now c.args.by_device.now c.loop-device.device c.args.second c.args.«no»)
