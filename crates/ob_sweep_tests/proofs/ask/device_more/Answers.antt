use Rattle.std.proofs.Common.{refl}
use Rattle.ob_sweep_tests.proofs.Grown.{is_last_device, one_device_more, without_device}
use Rattle.ob_sweep_tests.proofs.ask.device_more.Goals as goal

pub returns : goal.returns
returns c =
    let is = rw c.in_ok-reserve_one.ensures.network at c.in_ok-add_device.ensures.ok in
    record {
      before = without_device _ _ _ _ _ _ _ is;
      after = is_last_device c.args.net.now.network _ _ _ _ _ c.args.device.now.normal _ c.devices-number.ensures.count is;
      applies = λ _. tt;
      sheet = λ _. refl;
      more = one_device_more _ _ _ _ _ _ _ is;
    }
