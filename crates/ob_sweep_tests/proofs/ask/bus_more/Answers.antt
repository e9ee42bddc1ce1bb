use Rattle.std.proofs.Common.{refl}
use Rattle.ob_sweep_tests.proofs.Grown.{devices_stay, with_last, without_node}
use Rattle.ob_sweep_tests.proofs.ask.bus_more.Goals as goal

pub returns : goal.returns
returns c =
    let is = rw c.in_ok-room_for_one.ensures.network at c.in_ok-add_bus.ensures.ok in
    record {
      before = without_node _ _ _ is;
      after = with_last _ _ _ is c.in_ok-room_for_one.ensures.is_network;
      applies = λ _. tt;
      sheet = λ _. refl;
      more = devices_stay _ _ _ is;
    }
