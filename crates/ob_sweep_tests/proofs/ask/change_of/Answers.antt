use Rattle.std.proofs.Common.{refl}
use Rattle.ob_sweep_tests.proofs.Grown.{named_more, lie_still}
use Rattle.ob_sweep_tests.proofs.ask.change_of.Goals as goal

pub returns : goal.returns
returns c =
    let entries = c.args.sheet.now.entries in
    let h = c.in_ok-change.ensures in
    record {
      before = h.before;
      after = h.after;
      applies = h.applies entries;
      named = named_more _ _ _ _ h.more refl c.requires.devices;
      devices = named_more _ _ _ _ h.more (h.sheet entries) c.requires.devices;
      between = lie_still _ _ _ _ (h.sheet entries) c.requires.all;
    }
