use Rattle.std.proofs.Common.{◌≡◌, false, take}
use Rattle.std.specs.List.{All}
use Rattle.ob_sweep.specs.CutOffs.{may_alter}
use Rattle.ob_sweep.proofs.cut_off.CutOff.any_alters.Given as goal

abbrev pub invariant-loop-entry : goal.invariant-loop-entry
invariant-loop-entry l = All (λ e. may_alter l.net.network l.self.second l.self.cut l.self.tracer.found e ≡ false) (take l.entry-index l.entries)
