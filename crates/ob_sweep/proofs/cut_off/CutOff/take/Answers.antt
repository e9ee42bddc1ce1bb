use Rattle.std.proofs.Common.{ℕ, sym, ◌∙◌, arith, subst, set, length-set}
use Rattle.ob_base.specs.declared.Pos.{Pos}
use Rattle.ob_sweep.specs.CutOffs.{HasFound}
use Rattle.ob_sweep.proofs.Altering.{stays}
use Rattle.ob_sweep.proofs.cut_off.CutOff.take.Goals as goal

pub returns-else-alters-clause-of : goal.returns-else-alters-clause-of
returns-else-alters-clause-of c =
    let net = c.args.net.now.network in
    let self = c.args.self.now in
    let e = c.args.entry.now in
    record {
      of = c.requires.of.of;
      device = c.requires.of.device;
      are_nodes = c.requires.of.are_nodes;
      positions = length-set self.positions.items c.from.result c.position_of.result ∙ c.requires.of.positions;
      found =
          subst (λ (k : ℕ). HasFound net (set self.positions.items k c.position_of.result) self.device self.cut self.tracer.found) (sym c.from.ensures)
          (subst (λ (p : Pos). HasFound net (set self.positions.items e.device p) self.device self.cut self.tracer.found) (sym c.position_of.ensures)
          (stays net self.second self.positions.items self.device self.cut self.tracer.found e (omega (arith, c.requires.of.positions, c.requires.device))
          (sym c.may_alter-alters.ensures ∙ c.if-alters.false) c.requires.of.found));
    }
