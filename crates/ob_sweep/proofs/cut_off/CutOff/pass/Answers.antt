use Rattle.std.proofs.Common.{◌≡◌, List, length, sym, ap, ◌∙◌, subst}
use Rattle.std.specs.Vec.{with_items}
use Rattle.std.proofs.lemmas.List.{with_items_is}
use Rattle.ob_base.specs.declared.Pos.{Pos}
use Rattle.ob_net.specs.Network.{Network}
use Rattle.ob_sheet.specs.declared.Entry.{Entry}
use Rattle.ob_sweep.specs.Acting.{moved_all}
use Rattle.ob_sweep.specs.CutOffs.{HasFound}
use Rattle.ob_sweep.specs.declared.cut_off.CutOff.{CutOff}
use Rattle.ob_sweep.proofs.Passed.{Quiet, found_all, long_all, quiet_all}
use Rattle.ob_sweep.proofs.cut_off.CutOff.pass.Goals as goal

pub returns-clause-of : goal.returns-clause-of
returns-clause-of c =
    let net : Network = c.args.net.now.network in
    let was : CutOff = c.args.self.now in
    let entries : List Entry = c.args.entries.now in
    let moved : (with_items was.positions c.move_each.new.positions).items ≡ moved_all net was.second was.positions.items entries =
    with_items_is was.positions c.move_each.new.positions (c.move_each.auto.positions ∙ c.deref_mut.ensures.len)
    ∙ c.move_each.ensures ∙ ap (λ (ps : List Pos). moved_all net was.second ps entries) c.deref_mut.ensures.value in
    let quiet : Quiet net was.second was.device was.cut was.tracer.found entries = quiet_all net was.second was.device was.cut was.tracer.found entries c.requires.quiet c.requires.devices in
    record {
      of = c.requires.of.of;
      device = c.requires.of.device;
      positions = ap length moved ∙ long_all net was.second was.device was.cut was.tracer.found was.positions.items entries ∙ c.requires.of.positions;
      found = subst (λ (ps : List Pos). HasFound net ps was.device was.cut was.tracer.found) (sym moved)
          (found_all net was.second was.device was.cut was.tracer.found was.positions.items entries c.requires.of.positions quiet c.requires.of.found);
      are_nodes = c.requires.of.are_nodes;
    }

pub returns-clause-positions : goal.returns-clause-positions
returns-clause-positions c =
    let net : Network = c.args.net.now.network in
    let was : CutOff = c.args.self.now in
    with_items_is was.positions c.move_each.new.positions (c.move_each.auto.positions ∙ c.deref_mut.ensures.len)
    ∙ c.move_each.ensures ∙ ap (λ (ps : List Pos). moved_all net was.second ps c.args.entries.now) c.deref_mut.ensures.value
