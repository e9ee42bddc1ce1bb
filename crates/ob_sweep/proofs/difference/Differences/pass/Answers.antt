use Rattle.std.proofs.Common.{◌≡◌, ℕ, List, refl, sym, ap, ◌∙◌}
use Rattle.std.specs.Vec.{with_items}
use Rattle.std.proofs.lemmas.List.{with_items_is}
use Rattle.ob_base.specs.declared.Pos.{Pos}
use Rattle.ob_net.specs.Network.{Network}
use Rattle.ob_sheet.specs.declared.Entry.{Entry}
use Rattle.ob_sweep.specs.Acting.{moved_all}
use Rattle.ob_sweep.specs.declared.difference.Differences.{Differences}
use Rattle.ob_sweep.proofs.Gone.{gone_passed}
use Rattle.ob_sweep.proofs.Passed.{quiet_all}
use Rattle.ob_sweep.proofs.difference.Differences.pass.Goals as goal

pub returns-clause-state : goal.returns-clause-state
returns-clause-state c =
    let net : Network = c.args.net.now.network in
    let was : Differences = c.args.self.now in
    let entries : List Entry = c.args.entries.now in
    let moved : (with_items was.positions c.move_each.new.positions).items ≡ moved_all net was.cut.second was.positions.items entries =
    with_items_is was.positions c.move_each.new.positions (c.move_each.auto.positions ∙ c.deref_mut.ensures.len)
    ∙ c.move_each.ensures
    ∙ ap (λ (ps : List Pos). moved_all net c.second-second.result ps entries) c.deref_mut.ensures.value
    ∙ ap (λ (t : ℕ). moved_all net t was.positions.items entries) (c.second-second.ensures ∙ c.pass.ensures.second) in
    record {
      of = c.pass.ensures.of;
      positions = moved ∙ ap (λ (ps : List Pos). moved_all net was.cut.second ps entries) c.requires.state.positions ∙ sym c.pass.ensures.positions;
      count = c.requires.state.count;
      within = c.requires.state.within;
    }

pub returns-clause-gone : goal.returns-clause-gone
returns-clause-gone c = λ second lists.
    let net : Network = c.args.net.now.network in
    let was : Differences = c.args.self.now in
    let entries : List Entry = c.args.entries.now in
    let moved : (with_items was.positions c.move_each.new.positions).items ≡ moved_all net was.cut.second was.positions.items entries =
    with_items_is was.positions c.move_each.new.positions (c.move_each.auto.positions ∙ c.deref_mut.ensures.len)
    ∙ c.move_each.ensures
    ∙ ap (λ (ps : List Pos). moved_all net c.second-second.result ps entries) c.deref_mut.ensures.value
    ∙ ap (λ (t : ℕ). moved_all net t was.positions.items entries) (c.second-second.ensures ∙ c.pass.ensures.second) in
    gone_passed net entries second lists was (record was { cut = c.pass.new.self; positions = with_items was.positions c.move_each.new.positions }) c.requires.state.of c.requires.state.positions
    (quiet_all net was.cut.second was.cut.device was.cut.cut was.cut.tracer.found entries c.requires.quiet c.requires.devices)
    c.pass.ensures.device c.pass.ensures.second c.pass.ensures.cut c.pass.ensures.tracer c.pass.ensures.positions moved refl
