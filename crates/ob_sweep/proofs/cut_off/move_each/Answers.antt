use Rattle.std.proofs.Common.{◌++◌, ◌∷◌, List, [], set, take, sym, ap, ◌∙◌}
use Rattle.std.proofs.lemmas.List.{take_more}
use Rattle.ob_base.specs.declared.Pos.{Pos}
use Rattle.ob_net.specs.Network.{Network}
use Rattle.ob_sheet.specs.declared.Entry.{Entry}
use Rattle.ob_sweep.specs.Acting.{moved, moved_all}
use Rattle.ob_sweep.proofs.Collecting.{moved_more}
use Rattle.ob_sweep.proofs.cut_off.move_each.Goals as goal

pub loop-entry-preserved : goal.loop-entry-preserved
loop-entry-preserved c =
    let net : Network = c.args.net.now.network in
    let i = c.loop-entry.entry-index in
    let entries : List Entry = c.args.entries.now in
    let ps : List Pos = c.args.positions.now in
    let x : Entry = c.entry-item.result in
    let done : List Entry = take i entries in
    ap (λ k. set c.loop-entry.positions k c.position_of.result) c.from.ensures
    ∙ ap (λ (p : Pos). set c.loop-entry.positions x.device p) c.position_of.ensures
    ∙ ap (λ (qs : List Pos). moved net c.args.second qs x) c.loop-entry.invariant
    ∙ sym (moved_more net c.args.second ps done x)
    ∙ ap (moved_all net c.args.second ps) (ap (λ (y : Entry). done ++ y ∷ []) c.entry-item.is ∙ sym (take_more entries i x c.loop-entry-test.true))
