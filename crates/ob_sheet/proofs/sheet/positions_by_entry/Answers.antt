use Rattle.std.proofs.Common.{◌≡◌, ◌∙◌, [], List, length, ap, arith}
use Rattle.ob_base.specs.declared.Pos.{Pos}
use Rattle.ob_sheet.proofs.Writing.{length-positions}
use Rattle.ob_sheet.proofs.sheet.positions_by_entry.Goals as goal

pub switch-requires-clause-devices : goal.switch-requires-clause-devices
switch-requires-clause-devices c = λ k d l.
    let net = c.args.net.now.network in
    let count : length c.deref_mut.result.now ≡ length net.devices =
    ap (λ (ps : List Pos). length ps) (c.deref_mut.ensures.value ∙ c.in_ok-positions.ensures.positions) ∙ length-positions net [] in
    omega (arith, count, c.requires.devices k d l)
