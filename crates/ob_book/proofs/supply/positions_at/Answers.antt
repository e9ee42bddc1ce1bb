use Rattle.std.proofs.Common.{◌≡◌, ◌≤◌, ◌∙◌, sym, ap, subst, ℕ, List, length, take}
use Rattle.std.proofs.lemmas.List.{take_at}
use Rattle.ob_net.specs.Network.{Network}
use Rattle.ob_sheet.specs.declared.Entry.{Entry}
use Rattle.ob_sheet.specs.Order.{in_order, upto}
use Rattle.ob_sheet.specs.Positions.{entered}
use Rattle.ob_sheet.specs.Sheet.{NameDevices}
use Rattle.ob_sheet.proofs.Writing.{length-positions}
use Rattle.ob_book.proofs.Supplied.{earlier_within}
use Rattle.ob_book.proofs.supply.positions_at.Goals as goal

pub advance-requires-clause-devices : goal.advance-requires-clause-devices
advance-requires-clause-devices c =
    let b = c.args.state.now.state in
    let entries = c.sheet-sheet.result.now.entries in
    let net = c.net.result.now.network in
    let long : length c.deref_mut.result.now ≡ length b.network.devices =
    ap length (c.deref_mut.ensures.value ∙ c.in_ok-positions.ensures.positions)
    ∙ length-positions net (take c.places_before-place.result (in_order entries))
    ∙ ap (λ (n : Network). length n.devices) c.net.ensures.network in
    subst (λ (n : ℕ). NameDevices n entries) (sym long)
    (subst (λ (es : List Entry). NameDevices (length b.network.devices) es) (sym c.sheet-sheet.ensures) c.accepted.ensures.sound.state.devices)

pub returns-clause-positions : goal.returns-clause-positions
returns-clause-positions c =
    let b = c.args.state.now.state in
    let s = c.args.second in
    let entries = c.sheet-sheet.result.now.entries in
    let net = c.net.result.now.network in
    let first = take c.places_before-place.result (in_order entries) in
    let p = c.places_before-place.ensures in
    let old : c.deref_mut.result.now ≡ entered net first = c.deref_mut.ensures.value ∙ c.in_ok-positions.ensures.positions in
    let reach : c.places_before-place.result ≤ length (upto entries s) = earlier_within entries s c.places_before-place.result p.numbered p.within p.earlier in
    let now : c.advance.new.positions ≡ entered net (upto entries s) = c.advance.ensures.at_second net reach old in
    take_at c.advance.new.positions _ _ (ap length now ∙ length-positions net (upto entries s) ∙ sym (length-positions net first) ∙ ap length (sym old) ∙ c.deref_mut.ensures.len)
    ∙ now
    ∙ ap (λ (n : Network). entered n (upto entries s)) c.net.ensures.network
    ∙ ap (λ (es : List Entry). entered b.network (upto es s)) c.sheet-sheet.ensures
