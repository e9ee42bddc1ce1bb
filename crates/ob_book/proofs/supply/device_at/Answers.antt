use Rattle.std.proofs.Common.{◌≡◌, ◌∙◌, sym, ap, arith, ℕ, ◌<◌, map, length}
use Rattle.std.specs.List.{slice_get, slice_index_or}
use Rattle.std.proofs.lemmas.List.{get_or_default}
use Rattle.ob_base.specs.declared.Pos.TheVariants.{Opened}
use Rattle.ob_net.specs.Network.{Network}
use Rattle.ob_sheet.specs.Order.{upto}
use Rattle.ob_sheet.proofs.Writing.{length-positions}
use Rattle.ob_book.proofs.Supplied.{device_is}
use Rattle.ob_book.proofs.supply.device_at.Goals as goal

pub bounds-positions-from : goal.bounds-positions-from
bounds-positions-from c =
    let b = c.args.state.now.state in
    let long : length c.args.positions.now ≡ length b.network.devices = ap length c.requires.positions ∙ length-positions b.network (upto b.entries c.args.second) in
    omega (arith, long, c.from.ensures, c.requires.device)

pub returns : goal.returns
returns c =
    let b = c.args.state.now.state in
    let k = c.args.device in
    let ps = c.args.positions.now in
    let long : length ps ≡ length b.network.devices = ap length c.requires.positions ∙ length-positions b.network (upto b.entries c.args.second) in
    let within : k < length ps = omega (arith, long, c.requires.device) in
    let same = sym c.net-net.ensures.network in
    let pos = slice_index_or ps c.from.result Opened in
    device_is b c.args.second k ps c.device_name.result c.life_of.result pos c.holds.result c.requires.positions
    (ap (λ (n : Network). slice_get (map (λ d. d.name) n.devices) k) same ∙ c.device_name.ensures)
    (ap (λ (n : Network). slice_get (map (λ d. d.life) n.devices) k) same ∙ c.life_of.ensures.life)
    (ap (λ (i : ℕ). slice_index_or ps i Opened) c.from.ensures ∙ get_or_default ps k Opened pos within)
    c.holds.ensures
