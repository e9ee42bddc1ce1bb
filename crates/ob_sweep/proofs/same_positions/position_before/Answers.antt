use Rattle.std.proofs.Common.{◌≡◌, ◌-◌, arith, get_or, refl, sym, ◌∙◌, take}
use Rattle.ob_sheet.proofs.Numbered.{entry_with}
use Rattle.ob_sheet.proofs.Writing.{latest_position, normal_at, normal_position}
use Rattle.ob_sheet.specs.declared.Entry.{Entry}
use Rattle.ob_sheet.specs.Order.{in_order}
use Rattle.ob_sweep.proofs.Preceding.{position_there}
use Rattle.ob_sweep.proofs.same_positions.position_before.Goals as goal

pub returns-in-Some-clause-position : goal.returns-in-Some-clause-position
returns-in-Some-clause-position c =
    let net = c.args.net.now.network in
    let entries = c.args.sheet.now.entries in
    let e = c.args.entry.now in
    let place = c.place_behind-place.result in
    let x = c.place_behind-place.ensures in
    let at : Entry = entry_with e.second (e.«no» - 1) in
    let number : e.«no» - 1 ≡ c.saturating_sub.result = omega (arith, c.saturating_sub.ensures) in
    position_there net entries e place c.in-Some.last.pos x.numbered (x.before at refl number) (x.behind at refl number) c.requires.device
    (λ d. latest_position (take place (in_order entries)) e.device (get_or net.devices e.device d) c.in-Some.last (sym c.last_entry.ensures ∙ c.in-Some.is))

pub returns-in-None-clause-position : goal.returns-in-None-clause-position
returns-in-None-clause-position c =
    let net = c.args.net.now.network in
    let entries = c.args.sheet.now.entries in
    let e = c.args.entry.now in
    let place = c.place_behind-place.result in
    let x = c.place_behind-place.ensures in
    let at : Entry = entry_with e.second (e.«no» - 1) in
    let number : e.«no» - 1 ≡ c.saturating_sub.result = omega (arith, c.saturating_sub.ensures) in
    position_there net entries e place c.normal.result x.numbered (x.before at refl number) (x.behind at refl number) c.requires.device
    (λ d.
    normal_position (take place (in_order entries)) e.device (get_or net.devices e.device d) (sym c.last_entry.ensures ∙ c.in-None.is)
    ∙ normal_at net.devices e.device c.normal.result d c.requires.device c.normal.ensures)
