use Rattle.std.proofs.Common.{◌≡◌, ◌∙◌, ◌<◌, sym, ap, subst, length, List, Some}
use Rattle.ob_net.specs.Network.{Network}
use Rattle.ob_sheet.specs.declared.Entry.{Entry}
use Rattle.ob_sheet.specs.Order.{entry_of}
use Rattle.ob_book_tests.proofs.Found.{device_of_entry}
use Rattle.ob_book_tests.proofs.views.device_of.Goals as goal

pub device_name-requires : goal.device_name-requires
device_name-requires g c =
    let b = c.args.book.now.state in
    let e = c.in_ok-entry.entry in
    let found : entry_of b.entries c.args.number ≡ Some e = ap (λ (es : List Entry). entry_of es c.args.number) (sym c.sheet.ensures) ∙ sym c.in_ok-entry.ensures.entry in
    subst (λ (n : Network). e.device < length n.devices) (sym c.net.ensures.network) (device_of_entry (length b.network.devices) b.entries c.args.number e found c.accepted.ensures.sound.state.devices)
