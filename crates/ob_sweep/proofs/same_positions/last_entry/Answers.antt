use Rattle.std.proofs.Common.{◌==◌, sym, ap, ◌∙◌}
use Rattle.std.specs.Option.{option_and_then}
use Rattle.ob_sheet.specs.Order.{entry_of}
use Rattle.ob_sweep.proofs.Preceding.{last_looked_up}
use Rattle.ob_sweep.proofs.same_positions.last_entry.Goals as goal

pub returns-in-Some : goal.returns-in-Some
returns-in-Some c =
    let entries = c.args.sheet.now.entries in
    c.entry.ensures.entry
    ∙ ap (option_and_then (entry_of entries)) (sym c.in-Some.is ∙ c.last_of.ensures.last)
    ∙ last_looked_up entries (λ e. e.device == c.args.device) c.args.place c.requires.named

pub returns-in-None : goal.returns-in-None
returns-in-None c =
    let entries = c.args.sheet.now.entries in
    ap (option_and_then (entry_of entries)) (sym c.in-None.is ∙ c.last_of.ensures.last)
    ∙ last_looked_up entries (λ e. e.device == c.args.device) c.args.place c.requires.named
