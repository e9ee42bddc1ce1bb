use Rattle.std.proofs.Common.{◌≡◌, ◌∙◌, sym}
use Rattle.ob_sheet.specs.Revisions.{change_entry, withdrawn}
use Rattle.ob_state.specs.contracts.state.State.{the_view}
use Rattle.ob_state.proofs.Changing.{sound_withdrawn, withdrawn_there}
use Rattle.ob_state.proofs.state.State.withdraw.Goals as goal

pub invariant_of-self : goal.invariant_of-self
invariant_of-self c =
    let b = (the_view c.self.inside).state in
    let takes = rw (← c.self.view_is) at c.requires in
    let is : c.replace.new.self.entries ≡ change_entry c.args.old.«no» withdrawn c.self.inside.sheet.entries =
    c.replace.ensures.entries ∙ sym (withdrawn_there b c.args.old c.args.new c.entry.ensures.numbered takes) in
    rw is (sound_withdrawn b c.args.old.«no» c.self.invariant)
