use Rattle.std.proofs.Common.{◌≡◌}
use Rattle.ob_sheet.specs.Revisions.{change_entry}
use Rattle.ob_state.specs.contracts.state.State.{the_view}
use Rattle.ob_state.proofs.Changing.{sound_replaced}
use Rattle.ob_state.proofs.state.State.correct.Goals as goal

pub invariant_of-self : goal.invariant_of-self
invariant_of-self c =
    let is : c.replace.new.self.entries ≡ change_entry c.args.old.«no» (λ _. c.args.new) c.self.inside.sheet.entries = c.replace.ensures.entries in
    let takes = rw (← c.self.view_is) at c.requires in
    rw is (sound_replaced (the_view c.self.inside).state c.args.old.«no» c.args.new c.self.invariant takes.of)
