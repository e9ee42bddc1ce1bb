use Rattle.std.proofs.Common.{◌≡◌, ◌++◌, ◌∷◌, [], rules}
use Rattle.ob_state.specs.contracts.state.State.{the_view}
use Rattle.ob_state.proofs.Changing.{sound_entered}
use Rattle.ob_state.proofs.state.State.enter.Goals as goal

pub invariant_of-self : goal.invariant_of-self
invariant_of-self c =
    let is : c.add.new.self.entries ≡ c.self.inside.sheet.entries ++ c.args.entry ∷ [] = search rules in
    let takes = rw (← c.self.view_is) at c.requires.takes in
    rw is (sound_entered (the_view c.self.inside).state c.args.entry c.self.invariant takes)
