-- A command is answered what its plan says.
use Rattle.std.proofs.Common.{◌≡◌, refl, ap, ◌∙◌, Option, Some, None}
use Rattle.ob_base.specs.declared.stop.Refusal.{Refusal}
use Rattle.ob_command.specs.declared.command.Command.{Command}
use Rattle.ob_state.specs.Refusals.{refusal}
use Rattle.ob_book.specs.Acts.{ActState, answer_new, answer_under}
use Rattle.ob_book.specs.Forecasts.{PlansAreActed, answer_planned, plan_under}

new_is : (b : ActState) (command : Command) (r : Option Refusal) → answer_new b command r ≡ answer_planned b (plan_under b.book command r)
new_is b command None = refl
new_is b command (Some r) = refl

pub plans_are_acted : PlansAreActed
plans_are_acted b a new = ap (answer_under b a) new ∙ new_is b a.command (refusal b.book a.command)
