-- The network of a book, one command after another.
use Rattle.std.proofs.Common.{◌≡◌, ◌∙◌, refl, sym, ap, ap₂}
use Rattle.ob_command.specs.declared.command.Command.{Command}
use Rattle.ob_state.specs.State.{BookState}
use Rattle.ob_state.specs.Next.{next}
use Rattle.ob_state.specs.Resolved.{changed_by}
use Rattle.ob_state.specs.declared.resolved.Resolved.{Resolved}
use Rattle.ob_state.specs.declared.resolved.Resolved.TheVariants.{Cause, Node, Device, Life, Customer, Service, Entered, Corrected, Withdrawn, Marked, Unmarked}
use Rattle.ob_book.specs.Plans.{IsPlan, PlanState}
use Rattle.ob_sql_read.specs.Layout.{network_by}

-- what a command comes to makes of the book's network what it makes of one alone
step_network : (b : BookState) (r : Resolved) → (changed_by b r).network ≡ network_by b.network r
step_network b (Cause code name) = refl
step_network b (Node number node) = refl
step_network b (Device number device) = refl
step_network b (Life device old new) = refl
step_network b (Customer customer) = refl
step_network b (Service old new) = refl
step_network b (Entered entry) = refl
step_network b (Corrected old new) = refl
step_network b (Withdrawn old new) = refl
step_network b (Marked day engineer) = refl
step_network b (Unmarked day) = refl

-- and so the network after a plan's command is known
pub network_after : (s b : BookState) (plan : PlanState) (x : Command) → IsPlan s plan → s ≡ b → plan.command ≡ x
    → network_by b.network plan.resolved ≡ (next b x).network
network_after s b plan x is same command =
    ap (λ (t : BookState). network_by t.network plan.resolved) (sym same)
    ∙ sym (step_network s plan.resolved)
    ∙ is.resolves.network
    ∙ ap₂ (λ (t : BookState) (k : Command). (next t k).network) same command
