-- What a plan's body and the keeper's plan say together.
use Rattle.std.proofs.Common.{◌≡◌, ◌↔◌, ap, refl, ℕ, List, Option, Some, None, Result, Ok, Err, is_ok, true≢false}
use Rattle.std.specs.Prelude.{IfOk}
use Rattle.ob_base.specs.declared.stop.Refusal.{Refusal}
use Rattle.ob_base.specs.declared.stop.Stop.{Stop}
use Rattle.ob_base.specs.declared.stop.Stop.TheVariants.{Fault, Refused}
use Rattle.ob_command.specs.declared.command.Command.{Command}
use Rattle.ob_state.specs.Refusals.{refusal}
use Rattle.ob_state.specs.State.{BookState}
use Rattle.ob_book.specs.Forecasts.{forecast_text_of}
use Rattle.ob_http_replies.specs.JsonCommands.{IsJsonPlan, ReadsJsonPlan}
use Rattle.ob_http_replies.specs.declared.reply.MediaType.TheVariants.{Json}
use Rattle.ob_http_routes.specs.Answers.{IsPlanAnswer, found, refused}

-- a body that says no command
pub unread_plan : {X : Type 0} (b : BookState) (body : List ℕ) (stop : Stop) (r : Refusal) → ReadsJsonPlan body (Err stop) → ◌≡◌ {A = Result X Stop} (Err stop) (Err (Refused r))
    → IsPlanAnswer b body (refused r)
unread_plan b body (Refused other) r reads e = (let same : other ≡ r = cc in (Err r, rw same at reads, refl))
unread_plan b body (Fault fault) r reads e = cc

-- a command that is refused
pub refused_plan : (b : BookState) (body : List ℕ) (command : Command) (r : Refusal) → IsJsonPlan body (Ok command) → refusal b command ≡ Some r → IsPlanAnswer b body (refused r)
refused_plan b body command r says e = (Ok command, says, rw e refl)

no_refusal : {X : Type 0} (x : X) (r : Refusal) → ◌≡◌ {A = Result X Stop} (Ok x) (Err (Refused r)) → ⊥
no_refusal x r e = true≢false (ap is_ok e)

-- a command that isn't
accepted_plan : {X : Type 0} (items : X → List ℕ) (b : BookState) (body : List ℕ) (command : Command) (x : X) (why : Option Refusal) → refusal b command ≡ why
    → IsJsonPlan body (Ok command) → ((r : Refusal) → (◌≡◌ {A = Result X Stop} (Ok x) (Err (Refused r))) ↔ (refusal b command ≡ Some r)) → items x ≡ forecast_text_of b command
    → IsPlanAnswer b body (found Json (Some (items x)))
accepted_plan items b body command x (Some r) why says refuses is = absurd (no_refusal x r ((refuses r).1 why))
accepted_plan items b body command x None why says refuses is = (Ok command, says, rw (why, is) refl)

pub made_plan : {X : Type 0} (items : X → List ℕ) (b : BookState) (body : List ℕ) (command : Command) (result : Result X Stop)
    → IsJsonPlan body (Ok command) → ((r : Refusal) → (result ≡ Err (Refused r)) ↔ (refusal b command ≡ Some r)) → IfOk result (λ x. items x ≡ forecast_text_of b command)
    → IfOk result (λ x. IsPlanAnswer b body (found Json (Some (items x))))
made_plan items b body command (Ok x) says refuses is = accepted_plan items b body command x (refusal b command) refl says refuses is
made_plan items b body command (Err stop) says refuses is = tt
