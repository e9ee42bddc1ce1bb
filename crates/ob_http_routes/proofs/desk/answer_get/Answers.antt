use Rattle.ob_http_replies.specs.declared.status.Allow.TheVariants as allows
use Rattle.ob_http_replies.specs.declared.status.Status.TheVariants as statuses
use Rattle.ob_http_routes.specs.Answers.{empty}
use Rattle.ob_http_routes.proofs.ServingLemmas.{serves_plain}
use Rattle.ob_http_routes.proofs.desk.answer_get.Goals as goal

pub returns-in-View : goal.returns-in-View
returns-in-View g c = rw c.in-View.is c.show_view.ensures

pub returns-in-Command : goal.returns-in-Command
returns-in-Command g c = rw c.in-Command.is c.show_command.ensures

pub returns-in-Commands : goal.returns-in-Commands
returns-in-Commands g c =
    rw c.in-Commands.is
    (serves_plain c.args.keeper.now _ (empty (statuses.MethodNotAllowed allows.Post)) c.args.closes c.bare_reply.result c.bare_reply.ensures (λ b ties. (c.bare_reply.ensures, ties)))

pub returns-in-Import : goal.returns-in-Import
returns-in-Import g c =
    rw c.in-Import.is
    (serves_plain c.args.keeper.now _ (empty (statuses.MethodNotAllowed allows.Post)) c.args.closes c.bare_reply-in-Import.result c.bare_reply-in-Import.ensures
    (λ b ties. (c.bare_reply-in-Import.ensures, ties)))

pub returns-in-Plan : goal.returns-in-Plan
returns-in-Plan g c =
    rw c.in-Plan.is
    (serves_plain c.args.keeper.now _ (empty (statuses.MethodNotAllowed allows.Post)) c.args.closes c.bare_reply-in-Plan.result c.bare_reply-in-Plan.ensures
    (λ b ties. (c.bare_reply-in-Plan.ensures, ties)))
