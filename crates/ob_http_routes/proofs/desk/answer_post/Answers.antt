use Rattle.std.proofs.Common.{refl}
use Rattle.ob_http_replies.specs.declared.status.Allow.TheVariants as allows
use Rattle.ob_http_replies.specs.declared.status.Status.TheVariants as statuses
use Rattle.ob_http_routes.specs.Answers.{empty}
use Rattle.ob_http_routes.proofs.ServingLemmas.{serves_plain}
use Rattle.ob_http_routes.proofs.desk.answer_post.Goals as goal

pub returns-in-Commands-clause-serves : goal.returns-in-Commands-clause-serves
returns-in-Commands-clause-serves g c = rw c.in-Commands.is c.post_command.ensures

pub returns-in-Import-clause-serves : goal.returns-in-Import-clause-serves
returns-in-Import-clause-serves g c = rw c.in-Import.is c.post_import.ensures

pub returns-in-Plan-clause-serves : goal.returns-in-Plan-clause-serves
returns-in-Plan-clause-serves g c = rw c.in-Plan.is c.post_plan.ensures.serves

pub returns-in-Command-clause-serves : goal.returns-in-Command-clause-serves
returns-in-Command-clause-serves g c =
    rw c.in-Command.is
    (serves_plain c.args.keeper.now _ (empty (statuses.MethodNotAllowed allows.Get)) c.args.closes c.bare_reply.result c.bare_reply.ensures
    (λ b ties. (empty (statuses.MethodNotAllowed allows.Get), b, (refl, refl), c.bare_reply.ensures, ties)))

pub returns-in-View-clause-serves : goal.returns-in-View-clause-serves
returns-in-View-clause-serves g c =
    rw c.in-View.is
    (serves_plain c.args.keeper.now _ (empty (statuses.MethodNotAllowed allows.Get)) c.args.closes c.bare_reply-in-View.result c.bare_reply-in-View.ensures
    (λ b ties. (empty (statuses.MethodNotAllowed allows.Get), b, (refl, refl), c.bare_reply-in-View.ensures, ties)))
