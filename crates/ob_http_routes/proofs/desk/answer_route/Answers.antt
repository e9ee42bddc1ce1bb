use Rattle.std.proofs.Common.{refl}
use Rattle.ob_http_replies.specs.declared.status.Status.TheVariants as statuses
use Rattle.ob_http_routes.specs.Answers.{empty}
use Rattle.ob_http_routes.proofs.AnsweringLemmas.{answered_got}
use Rattle.ob_http_routes.proofs.ServingLemmas.{serves_as, serves_plain}
use Rattle.ob_http_routes.proofs.desk.answer_route.Goals as goal

pub returns-in-None-clause-serves : goal.returns-in-None-clause-serves
returns-in-None-clause-serves g c =
    rw c.in-None.is
    (serves_plain c.args.keeper.now _ (empty statuses.NotFound) c.args.closes c.bare_reply.result c.bare_reply.ensures
    (λ b ties. (empty statuses.NotFound, b, (refl, refl), c.bare_reply.ensures, ties)))

pub returns-in-Get-clause-serves : goal.returns-in-Get-clause-serves
returns-in-Get-clause-serves g c =
    rw (c.in-Some.is, c.in-Get.is)
    (serves_as c.args.keeper.now c.answer_get.new.keeper _ _ _ c.args.closes c.answer_get.result
    (λ b h. answered_got c.answer_get.new.keeper b c.in-Some.route c.args.body.now c.args.closes c.answer_get.result h) c.answer_get.ensures)

pub returns-in-Post-clause-serves : goal.returns-in-Post-clause-serves
returns-in-Post-clause-serves g c = rw (c.in-Some.is, c.in-Post.is) c.answer_post.ensures.serves
