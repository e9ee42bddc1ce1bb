use Rattle.std.proofs.Common.{ap, Some, Err, rules}
use Rattle.std.specs.Prelude.{IsSome}
use Rattle.ob_http_replies.specs.declared.reply.MediaType.TheVariants.{Json}
use Rattle.ob_http_routes.specs.Answers.{found, refused}
use Rattle.ob_http_routes.proofs.ServingLemmas.{serves_planned}
use Rattle.ob_http_routes.proofs.plan.post_plan.Goals as goal
use Rattle.ob_store.specs.Keepers.{book_of}

pub returns-in-Ok-clause-serves : goal.returns-in-Ok-clause-serves
returns-in-Ok-clause-serves g c =
    let there : IsSome (book_of c.args.keeper.now) = search rules in
    let e = c.in-Ok.ensures in
    serves_planned c.args.keeper.now c.plan.new.keeper c.args.body.now (found Json (Some c.in-Ok.text.items)) c.args.closes c.shown_reply.result e.same there e.text (rw c.deref.ensures.value at c.shown_reply.ensures)

pub returns-in-Err-Refused-clause-serves : goal.returns-in-Err-Refused-clause-serves
returns-in-Err-Refused-clause-serves g c =
    let there : IsSome (book_of c.args.keeper.now) = search rules in
    let e = c.in-Err-Refused.ensures in
    serves_planned c.args.keeper.now c.plan.new.keeper c.args.body.now (refused c.in-Err-Refused.refusal) c.args.closes c.refused_reply.result e.same there
    (λ b is. e.refused b is c.in-Err-Refused.refusal (ap Err c.in-Err-Refused.field-0-is)) c.refused_reply.ensures
