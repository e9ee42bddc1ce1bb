use Rattle.std.proofs.Common.{◌≡◌, None, inl, rules}
use Rattle.std.specs.Prelude.{IsSome}
use Rattle.ob_http_routes.specs.Answers.{refused}
use Rattle.ob_http_routes.proofs.AnsweringLemmas.{answered_said, answered_unsaid}
use Rattle.ob_http_routes.proofs.ServingLemmas.{serves_as, serves_made, serves_short, serves_unopened}
use Rattle.ob_http_routes.proofs.post.post_command.Goals as goal
use Rattle.ob_store.specs.Keepers.{book_of}

pub returns-then-is_none : goal.returns-then-is_none
returns-then-is_none g c =
    let none : book_of c.args.keeper.now ≡ None = search rules in
    serves_unopened c.args.keeper.now _ c.args.closes none

pub returns-in-Ok : goal.returns-in-Ok
returns-in-Ok g c =
    serves_as c.args.keeper.now c.act.new.keeper _ _ _ c.args.closes c.act.result
    (λ b h. answered_said c.act.new.keeper b c.in-Ok.said c.args.body.now c.args.closes c.act.result c.in-Ok.ensures h) c.act.ensures

pub returns-in-Err-Refused : goal.returns-in-Err-Refused
returns-in-Err-Refused g c =
    let there : IsSome (book_of c.args.keeper.now) = search rules in
    let says = rw c.in-Err-Refused.field-0-is at c.in-Err-Refused.ensures in
    serves_made c.args.keeper.now _ (refused c.in-Err-Refused.refusal) c.args.closes c.refused_reply.result there c.refused_reply.ensures
    (λ b ties. answered_unsaid c.args.keeper.now b c.in-Err-Refused.refusal c.args.body.now c.args.closes c.refused_reply.result says c.refused_reply.ensures ties)

pub returns-in-Err-Fault : goal.returns-in-Err-Fault
returns-in-Err-Fault g c =
    let there : IsSome (book_of c.args.keeper.now) = search rules in
    serves_short c.args.keeper.now _ c.args.closes there (λ b ties. inl ties)
