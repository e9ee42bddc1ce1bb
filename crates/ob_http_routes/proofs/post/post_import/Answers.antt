use Rattle.std.proofs.Common.{◌≡◌, None, rules}
use Rattle.std.specs.Prelude.{IsSome}
use Rattle.ob_http_routes.proofs.ServingLemmas.{serves_report, serves_stopped, serves_unopened}
use Rattle.ob_http_routes.proofs.post.post_import.Goals as goal
use Rattle.ob_store.specs.Keepers.{book_of}

pub returns-then-is_none : goal.returns-then-is_none
returns-then-is_none g c =
    let none : book_of c.args.keeper.now ≡ None = search rules in
    serves_unopened c.args.keeper.now _ c.args.closes none

pub returns-in-Ok : goal.returns-in-Ok
returns-in-Ok g c =
    let there : IsSome (book_of c.args.keeper.now) = search rules in
    let e = c.in-Ok.ensures in
    serves_report c.args.keeper.now c.import_text.new.keeper c.args.body.now c.in-Ok.report c.args.closes c.report_reply.result there e.dropped e.clean e.tells e.imported c.report_reply.ensures

pub returns-in-Err : goal.returns-in-Err
returns-in-Err g c =
    let there : IsSome (book_of c.args.keeper.now) = search rules in
    let e = c.in-Err.ensures in
    serves_stopped c.args.keeper.now c.import_text.new.keeper c.args.body.now c.in-Err.stopped c.args.closes there e.dropped e.cause e.clean e.tells e.imported
