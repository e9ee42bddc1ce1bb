use Rattle.std.proofs.Common.{sym}
use Rattle.ob_http_routes.proofs.ServingLemmas.{serves_unopened, serves_view}
use Rattle.ob_http_routes.proofs.show.show_view.Goals as goal

pub returns-in-Some : goal.returns-in-Some
returns-in-Some g c = serves_view c.args.keeper.now c.in-Some.book.now.state c.args.view c.args.closes c.show.result c.in-Some.ensures.state c.show.ensures

pub returns-in-None : goal.returns-in-None
returns-in-None g c = serves_unopened c.args.keeper.now _ c.args.closes (sym c.in-None.ensures.state)
