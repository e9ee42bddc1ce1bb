use Rattle.ob_http_requests.specs.Continue.{continue_text}
use Rattle.ob_http_requests.proofs.request.write_interim.Goals as goal

pub returns-then-waits-clause-front : goal.returns-then-waits-clause-front
unfolding continue_text
returns-then-waits-clause-front g c = rw c.if-waits.true c.write_text.ensures.front
