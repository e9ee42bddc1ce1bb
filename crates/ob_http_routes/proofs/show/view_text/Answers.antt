use Rattle.std.proofs.Common.{ap, Some}
use Rattle.ob_http_routes.proofs.show.view_text.Goals as goal

pub returns-in_ok-indices_text-in-Indices-clause-text : goal.returns-in_ok-indices_text-in-Indices-clause-text
returns-in_ok-indices_text-in-Indices-clause-text g c = rw c.in-Indices.is (ap Some c.in_ok-indices_text-in-Indices.ensures.text)
