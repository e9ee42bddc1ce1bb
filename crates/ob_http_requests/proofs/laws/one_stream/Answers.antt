use Rattle.ob_http_requests.proofs.StreamLemmas.{one-stream}
use Rattle.ob_http_requests.proofs.laws.one_stream.Goals as goal

pub returns : goal.returns
returns c = one-stream
