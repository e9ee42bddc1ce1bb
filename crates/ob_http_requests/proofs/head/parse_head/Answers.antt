use Rattle.std.proofs.Common.{ap}
use Rattle.std.specs.Prelude.{Err}
use Rattle.ob_http_requests.proofs.HeadLemmas.{short-never-exceeds}
use Rattle.ob_http_requests.proofs.head.parse_head.Goals as goal

pub returns-in-Err-clause-refused : goal.returns-in-Err-clause-refused
returns-in-Err-clause-refused c =
    λ _. c.in-Err.ensures.invalid (λ same. short-never-exceeds c.args.bytes.now _ c.requires.room c.requires.bound (c.in-Err.ensures.too_many (ap Err same)))
