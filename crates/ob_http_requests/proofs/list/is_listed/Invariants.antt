use Rattle.std.proofs.Common.{◌≡◌, length}
use Rattle.ob_http_requests.specs.Fields.{elements, says}
use Rattle.ob_http_requests.proofs.list.is_listed.Given as goal

-- the elements to come say what all say
abbrev pub invariant-elements : goal.invariant-elements
invariant-elements l = says l.option (elements l.rest) ≡ says l.option (elements l.value)

abbrev pub decreases-elements : goal.decreases-elements
decreases-elements l = length l.rest
