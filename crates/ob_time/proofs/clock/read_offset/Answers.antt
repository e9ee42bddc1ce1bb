use Rattle.ob_time.specs.Moment.IsOffsetText.{east, west}
use Rattle.ob_time.proofs.MomentLemmas.{offset-east-none, offset-west-none, some-weaker, none-weaker}
use Rattle.ob_time.proofs.clock.read_offset.Goals as goal

pub returns-in-Some-clause-found : goal.returns-in-Some-clause-found
returns-in-Some-clause-found c =
    some-weaker c.signed_offset.result _ _ (λ o h. east c.in-Some.rest.now h.0 h.1 c.in-Some.ensures.found h.2) c.signed_offset.ensures.found

pub returns-in-Some-clause-none : goal.returns-in-Some-clause-none
returns-in-Some-clause-none c =
    none-weaker c.signed_offset.result _ _ (λ none o. offset-east-none _ c.in-Some.rest.now o c.in-Some.ensures.found none) c.signed_offset.ensures.none

pub returns-in-Some-after-clause-found : goal.returns-in-Some-after-clause-found
returns-in-Some-after-clause-found c =
    some-weaker c.signed_offset-in-Some-after.result _ _ (λ o h. west c.in-Some-after.rest.now h.0 h.1 c.in-Some-after.ensures.found h.2) c.signed_offset-in-Some-after.ensures.found

pub returns-in-Some-after-clause-none : goal.returns-in-Some-after-clause-none
returns-in-Some-after-clause-none c =
    none-weaker c.signed_offset-in-Some-after.result _ _ (λ none o. offset-west-none _ c.in-Some-after.rest.now o c.in-Some-after.ensures.found none) c.signed_offset-in-Some-after.ensures.none
