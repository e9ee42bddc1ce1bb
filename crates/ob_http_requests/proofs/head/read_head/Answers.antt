use Rattle.std.proofs.Common.{arith, ◌≡◌, ◌≤◌, length, refl, subst}
use Rattle.httparse.specs.Grammar.{NeverHasRequest}
use Rattle.ob_http_requests.specs.Head.{IsUnfinished}
use Rattle.ob_http_requests.proofs.HeadLemmas.{refused-front, too-long}
use Rattle.ob_http_requests.proofs.UnreadLemmas.{through-ahead}
use Rattle.ob_http_requests.proofs.head.read_head.Goals as goal

pub returns-in-Refused-clause-next : goal.returns-in-Refused-clause-next
returns-in-Refused-clause-next g c =
    let refused = subst NeverHasRequest c.deref.ensures.value (c.in-Refused.ensures.refused refl) in
    let short : length c.pieces.ahead.items ≤ 16384 = omega arith in
    through-ahead _ _ _ _ _ c.pieces.invariant.same (λ rest. refused-front _ rest short refused)

pub returns-then-len-eq-HEAD_BOUND-clause-next : goal.returns-then-len-eq-HEAD_BOUND-clause-next
returns-then-len-eq-HEAD_BOUND-clause-next g c =
    let unfinished = subst IsUnfinished c.deref.ensures.value (c.in-Unfinished.ensures.unfinished refl) in
    let long : length c.pieces.ahead.items ≡ 16384 = omega arith in
    through-ahead _ _ _ _ _ c.pieces.invariant.same (λ rest. too-long _ rest long unfinished)
