use Rattle.std.proofs.Common.{◌≡◌, ◌≤◌, length, refl, ap, subst, ◌∙◌, arith, inl, inr}
use Rattle.std.specs.Prelude.{Ok}
use Rattle.httparse.specs.Grammar.{RequestHead}
use Rattle.httparse.specs.Spans.{IsRequestAt, span_bytes}
use Rattle.ob_http_requests.specs.Framing.{framing_of}
use Rattle.ob_http_requests.proofs.StartLemmas.{IfSome-map, starts-known}
use Rattle.ob_http_requests.proofs.start.start_over.Goals as goal

pub returns-in-TooLong-clause-start : goal.returns-in-TooLong-clause-start
returns-in-TooLong-clause-start g c =
    IfSome-map _ _ _ (λ bytes h. inr (inl (refl, h))) (rw c.in-TooLong.is at c.in_ok-spans.ensures.next)

pub returns-clause-start : goal.returns-clause-start
returns-clause-start g c =
    let short : length c.read_head.new.ahead.items ≤ 16384 = omega arith in
    starts-known _ c.read_head.new.ahead.items _ _ _ _ _ c.in-Head.spans c.in-Ok.framing c.in_ok-spans.ensures.same short
    (rw c.in-Head.is at c.in_ok-spans.ensures.within)
    (rw c.in-Head.is at c.in_ok-spans.ensures.head)
    (subst (λ t. (head : RequestHead) → IsRequestAt t c.read_head.new.fields c.in-Head.spans head → Ok c.in-Ok.framing ≡ framing_of head) c.deref.ensures.value c.in-Ok.ensures)
    c.drop_front.ensures.rest
    (c.in_ok-target.ensures.text ∙ c.of.ensures ∙ ap (λ t. span_bytes t c.in-Head.spans.path) c.deref-2.ensures.value)
