use Rattle.std.proofs.Common.{◌≡◌, ◌<◌, ◌≤◌, length, Some, ap, subst, ◌∙◌, arith}
use Rattle.std.proofs.lemmas.Bool.Decides.{nat_tests}
use Rattle.ob_store.proofs.Answered.{none_past, some_within}
use Rattle.ob_store.proofs.stored.reply_at.Goals as goal

pub returns-then-accepted-no-clause-replies : goal.returns-then-accepted-no-clause-replies
returns-then-accepted-no-clause-replies g c clean b keeps same =
    let id = c.args.«no» in
    let count : c.accepted.result ≡ length b.accepted = c.accepted.ensures.accepted ∙ ap (λ s. s.accepted) same ∙ c.reached_law.ensures.counts b keeps.reached in
    let below : c.accepted.result < id = grind (arith, nat_tests, c.if-accepted-no.true) in
    (none_past b id (subst (λ n. n < id) count below), keeps)

pub returns-in-Ok-clause-replies : goal.returns-in-Ok-clause-replies
returns-in-Ok-clause-replies g c clean b keeps same =
    let id = c.args.«no» in
    let count : c.accepted.result ≡ length b.accepted = c.accepted.ensures.accepted ∙ ap (λ s. s.accepted) same ∙ c.reached_law.ensures.counts b keeps.reached in
    let least : 1 ≤ id = grind (arith, nat_tests, c.if-no-eq0.false) in
    let low : id ≤ c.accepted.result = grind (arith, nat_tests, c.if-accepted-no.false) in
    let most : id ≤ length b.accepted = subst (λ n. id ≤ n) count low in
    (ap Some (c.in-Ok.ensures.reply clean b keeps least most) ∙ some_within b id least most, c.stored_reply.ensures.kept b keeps)

pub returns-in-Err-clause-cause : goal.returns-in-Err-clause-cause
returns-in-Err-clause-cause g c clean b keeps same =
    let id = c.args.«no» in
    let count : c.accepted.result ≡ length b.accepted = c.accepted.ensures.accepted ∙ ap (λ s. s.accepted) same ∙ c.reached_law.ensures.counts b keeps.reached in
    let least : 1 ≤ id = grind (arith, nat_tests, c.if-no-eq0.false) in
    let low : id ≤ c.accepted.result = grind (arith, nat_tests, c.if-accepted-no.false) in
    let most : id ≤ length b.accepted = subst (λ n. id ≤ n) count low in
    c.in-Err.ensures.cause clean b keeps least most
