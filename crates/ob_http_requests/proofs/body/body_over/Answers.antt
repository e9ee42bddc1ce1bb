use Rattle.std.proofs.Common.{◌≡◌, ◌∙◌, ap, ◌++◌, length, min, rules}
use Rattle.ob_http_requests.proofs.UnreadLemmas.{whole-body}
use Rattle.ob_http_requests.proofs.body.body_over.Goals as goal

pub returns-then-branch-clause-body : goal.returns-then-branch-clause-body
returns-then-branch-clause-body g c =
    let (more, grown, read) = c.in_ok-fill_body.ensures.more in
    let size : length c.fill_body.new.body.items ≡ c.args.size = search rules in
    let front : c.min-front.result ≡ min (length c.args.ahead.now.items) c.args.size = search rules in
    (size, whole-body _ _ _ more _ _ _ c.args.size front c.in_ok-body.ensures.rest (grown ∙ ap (λ t. t ++ more) c.in_ok-body.ensures.front) read size)
