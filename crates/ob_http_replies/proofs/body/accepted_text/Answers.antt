use Rattle.ob_http_replies.proofs.Floats.{accepted_has_none}
use Rattle.ob_http_replies.proofs.body.accepted_text.Goals as goal

pub returns-clause-text : goal.returns-clause-text
returns-clause-text c =
    let text = rw c.in_ok-accepted.ensures at c.in_ok-to_vec.ensures.text in
    text (accepted_has_none c.args.«no» c.args.moved.now)
