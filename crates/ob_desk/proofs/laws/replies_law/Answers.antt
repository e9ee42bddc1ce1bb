use Rattle.ob_desk.proofs.LawLemmas.{one-text}
use Rattle.ob_desk.proofs.laws.replies_law.Goals as goal

pub returns : goal.returns
returns c = one-text c.answers_law.ensures.one
