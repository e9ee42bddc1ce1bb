use Rattle.std.proofs.Common.{◌∙◌, ap, length}
use Rattle.ob_time.specs.Calendar.{day_count}
use Rattle.ob_state.specs.States.{BookValue}
use Rattle.ob_book.proofs.book.Book.marks.Goals as goal

pub returns-clause-places : goal.returns-clause-places
returns-clause-places g c =
    ap length c.marks.ensures ∙ c.accepted.ensures.sound.state.marks ∙ ap (λ (v : BookValue). day_count v.state.period) c.self.view_is
