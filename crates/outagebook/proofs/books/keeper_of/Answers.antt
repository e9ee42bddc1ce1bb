use Rattle.std.proofs.Common.{ap, ◌∙◌}
use Rattle.outagebook.proofs.books.keeper_of.Goals as goal

pub returns-in-Ok : goal.returns-in-Ok
returns-in-Ok c = (c.adopt_connection.ensures.book, ap (λ h. h.step_limit) c.adopt_connection.ensures.conn ∙ c.in-Ok.ensures.fresh.unlimited)
