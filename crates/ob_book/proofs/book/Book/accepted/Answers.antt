use Rattle.std.proofs.Common.{arith, subst}
use Rattle.ob_state.specs.States.{BookValue, IsSoundState}
use Rattle.ob_book.proofs.book.Book.accepted.Goals as goal

pub returns-clause-few : goal.returns-clause-few
returns-clause-few g c = omega (arith, c.accepted.ensures.accepted, c.accepted.ensures.sound.state.few)

pub returns-clause-sound : goal.returns-clause-sound
returns-clause-sound g c = subst (λ (v : BookValue). IsSoundState v.state) c.self.view_is c.accepted.ensures.sound
