use Rattle.std.proofs.Common.{◌≡◌, subst, sym}
use Rattle.std.specs.Prelude.{IfSome, Option}
use Rattle.ob_state.specs.State.{BookState}
use Rattle.ob_headline.proofs.showing.shown.Goals as goal

pub returns-in-Ok-clause-headline : goal.returns-in-Ok-clause-headline
returns-in-Ok-clause-headline g c =
    λ b ties. c.in-Ok.ensures.headline b ties.kept.reached (subst (λ (o : Option BookState). IfSome o (λ s. s ≡ b.book)) (sym c.in-Some.ensures.state) ties.book)
