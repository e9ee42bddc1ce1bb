use Rattle.std.proofs.Common.{◌≡◌, ◌↔◌, Option, Some, None, Err, sym, ap, subst, ◌∙◌}
use Rattle.std.specs.Option.{option_map}
use Rattle.ob_base.specs.declared.stop.Stop.TheVariants as stops
use Rattle.ob_state.specs.Refusals.{refusal as refusal_to}
use Rattle.ob_state.specs.State.{BookState}
use Rattle.ob_state.specs.States.{BookValue}
use Rattle.ob_store.specs.Keeping.{KeeperValue}
use Rattle.ob_store.proofs.keeper.Keeper.plan.Goals as goal

one_state : (a b : BookState) → Some a ≡ Some b → a ≡ b
one_state a b e = cc

no_state : {A : Type 0} (b : BookState) → ◌≡◌ {A = Option BookState} None (Some b) → A
no_state b e = cc

pub returns-in-Some-clause-refused : goal.returns-in-Some-clause-refused
returns-in-Some-clause-refused g c b is refusal =
    let state : Option BookValue → Option BookState = option_map (λ (x : BookValue). x.state) in
    let book_is : state c.parts.inside.book ≡ c.args.self.now.parts.book = ap (λ (k : KeeperValue g.row.S.Denot). k.book) c.parts.view_is in
    subst (λ (s : BookState). (c.plan_text.result ≡ Err (stops.Refused refusal)) ↔ (refusal_to s c.args.command.now ≡ Some refusal))
    (one_state c.in-Some.book.state b (sym (ap state c.in-Some.is) ∙ book_is ∙ is)) (c.plan_text.ensures.refused refusal)

pub returns-in-None-clause-refused : goal.returns-in-None-clause-refused
returns-in-None-clause-refused g c b is refusal =
    let state : Option BookValue → Option BookState = option_map (λ (x : BookValue). x.state) in
    let book_is : state c.parts.inside.book ≡ c.args.self.now.parts.book = ap (λ (k : KeeperValue g.row.S.Denot). k.book) c.parts.view_is in
    no_state b (sym (ap state c.in-None.is) ∙ book_is ∙ is)
