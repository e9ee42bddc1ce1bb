use Rattle.std.proofs.Common.{◌≡◌, ℕ, ◌⊎◌, List, IfSome, Option, None, Some, set, subst}
use Rattle.ob_base.specs.declared.Pos.{Pos}
use Rattle.ob_base.specs.declared.Pos.TheVariants.{Opened}
use Rattle.ob_net.specs.Joints.{ends_at}
use Rattle.ob_net.specs.Network.{Network}
use Rattle.ob_net.specs.Traces.{AreConnectedWithin, IsPartWithout}
use Rattle.ob_net.proofs.CutOff.{cut_off_found, joined_found}
use Rattle.ob_net.proofs.net.Net.cut_off.Goals as goal

-- what follows from two facts about the value in a `Some`
both : {X : Type 0} (r : Option X) (P Q R : X → Type 0) → ((x : X) → P x → Q x → R x) → IfSome r P → IfSome r Q → IfSome r R
both None P Q R f p q = tt
both (Some x) P Q R f p q = f x p q

pub returns-clause-cut : goal.returns-clause-cut
returns-clause-cut c =
    let net : Network = c.args.self.now.network in
    let ps : List Pos = c.args.positions.now in
    let k = c.args.device in
    both c.cut_off.result _ _ _
    (λ cut which part. cut_off_found net ps k cut.other cut.end c.cut_off.new.self.found c.requires.device which part)
    (subst (λ (ends : List (ℕ × ℕ)). IfSome c.cut_off.result (λ cut. (ends_at ends k ≡ (cut.end, cut.other)) ⊎ (ends_at ends k ≡ (cut.other, cut.end)))) c.requires.of.ends c.cut_off.ensures.which)
    (subst (λ (ends : List (ℕ × ℕ)). IfSome c.cut_off.result (λ cut. IsPartWithout ends (set ps k Opened) cut.other cut.end c.cut_off.new.self.found)) c.requires.of.ends c.cut_off.ensures.cut)

pub returns-clause-joined : goal.returns-clause-joined
returns-clause-joined c = λ none.
    let net : Network = c.args.self.now.network in
    let ps : List Pos = c.args.positions.now in
    let k = c.args.device in
    joined_found net ps k c.cut_off.new.self.found c.requires.device
    (subst (λ (ends : List (ℕ × ℕ)). AreConnectedWithin ends (set ps k Opened) (ends_at ends k).0 (ends_at ends k).1 c.cut_off.new.self.found) c.requires.of.ends (c.cut_off.ensures.joined none))
