use Rattle.std.proofs.Common.{◌≡◌, ◌<◌, false, List, length, get_or, arith, refl, sym, ◌∙◌}
use Rattle.std.proofs.lemmas.List.{get_or_default}
use Rattle.ob_base.specs.declared.Pos.{Pos}
use Rattle.ob_base.specs.declared.Pos.TheVariants.{Closed, Opened}
use Rattle.ob_base.specs.contracts.Pos.{the_type}
use denote.Enum.Bare.{sameb}
use Rattle.ob_net.proofs.Switched.{closed_again}
use Rattle.ob_net.proofs.supply.Supply.switch.Goals as goal

was_closed : (x y : Pos) → sameb the_type x y ≡ false → y ≡ Opened → x ≡ Closed
was_closed Opened Opened f e = absurd cc
was_closed Opened Closed f e = absurd cc
was_closed Closed y f e = refl

pub disconnect-requires-clause-live : goal.disconnect-requires-clause-live
disconnect-requires-clause-live c =
    let old : List Pos = c.self.inside.positions.items in
    let k = c.from-device.result in
    let d : c.args.device < length c.self.inside.joints.ends = rw (← c.self.view_is) at c.requires in
    let l : k < length old = omega (arith, d, c.from-device.ensures, c.self.invariant.each) in
    let was : c.index.result.now ≡ Closed = was_closed _ _ (sym c.eq.ensures ∙ c.if-eq.false) c.in-Opened.is in
    let here : get_or old k Opened ≡ Closed = get_or_default old k Opened c.index.result.now l ∙ sym c.index.ensures ∙ was in
    rw (c.deref-in-Opened.ensures.value, closed_again old k l here, c.deref_mut-in-Opened.ensures.value) c.self.invariant.supplied
