use Rattle.std.proofs.Common.{◌≡◌, ℕ, ◌<◌, List, Bool, true, false, cond, ap, arith, length, refl, sym, subst, ◌∙◌}
use mathlib.Core.Bool.{beq}
use Rattle.std.specs.List.{All}
use Rattle.ob_base.specs.declared.Pos.{Pos}
use Rattle.ob_net.specs.Joints.{IsComponent, ends_at}
use Rattle.ob_net.specs.Nodes.{is_among}
use Rattle.ob_net.specs.Reach.{is_reached}
use Rattle.ob_net.proofs.Switched.{alone_explored, changed_by, closing_alike, closing_first, closing_second, dead_part, part_same}
use Rattle.ob_net.proofs.supply.connect.Goals.{then-live-a-2, else-live-a-2}
use Rattle.ob_net.proofs.supply.connect.Goals as goal

same : (x y : Bool) → beq x y ≡ true → x ≡ y
same true true h = refl
same true false h = sym h
same false true h = h
same false false h = refl

off_first : (x y : Bool) → beq x y ≡ false → x ≡ false → y ≡ true
off_first true y h f = absurd cc
off_first false true h f = refl
off_first false false h f = absurd cc

off_second : (x y : Bool) → beq x y ≡ false → x ≡ true → y ≡ false
off_second true true h t = absurd cc
off_second true false h t = refl
off_second false y h t = absurd cc

pub returns-then-live-a-clause-live : goal.returns-then-live-a-clause-live
returns-then-live-a-clause-live c =
    closing_alike c.args.joints.now.ends c.args.positions.now c.args.device 0 (is_reached c.args.live.now) (omega (arith, c.requires.device, c.requires.positions))
    (rw c.ends-a.ensures.ends at (same _ _ c.if-live-a.true)) c.requires.live

pub returns-clause-live : goal.returns-clause-live
returns-clause-live c =
    let ends : List (ℕ × ℕ) = c.args.joints.now.ends in
    let ps : List Pos = c.args.positions.now in
    let k = c.args.device in
    let live : ℕ → Bool = is_reached c.args.live.now in
    let new : ℕ → Bool = is_reached c.set_flags.new.flags in
    let found : List ℕ = c.finish.new.found.nodes in
    let m : k < length ps = omega (arith, c.requires.device, c.requires.positions) in
    let each : (v : ℕ) → new v ≡ cond (is_among found v) true (live v) = rw c.nodes.ensures.nodes at c.set_flags.ensures in
    let part = λ (x : ℕ) (is : c.if-live-a-2.dead ≡ x) (dead : live x ≡ false).
    subst (λ (v : ℕ). IsComponent ends ps v (is_among found)) is
    (dead_part ends ps c.if-live-a-2.dead live c.insert.new.self.nodes found (alone_explored ends ps _ _ _ c.insert.ensures.nodes c.requires.none) c.requires.live (ap live is ∙ dead) c.finish.ensures.same c.finish.ensures.whole) in
    elim c.if-live-a-2.branch [
      | then-live-a-2 w ↦
          let on : live (ends_at ends k).0 ≡ true = rw c.ends-a.ensures.ends at w.if-live-a-2.true in
          let dead : live (ends_at ends k).1 ≡ false = rw c.ends-a.ensures.ends at (off_second _ _ c.if-live-a.false w.if-live-a-2.true) in
          closing_second ends ps k 0 live (is_among found) new m c.requires.device on each c.requires.live
          (part (ends_at ends k).1 (w.dead-is ∙ ap (λ (p : ℕ × ℕ). p.1) c.ends-a.ensures.ends) dead)
      | else-live-a-2 w ↦
          let dead : live (ends_at ends k).0 ≡ false = rw c.ends-a.ensures.ends at w.if-live-a-2.false in
          let on : live (ends_at ends k).1 ≡ true = rw c.ends-a.ensures.ends at (off_first _ _ c.if-live-a.false w.if-live-a-2.false) in
          closing_first ends ps k 0 live (is_among found) new m c.requires.device on each c.requires.live
          (part (ends_at ends k).0 (w.dead-is ∙ ap (λ (p : ℕ × ℕ). p.0) c.ends-a.ensures.ends) dead)
    ]

pub returns-clause-changed : goal.returns-clause-changed
returns-clause-changed c =
    let ends : List (ℕ × ℕ) = c.args.joints.now.ends in
    let ps : List Pos = c.args.positions.now in
    let live : ℕ → Bool = is_reached c.args.live.now in
    let found : List ℕ = c.finish.new.found.nodes in
    let dead : live c.if-live-a-2.dead ≡ false = elim c.if-live-a-2.branch [
      | then-live-a-2 w ↦ ap live w.dead-is ∙ off_second _ _ c.if-live-a.false w.if-live-a-2.true
      | else-live-a-2 w ↦ ap live w.dead-is ∙ w.if-live-a-2.false
    ] in
    let part = dead_part ends ps c.if-live-a-2.dead live c.insert.new.self.nodes found (alone_explored ends ps _ _ _ c.insert.ensures.nodes c.requires.none) c.requires.live dead c.finish.ensures.same c.finish.ensures.whole in
    let size : c.finish.new.found.size ≡ length c.args.live.now = c.finish.ensures.size ∙ c.insert.ensures.size ∙ c.requires.size ∙ sym c.requires.count in
    changed_by c.args.live.now c.set_flags.new.flags found true (rw c.nodes.ensures.nodes at c.set_flags.ensures)
    (λ v t. part_same ends ps c.if-live-a-2.dead v live (is_among found) c.requires.live.alike part t ∙ dead)
    (subst (λ (n : ℕ). All (λ v. v < n) found) size c.nodes.ensures.below) c.nodes.ensures.distinct
