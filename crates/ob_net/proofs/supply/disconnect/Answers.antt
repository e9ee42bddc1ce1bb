use Rattle.std.proofs.Common.{◌≡◌, ℕ, ◌<◌, List, Bool, true, false, cond, ap, arith, inl, inr, length, sym, subst, ◌∙◌}
use Rattle.std.specs.List.{All}
use Rattle.ob_base.specs.declared.Pos.{Pos}
use Rattle.ob_net.specs.Joints.{IsAlikeOver, IsComponent, IsExplored}
use Rattle.ob_net.specs.Nodes.{NodeList, is_among}
use Rattle.ob_net.specs.Reach.{is_reached}
use Rattle.ob_net.proofs.Switched.{alike_here, alike_less, alone_explored, both_kept, changed_by, opening_dead, opening_first, opening_kept, opening_second, part_same}
use Rattle.ob_net.proofs.supply.disconnect.Goals as goal

-- the set that was chosen, as it was followed so far
chosen : (ends : List (ℕ × ℕ)) (ps : List Pos) (x next : ℕ) (new old : NodeList) → new ≡ old → IsExplored ends ps x old.nodes next → IsExplored ends ps x new.nodes next
chosen ends ps x next new old is h = subst (λ (n : NodeList). IsExplored ends ps x n.nodes next) (sym is) h

pub returns-then-not-live-a-clause-live : goal.returns-then-not-live-a-clause-live
returns-then-not-live-a-clause-live c =
    opening_dead c.args.joints.now.ends c.args.positions.now c.args.device 0 (is_reached c.args.live.now) (omega (arith, c.requires.device, c.requires.positions)) c.requires.device
    (rw c.ends-a.ensures.ends at c.if-not-live-a.true) c.requires.live

pub returns-then-has-clause-live : goal.returns-then-has-clause-live
returns-then-has-clause-live c =
    let ends : List (ℕ × ℕ) = c.args.joints.now.ends in
    let ps : List Pos = c.args.positions.now in
    let k = c.args.device in
    let next = c.race-next.result in
    let a = c.ends-a.result.0 in
    let b = c.ends-a.result.1 in
    let one : List ℕ = c.choose.new.one.nodes in
    let other : List ℕ = c.choose.new.other.nodes in
    let found : List ℕ = c.finish.new.found.nodes in
    let has : is_among found 0 ≡ true = sym c.has.ensures ∙ c.if-has.true in
    let first = c.race-next.ensures.explored a (alone_explored ends ps a c.args.changed.now.nodes c.insert.new.self.nodes c.insert.ensures.nodes c.requires.none) in
    let second = c.race-next.ensures.other_explored b (alone_explored ends ps b c.args.other.now.nodes c.insert-2.new.self.nodes c.insert-2.ensures.nodes c.requires.other_none) in
    let still : (test : ℕ → Bool) → IsAlikeOver test ends ps → test a ≡ test b = λ test alike. elim c.choose.ensures.which [
      | inl s ↦
          both_kept ends ps 0 a b next one found other (c.finish.ensures.same a (chosen ends ps a next c.choose.new.one c.race-next.new.one s.0 first)) has c.choose.ensures.rest c.finish.ensures.none_left
          (chosen ends ps b next c.choose.new.other c.race-next.new.other s.1 second) test alike
      | inr s ↦
          sym (both_kept ends ps 0 b a next one found other (c.finish.ensures.same b (chosen ends ps b next c.choose.new.one c.race-next.new.other s.0 second)) has c.choose.ensures.rest c.finish.ensures.none_left
          (chosen ends ps a next c.choose.new.other c.race-next.new.one s.1 first) test alike)
    ] in
    opening_kept ends ps k 0 (is_reached c.args.live.now) (omega (arith, c.requires.device, c.requires.positions)) (rw c.ends-a.ensures.ends at still) c.requires.live

pub returns-else-has-clause-live : goal.returns-else-has-clause-live
returns-else-has-clause-live c =
    let ends : List (ℕ × ℕ) = c.args.joints.now.ends in
    let ps : List Pos = c.args.positions.now in
    let k = c.args.device in
    let next = c.race-next.result in
    let a = c.ends-a.result.0 in
    let b = c.ends-a.result.1 in
    let live : ℕ → Bool = is_reached c.args.live.now in
    let new : ℕ → Bool = is_reached c.set_flags.new.flags in
    let found : List ℕ = c.finish.new.found.nodes in
    let m : k < length ps = omega (arith, c.requires.device, c.requires.positions) in
    let none : is_among found 0 ≡ false = sym c.has.ensures ∙ c.if-has.false in
    let each : (v : ℕ) → new v ≡ cond (is_among found v) false (live v) = rw c.nodes.ensures.nodes at c.set_flags.ensures in
    let first = c.race-next.ensures.explored a (alone_explored ends ps a c.args.changed.now.nodes c.insert.new.self.nodes c.insert.ensures.nodes c.requires.none) in
    let second = c.race-next.ensures.other_explored b (alone_explored ends ps b c.args.other.now.nodes c.insert-2.new.self.nodes c.insert-2.ensures.nodes c.requires.other_none) in
    elim c.choose.ensures.which [
      | inl s ↦
          opening_first ends ps k 0 live (is_among found) new m none each c.requires.live
          (subst (λ (v : ℕ). IsComponent ends ps v (is_among found)) (ap (λ (p : ℕ × ℕ). p.0) c.ends-a.ensures.ends)
          (c.finish.ensures.whole a (chosen ends ps a next c.choose.new.one c.race-next.new.one s.0 first) none))
      | inr s ↦
          opening_second ends ps k 0 live (is_among found) new m none each c.requires.live
          (subst (λ (v : ℕ). IsComponent ends ps v (is_among found)) (ap (λ (p : ℕ × ℕ). p.1) c.ends-a.ensures.ends)
          (c.finish.ensures.whole b (chosen ends ps b next c.choose.new.one c.race-next.new.other s.0 second) none))
    ]

pub returns-else-has-clause-changed : goal.returns-else-has-clause-changed
returns-else-has-clause-changed c =
    let ends : List (ℕ × ℕ) = c.args.joints.now.ends in
    let ps : List Pos = c.args.positions.now in
    let k = c.args.device in
    let next = c.race-next.result in
    let a = c.ends-a.result.0 in
    let b = c.ends-a.result.1 in
    let live : ℕ → Bool = is_reached c.args.live.now in
    let found : List ℕ = c.finish.new.found.nodes in
    let m : k < length ps = omega (arith, c.requires.device, c.requires.positions) in
    let none : is_among found 0 ≡ false = sym c.has.ensures ∙ c.if-has.false in
    let alike : IsAlikeOver live ends ps = alike_less live ends ps k m c.requires.live.alike in
    let on : live a ≡ true = c.if-not-live-a.false in
    let both : live a ≡ live b = rw c.ends-a.ensures.ends (alike_here live ends ps k m c.requires.device c.requires.live.alike) in
    let first = c.race-next.ensures.explored a (alone_explored ends ps a c.args.changed.now.nodes c.insert.new.self.nodes c.insert.ensures.nodes c.requires.none) in
    let second = c.race-next.ensures.other_explored b (alone_explored ends ps b c.args.other.now.nodes c.insert-2.new.self.nodes c.insert-2.ensures.nodes c.requires.other_none) in
    let was : (v : ℕ) → is_among found v ≡ true → live v ≡ true = λ v t. elim c.choose.ensures.which [
      | inl s ↦ part_same ends ps a v live (is_among found) alike (c.finish.ensures.whole a (chosen ends ps a next c.choose.new.one c.race-next.new.one s.0 first) none) t ∙ on
      | inr s ↦ part_same ends ps b v live (is_among found) alike (c.finish.ensures.whole b (chosen ends ps b next c.choose.new.one c.race-next.new.other s.0 second) none) t ∙ sym both ∙ on
    ] in
    let size : c.choose.new.one.size ≡ c.args.joints.now.nodes = elim c.choose.ensures.which [
      | inl s ↦ ap (λ (n : NodeList). n.size) s.0 ∙ c.race-next.ensures.size ∙ c.insert.ensures.size ∙ c.requires.size
      | inr s ↦ ap (λ (n : NodeList). n.size) s.0 ∙ c.race-next.ensures.other_size ∙ c.insert-2.ensures.size ∙ c.requires.other_size
    ] in
    changed_by c.args.live.now c.set_flags.new.flags found false (rw c.nodes.ensures.nodes at c.set_flags.ensures) was
    (subst (λ (n : ℕ). All (λ v. v < n) found) (c.finish.ensures.size ∙ size ∙ sym c.requires.count) c.nodes.ensures.below) c.nodes.ensures.distinct
