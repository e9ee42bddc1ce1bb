use Rattle.std.proofs.Common.{◌≡◌, ℕ, List, true, false, ap, sym, subst, inl, inr, ◌∙◌, true≢false}
use Rattle.ob_base.specs.declared.Pos.{Pos}
use Rattle.ob_net.specs.Joints.{IsExplored}
use Rattle.ob_net.specs.Nodes.{is_among}
use Rattle.ob_net.specs.Traces.{AreConnectedWithin, IsPartWithout}
use Rattle.ob_net.proofs.Switched.{alone_explored}
use Rattle.ob_net.proofs.Tracing.{both_found, from_either, grid_found, other_has_grid}
use Rattle.ob_net.proofs.tracer.look.Goals.{then-has, else-has}
use Rattle.ob_net.proofs.tracer.look.Goals as goal

pub returns-then-has-2-clause-joined : goal.returns-then-has-2-clause-joined
returns-then-has-2-clause-joined c = λ none.
    let ends : List (ℕ × ℕ) = c.args.joints.now.ends in
    let ps : List Pos = c.args.positions.now in
    let next = c.race-next.result in
    let a = c.ends-a.result.0 in
    let b = c.ends-a.result.1 in
    let found : List ℕ = c.finish.new.found.nodes in
    let first = c.race-next.ensures.explored a (alone_explored ends ps a c.args.found.now.nodes c.insert.new.self.nodes c.insert.ensures.nodes c.requires.none) in
    let second = c.race-next.ensures.other_explored b (alone_explored ends ps b c.args.other.now.nodes c.insert-2.new.self.nodes c.insert-2.ensures.nodes c.requires.other_none) in
    let from = from_either ends ps next a b c.race-next.new.one c.race-next.new.other c.choose.new.one c.choose.new.other c.choose.ensures.which first second in
    let far : is_among found c.if-has.end.1 ≡ true = sym c.has-2.ensures ∙ c.if-has-2.true in
    elim c.if-has.branch [
      | then-has w ↦
          let has_a : is_among found a ≡ true = sym c.has.ensures ∙ w.if-has.true in
          let has_b : is_among found b ≡ true = ap (λ (p : ℕ × ℕ). is_among found p.1) (sym w.end-is) ∙ far in
          elim from [
            | inl h ↦ subst (λ (p : ℕ × ℕ). AreConnectedWithin ends ps p.0 p.1 found) c.ends-a.ensures.ends (both_found ends ps a next a b found (c.finish.ensures.explored a h.0) has_a has_b)
            | inr h ↦ subst (λ (p : ℕ × ℕ). AreConnectedWithin ends ps p.0 p.1 found) c.ends-a.ensures.ends (both_found ends ps b next a b found (c.finish.ensures.explored b h.0) has_a has_b)
          ]
      | else-has w ↦ absurd (true≢false (sym far ∙ ap (λ (p : ℕ × ℕ). is_among found p.1) w.end-is ∙ sym c.has.ensures ∙ w.if-has.false))
    ]

pub returns-then-not-has-clause-cut : goal.returns-then-not-has-clause-cut
returns-then-not-has-clause-cut c =
    let ends : List (ℕ × ℕ) = c.args.joints.now.ends in
    let ps : List Pos = c.args.positions.now in
    let next = c.race-next.result in
    let a = c.ends-a.result.0 in
    let b = c.ends-a.result.1 in
    let found : List ℕ = c.finish.new.found.nodes in
    let first = c.race-next.ensures.explored a (alone_explored ends ps a c.args.found.now.nodes c.insert.new.self.nodes c.insert.ensures.nodes c.requires.none) in
    let second = c.race-next.ensures.other_explored b (alone_explored ends ps b c.args.other.now.nodes c.insert-2.new.self.nodes c.insert-2.ensures.nodes c.requires.other_none) in
    let from = from_either ends ps next a b c.race-next.new.one c.race-next.new.other c.choose.new.one c.choose.new.other c.choose.ensures.which first second in
    let no_far : is_among found c.if-has.end.1 ≡ false = sym c.has-2.ensures ∙ c.if-has-2.false in
    let no_grid : is_among found 0 ≡ false = sym c.has-3.ensures ∙ c.if-not-has.true in
    let there = λ (x y : ℕ) (is : c.if-has.end ≡ (y, x)) (h : IsExplored ends ps y c.choose.new.one.nodes next).
    subst (λ (p : ℕ × ℕ). IsPartWithout ends ps p.1 p.0 found) (sym is)
    (record {
      part = c.finish.ensures.whole y h no_grid;
      grid = no_grid;
      other = ap (λ (p : ℕ × ℕ). is_among found p.1) (sym is) ∙ no_far;
    }) in
    elim c.if-has.branch [
      | then-has w ↦ elim from [
        | inl h ↦ there b a w.end-is h.0
        | inr h ↦ absurd (true≢false (sym (c.finish.ensures.explored b h.0).begins ∙ ap (λ (p : ℕ × ℕ). is_among found p.1) (sym w.end-is) ∙ no_far))
      ]
      | else-has w ↦ elim from [
        | inl h ↦ absurd (true≢false (sym (c.finish.ensures.explored a h.0).begins ∙ sym c.has.ensures ∙ w.if-has.false))
        | inr h ↦ there a b w.end-is h.0
      ]
    ]

pub returns-clause-joined : goal.returns-clause-joined
returns-clause-joined c = λ none.
    let ends : List (ℕ × ℕ) = c.args.joints.now.ends in
    let ps : List Pos = c.args.positions.now in
    let next = c.race-next.result in
    let a = c.ends-a.result.0 in
    let b = c.ends-a.result.1 in
    let found : List ℕ = c.finish.new.found.nodes in
    let other : List ℕ = c.choose.new.other.nodes in
    let all : List ℕ = c.insert_all.new.self.nodes in
    let first = c.race-next.ensures.explored a (alone_explored ends ps a c.args.found.now.nodes c.insert.new.self.nodes c.insert.ensures.nodes c.requires.none) in
    let second = c.race-next.ensures.other_explored b (alone_explored ends ps b c.args.other.now.nodes c.insert-2.new.self.nodes c.insert-2.ensures.nodes c.requires.other_none) in
    let from = from_either ends ps next a b c.race-next.new.one c.race-next.new.other c.choose.new.one c.choose.new.other c.choose.ensures.which first second in
    let grid : is_among found 0 ≡ true = sym c.has-3.ensures ∙ c.if-not-has.false in
    let too : is_among other 0 ≡ true = other_has_grid next c.choose.new.one.nodes found other c.choose.ensures.rest c.finish.ensures.none_left grid in
    let ends_of = λ (h : AreConnectedWithin ends ps a b all). subst (λ (p : ℕ × ℕ). AreConnectedWithin ends ps p.0 p.1 all) c.ends-a.ensures.ends h in
    let each = rw c.nodes.ensures.nodes at c.insert_all.ensures.nodes in
    elim from [
      | inl h ↦ ends_of (grid_found ends ps a b next next found other all (c.finish.ensures.explored a h.0) h.1 grid too each)
      | inr h ↦ ends_of (λ test alike. sym (grid_found ends ps b a next next found other all (c.finish.ensures.explored b h.0) h.1 grid too each test alike))
    ]
