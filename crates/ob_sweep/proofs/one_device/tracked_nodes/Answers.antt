use Rattle.std.proofs.Common.{◌≡◌, ◌+◌, ◌<◌, ◌++◌, ◌∷◌, ℕ, Bool, true, false, not, List, [], length, get_or, sym, ap, ◌∙◌, arith, subst}
use Rattle.std.proofs.lemmas.List.{get_or_default}
use Rattle.ob_sweep.specs.declared.track.Track.{Track}
use Rattle.ob_sweep.proofs.Untouched.{AreApart, IsUntouched, one_marked, one_unmarked}
use Rattle.ob_sweep.proofs.one_device.tracked_nodes.Goals as goal
use Rattle.ob_sweep.proofs.one_device.tracked_nodes.Goals.{then-is_marked+in_ok-push, else-is_marked}

pub loop-node-preserved : goal.loop-node-preserved
loop-node-preserved c =
    let tracks : List Track = c.args.tracks.now in
    let first = c.args.first in
    let i = c.loop-node.node in
    let nodes : List ℕ = c.loop-node.nodes.items in
    let marks : List Bool = c.loop-node.marks.items in
    let l : i < length tracks = omega (arith, c.loop-node-test.true, c.nodes-node-end.ensures.count) in
    let x : Track = c.index-tracks-from.result in
    let is : (d : Track) → x ≡ get_or tracks i d = λ d.
    c.index-tracks-from.is ∙ ap (λ k. get_or tracks k x) c.from.ensures ∙ get_or_default tracks i x d l in
    elim c.if-is_marked.branch as (λ _. AreApart tracks first (i + 1) c.if-is_marked.nodes.items c.push-in-loop-node.new.self.items) [
      | then-is_marked+in_ok-push w ↦
          let listed : c.if-is_marked.nodes.items ≡ nodes ++ i ∷ [] = ap (λ v. v.items) w.nodes-is ∙ w.in_ok-push.ensures.items in
          let flags : c.push-in-loop-node.new.self.items ≡ marks ++ true ∷ [] =
          c.in_ok-push-2.ensures.items ∙ ap (λ b. marks ++ not b ∷ []) w.if-is_marked.true in
          subst (λ (ns : List ℕ). AreApart tracks first (i + 1) ns c.push-in-loop-node.new.self.items) (sym listed)
          (subst (λ (bs : List Bool). AreApart tracks first (i + 1) (nodes ++ i ∷ []) bs) (sym flags)
          (one_marked tracks first i nodes marks l c.loop-node.invariant))
      | else-is_marked w ↦
          let listed : c.if-is_marked.nodes.items ≡ nodes = ap (λ v. v.items) w.nodes-is in
          let flags : c.push-in-loop-node.new.self.items ≡ marks ++ false ∷ [] =
          c.in_ok-push-2.ensures.items ∙ ap (λ b. marks ++ not b ∷ []) w.if-is_marked.false in
          let untouched = c.is_untouched-is_marked.ensures w.if-is_marked.false in
          subst (λ (ns : List ℕ). AreApart tracks first (i + 1) ns c.push-in-loop-node.new.self.items) (sym listed)
          (subst (λ (bs : List Bool). AreApart tracks first (i + 1) nodes bs) (sym flags)
          (one_unmarked tracks first i nodes marks l c.loop-node.invariant
          (λ d. subst (λ (y : Track). IsUntouched first i y) (is d) untouched)))
    ]
