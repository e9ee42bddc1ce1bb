use Rattle.std.proofs.Common.{◌≡◌, ℕ, ◌<◌, not, List, [], length, map, get_or, sym, ◌∙◌, ap, arith}
use Rattle.std.proofs.lemmas.List.{get_or-map, get_or_default, length-map}
use Rattle.ob_net.specs.Reach.{is_reached}
use Rattle.ob_sweep.specs.Steps.{push}
use Rattle.ob_sweep.proofs.Lists.{map-set_at}
use Rattle.ob_sweep.proofs.Recorded.{recorded_all, recorded_more}
use Rattle.ob_sweep.proofs.step.record_changed.Goals as goal

pub loop-node-preserved : goal.loop-node-preserved
loop-node-preserved c =
    let vs = c.loop-node.lists in
    let i = c.loop-node.node-index in
    let x = c.from-place.result in
    let was = get_or vs x c.index-lists-place.result in
    let changed : List ℕ = c.args.changed.now in
    let l : i < length changed = c.loop-node-test.true in
    let is : x ≡ get_or changed i x = c.from-place.ensures ∙ get_or_default changed i 0 x l in
    let count : length vs ≡ length c.args.live.now = c.loop-node.auto.lists ∙ c.requires.lists in
    let within : x < length vs = omega (arith, c.requires.below i 0 l, c.from-place.ensures, count) in
    let many = length-map vs (λ r. r.items) in
    rw (map-set_at vs (λ r. r.items) x c.record_step.new.runs)
    (recorded_more (map (λ r. r.items) c.args.lists.now) (map (λ r. r.items) vs) c.args.live.now changed c.args.second c.args.end c.args.number i x c.record_step.new.runs.items was.items l is c.requires.distinct
    (omega (arith, within, many)) (many ∙ c.loop-node.auto.lists ∙ sym (length-map c.args.lists.now (λ r. r.items)))
    (sym (get_or-map (λ r. r.items) vs x c.index-lists-place.result [] within))
    (c.in_ok-record_step.ensures ∙ ap (λ k. push k (not (is_reached c.args.live.now x)) (is_reached c.args.live.now x) c.args.second c.args.end c.args.number was.items) (sym c.from-place.ensures)) c.loop-node.invariant)

pub returns : goal.returns
returns c = λ before long h.
    recorded_all (map (λ r. r.items) c.args.lists.now) (map (λ r. r.items) c.loop-node.lists) c.args.live.now before c.args.changed.now c.args.second c.args.end c.args.number c.loop-node.node-index
    (length-map c.args.lists.now (λ r. r.items) ∙ c.requires.lists) (length-map c.loop-node.lists (λ r. r.items) ∙ c.loop-node.auto.lists ∙ sym (length-map c.args.lists.now (λ r. r.items)))
    long c.loop-node-test.false h c.loop-node.invariant
