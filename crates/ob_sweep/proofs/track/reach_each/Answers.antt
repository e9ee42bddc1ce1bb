use Rattle.std.proofs.Common.{◌≡◌, ◌<◌, ℕ, List, length, map, get_or, set, take, sym, ap, ◌∙◌, arith, subst}
use Rattle.std.proofs.lemmas.List.{get_or_default}
use Rattle.ob_sweep.specs.Splice.{join}
use Rattle.ob_sweep.specs.Tracks.{part_of}
use Rattle.ob_sweep.specs.declared.Run.{Run}
use Rattle.ob_sweep.specs.declared.track.Track.{Track}
use Rattle.ob_sweep.proofs.Reaching.{AreReached, next_nodes, one_reached}
use Rattle.ob_sweep.proofs.track.reach_each.Goals as goal

pub loop-node-preserved : goal.loop-node-preserved
loop-node-preserved c =
    let lists : List (List Run) = map (λ r. r.items) c.args.old.now in
    let now : List Track = c.loop-node.tracks in
    let i = c.loop-node.node-index in
    let x = c.from.result in
    let nodes : List ℕ = c.args.nodes.now in
    let l : i < length nodes = c.loop-node-test.true in
    let is : x ≡ get_or nodes i x = c.from.ensures ∙ get_or_default nodes i 0 x l in
    let within : x < length now = omega (arith, c.requires.nodes i 0 l, c.from.ensures, c.loop-node.invariant.count) in
    let track : Track = get_or now x c.index-tracks-from.result in
    let new : Track = c.reach.new.track in
    let runs : new.runs.items ≡ join track.reached track.runs.items (part_of lists track.source x track.reached c.args.second) =
    c.in_ok-reach.ensures.runs ∙ ap (λ n. join track.reached track.runs.items (part_of lists track.source n track.reached c.args.second)) (sym c.from.ensures) in
    subst (λ ns. AreReached lists c.args.second c.args.tracks.now (set now x new) ns) (next_nodes nodes i x l is)
    (one_reached lists c.args.second c.args.tracks.now now (take i nodes) x track new within (λ d. get_or_default now x c.index-tracks-from.result d within)
    runs c.in_ok-reach.ensures.reached c.in_ok-reach.ensures.source c.loop-node.invariant)
