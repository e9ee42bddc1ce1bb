use Rattle.std.proofs.Common.{◌≡◌, ◌<◌, ◌+◌, ◌∷◌, ℕ, true, false, List, [], None, Some, not, cond, length, get_or, set, take, sym, ap, ◌∙◌, arith, subst}
use Rattle.std.proofs.lemmas.List.{get_or_default, set-get_or}
use Rattle.ob_net.specs.Nodes.{is_among}
use Rattle.ob_sweep.specs.declared.track.Track.{Track}
use Rattle.ob_sweep.specs.Splice.{join}
use Rattle.ob_sweep.specs.declared.Run.{Run}
use Rattle.ob_sweep.proofs.Adding.{AreAddedSo, at_place, added_again, added_once}
use Rattle.ob_sweep.proofs.Reaching.{next_nodes}
use Rattle.ob_sweep.proofs.track.add_each.Goals.{then-track-end+in_ok-add_second, else-track-end}
use Rattle.ob_sweep.proofs.track.add_each.Goals as goal

pub loop-place-preserved : goal.loop-place-preserved
loop-place-preserved c =
    let nodes : List ℕ = c.args.nodes.now in
    let was : List Track = c.args.tracks.now in
    let now : List Track = c.loop-place.tracks in
    let i = c.loop-place.place in
    let x = c.from.result in
    let l : i < length nodes = c.loop-place-test.true in
    let place : get_or nodes i 0 ≡ x = sym c.from.ensures in
    let is : x ≡ get_or nodes i x = c.from.ensures ∙ get_or_default nodes i 0 x l in
    let within : x < length now = omega (arith, c.requires.nodes i 0 l, c.from.ensures, c.loop-place.invariant.count) in
    let d : Track = c.index-tracks-from.result in
    let among : is_among nodes x ≡ true = at_place nodes i x l place in
    let track : Track = get_or now x d in
    let single : ℕ → ℕ → List Run = λ n u. cond (not (get_or c.args.supplied.now i false)) (record { section = n; since = c.args.second; until = u; cutter = get_or c.args.cutters.now i None } ∷ []) [] in
    elim c.if-track-end.branch [
      | then-track-end+in_ok-add_second w ↦
          rw w.tracks-is
          (subst (λ ns. AreAddedSo nodes ns c.args.supplied.now c.args.cutters.now c.args.second was (set now x w.add_second.new.track)) (next_nodes nodes i x l is)
          (added_once nodes (take i nodes) c.args.supplied.now c.args.cutters.now c.args.second was now c.loop-place.invariant x i l place within
          (get_or now x d) w.add_second.new.track (λ e. get_or_default now x d e within)
          (omega (arith, w.if-track-end.true, c.requires.next, ap (λ (y : Track). y.reached) c.index-tracks-from.is))
          (record {
            runs = w.in_ok-add_second.ensures.runs
                ∙ ap (λ n. join c.args.second track.runs.items (single n c.args.end)) (sym c.from.ensures)
                ∙ ap (λ u. join c.args.second track.runs.items (single x u)) c.requires.next;
            reached = w.in_ok-add_second.ensures.reached ∙ c.requires.next;
            source = w.in_ok-add_second.ensures.source ∙ ap (λ n. Some n) (sym c.from.ensures);
          })))
      | else-track-end w ↦
          rw w.tracks-is
          (subst (λ (ts : List Track). AreAddedSo nodes (take (i + 1) nodes) c.args.supplied.now c.args.cutters.now c.args.second was ts) (sym (set-get_or now x d))
          (subst (λ ns. AreAddedSo nodes ns c.args.supplied.now c.args.cutters.now c.args.second was now) (next_nodes nodes i x l is)
          (added_again nodes (take i nodes) c.args.supplied.now c.args.cutters.now c.args.second was now c.loop-place.invariant x i l place within
          d (omega (arith, w.if-track-end.false, c.requires.next, ap (λ (y : Track). y.reached) c.index-tracks-from.is)) (c.requires.reached x d among))))
    ]
