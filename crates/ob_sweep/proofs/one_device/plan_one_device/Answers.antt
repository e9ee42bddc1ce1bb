use Rattle.std.proofs.Common.{◌≡◌, ◌<◌, ℕ, Bool, IsTrue, false, List, length, get_or, map, sym, ap, ◌∙◌, subst}
use Rattle.std.specs.Vec.{with_items}
use Rattle.std.proofs.lemmas.List.{with_items_is}
use Rattle.ob_net.specs.Network.{Network}
use Rattle.ob_net.specs.Nodes.{is_among}
use Rattle.ob_net.specs.Reach.{is_reached}
use Rattle.ob_sweep.specs.Deltas.{IsDelta}
use Rattle.ob_sweep.specs.Near.{spliced_near}
use Rattle.ob_sweep.specs.Runs.{runs_between}
use Rattle.ob_sweep.specs.Timeline.{AreOfNode, IsSection}
use Rattle.ob_sweep.specs.Tracks.{AreTracked, GoBySections}
use Rattle.ob_sweep.specs.declared.Run.{Run}
use Rattle.ob_sweep.specs.declared.track.Track.{Track}
use Rattle.ob_sweep.proofs.OneChanged.{one_change_news, one_change_of_node}
use Rattle.ob_sweep.proofs.Planned.{is_delta_as}
use Rattle.ob_sweep.proofs.Untouched.{IsUntouched}
use Rattle.ob_sweep.proofs.one_device.plan_one_device.Goals as goal

pub splice_near-requires-clause-of_nodes : goal.splice_near-requires-clause-of_nodes
splice_near-requires-clause-of_nodes c = λ v section.
    let net : Network = c.args.net.now.network in
    let lists : List (List Run) = map (λ l. l.items) c.args.old.now in
    let window : List (List Run) = map (λ l. l.items) c.deref-4.result.now in
    let nodes : List ℕ = c.in_ok-nodes.nodes.items in
    let marks : List Bool = c.in_ok-nodes.marks.items in
    let was : List Track = c.in_ok-tracks.tracks.items in
    let now : List Track = c.reach_each.new.tracks in
    let change = c.requires.known in
    let listed : c.deref-2.result.now ≡ nodes = c.deref-2.ensures.value in
    let tracks : c.deref_mut.result.now ≡ was = c.deref_mut.ensures.value in
    let looked : c.deref.result.now ≡ was = c.deref.ensures.value in
    let items : (with_items c.in_ok-tracks.tracks now).items ≡ now = with_items_is c.in_ok-tracks.tracks now (c.reach_each.auto.tracks ∙ c.deref_mut.ensures.len) in
    let found : window ≡ map (λ (t : Track). t.runs.items) now =
    ap (map (λ l. l.items)) c.deref-4.ensures.value ∙ c.in_ok-lists.ensures ∙ ap (map (λ (t : Track). t.runs.items)) items in
    let kept : length now ≡ length was = c.reach_each.ensures.count ∙ ap length tracks in
    let reached : (v : ℕ) (d : Track) → IsTrue (is_among nodes v) → (get_or now v d).reached ≡ c.args.end = λ v d y.
    c.in_ok-reach_each.ensures.reached v d (ap (λ (ns : List ℕ). is_among ns v) listed ∙ y) in
    let others : (v : ℕ) (d : Track) → v < length was → is_reached marks v ≡ false → IsUntouched c.args.first v (get_or was v d) =
    subst (λ (ts : List Track). (v : ℕ) (d : Track) → v < length ts → is_reached marks v ≡ false → IsUntouched c.args.first v (get_or ts v d)) looked c.in_ok-nodes.ensures.others in
    let before : AreTracked net change.old change.new change.lo c.args.first c.args.end was = c.in_ok-tracks.ensures.tracked change in
    let after : AreTracked net change.old change.new change.lo c.args.first c.args.end now =
    c.in_ok-reach_each.ensures.tracked net change.old change.new change.lo c.args.first change.hi change.from change.upto change.runs
    (subst (GoBySections net) (sym tracks) c.in_ok-tracks.ensures.sections)
    (subst (AreTracked net change.old change.new change.lo c.args.first c.args.end) (sym tracks) before) in
    let here : IsSection net v = subst (λ (n : Network). IsSection n v) c.in_ok-tracks.ensures.network section in
    subst (λ (bs : List Bool). AreOfNode v (spliced_near bs c.args.first c.args.end lists window v)) (sym c.deref-3.ensures.value)
    (one_change_of_node net c.args.device c.args.first c.args.end c.args.positions.items c.args.entries.now lists window was now nodes marks
    c.in_ok-tracks.ensures.count kept c.in_ok-nodes.ensures.marked others reached found change before after v here)

pub returns-clause-delta : goal.returns-clause-delta
returns-clause-delta c = λ change.
    let net : Network = c.args.net.now.network in
    let lists : List (List Run) = map (λ l. l.items) c.args.old.now in
    let window : List (List Run) = map (λ l. l.items) c.deref-4.result.now in
    let nodes : List ℕ = c.in_ok-nodes.nodes.items in
    let marks : List Bool = c.in_ok-nodes.marks.items in
    let was : List Track = c.in_ok-tracks.tracks.items in
    let now : List Track = c.reach_each.new.tracks in
    let listed : c.deref-2.result.now ≡ nodes = c.deref-2.ensures.value in
    let tracks : c.deref_mut.result.now ≡ was = c.deref_mut.ensures.value in
    let looked : c.deref.result.now ≡ was = c.deref.ensures.value in
    let items : (with_items c.in_ok-tracks.tracks now).items ≡ now = with_items_is c.in_ok-tracks.tracks now (c.reach_each.auto.tracks ∙ c.deref_mut.ensures.len) in
    let found : window ≡ map (λ (t : Track). t.runs.items) now =
    ap (map (λ l. l.items)) c.deref-4.ensures.value ∙ c.in_ok-lists.ensures ∙ ap (map (λ (t : Track). t.runs.items)) items in
    let kept : length now ≡ length was = c.reach_each.ensures.count ∙ ap length tracks in
    let reached : (v : ℕ) (d : Track) → IsTrue (is_among nodes v) → (get_or now v d).reached ≡ c.args.end = λ v d y.
    c.in_ok-reach_each.ensures.reached v d (ap (λ (ns : List ℕ). is_among ns v) listed ∙ y) in
    let others : (v : ℕ) (d : Track) → v < length was → is_reached marks v ≡ false → IsUntouched c.args.first v (get_or was v d) =
    subst (λ (ts : List Track). (v : ℕ) (d : Track) → v < length ts → is_reached marks v ≡ false → IsUntouched c.args.first v (get_or ts v d)) looked c.in_ok-nodes.ensures.others in
    let before : AreTracked net change.old change.new change.lo c.args.first c.args.end was = c.in_ok-tracks.ensures.tracked change in
    let after : AreTracked net change.old change.new change.lo c.args.first c.args.end now =
    c.in_ok-reach_each.ensures.tracked net change.old change.new change.lo c.args.first change.hi change.from change.upto change.runs
    (subst (GoBySections net) (sym tracks) c.in_ok-tracks.ensures.sections)
    (subst (AreTracked net change.old change.new change.lo c.args.first c.args.end) (sym tracks) before) in
    let delta = c.in_ok-splice_near.field-0 in
    let of_net : IsDelta net delta lists (spliced_near c.deref-3.result.now c.args.first c.args.end lists window) =
    subst (λ (n : Network). IsDelta n delta lists (spliced_near c.deref-3.result.now c.args.first c.args.end lists window)) c.in_ok-tracks.ensures.network c.in_ok-splice_near.ensures.delta in
    is_delta_as net delta lists (spliced_near marks c.args.first c.args.end lists window) (λ v. runs_between v (change.new v) change.lo change.hi)
    (one_change_news net c.args.device c.args.first c.args.end c.args.positions.items c.args.entries.now lists window was now nodes marks
    c.in_ok-tracks.ensures.count kept c.in_ok-nodes.ensures.marked others reached found change before after)
    (subst (λ (bs : List Bool). IsDelta net delta lists (spliced_near bs c.args.first c.args.end lists window)) c.deref-3.ensures.value of_net)
