use Rattle.std.proofs.Common.{◌≡◌, ◌<◌, ◌+◌, ℕ, suc, Bool, IsTrue, false, cond, List, Option, Vec, Global, length, get_or, sym, ap, ◌∙◌, arith, subst}
use Rattle.std.specs.Vec.{with_items}
use Rattle.std.proofs.lemmas.List.{with_items_is}
use Rattle.ob_base.specs.declared.Pos.{Pos}
use Rattle.ob_base.specs.declared.Pos.TheVariants.{Opened}
use Rattle.ob_net.specs.Network.{Network}
use Rattle.ob_net.specs.Nodes.{is_among}
use Rattle.ob_net.specs.Walk.{is_supplied}
use Rattle.ob_sheet.specs.declared.Entry.{Entry}
use Rattle.ob_sweep.specs.Acting.{moment_of, moved_all}
use Rattle.ob_sweep.specs.CutOffs.{AreCollected, AreLooked, GoThrough, IsCut, nodes_through, source_through}
use Rattle.ob_sweep.specs.Tracks.{AreAdded, AreTracked, AreWithin, GoBySections, IsSecond}
use Rattle.ob_sweep.specs.declared.cut_off.CutOff.{CutOff}
use Rattle.ob_sweep.specs.declared.track.Track.{Track}
use Rattle.ob_sweep.proofs.SecondTaken.{go_through, second_taken, within_last}
use Rattle.ob_sweep.proofs.difference.Differences.take_second.Goals as goal

pub returns-clause-state : goal.returns-clause-state
returns-clause-state c =
    let net : Network = c.args.net.now.network in
    let entries : List Entry = c.args.entries.now in
    let second = c.args.second in
    let c0 : CutOff = c.args.self.now.cut in
    let c1 : CutOff = c.take_all.new.self in
    let nodes : List ℕ = c.in_ok-nodes.nodes.items in
    let supplied : List Bool = c.in_ok-supplied.supplied.items in
    let cutters : List (Option ℕ) = c.in_ok-supplied.cutters.items in
    let was : List Track = c.args.self.now.tracks.items in
    let reached : List Track = c.reach_each.new.tracks in
    let added : List Track = c.add_each.new.tracks in
    let last : List Track = c.set_sources.new.tracks in
    let w1 : Vec Track Global = with_items c.args.self.now.tracks reached in
    let w2 : Vec Track Global = with_items w1 added in
    let items1 : w1.items ≡ reached = with_items_is c.args.self.now.tracks reached (c.reach_each.auto.tracks ∙ c.deref_mut.ensures.len) in
    let items2 : w2.items ≡ added = with_items_is w1 added (c.add_each.auto.tracks ∙ c.deref_mut-3.ensures.len) in
    let items3 : (with_items w2 last).items ≡ last = with_items_is w2 last (c.set_sources.auto.tracks ∙ c.deref_mut-4.ensures.len) in
    let same : c.look.new.self ≡ c1 = c.look.ensures.same in
    let collected : AreCollected net c0 entries nodes c1 = c.in_ok-nodes.ensures.collected in
    let nodes1 : c.deref.result.now ≡ nodes = c.deref.ensures.value in
    let tracks1 : c.deref_mut.result.now ≡ was = c.deref_mut.ensures.value in
    let tracks3 : c.deref_mut-3.result.now ≡ reached = c.deref_mut-3.ensures.value ∙ items1 in
    let tracks4 : c.deref_mut-4.result.now ≡ added = c.deref_mut-4.ensures.value ∙ items2 in
    let others : (v : ℕ) (d : Track) → is_among nodes v ≡ false → get_or reached v d ≡ get_or was v d = λ v d none.
    c.in_ok-reach_each.ensures.others v d (ap (λ (ns : List ℕ). is_among ns v) nodes1 ∙ none) ∙ ap (λ (ts : List Track). get_or ts v d) tracks1 in
    let there : (v : ℕ) (d : Track) → IsTrue (is_among nodes v) → (get_or reached v d).reached ≡ second = λ v d y.
    c.in_ok-reach_each.ensures.reached v d (ap (λ (ns : List ℕ). is_among ns v) nodes1 ∙ y) in
    let count : length reached ≡ length was = c.reach_each.ensures.count ∙ ap length tracks1 in
    let before : c.deref_mut-2.result.now ≡ c0.positions.items = c.deref_mut-2.ensures.value ∙ c.requires.state.positions in
    let looked : AreLooked net c0.second c0.positions.items entries nodes supplied cutters =
    subst (λ (t : ℕ). AreLooked net t c0.positions.items entries nodes supplied cutters) collected.second
    (subst (λ (ps : List Pos). AreLooked net c1.second ps entries nodes supplied cutters) before
    (subst (λ (ns : List ℕ). AreLooked net c1.second c.deref_mut-2.result.now entries ns supplied cutters) c.deref-2.ensures.value
    (subst (λ (n : Network). AreLooked n c1.second c.deref_mut-2.result.now entries c.deref-2.result.now supplied cutters) c.take_all.ensures.network c.in_ok-supplied.ensures.looked))) in
    let adds : AreAdded nodes supplied cutters second reached added =
    subst (λ (ts : List Track). AreAdded nodes supplied cutters second ts added) tracks3
    (subst (λ (cs : List (Option ℕ)). AreAdded nodes supplied cs second c.deref_mut-3.result.now added) c.deref-5.ensures.value
    (subst (λ (bs : List Bool). AreAdded nodes bs c.deref-5.result.now second c.deref_mut-3.result.now added) c.deref-4.ensures.value
    (subst (λ (ns : List ℕ). AreAdded ns c.deref-4.result.now c.deref-5.result.now second c.deref_mut-3.result.now added) c.deref-3.ensures.value c.in_ok-add_each.ensures.added))) in
    let count_last : length last ≡ length added = c.set_sources.ensures.count ∙ ap length tracks4 in
    let same_runs : (v : ℕ) (d : Track) → (get_or last v d).runs ≡ (get_or added v d).runs = λ v d. c.set_sources.ensures.runs v d ∙ ap (λ (ts : List Track). (get_or ts v d).runs) tracks4 in
    let same_reached : (v : ℕ) (d : Track) → (get_or last v d).reached ≡ (get_or added v d).reached = λ v d. c.set_sources.ensures.reached v d ∙ ap (λ (ts : List Track). (get_or ts v d).reached) tracks4 in
    let through : List ℕ = nodes_through c1.cut c1.tracer.found in
    let goes : Option ℕ = source_through c1.cut (get_or c1.positions.items c1.device Opened) in
    let listed : c.nodes.result.now ≡ through = c.nodes.ensures.nodes ∙ ap (λ (s : CutOff). nodes_through s.cut s.tracer.found) same in
    let source : c.source-source.result ≡ goes = c.source-source.ensures ∙ ap (λ (s : CutOff). source_through s.cut (get_or s.positions.items s.device Opened)) same in
    let sources : (v : ℕ) (d : Track) → v < length added → (get_or last v d).source ≡ cond (is_among through v) goes (get_or added v d).source = λ v d l.
    c.set_sources.ensures.sources v d (subst (λ (ts : List Track). v < length ts) (sym tracks4) l)
    ∙ ap (λ (ns : List ℕ). cond (is_among ns v) c.source-source.result (get_or c.deref_mut-4.result.now v d).source) listed
    ∙ ap (λ (o : Option ℕ). cond (is_among through v) o (get_or c.deref_mut-4.result.now v d).source) source
    ∙ ap (λ (ts : List Track). cond (is_among through v) goes (get_or ts v d).source) tracks4 in
    let moved : (with_items c.args.self.now.positions c.look.new.positions).items ≡ moved_all net c0.second c.args.self.now.positions.items entries =
    with_items_is c.args.self.now.positions c.look.new.positions (c.look.auto.positions ∙ c.deref_mut-2.ensures.len)
    ∙ c.in_ok-supplied.ensures.positions
    ∙ ap (λ (n : Network). moved_all n c1.second c.deref_mut-2.result.now entries) c.take_all.ensures.network
    ∙ ap (λ (ps : List Pos). moved_all net c1.second ps entries) c.deref_mut-2.ensures.value
    ∙ ap (λ (t : ℕ). moved_all net t c.args.self.now.positions.items entries) collected.second in
    let last_within : AreWithin (length net.nodes) last =
    within_last net c0 c1 entries nodes collected second was reached added last supplied cutters looked count others there adds count_last same_runs same_reached sources
    (length net.nodes) c.requires.state.count collected.of.are_nodes c.requires.state.within in
    record {
      of = subst (IsCut net) (sym same) collected.of;
      positions = moved ∙ ap (λ (ps : List Pos). moved_all net c0.second ps entries) c.requires.state.positions ∙ sym collected.positions
          ∙ ap (λ (s : CutOff). s.positions.items) (sym same);
      count = ap length items3 ∙ count_last ∙ adds.count ∙ count ∙ c.requires.state.count;
      within = subst (AreWithin (length net.nodes)) (sym items3) last_within;
    }

pub returns-clause-taken : goal.returns-clause-taken
returns-clause-taken c =
    let net : Network = c.args.net.now.network in
    let entries : List Entry = c.args.entries.now in
    let second = c.args.second in
    let c0 : CutOff = c.args.self.now.cut in
    let c1 : CutOff = c.take_all.new.self in
    let nodes : List ℕ = c.in_ok-nodes.nodes.items in
    let supplied : List Bool = c.in_ok-supplied.supplied.items in
    let cutters : List (Option ℕ) = c.in_ok-supplied.cutters.items in
    let was : List Track = c.args.self.now.tracks.items in
    let reached : List Track = c.reach_each.new.tracks in
    let added : List Track = c.add_each.new.tracks in
    let last : List Track = c.set_sources.new.tracks in
    let w1 : Vec Track Global = with_items c.args.self.now.tracks reached in
    let w2 : Vec Track Global = with_items w1 added in
    let items1 : w1.items ≡ reached = with_items_is c.args.self.now.tracks reached (c.reach_each.auto.tracks ∙ c.deref_mut.ensures.len) in
    let items2 : w2.items ≡ added = with_items_is w1 added (c.add_each.auto.tracks ∙ c.deref_mut-3.ensures.len) in
    let items3 : (with_items w2 last).items ≡ last = with_items_is w2 last (c.set_sources.auto.tracks ∙ c.deref_mut-4.ensures.len) in
    let same : c.look.new.self ≡ c1 = c.look.ensures.same in
    let collected : AreCollected net c0 entries nodes c1 = c.in_ok-nodes.ensures.collected in
    let nodes1 : c.deref.result.now ≡ nodes = c.deref.ensures.value in
    let tracks1 : c.deref_mut.result.now ≡ was = c.deref_mut.ensures.value in
    let tracks3 : c.deref_mut-3.result.now ≡ reached = c.deref_mut-3.ensures.value ∙ items1 in
    let tracks4 : c.deref_mut-4.result.now ≡ added = c.deref_mut-4.ensures.value ∙ items2 in
    let others : (v : ℕ) (d : Track) → is_among nodes v ≡ false → get_or reached v d ≡ get_or was v d = λ v d none.
    c.in_ok-reach_each.ensures.others v d (ap (λ (ns : List ℕ). is_among ns v) nodes1 ∙ none) ∙ ap (λ (ts : List Track). get_or ts v d) tracks1 in
    let there : (v : ℕ) (d : Track) → IsTrue (is_among nodes v) → (get_or reached v d).reached ≡ second = λ v d y.
    c.in_ok-reach_each.ensures.reached v d (ap (λ (ns : List ℕ). is_among ns v) nodes1 ∙ y) in
    let count : length reached ≡ length was = c.reach_each.ensures.count ∙ ap length tracks1 in
    let before : c.deref_mut-2.result.now ≡ c0.positions.items = c.deref_mut-2.ensures.value ∙ c.requires.state.positions in
    let looked : AreLooked net c0.second c0.positions.items entries nodes supplied cutters =
    subst (λ (t : ℕ). AreLooked net t c0.positions.items entries nodes supplied cutters) collected.second
    (subst (λ (ps : List Pos). AreLooked net c1.second ps entries nodes supplied cutters) before
    (subst (λ (ns : List ℕ). AreLooked net c1.second c.deref_mut-2.result.now entries ns supplied cutters) c.deref-2.ensures.value
    (subst (λ (n : Network). AreLooked n c1.second c.deref_mut-2.result.now entries c.deref-2.result.now supplied cutters) c.take_all.ensures.network c.in_ok-supplied.ensures.looked))) in
    let adds : AreAdded nodes supplied cutters second reached added =
    subst (λ (ts : List Track). AreAdded nodes supplied cutters second ts added) tracks3
    (subst (λ (cs : List (Option ℕ)). AreAdded nodes supplied cs second c.deref_mut-3.result.now added) c.deref-5.ensures.value
    (subst (λ (bs : List Bool). AreAdded nodes bs c.deref-5.result.now second c.deref_mut-3.result.now added) c.deref-4.ensures.value
    (subst (λ (ns : List ℕ). AreAdded ns c.deref-4.result.now c.deref-5.result.now second c.deref_mut-3.result.now added) c.deref-3.ensures.value c.in_ok-add_each.ensures.added))) in
    let count_last : length last ≡ length added = c.set_sources.ensures.count ∙ ap length tracks4 in
    let same_runs : (v : ℕ) (d : Track) → (get_or last v d).runs ≡ (get_or added v d).runs = λ v d. c.set_sources.ensures.runs v d ∙ ap (λ (ts : List Track). (get_or ts v d).runs) tracks4 in
    let same_reached : (v : ℕ) (d : Track) → (get_or last v d).reached ≡ (get_or added v d).reached = λ v d. c.set_sources.ensures.reached v d ∙ ap (λ (ts : List Track). (get_or ts v d).reached) tracks4 in
    let through : List ℕ = nodes_through c1.cut c1.tracer.found in
    let goes : Option ℕ = source_through c1.cut (get_or c1.positions.items c1.device Opened) in
    let listed : c.nodes.result.now ≡ through = c.nodes.ensures.nodes ∙ ap (λ (s : CutOff). nodes_through s.cut s.tracer.found) same in
    let source : c.source-source.result ≡ goes = c.source-source.ensures ∙ ap (λ (s : CutOff). source_through s.cut (get_or s.positions.items s.device Opened)) same in
    let sources : (v : ℕ) (d : Track) → v < length added → (get_or last v d).source ≡ cond (is_among through v) goes (get_or added v d).source = λ v d l.
    c.set_sources.ensures.sources v d (subst (λ (ts : List Track). v < length ts) (sym tracks4) l)
    ∙ ap (λ (ns : List ℕ). cond (is_among ns v) c.source-source.result (get_or c.deref_mut-4.result.now v d).source) listed
    ∙ ap (λ (o : Option ℕ). cond (is_among through v) o (get_or c.deref_mut-4.result.now v d).source) source
    ∙ ap (λ (ts : List Track). cond (is_among through v) goes (get_or ts v d).source) tracks4 in
    let moved : (with_items c.args.self.now.positions c.look.new.positions).items ≡ moved_all net c0.second c.args.self.now.positions.items entries =
    with_items_is c.args.self.now.positions c.look.new.positions (c.look.auto.positions ∙ c.deref_mut-2.ensures.len)
    ∙ c.in_ok-supplied.ensures.positions
    ∙ ap (λ (n : Network). moved_all n c1.second c.deref_mut-2.result.now entries) c.take_all.ensures.network
    ∙ ap (λ (ps : List Pos). moved_all net c1.second ps entries) c.deref_mut-2.ensures.value
    ∙ ap (λ (t : ℕ). moved_all net t c.args.self.now.positions.items entries) collected.second in
    record {
      device = ap (λ (s : CutOff). s.device) same ∙ collected.device;
      second_as_of = ap (λ (s : CutOff). s.second) same ∙ collected.second;
      positions = moved;
      through = λ own.
          subst (λ (ts : List Track). GoThrough c.look.new.self ts) (sym items3)
          (subst (λ (s : CutOff). GoThrough s last) (sym same)
          (go_through net c0 c1 entries nodes collected second was reached added last supplied cutters looked count others there adds count_last same_runs same_reached sources own));
      tracked = λ g h lo first hi l m olds by own all sec.
          let tracked : AreTracked net g h lo first second reached =
          c.in_ok-reach_each.ensures.tracked net g h lo first hi l m olds
          (subst (GoBySections net) (sym tracks1) by) (subst (AreTracked net g h lo first second) (sym tracks1) all) in
          let now : IsSecond (λ v ps. is_supplied net ps v) c0.device g h second (moment_of net c0.second c0.positions.items entries) =
          subst (λ (ps : List Pos). IsSecond (λ v qs. is_supplied net qs v) c0.device g h second (moment_of net c0.second ps entries)) c.requires.state.positions sec in
          let done : AreTracked net g h lo first (suc second) last =
          second_taken net c0 c1 entries nodes collected second was reached added last supplied cutters looked count others there adds count_last same_runs same_reached sources
          own g h lo first l now tracked in
          let next : suc second ≡ second + 1 = omega arith in
          subst (λ (ts : List Track). AreTracked net g h lo first (second + 1) ts) (sym items3)
          (subst (λ (n : ℕ). AreTracked net g h lo first n last) next done);
    }
