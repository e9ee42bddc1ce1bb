use Rattle.std.proofs.Common.{◌≡◌, ◌<◌, ◌++◌, ◌∷◌, ◌+◌, ℕ, ◌&&◌, Bool, false, not, cond, List, [], Option, Some, Vec, Global, length, get_or, set, take, sym, ap, ◌∙◌, subst}
use Rattle.std.proofs.lemmas.List.{take_more, length-map, with_items_is}
use Rattle.ob_base.specs.declared.Pos.{Pos}
use Rattle.ob_net.specs.Network.{Network}
use Rattle.ob_net.specs.Traces.{TracerState}
use Rattle.ob_net.specs.Walk.{is_supplied}
use Rattle.ob_sheet.specs.declared.Entry.{Entry}
use Rattle.ob_sweep.specs.Acting.{moved, moved_all, pos_as_of}
use Rattle.ob_sweep.specs.CutOffs.{AreLooked}
use Rattle.ob_sweep.specs.declared.cut_off.CutOff.{CutOff}
use Rattle.ob_sweep.proofs.Collecting.{moved_more}
use Rattle.ob_sweep.proofs.Looking.{looked_more}
use Rattle.ob_sweep.proofs.cut_off.CutOff.look.Goals as goal

pub loop-entry-preserved : goal.loop-entry-preserved
loop-entry-preserved c =
    let net : Network = c.args.net.now.network in
    let was : CutOff = c.args.self.now in
    let now : CutOff = c.loop-entry.self in
    let h = c.loop-entry.invariant in
    let i = c.loop-entry.entry-index in
    let entries : List Entry = c.args.entries.now in
    let ps : List Pos = c.args.positions.now in
    let x : Entry = c.entry-item.result in
    let done : List Entry = take i entries in
    let taken : done ++ x ∷ [] ≡ take (i + 1) entries = ap (λ (y : Entry). done ++ y ∷ []) c.entry-item.is ∙ sym (take_more entries i x c.loop-entry-test.true) in
    let there : set c.loop-entry.positions c.from.result c.position_of.result ≡ moved net was.second (moved_all net was.second ps done) x =
    ap (λ k. set c.loop-entry.positions k c.position_of.result) c.from.ensures
    ∙ ap (λ (p : Pos). set c.loop-entry.positions x.device p) (c.position_of.ensures ∙ ap (λ (s : CutOff). pos_as_of net s.second x.device x.pos) h.same)
    ∙ ap (λ (qs : List Pos). moved net was.second qs x) h.positions in
    let sup : c.deref.result.now ≡ c.loop-entry.supplied.items = c.deref.ensures.value in
    let nxt : c.deref-in-loop-entry.result.now ≡ c.swap.new.x.items = c.deref-in-loop-entry.ensures.value ∙ sym (ap (λ (v : Vec Bool Global). v.items) c.swap.ensures.x_after) in
    let cut : c.deref_mut-in-loop-entry-2.result.now ≡ c.loop-entry.cutters.items = c.deref_mut-in-loop-entry-2.ensures.value in
    let whole = with_items_is c.loop-entry.cutters c.note_cuts.new.cutters (c.note_cuts.auto.cutters ∙ c.deref_mut-in-loop-entry-2.ensures.len) in
    record {
      same = ap (λ (t : TracerState). record now { tracer = t }) c.supplied_among-in-loop-entry.ensures.tracer ∙ h.same;
      positions = there ∙ sym (moved_more net was.second ps done x) ∙ ap (moved_all net was.second ps) taken;
      count = ap (λ (v : Vec Bool Global). length v.items) c.swap.ensures.y_after ∙ ap length h.looked.supplied_now
          ∙ length-map c.args.nodes.now (is_supplied net (moved_all net was.second ps done));
      looked =
          subst (λ (cs : List (Option ℕ)). AreLooked net was.second ps (take (i + 1) entries) c.args.nodes.now c.swap.new.x.items cs) (sym whole)
          (subst (λ (es : List Entry). AreLooked net was.second ps es c.args.nodes.now c.swap.new.x.items c.note_cuts.new.cutters) taken
          (looked_more net was.second ps (set c.loop-entry.positions c.from.result c.position_of.result) done x c.args.nodes.now c.loop-entry.supplied.items c.swap.new.x.items c.loop-entry.cutters.items c.note_cuts.new.cutters
          h.looked there
          (ap (λ (v : Vec Bool Global). v.items) c.swap.ensures.x_after
          ∙ with_items_is c.loop-entry.next c.supplied_among-in-loop-entry.new.supplied (c.supplied_among-in-loop-entry.auto.supplied ∙ c.deref_mut-in-loop-entry.ensures.len)
          ∙ c.supplied_among-in-loop-entry.ensures.supplied)
          (c.note_cuts.auto.cutters ∙ ap length cut)
          (λ k d l.
          c.note_cuts.ensures.each k d (subst (λ (cs : List (Option ℕ)). k < length cs) (sym cut) l)
          ∙ ap (λ bs. cond (get_or bs k false && not (get_or c.deref-in-loop-entry.result.now k false)) (Some x.«no») (get_or c.deref_mut-in-loop-entry-2.result.now k d)) sup
          ∙ ap (λ bs. cond (get_or c.loop-entry.supplied.items k false && not (get_or bs k false)) (Some x.«no») (get_or c.deref_mut-in-loop-entry-2.result.now k d)) nxt
          ∙ ap (λ (cs : List (Option ℕ)). cond (get_or c.loop-entry.supplied.items k false && not (get_or c.swap.new.x.items k false)) (Some x.«no») (get_or cs k d)) cut)));
    }
