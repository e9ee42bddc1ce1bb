use Rattle.std.proofs.Common.{Bool, cond, ◌≡◌, ◌≢◌, ◌<◌, ◌≤◌, ◌+◌, ◌++◌, ◌∷◌, ℕ, List, [], length, map, get_or, sym, ◌∙◌, ap, arith, subst, MatchOption}
use Rattle.std.proofs.lemmas.List.{length-map, get_or-map, map-append}
use Rattle.ob_net.specs.Reach.{is_reached}
use Rattle.ob_sweep.specs.Near.{spliced_near}
use Rattle.ob_sweep.specs.Splice.{splice}
use Rattle.ob_sweep.specs.Timeline.{AreOfNode, IsSection, runs_at}
use Rattle.ob_sweep.specs.declared.Run.{Run}
use Rattle.ob_sweep.proofs.Touched.{AreTouched, passed_over, taken, fits}
use Rattle.ob_sweep.proofs.delta.Delta.splice_near.Goals.{in-Some+in_ok-push+in_ok-push-2, in_default}
use Rattle.ob_sweep.proofs.delta.Delta.splice_near.Goals as goal

pub runs_near-requires-clause-some : goal.runs_near-requires-clause-some
runs_near-requires-clause-some c =
    let olds = c.args.old.now in
    let i = c.loop-node.node in
    let place : c.from-place.result ≡ i = c.from-place.ensures in
    let in_old : i < length olds = omega (arith, c.requires.old) in
    let was : runs_at (map (λ r. r.items) olds) i ≡ c.deref.result.now =
    get_or-map (λ r. r.items) olds i c.index-old-place.result [] in_old
    ∙ ap (λ k. (get_or olds k c.index-old-place.result).items) (sym place)
    ∙ ap (λ r. r.items) (sym c.index-old-place.is)
    ∙ sym c.deref.ensures.value in
    (subst (AreOfNode i) was (c.requires.old_of_nodes i)).some

pub runs_near-requires-clause-rising : goal.runs_near-requires-clause-rising
runs_near-requires-clause-rising c =
    let olds = c.args.old.now in
    let i = c.loop-node.node in
    let place : c.from-place.result ≡ i = c.from-place.ensures in
    let in_old : i < length olds = omega (arith, c.requires.old) in
    let was : runs_at (map (λ r. r.items) olds) i ≡ c.deref.result.now =
    get_or-map (λ r. r.items) olds i c.index-old-place.result [] in_old
    ∙ ap (λ k. (get_or olds k c.index-old-place.result).items) (sym place)
    ∙ ap (λ r. r.items) (sym c.index-old-place.is)
    ∙ sym c.deref.ensures.value in
    (subst (AreOfNode i) was (c.requires.old_of_nodes i)).rising

pub loop-node-preserved : goal.loop-node-preserved
loop-node-preserved c =
    let net = c.args.net.now.network in
    let olds = c.args.old.now in
    let windows = c.args.window.now in
    let old : List (List Run) = map (λ r. r.items) olds in
    let window : List (List Run) = map (λ r. r.items) windows in
    let near : List Bool = c.args.near.now in
    let now : ℕ → List Run = spliced_near near c.args.first c.args.end old window in
    let i = c.loop-node.node in
    let place : c.from-place.result ≡ i = c.from-place.ensures in
    let in_old : i < length olds = omega (arith, c.requires.old) in
    let in_window : i < length windows = omega (arith, c.requires.window) in
    let was : runs_at old i ≡ c.deref.result.now =
    get_or-map (λ r. r.items) olds i c.index-old-place.result [] in_old
    ∙ ap (λ k. (get_or olds k c.index-old-place.result).items) (sym place)
    ∙ ap (λ r. r.items) (sym c.index-old-place.is)
    ∙ sym c.deref.ensures.value in
    let is : runs_at window i ≡ c.deref-in-loop-node.result.now =
    get_or-map (λ r. r.items) windows i c.index-window-place.result [] in_window
    ∙ ap (λ k. (get_or windows k c.index-window-place.result).items) (sym place)
    ∙ ap (λ r. r.items) (sym c.index-window-place.is)
    ∙ sym c.deref-in-loop-node.ensures.value in
    let old_runs : List Run = c.deref.result.now in
    let window_runs : List Run = c.deref-in-loop-node.result.now in
    let is_near : Bool = is_reached near c.from-place.result in
    let new_runs : List Run = cond is_near (splice c.args.first c.args.end old_runs window_runs) old_runs in
    let now_is : now i ≡ new_runs =
    ap (λ q. cond (is_reached near i) (splice c.args.first c.args.end q (runs_at window i)) q) was
    ∙ ap (λ q. cond (is_reached near i) (splice c.args.first c.args.end old_runs q) old_runs) is
    ∙ ap (λ k. cond (is_reached near k) (splice c.args.first c.args.end old_runs window_runs) old_runs) (sym place) in
    let told : MatchOption c.in_ok-runs.field-0 (IsSection net i → new_runs ≡ old_runs) (λ runs. IsSection net i × (runs.items ≡ new_runs) × (new_runs ≢ old_runs)) = c.in_ok-runs.ensures in
    let ss = c.loop-node.sections.items in
    let ls : List (List Run) = map (λ r. r.items) c.loop-node.lists.items in
    elim c.match-branch-2.branch [
      | in-Some+in_ok-push+in_ok-push-2 w ↦
          let here = subst (λ o. MatchOption o (IsSection net i → new_runs ≡ old_runs) (λ runs. IsSection net i × (runs.items ≡ new_runs) × (new_runs ≢ old_runs))) w.in-Some.is told in
          let list : w.in-Some.runs.items ≡ now i = here.1 ∙ sym now_is in
          let differs : now i ≢ runs_at old i = λ e. here.2 (sym now_is ∙ e ∙ was) in
          let sections : c.match-branch-2.sections.items ≡ ss ++ i ∷ [] = ap (λ v. v.items) w.sections-is ∙ w.in_ok-push.ensures.items in
          let lists : map (λ r. r.items) c.match-branch-2.lists.items ≡ ls ++ w.in-Some.runs.items ∷ [] =
          ap (λ v. map (λ r. r.items) v.items) w.lists-is
          ∙ ap (map (λ r. r.items)) w.in_ok-push-2.ensures.items
          ∙ map-append (λ r. r.items) c.loop-node.lists.items (w.in-Some.runs ∷ []) in
          let all = taken net old now i ss ls c.loop-node.invariant w.in-Some.runs.items here.0 list differs (subst (AreOfNode i) (sym list) (c.requires.of_nodes i here.0)) in
          subst (λ (xs : List ℕ). AreTouched net old now (i + 1) xs (map (λ r. r.items) c.match-branch-2.lists.items)) (sym sections)
          (subst (λ (xs : List (List Run)). AreTouched net old now (i + 1) (ss ++ i ∷ []) xs) (sym lists) all)
      | in_default w ↦
          let same = subst (λ o. MatchOption o (IsSection net i → new_runs ≡ old_runs) (λ runs. IsSection net i × (runs.items ≡ new_runs) × (new_runs ≢ old_runs))) w.in_default.is told in
          subst (λ (xs : List ℕ). AreTouched net old now (i + 1) xs (map (λ r. r.items) c.match-branch-2.lists.items)) (sym (ap (λ v. v.items) w.sections-is))
          (subst (λ (xs : List (List Run)). AreTouched net old now (i + 1) ss xs) (sym (ap (λ v. map (λ r. r.items) v.items) w.lists-is))
          (passed_over net old now i ss ls c.loop-node.invariant (λ section. now_is ∙ same section ∙ sym was)))
    ]

pub returns-clause-fits : goal.returns-clause-fits
returns-clause-fits c =
    let old : List (List Run) = map (λ r. r.items) c.args.old.now in
    let e : c.loop-node.node ≤ length old = omega (arith, c.requires.old, length-map c.args.old.now (λ r. r.items)) in
    fits c.args.net.now.network old (spliced_near c.args.near.now c.args.first c.args.end old (map (λ r. r.items) c.args.window.now)) c.loop-node.node c.loop-node.sections.items (map (λ r. r.items) c.loop-node.lists.items) c.loop-node.invariant e
