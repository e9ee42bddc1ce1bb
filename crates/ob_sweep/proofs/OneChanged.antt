-- The new runs of each section after a change of one device, where those of the listed nodes were found.
use Rattle.std.proofs.Common.{◌≡◌, ◌<◌, ℕ, inl, inr, Bool, IsTrue, false, cond, List, [], ◌∷◌, Option, Some, sym, ◌∙◌, ap, subst, arith, length, get_or, map}
use Rattle.std.proofs.lemmas.Bool.{cases_Bool, cond-false, cond-true}
use Rattle.std.proofs.lemmas.List.{get_or-map}
use Rattle.ob_base.specs.declared.Pos.{Pos}
use Rattle.ob_net.specs.Network.{Network}
use Rattle.ob_net.specs.Nodes.{is_among}
use Rattle.ob_net.specs.Reach.{is_reached}
use Rattle.ob_sheet.specs.declared.Entry.{Entry}
use Rattle.ob_sweep.specs.Near.{spliced_near}
use Rattle.ob_sweep.specs.OneChange.{IsOneChange}
use Rattle.ob_sweep.specs.Runs.{runs_between}
use Rattle.ob_sweep.specs.Splice.{splice}
use Rattle.ob_sweep.specs.Timeline.{AreOfNode, IsSection, runs_at}
use Rattle.ob_sweep.specs.Tracks.{AreTracked, IsTracked}
use Rattle.ob_sweep.specs.declared.Run.{Run}
use Rattle.ob_sweep.specs.declared.track.Track.{Track}
use Rattle.ob_sweep.proofs.Related.{runs_of_node, section_is_node}
use Rattle.ob_sweep.proofs.Tracked.{tracked_spliced, untracked}
use Rattle.ob_sweep.proofs.Untouched.{IsUntouched}

-- a list with a place has some element
some_track : (xs : List Track) (v : ℕ) → v < length xs → Track
some_track [] v l = absurd (omega arith)
some_track (x ∷ xs) v l = x

module _ (net : Network) (device first end : ℕ) (positions : List Pos) (entries : List Entry) (lists : List (List Run))
    (change : IsOneChange net device first end positions entries lists) (v : ℕ) (section : IsSection net v) where
  -- what was found of it up to the end stands for the old runs there
  found_runs : (x : Track) → x.reached ≡ end → IsTracked change.old change.new change.lo first end v x.runs.items x.reached x.source
      → splice first end (runs_at lists v) x.runs.items ≡ runs_between v (change.new v) change.lo change.hi
  found_runs x reached tracked =
      let some : first < end = change.some in
      let up : IsTracked change.old change.new change.lo first end v x.runs.items end x.source =
      subst (λ (n : ℕ). IsTracked change.old change.new change.lo first end v x.runs.items n x.source) reached tracked in
      ap (λ q. splice first end q x.runs.items) (change.runs v section)
      ∙ tracked_spliced change.old change.new change.lo first change.from change.hi end v (omega arith) change.upto (change.earlier v) (change.later v)
      (λ l s e. change.seam v s l e) x.runs.items x.source up

  -- where nothing was found of it, it keeps the old runs
  kept_runs : (x : Track) → IsUntouched first v x → IsTracked change.old change.new change.lo first end v x.runs.items x.reached x.source
      → runs_at lists v ≡ runs_between v (change.new v) change.lo change.hi
  kept_runs x untouched tracked =
      let some : first < end = change.some in
      let none : IsTracked change.old change.new change.lo first end v [] first (Some v) =
      subst (λ (o : Option ℕ). IsTracked change.old change.new change.lo first end v [] first o) untouched.2
      (subst (λ (n : ℕ). IsTracked change.old change.new change.lo first end v [] n x.source) untouched.1
      (subst (λ (rs : List Run). IsTracked change.old change.new change.lo first end v rs x.reached x.source) untouched.0 tracked)) in
      change.runs v section
      ∙ sym (untracked change.old change.new change.lo first change.from change.hi end v (omega arith) change.upto (change.earlier v) (change.later v)
      (λ l s e. change.seam v s l e) none)

-- the tracks before the listed nodes were found up to the end, and after it
module _ (net : Network) (device first end : ℕ) (positions : List Pos) (entries : List Entry) (lists window : List (List Run)) (was now : List Track) (nodes : List ℕ) (marks : List Bool)
    (count : length was ≡ length net.nodes) (kept : length now ≡ length was)
    (marked : (v : ℕ) → IsTrue (is_reached marks v) → IsTrue (is_among nodes v))
    (others : (v : ℕ) (d : Track) → v < length was → is_reached marks v ≡ false → IsUntouched first v (get_or was v d))
    (reached : (v : ℕ) (d : Track) → IsTrue (is_among nodes v) → (get_or now v d).reached ≡ end)
    (found : window ≡ map (λ (t : Track). t.runs.items) now)
    (change : IsOneChange net device first end positions entries lists)
    (before : AreTracked net change.old change.new change.lo first end was) (after : AreTracked net change.old change.new change.lo first end now) where
  pub one_change_news : (v : ℕ) → IsSection net v → spliced_near marks first end lists window v ≡ runs_between v (change.new v) change.lo change.hi
  one_change_news v section =
      let l : v < length was = omega (arith, section_is_node net v section) in
      let m : v < length now = omega arith in
      let d : Track = some_track was v l in
      let x : Track = get_or now v d in
      let here : runs_at window v ≡ x.runs.items = ap (λ (ls : List (List Run)). runs_at ls v) found ∙ get_or-map (λ (t : Track). t.runs.items) now v d [] m in
      let new : List Run = splice first end (runs_at lists v) (runs_at window v) in
      elim (cases_Bool (is_reached marks v)) as (λ _. cond (is_reached marks v) new (runs_at lists v) ≡ runs_between v (change.new v) change.lo change.hi) [
        | inl t ↦
            cond-true (is_reached marks v) new (runs_at lists v) t
            ∙ ap (splice first end (runs_at lists v)) here
            ∙ found_runs net device first end positions entries lists change v section x (reached v d (marked v t)) (after v d m section)
        | inr n ↦
            cond-false (is_reached marks v) new (runs_at lists v) n
            ∙ kept_runs net device first end positions entries lists change v section (get_or was v d) (others v d l n) (before v d l section)
      ]

  pub one_change_of_node : (v : ℕ) → IsSection net v → AreOfNode v (spliced_near marks first end lists window v)
  one_change_of_node v section = subst (AreOfNode v) (sym (one_change_news v section)) (runs_of_node v (change.new v) change.lo change.hi)
