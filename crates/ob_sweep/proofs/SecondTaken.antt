-- The tracks of all nodes after a second whose entries act at the nodes that are supplied through the device.
use Rattle.std.proofs.Common.{◌≡◌, ◌+◌, ◌<◌, ◌≤◌, ℕ, suc, inl, inr, Bool, IsTrue, true, false, not, cond, List, [], ◌∷◌, Option, None, Some, Vec, Global, IfSome, sym, ◌∙◌, ap, subst, arith, length, get_or}
use Rattle.std.proofs.lemmas.Bool.{cases_Bool, cond-true, cond-false, false≢true}
use Rattle.std.proofs.lemmas.List.{get_or-map}
use Rattle.std.proofs.lemmas.Option.{none-some, same_Some}
use Rattle.ob_base.specs.declared.Pos.{Pos}
use Rattle.ob_base.specs.declared.Pos.TheVariants.{Opened, Closed}
use Rattle.ob_net.specs.Network.{Network}
use Rattle.ob_net.specs.Nodes.{is_among}
use Rattle.ob_net.specs.Walk.{is_closed, is_supplied}
use Rattle.ob_net.specs.declared.tracer.CutEnd.{CutEnd}
use Rattle.ob_sheet.specs.declared.Entry.{Entry}
use Rattle.ob_sweep.specs.Acting.{moment_of, moved_all, steps_from}
use Rattle.ob_sweep.specs.CutOffs.{AreCollected, AreLooked, GoOwnOutside, GoThrough, nodes_through, other_end, source_through}
use Rattle.ob_sweep.specs.Differences.{AreThrough, SaySame, Supplies}
use Rattle.ob_sweep.specs.Moments.{Moment, at_end, last_cut}
use Rattle.ob_sweep.specs.Runs.{History}
use Rattle.ob_sweep.specs.Splice.{join}
use Rattle.ob_sweep.specs.Timeline.{IsSection}
use Rattle.ob_sweep.specs.Tracks.{AreAdded, AreTracked, AreWithin, IsSecond, IsTracked, IsTrackedBy, goes_by, goes_through}
use Rattle.ob_sweep.specs.declared.Run.{Run}
use Rattle.ob_sweep.specs.declared.cut_off.CutOff.{CutOff}
use Rattle.ob_sweep.specs.declared.track.Track.{Track}
use Rattle.ob_sweep.proofs.Acted.{end_of_steps}
use Rattle.ob_sweep.proofs.Altering.{through_found}
use Rattle.ob_sweep.proofs.Quiet.{second_end}
use Rattle.ob_sweep.proofs.Tracked.{tracked_pass, tracked_second}

-- what the nodes of the set go by
inside_source : (cut : Option CutEnd) (found : List ℕ) (pos : Pos) (v : ℕ) → is_among (nodes_through cut found) v ≡ true
    → source_through cut pos ≡ goes_through (is_among (nodes_through cut found)) (other_end cut) pos v
inside_source (Some cut) found pos v t = sym (cond-true (is_among found v) (cond (is_closed pos) (Some cut.other) None) (Some v) t)
inside_source None found pos v t = absurd (false≢true t)

below_source : (cut : Option CutEnd) (pos : Pos) (w n : ℕ) → IfSome cut (λ (c : CutEnd). (c.end < n) × (c.other < n)) → source_through cut pos ≡ Some w → w < n
below_source (Some cut) Closed w n h is = subst (λ (k : ℕ). k < n) (same_Some cut.other w is) h.1
below_source (Some cut) Opened w n h is = absurd (none-some w is)
below_source None pos w n h is = absurd (none-some w is)

module _ (net : Network) (c0 c1 : CutOff) (entries : List Entry) (nodes : List ℕ) (collected : AreCollected net c0 entries nodes c1) (second : ℕ)
    (was reached added last : List Track) (supplied : List Bool) (cutters : List (Option ℕ))
    (looked : AreLooked net c0.second c0.positions.items entries nodes supplied cutters)
    (count : length reached ≡ length was)
    (others : (v : ℕ) (d : Track) → is_among nodes v ≡ false → get_or reached v d ≡ get_or was v d)
    (there : (v : ℕ) (d : Track) → IsTrue (is_among nodes v) → (get_or reached v d).reached ≡ second)
    (adds : AreAdded nodes supplied cutters second reached added)
    (count_last : length last ≡ length added)
    (same_runs : (v : ℕ) (d : Track) → (get_or last v d).runs ≡ (get_or added v d).runs)
    (same_reached : (v : ℕ) (d : Track) → (get_or last v d).reached ≡ (get_or added v d).reached)
    (sources : (v : ℕ) (d : Track) → v < length added
    → (get_or last v d).source ≡ cond (is_among (nodes_through c1.cut c1.tracer.found) v) (source_through c1.cut (get_or c1.positions.items c1.device Opened)) (get_or added v d).source) where
  abbrev has : ℕ → Bool
  has = is_among (nodes_through c1.cut c1.tracer.found)

  abbrev pos : Pos
  pos = get_or c1.positions.items c1.device Opened

  abbrev m : Moment
  m = moment_of net c0.second c0.positions.items entries

  -- the source of a node that was its own before the sources were set
  from_own : (v : ℕ) (d : Track) → v < length added → (get_or added v d).source ≡ Some v → (get_or last v d).source ≡ goes_through has (other_end c1.cut) pos v
  from_own v d l is =
      sources v d l
      ∙ elim (cases_Bool (has v)) as (λ _. cond (has v) (source_through c1.cut pos) (get_or added v d).source ≡ goes_through has (other_end c1.cut) pos v) [
        | inl t ↦ cond-true (has v) (source_through c1.cut pos) (get_or added v d).source t ∙ inside_source c1.cut c1.tracer.found pos v t
        | inr n ↦
            cond-false (has v) (source_through c1.cut pos) (get_or added v d).source n ∙ is
            ∙ sym (cond-false (has v) (cond (is_closed pos) (Some (other_end c1.cut)) None) (Some v) n)
      ]

  many : length last ≡ length was
  many = count_last ∙ adds.count ∙ count

  outside : (v : ℕ) (d : Track) → is_among nodes v ≡ false → get_or added v d ≡ get_or was v d
  outside v d none = adds.others v d none ∙ others v d none

  -- each source is a node
  pub within_last : (n : ℕ) → length was ≡ n → IfSome c1.cut (λ (c : CutEnd). (c.end < n) × (c.other < n)) → AreWithin n was → AreWithin n last
  within_last n size nodes_below within k w d l is =
      let small : k < length added = omega (arith, l, count_last) in
      let sourced = sources k d small in
      elim (cases_Bool (has k)) as (λ _. w < n) [
        | inl t ↦ below_source c1.cut pos w n nodes_below (sym (cond-true (has k) (source_through c1.cut pos) (get_or added k d).source t) ∙ sym sourced ∙ is)
        | inr f ↦
            let kept : (get_or added k d).source ≡ Some w = sym (cond-false (has k) (source_through c1.cut pos) (get_or added k d).source f) ∙ sym sourced ∙ is in
            elim (cases_Bool (is_among nodes k)) as (λ _. w < n) [
              | inl y ↦
                  let same : k ≡ w = same_Some k w (sym (adds.listed k d y).3.source ∙ kept) in
                  omega (arith, l, many, size, same)
              | inr y ↦ within k w d (omega (arith, l, many)) (sym (ap (λ (z : Track). z.source) (outside k d y)) ∙ kept)
            ]
      ]

  module _ (own : GoOwnOutside c0 was) where
    -- each node goes by its own runs or through the device
    pub go_through : GoThrough c1 last
    go_through v d l =
        elim (cases_Bool (is_among nodes v)) as (λ _. (get_or last v d).source ≡ goes_through has (other_end c1.cut) pos v) [
          | inl t ↦ from_own v d (omega (arith, l, count_last)) (adds.listed v d t).3.source
          | inr n ↦
              from_own v d (omega (arith, l, count_last))
              (ap (λ (y : Track). y.source) (outside v d n) ∙ own v d (omega (arith, l, many)) (collected.first v n))
        ]

    module _ (g h : ℕ → History) (lo first : ℕ) (la : lo ≤ first) (sec : IsSecond (λ v ps. is_supplied net ps v) c0.device g h second m)
        (tracked : AreTracked net g h lo first second reached) where
      abbrev lit : Supplies
      lit v ps = is_supplied net ps v

      at_last : at_end m ≡ c1.positions.items
      at_last = end_of_steps net c0.second c0.positions.items entries ∙ sym collected.positions

      through_last : AreThrough lit c0.device (other_end c1.cut) has (at_end m)
      through_last =
          subst (λ (ps : List Pos). AreThrough lit c0.device (other_end c1.cut) has ps) (sym at_last)
          (subst (λ (d : ℕ). AreThrough lit d (other_end c1.cut) has c1.positions.items) collected.device
          (through_found net c1.positions.items c1.device c1.cut c1.tracer.found (omega (arith, collected.of.device, collected.of.positions)) collected.of.found))

      ends : (v : ℕ) → (h v).deenergized second ≡ (goes_by g (goes_through has (other_end c1.cut) pos v)).deenergized second
      ends v =
          second_end lit c0.device g h second m sec (other_end c1.cut) has through_last pos v
          (λ t. ap (λ (ps : List Pos). get_or ps c0.device Opened) at_last ∙ ap (λ (d : ℕ). get_or c1.positions.items d Opened) (sym collected.device))

      -- the parts of a track of the last list
      retrack : (v : ℕ) (d : Track) (t : ℕ) (runs : List Run) (to : ℕ) (source : Option ℕ) → runs ≡ (get_or last v d).runs.items → to ≡ (get_or last v d).reached → source ≡ (get_or last v d).source
          → IsTracked g h lo first t v runs to source → IsTrackedBy g h lo first t v (get_or last v d)
      retrack v d t runs to source a b c x =
          subst (λ (o : Option ℕ). IsTracked g h lo first t v (get_or last v d).runs.items (get_or last v d).reached o) c
          (subst (λ (n : ℕ). IsTracked g h lo first t v (get_or last v d).runs.items n source) b
          (subst (λ (rs : List Run). IsTracked g h lo first t v rs to source) a x))

      inside_tracked : (v : ℕ) (d : Track) → v < length last → IsSection net v → is_among nodes v ≡ true → IsTrackedBy g h lo first (suc second) v (get_or last v d)
      inside_tracked v d l section t =
          let listed = adds.listed v d t in
          let k : ℕ = listed.0 in
          let x : Track = get_or reached v d in
          let next : Option ℕ = goes_through has (other_end c1.cut) pos v in
          let small : v < length reached = omega (arith, l, many, count) in
          let was_tracked : IsTracked g h lo first second v x.runs.items second x.source =
          subst (λ (n : ℕ). IsTracked g h lo first second v x.runs.items n x.source) (there v d t) (tracked v d small section) in
          let is_supplied_now : get_or supplied k false ≡ lit v (at_end m) =
          ap (λ bs. get_or bs k false) looked.supplied_now
          ∙ get_or-map (is_supplied net (moved_all net c0.second c0.positions.items entries)) nodes k 0 false listed.1
          ∙ ap (λ n. is_supplied net (moved_all net c0.second c0.positions.items entries) n) listed.2
          ∙ sym (ap (lit v) (end_of_steps net c0.second c0.positions.items entries)) in
          let dead : (h v).deenergized second ≡ not (get_or supplied k false) = (sec.is v).deenergized ∙ ap not (sym is_supplied_now) in
          let cut : (h v).cutter second ≡ get_or cutters k None =
          (sec.is v).cutter
          ∙ ap (λ n. last_cut (λ ps. is_supplied net ps n) c0.positions.items (steps_from net c0.second c0.positions.items entries)) (sym listed.2)
          ∙ sym (looked.last k None listed.1) in
          let one : suc second ≡ second + 1 = omega arith in
          let y = tracked_second g h lo first la second v x.runs.items x.source next (not (get_or supplied k false)) (get_or cutters k None) dead cut (ends v) was_tracked in
          retrack v d (suc second) (join second x.runs.items (cond (not (get_or supplied k false)) (record { section = v; since = second; until = suc second; cutter = get_or cutters k None } ∷ []) [])) (suc second) next
          (ap (λ u. join second x.runs.items (cond (not (get_or supplied k false)) (record { section = v; since = second; until = u; cutter = get_or cutters k None } ∷ []) [])) one
          ∙ sym listed.3.runs ∙ sym (ap (λ (q : Vec Run Global). q.items) (same_runs v d)))
          (one ∙ sym listed.3.reached ∙ sym (same_reached v d))
          (sym (go_through v d l))
          y

      outside_tracked : (v : ℕ) (d : Track) → v < length last → IsSection net v → is_among nodes v ≡ false → IsTrackedBy g h lo first (suc second) v (get_or last v d)
      outside_tracked v d l section n =
          let x : Track = get_or reached v d in
          let small : v < length reached = omega (arith, l, many, count) in
          let is_own : x.source ≡ Some v = ap (λ (y : Track). y.source) (others v d n) ∙ own v d (omega (arith, l, many)) (collected.first v n) in
          let same : SaySame (h v) (goes_by g x.source) second = subst (λ (o : Option ℕ). SaySame (h v) (goes_by g o) second) (sym is_own) (sec.same v (collected.same v n)) in
          let y = tracked_pass g h lo first la second v x.runs.items x.reached x.source same (tracked v d small section) in
          let now : get_or added v d ≡ x = adds.others v d n in
          let none : has v ≡ false = collected.last v n in
          retrack v d (suc second) x.runs.items x.reached x.source
          (sym (ap (λ (q : Vec Run Global). q.items) (same_runs v d) ∙ ap (λ (z : Track). z.runs.items) now))
          (sym (same_reached v d ∙ ap (λ (z : Track). z.reached) now))
          (sym (go_through v d l ∙ cond-false (has v) (cond (is_closed pos) (Some (other_end c1.cut)) None) (Some v) none ∙ sym is_own))
          y

      pub second_taken : AreTracked net g h lo first (suc second) last
      second_taken v d l section =
          elim (cases_Bool (is_among nodes v)) as (λ _. IsTrackedBy g h lo first (suc second) v (get_or last v d)) [
            | inl t ↦ inside_tracked v d l section t
            | inr n ↦ outside_tracked v d l section n
          ]
