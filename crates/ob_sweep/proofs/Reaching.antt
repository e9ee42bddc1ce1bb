-- Tracks of nodes, one after another.
use Rattle.std.proofs.Common.{◌≡◌, ◌+◌, ◌<◌, ◌≤◌, ℕ, inl, inr, IsTrue, false, List, [], ◌∷◌, ◌++◌, Option, Some, refl, sym, ◌∙◌, ap, subst, arith, length, get_or, set, take, length-set}
use Rattle.std.proofs.lemmas.Bool.{cases_eq, false≢true}
use Rattle.std.proofs.lemmas.List.{get_or-set_same, get_or-set_other, take_more}
use Rattle.ob_net.proofs.Nodes.{among_before, among_last}
use Rattle.ob_net.specs.Network.{Network}
use Rattle.ob_net.specs.Nodes.{is_among}
use Rattle.ob_sweep.specs.Runs.{History, runs_between}
use Rattle.ob_sweep.specs.Splice.{join}
use Rattle.ob_sweep.specs.Timeline.{runs_at}
use Rattle.ob_sweep.specs.Tracks.{AreOldRuns, AreTracked, GoBySections, IsTracked, IsTrackedBy, part_of}
use Rattle.ob_sweep.specs.declared.Run.{Run}
use Rattle.ob_sweep.specs.declared.track.Track.{Track}
use Rattle.ob_sweep.proofs.Tracked.{tracked_up}

-- the tracks of the first so many nodes reach up to the second, and the others are as they were
pub record AreReached (lists : List (List Run)) (second : ℕ) (was now : List Track) (nodes : List ℕ) : Type 0 where
  pub count : length now ≡ length was
  pub tracked : (net : Network) (g h : ℕ → History) (lo first hi : ℕ) → lo ≤ first → second ≤ hi → AreOldRuns net g lo hi lists
      → GoBySections net was → AreTracked net g h lo first second was → AreTracked net g h lo first second now
  pub sources : (v : ℕ) (d : Track) → (get_or now v d).source ≡ (get_or was v d).source
  pub reached : (v : ℕ) (d : Track) → IsTrue (is_among nodes v) → (get_or now v d).reached ≡ second
  pub others : (v : ℕ) (d : Track) → is_among nodes v ≡ false → get_or now v d ≡ get_or was v d

pub none_reached : (lists : List (List Run)) (second : ℕ) (was : List Track) → AreReached lists second was was []
none_reached lists second was =
    record {
      count = refl;
      tracked = λ net g h lo first hi l m olds by all. all;
      sources = λ v d. refl;
      reached = λ v d among. absurd (false≢true among);
      others = λ v d none. refl;
    }

module _ (lists : List (List Run)) (second : ℕ) (was now : List Track) (nodes : List ℕ) (x : ℕ) (track new : Track) (within : x < length now)
    (is : (d : Track) → track ≡ get_or now x d)
    (runs : new.runs.items ≡ join track.reached track.runs.items (part_of lists track.source x track.reached second)) (reached : new.reached ≡ second) (source : new.source ≡ track.source)
    (h : AreReached lists second was now nodes) where
  at_it : (d : Track) → get_or (set now x new) x d ≡ new
  at_it d = get_or-set_same now x new d within

  apart : (v : ℕ) (d : Track) → (v ≡ x → ⊥) → get_or (set now x new) v d ≡ get_or now v d
  apart v d ne = get_or-set_other now x v new d ne

  pub one_reached : AreReached lists second was (set now x new) (nodes ++ x ∷ [])
  one_reached =
      record {
        count = length-set now x new ∙ h.count;
        tracked = λ net g k lo first hi l m olds by all v d less section.
            let before : AreTracked net g k lo first second now = h.tracked net g k lo first hi l m olds by all in
            let small : v < length now = omega (arith, less, length-set now x new) in
            elim (cases_eq v x) as (λ _. IsTrackedBy g k lo first second v (get_or (set now x new) v d)) [
              | inl here ↦
                  let old : IsTrackedBy g k lo first second v track = subst (IsTrackedBy g k lo first second v) (ap (λ n. get_or now n d) here ∙ sym (is d)) (before v d small section) in
                  let held : (w : ℕ) → track.source ≡ Some w → runs_at lists w ≡ runs_between w (g w) lo hi = λ w e.
                  olds w (by v w d (omega (arith, small, h.count)) section (sym (h.sources v d) ∙ ap (λ n. (get_or now n d).source) here ∙ ap (λ (y : Track). y.source) (sym (is d)) ∙ e)) in
                  let up = tracked_up g k lo first l lists hi second v track.runs.items track.reached track.source held m old in
                  let same_runs : join track.reached track.runs.items (part_of lists track.source v track.reached second) ≡ new.runs.items =
                  ap (λ n. join track.reached track.runs.items (part_of lists track.source n track.reached second)) here ∙ sym runs in
                  let a : IsTracked g k lo first second v new.runs.items second track.source = subst (λ (rs : List Run). IsTracked g k lo first second v rs second track.source) same_runs up in
                  let b : IsTracked g k lo first second v new.runs.items new.reached track.source = subst (λ (n : ℕ). IsTracked g k lo first second v new.runs.items n track.source) (sym reached) a in
                  let c : IsTrackedBy g k lo first second v new = subst (λ (o : Option ℕ). IsTracked g k lo first second v new.runs.items new.reached o) (sym source) b in
                  subst (IsTrackedBy g k lo first second v) (sym (ap (λ n. get_or (set now x new) n d) here ∙ at_it d)) c
              | inr ne ↦ subst (IsTrackedBy g k lo first second v) (sym (apart v d ne)) (before v d small section)
            ];
        sources = λ v d. elim (cases_eq v x) as (λ _. (get_or (set now x new) v d).source ≡ (get_or was v d).source) [
          | inl here ↦
              ap (λ n. (get_or (set now x new) n d).source) here ∙ ap (λ (y : Track). y.source) (at_it d) ∙ source ∙ ap (λ (y : Track). y.source) (is d)
              ∙ ap (λ n. (get_or now n d).source) (sym here) ∙ h.sources v d
          | inr ne ↦ ap (λ (y : Track). y.source) (apart v d ne) ∙ h.sources v d
        ];
        reached = λ v d among. elim (cases_eq v x) as (λ _. (get_or (set now x new) v d).reached ≡ second) [
          | inl here ↦ ap (λ n. (get_or (set now x new) n d).reached) here ∙ ap (λ (y : Track). y.reached) (at_it d) ∙ reached
          | inr ne ↦ ap (λ (y : Track). y.reached) (apart v d ne) ∙ h.reached v d (sym (among_before nodes x v (λ e. ne (sym e))) ∙ among)
        ];
        others = λ v d none. elim (cases_eq v x) as (λ _. get_or (set now x new) v d ≡ get_or was v d) [
          | inl here ↦ absurd (false≢true (sym none ∙ among_last nodes x v (sym here)))
          | inr ne ↦ apart v d ne ∙ h.others v d (sym (among_before nodes x v (λ e. ne (sym e))) ∙ none)
        ];
      }

pub next_nodes : (nodes : List ℕ) (i x : ℕ) → i < length nodes → x ≡ get_or nodes i x → take i nodes ++ x ∷ [] ≡ take (i + 1) nodes
next_nodes nodes i x l is = ap (λ y. take i nodes ++ y ∷ []) is ∙ sym (take_more nodes i x l)
