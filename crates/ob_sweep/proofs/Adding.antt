-- A second added to the tracks of some nodes, one after another, some of them listed more than once.
use Rattle.std.proofs.Common.{◌≡◌, ◌+◌, ◌<◌, ◌≤◌, ◌==◌, ℕ, zero, suc, inl, inr, Bool, IsTrue, true, false, List, [], ◌∷◌, ◌++◌, Option, None, refl, sym, ◌∙◌, ap, subst, arith, length, get_or, set, length-set}
use Rattle.std.proofs.lemmas.Bool.{cases_Bool, cases_eq, eq-eqb, false≢true, or_left, or_right}
use Rattle.std.proofs.lemmas.List.{get_or-set_same, get_or-set_other}
use Rattle.ob_net.proofs.Nodes.{among_before, among_last}
use Rattle.ob_net.specs.Nodes.{is_among}
use Rattle.ob_sweep.specs.Tracks.{AreAdded, IsAdded}
use Rattle.ob_sweep.specs.declared.track.Track.{Track}

-- of the listed nodes those that are taken so far
pub record AreAddedSo (nodes taken : List ℕ) (supplied : List Bool) (cutters : List (Option ℕ)) (second : ℕ) (was now : List Track) : Type 0 where
  pub count : length now ≡ length was
  pub listed : (v : ℕ) (d : Track) → IsTrue (is_among taken v)
      → (k : ℕ) × (k < length nodes) × (get_or nodes k 0 ≡ v)
      × IsAdded v second (get_or supplied k false) (get_or cutters k None) (get_or was v d) (get_or now v d)
  pub others : (v : ℕ) (d : Track) → is_among taken v ≡ false → get_or now v d ≡ get_or was v d

pub none_added : (nodes : List ℕ) (supplied : List Bool) (cutters : List (Option ℕ)) (second : ℕ) (was : List Track) → AreAddedSo nodes [] supplied cutters second was was
none_added nodes supplied cutters second was = record { count = refl; listed = λ v d among. absurd (false≢true among); others = λ v d none. refl }

pub all_added : (nodes : List ℕ) (supplied : List Bool) (cutters : List (Option ℕ)) (second : ℕ) (was now : List Track) → AreAddedSo nodes nodes supplied cutters second was now
    → AreAdded nodes supplied cutters second was now
all_added nodes supplied cutters second was now h = record { count = h.count; listed = h.listed; others = h.others }

module _ (nodes taken : List ℕ) (supplied : List Bool) (cutters : List (Option ℕ)) (second : ℕ) (was now : List Track) (h : AreAddedSo nodes taken supplied cutters second was now)
    (x i : ℕ) (l : i < length nodes) (is : get_or nodes i 0 ≡ x) (within : x < length now) where
  -- one that was taken already
  pub added_again : (d : Track) → second + 1 ≤ (get_or now x d).reached → (get_or was x d).reached ≡ second → AreAddedSo nodes (taken ++ x ∷ []) supplied cutters second was now
  added_again d past first =
      let among : is_among taken x ≡ true =
      elim (cases_Bool (is_among taken x)) as (λ _. is_among taken x ≡ true) [
        | inl t ↦ t
        | inr n ↦ absurd (omega (arith, past, first, ap (λ (y : Track). y.reached) (h.others x d n)))
      ] in
      record {
        count = h.count;
        listed = λ v e there. elim (cases_eq v x) as (λ _. (k : ℕ) × (k < length nodes) × (get_or nodes k 0 ≡ v)
            × IsAdded v second (get_or supplied k false) (get_or cutters k None) (get_or was v e) (get_or now v e)) [
              | inl here ↦ h.listed v e (ap (is_among taken) here ∙ among)
              | inr ne ↦ h.listed v e (sym (among_before taken x v (λ q. ne (sym q))) ∙ there)
            ];
        others = λ v e none. elim (cases_eq v x) as (λ _. get_or now v e ≡ get_or was v e) [
          | inl here ↦ absurd (false≢true (sym none ∙ among_last taken x v (sym here)))
          | inr ne ↦ h.others v e (sym (among_before taken x v (λ q. ne (sym q))) ∙ none)
        ];
      }

  -- one that wasn't
  module _ (track new : Track) (at : (d : Track) → track ≡ get_or now x d) (open_still : track.reached < second + 1)
      (added : IsAdded x second (get_or supplied i false) (get_or cutters i None) track new) where
    not_yet : is_among taken x ≡ false
    not_yet =
        elim (cases_Bool (is_among taken x)) as (λ _. is_among taken x ≡ false) [
          | inl t ↦
              let done = h.listed x track t in
              absurd (omega (arith, open_still, done.3.reached, ap (λ (y : Track). y.reached) (at track)))
          | inr n ↦ n
        ]

    pub added_once : AreAddedSo nodes (taken ++ x ∷ []) supplied cutters second was (set now x new)
    added_once =
        record {
          count = length-set now x new ∙ h.count;
          listed = λ v e there. elim (cases_eq v x) as (λ _. (k : ℕ) × (k < length nodes) × (get_or nodes k 0 ≡ v)
              × IsAdded v second (get_or supplied k false) (get_or cutters k None) (get_or was v e) (get_or (set now x new) v e)) [
                | inl here ↦ (
                  i,
                  l,
                  is ∙ sym here,
                  subst (λ (n : ℕ). IsAdded n second (get_or supplied i false) (get_or cutters i None) (get_or was n e) (get_or (set now x new) n e)) (sym here)
                      (subst (λ (y : Track). IsAdded x second (get_or supplied i false) (get_or cutters i None) (get_or was x e) y) (sym (get_or-set_same now x new e within))
                      (subst (λ (y : Track). IsAdded x second (get_or supplied i false) (get_or cutters i None) y new) (at e ∙ h.others x e not_yet) added)),
                )
                | inr ne ↦
                    let old = h.listed v e (sym (among_before taken x v (λ q. ne (sym q))) ∙ there) in (
                      old.0,
                      old.1,
                      old.2,
                      subst (λ (y : Track). IsAdded v second (get_or supplied old.0 false) (get_or cutters old.0 None) (get_or was v e) y) (sym (get_or-set_other now x v new e ne)) old.3,
                    )
              ];
          others = λ v e none. elim (cases_eq v x) as (λ _. get_or (set now x new) v e ≡ get_or was v e) [
            | inl here ↦ absurd (false≢true (sym none ∙ among_last taken x v (sym here)))
            | inr ne ↦ get_or-set_other now x v new e ne ∙ h.others v e (sym (among_before taken x v (λ q. ne (sym q))) ∙ none)
          ];
        }

pub at_place : (nodes : List ℕ) (i v : ℕ) → i < length nodes → get_or nodes i 0 ≡ v → is_among nodes v ≡ true
at_place [] i v l is = absurd (omega arith)
at_place (n ∷ ns) zero v l is = or_left (n == v) (is_among ns v) (eq-eqb n v is)
at_place (n ∷ ns) (suc i) v l is = or_right (n == v) (is_among ns v) (at_place ns i v (omega arith) is)
