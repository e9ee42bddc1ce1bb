-- The nodes of which something was found, told apart from the others one after another.
use Rattle.std.proofs.Common.{◌≡◌, ◌+◌, ◌<◌, ℕ, inl, inr, Bool, IsTrue, true, false, List, [], ◌∷◌, ◌++◌, Some, refl, sym, ◌∙◌, ap, subst, arith, length, get_or}
use Rattle.std.specs.List.{All}
use Rattle.std.proofs.lemmas.Bool.{cases_eq, cases_lt, false≢true}
use Rattle.std.proofs.lemmas.List.{get_or_append_left, get_or_past, get_or_push, length_push}
use Rattle.std.proofs.lemmas.List.Elements.{All-push}
use Rattle.ob_net.proofs.Nodes.{among_before, among_last}
use Rattle.ob_net.specs.Nodes.{is_among}
use Rattle.ob_net.specs.Reach.{is_reached}
use Rattle.ob_sweep.specs.declared.track.Track.{Track}

-- nothing was found of a node, which goes by its own old runs
abbrev pub IsUntouched : ℕ → ℕ → Track → Type 0
IsUntouched first v x = (x.runs.items ≡ []) × (x.reached ≡ first) × (x.source ≡ Some v)

-- of the first so many nodes, those that are marked are listed, and of the others nothing was found
pub record AreApart (tracks : List Track) (first k : ℕ) (nodes : List ℕ) (marks : List Bool) : Type 0 where
  pub below : All (λ v. v < length tracks) nodes
  pub count : length marks ≡ k
  pub marked : (v : ℕ) → IsTrue (is_reached marks v) → IsTrue (is_among nodes v)
  pub others : (v : ℕ) (d : Track) → v < k → is_reached marks v ≡ false → IsUntouched first v (get_or tracks v d)

pub none_apart : (tracks : List Track) (first : ℕ) → AreApart tracks first 0 [] []
none_apart tracks first =
    record {
      below = λ k d l. absurd (omega arith);
      count = refl;
      marked = λ v m. absurd (false≢true m);
      others = λ v d l. absurd (omega arith);
    }

module _ (tracks : List Track) (first k : ℕ) (nodes : List ℕ) (marks : List Bool) (within : k < length tracks) (h : AreApart tracks first k nodes marks) where
  -- the mark of the next node
  last_mark : (b : Bool) (v : ℕ) → v ≡ k → is_reached (marks ++ b ∷ []) v ≡ b
  last_mark b v e = get_or_push marks b false v (h.count ∙ sym e)

  -- those of the nodes before it
  mark_before : (b : Bool) (v : ℕ) → v < k → is_reached (marks ++ b ∷ []) v ≡ is_reached marks v
  mark_before b v l = get_or_append_left marks (b ∷ []) false v (omega (arith, l, h.count))

  -- and of those after it
  mark_after : (b : Bool) (v : ℕ) → k < v → is_reached (marks ++ b ∷ []) v ≡ false
  mark_after b v l = get_or_past (marks ++ b ∷ []) v false (omega (arith, l, h.count, length_push marks b))

  -- a node that is marked
  pub one_marked : AreApart tracks first (k + 1) (nodes ++ k ∷ []) (marks ++ true ∷ [])
  one_marked =
      record {
        below = All-push (λ v. v < length tracks) nodes k h.below within;
        count = length_push marks true ∙ ap (λ n. n + 1) h.count;
        marked = λ v m.
            elim (cases_eq v k) as (λ _. IsTrue (is_among (nodes ++ k ∷ []) v)) [
              | inl e ↦ among_last nodes k v (sym e)
              | inr ne ↦ among_before nodes k v (λ e. ne (sym e)) ∙ h.marked v (
                  elim (cases_lt v k) as (λ _. IsTrue (is_reached marks v)) [
                    | inl l ↦ sym (mark_before true v l) ∙ m
                    | inr l ↦ absurd (false≢true (sym (mark_after true v (omega arith)) ∙ m))
                  ])
            ];
        others = λ v d l none.
            elim (cases_lt v k) as (λ _. IsUntouched first v (get_or tracks v d)) [
              | inl less ↦ h.others v d less (sym (mark_before true v less) ∙ none)
              | inr not ↦ absurd (false≢true (sym none ∙ last_mark true v (omega arith)))
            ];
      }

  -- and one that isn't
  pub one_unmarked : ((d : Track) → IsUntouched first k (get_or tracks k d)) → AreApart tracks first (k + 1) nodes (marks ++ false ∷ [])
  one_unmarked untouched =
      record {
        below = h.below;
        count = length_push marks false ∙ ap (λ n. n + 1) h.count;
        marked = λ v m.
            elim (cases_lt v k) as (λ _. IsTrue (is_among nodes v)) [
              | inl l ↦ h.marked v (sym (mark_before false v l) ∙ m)
              | inr l ↦ elim (cases_eq v k) as (λ _. IsTrue (is_among nodes v)) [
                | inl e ↦ absurd (false≢true (sym (last_mark false v e) ∙ m))
                | inr ne ↦ absurd (false≢true (sym (mark_after false v (omega arith)) ∙ m))
              ]
            ];
        others = λ v d l none.
            elim (cases_lt v k) as (λ _. IsUntouched first v (get_or tracks v d)) [
              | inl less ↦ h.others v d less (sym (mark_before false v less) ∙ none)
              | inr not ↦ let e : k ≡ v = omega arith in subst (λ n. IsUntouched first n (get_or tracks n d)) e (untouched d)
            ];
      }
