-- Sets of nodes, and flags of listed nodes.
use Rattle.std.proofs.Common.{◌≡◌, ℕ, ◌≤◌, ◌||◌, Bool, true, false, not, cond, List, [], ◌∷◌, ◌++◌, refl, sym, ap, subst, ◌∙◌, inl, inr, length, take, drop, arith, true≢false, suc, count_by}
use Rattle.std.proofs.lemmas.Bool.{cases_Bool, cond-true, cond-false, eq-eqb}
use Rattle.std.proofs.lemmas.Bool.Decides.{eqb_tells}
use Rattle.std.proofs.lemmas.List.Folds.{list_any-append}
use Rattle.std.proofs.lemmas.List.Sums.{sum_by-cons}
use Rattle.std.proofs.Math.Dec.{eqb}
use Rattle.std.proofs.Math.Seq.{take-append_seam}
use Rattle.ob_net.specs.Nodes.{AreMarked, is_among, with_one}
use Rattle.ob_net.specs.Reach.{is_reached}

-- one node more, and another one
among_push : (nodes : List ℕ) (v w : ℕ) → is_among (nodes ++ v ∷ []) w ≡ (is_among nodes w || eqb v w)
among_push nodes v w = list_any-append (λ u. eqb u w) nodes (v ∷ []) ∙ ap (λ b. is_among nodes w || b) (or_false (eqb v w))
  where
    or_false : (b : Bool) → (b || false) ≡ b
    or_false true = refl
    or_false false = refl

pub among_last : (nodes : List ℕ) (v w : ℕ) → v ≡ w → is_among (nodes ++ v ∷ []) w ≡ true
among_last nodes v w e = among_push nodes v w ∙ ap (λ b. is_among nodes w || b) (eq-eqb v w e) ∙ or_true (is_among nodes w)
  where
    or_true : (b : Bool) → (b || true) ≡ true
    or_true true = refl
    or_true false = refl

pub among_before : (nodes : List ℕ) (v w : ℕ) → (v ≡ w → ⊥) → is_among (nodes ++ v ∷ []) w ≡ is_among nodes w
among_before nodes v w ne =
    elim (eqb_tells v w) [
      | inl h ↦ absurd (ne h.1)
      | inr h ↦ among_push nodes v w ∙ ap (λ b. is_among nodes w || b) h.0 ∙ or_false (is_among nodes w)
    ]
  where
    or_false : (b : Bool) → (b || false) ≡ b
    or_false true = refl
    or_false false = refl

-- flags that are set nowhere
all_false_counted : (marks : List Bool) → ((v : ℕ) → is_reached marks v ≡ false) → count_by not marks ≡ length marks
all_false_counted [] h = refl
all_false_counted (true ∷ marks) h = absurd (true≢false (h 0))
all_false_counted (false ∷ marks) h =
    let rest = all_false_counted marks (λ v. h (suc v)) in
    let more = sum_by-cons (λ b. cond (not b) 1 0) false marks in
    omega (arith, rest, more)

pub none_marked : (marks : List Bool) (room : ℕ) → ((v : ℕ) → is_reached marks v ≡ false) → length marks ≤ room → AreMarked marks [] room
none_marked marks room h l = record {
  marked = h;
  below = λ k d lt. absurd (omega arith);
  distinct = λ i j d lt k. absurd (omega arith);
  counted = let e = all_false_counted marks h in omega (arith, e);
  room = l;
}

-- a node is put in that isn't there, or that is
pub with_new : (nodes : List ℕ) (v : ℕ) → is_among nodes v ≡ false → with_one nodes v ≡ nodes ++ v ∷ []
with_new nodes v f = cond-false (is_among nodes v) nodes (nodes ++ v ∷ []) f

pub with_old : (nodes : List ℕ) (v : ℕ) → is_among nodes v ≡ true → with_one nodes v ≡ nodes
with_old nodes v t = cond-true (is_among nodes v) nodes (nodes ++ v ∷ []) t

-- all marks of the set are taken off
pub unmarked : (marks new : List Bool) (nodes : List ℕ) (room : ℕ) → AreMarked marks nodes room → ((v : ℕ) → is_reached new v ≡ cond (is_among nodes v) false (is_reached marks v)) → (v : ℕ) → is_reached new v ≡ false
unmarked marks new nodes room h off v =
    elim (cases_Bool (is_among nodes v)) [
      | inl t ↦ off v ∙ cond-true (is_among nodes v) false (is_reached marks v) t
      | inr f ↦ off v ∙ cond-false (is_among nodes v) false (is_reached marks v) f ∙ h.marked v ∙ f
    ]

-- what is written back into a Vec whose whole content was lent
pub written_back : {X : Type 0} (new old : List X) (n : ℕ) → n ≡ length old → length new ≡ length old → take n (new ++ drop (length new) old) ≡ new
written_back {X} new old n e f =
    let all : n ≡ length new = omega (arith, e, f) in
    subst (λ (m : ℕ). take m (new ++ drop (length new) old) ≡ new) (sym all) (take-append_seam new (drop (length new) old))
