-- Finding a set of nodes that is apart: trees joined by the closed devices without an end at GRID, and the marks of two of them.
use Rattle.std.proofs.Common.{◌≡◌, ◌≢◌, ◌<◌, ◌+◌, ◌||◌, ℕ, Bool, true, false, List, length, get_or, set, refl, sym, ap, subst, ◌∙◌, inl, inr, arith, length-set, get_or-set_other}
use Rattle.std.proofs.lemmas.Bool.{cases_Bool, cases_eq}
use Rattle.std.proofs.lemmas.Grind.{get_or-set_at}
use Rattle.std.proofs.lemmas.List.{get_or_default}
use Rattle.ob_base.specs.declared.Pos.{Pos}
use Rattle.ob_base.specs.declared.Pos.TheVariants.{Closed}
use Rattle.ob_net.specs.declared.TheConstants.{GRID}
use Rattle.ob_net.specs.declared.net.Device.{Device}
use Rattle.ob_net.specs.Apart.{HasEnds, KeepTo, KeepsTo, device_at, no_device}
use Rattle.ob_net.specs.Forest.{IsForest, IsTreewise, parent}
use Rattle.ob_net.specs.Joints.{IsClosedAt}
use Rattle.ob_net.specs.Reach.{is_reached}

-- the closed ones of the first so many devices have joined the trees of their ends, but those at GRID
pub record Behind (devices : List Device) (positions : List Pos) (count : ℕ) (parents : List ℕ) : Type 0 where
  pub forest : IsForest parents
  pub trees : (test : ℕ → Bool) → IsTreewise test parents → KeepTo test devices positions count

pub behind_more : (devices : List Device) (positions : List Pos) (i : ℕ) (d : Device) (p : Pos) (old new : List ℕ) → i < length devices → d ≡ get_or devices i d
    → (IsClosedAt positions i → p ≡ Closed) → IsForest new → ((test : ℕ → Bool) → IsTreewise test new → IsTreewise test old)
    → ((test : ℕ → Bool) → IsTreewise test new → p ≡ Closed → KeepsTo test d) → Behind devices positions i old → Behind devices positions (i + 1) new
behind_more devices positions i d p old new l is at forest trees keeps h = record {
  forest = forest;
  trees = λ test t k lt c.
      elim (cases_eq k i) as (λ _. KeepsTo test (device_at devices k)) [
        | inl e ↦
            subst (λ (x : Device). KeepsTo test x) (is ∙ get_or_default devices i d no_device l ∙ ap (device_at devices) (sym e))
            (keeps test t (at (subst (λ (x : ℕ). IsClosedAt positions x) e c)))
        | inr ne ↦ h.trees test (trees test t) k (omega (arith, lt, ne)) c
      ];
}

-- the marks of two nodes
pub mark_first : (m : List Bool) (x y : ℕ) → x < length m → is_reached (set (set m x true) y true) x ≡ true
mark_first m x y l =
    elim (cases_eq x y) as (λ _. is_reached (set (set m x true) y true) x ≡ true) [
      | inl e ↦ get_or-set_at (set m x true) y x true false e (omega (arith, l, e, length-set m x true))
      | inr ne ↦ get_or-set_other (set m x true) y x true false ne ∙ get_or-set_at m x x true false refl l
    ]

pub mark_second : (m : List Bool) (x y : ℕ) → y < length m → is_reached (set (set m x true) y true) y ≡ true
mark_second m x y l = get_or-set_at (set m x true) y y true false refl (omega (arith, l, length-set m x true))

-- a node whose root is marked is marked once the trees are
pub root_marked : (first last : List ℕ) (v root : ℕ) (marks near : List Bool) → ((test : ℕ → Bool) → IsTreewise test last → IsTreewise test first)
    → ((test : ℕ → Bool) → IsTreewise test first → test v ≡ test root) → IsTreewise (is_reached near) last → parent last root ≡ root
    → ((u : ℕ) → parent last u ≡ u → is_reached near u ≡ is_reached marks u) → is_reached marks root ≡ true → is_reached near v ≡ true
root_marked first last v root marks near back same treewise is_root roots marked =
    same (is_reached near) (back (is_reached near) treewise) ∙ roots root is_root ∙ marked

-- without GRID's mark
pub unmarked : (near : List Bool) (v : ℕ) → v ≢ GRID → is_reached near v ≡ true → is_reached (set near 0 false) v ≡ true
unmarked near v ne h = get_or-set_other near 0 v false false ne ∙ h

pub keep_unmarked : (near : List Bool) (devices : List Device) (positions : List Pos) (count : ℕ) → KeepTo (is_reached near) devices positions count
    → KeepTo (is_reached (set near 0 false)) devices positions count
keep_unmarked near devices positions count h k l c na nb =
    get_or-set_other near 0 (device_at devices k).a false false na ∙ h k l c na nb ∙ sym (get_or-set_other near 0 (device_at devices k).b false false nb)

-- two different ends, each in the set unless it is GRID
pub some_end : (has : ℕ → Bool) (a b : ℕ) → a ≢ b → (a ≢ GRID → has a ≡ true) → (b ≢ GRID → has b ≡ true) → (has a || has b) ≡ true
some_end has a b apart of_a of_b =
    elim (cases_Bool (has a)) as (λ _. (has a || has b) ≡ true) [
      | inl t ↦ rw t refl
      | inr n ↦
          elim (cases_eq a GRID) as (λ _. (has a || has b) ≡ true) [
            | inl e ↦ rw (n, of_b (λ q. apart (e ∙ sym q))) refl
            | inr ne ↦ rw (of_a ne) refl
          ]
    ]

pub has_ends : (has : ℕ → Bool) (d : Device) → d.a ≢ d.b → (d.a ≢ GRID → has d.a ≡ true) → (d.b ≢ GRID → has d.b ≡ true) → HasEnds has d
has_ends has d apart of_a of_b = record { a = of_a; b = of_b; some = some_end has d.a d.b apart of_a of_b }
