-- The devices at each node: from the last one to the one before it, and so on.
use Rattle.std.proofs.Common.{◌≡◌, ℕ, ◌+◌, ◌-◌, ◌<◌, ◌≤◌, ◌||◌, ◌∷◌, ◌++◌, [], Bool, true, false, cond, List, refl, sym, ap, subst, ◌∙◌, inl, inr, length, get_or, set, take, arith, length-set, get_or-set_other, zero, suc}
use Rattle.std.proofs.lemmas.Bool.{cases_Bool, cases_eq, cond-true, cond-false, eq-eqb, eqb-true}
use Rattle.std.proofs.lemmas.Bool.Decides.{eqb_tells}
use Rattle.std.proofs.lemmas.Grind.{get_or-set_at}
use Rattle.std.proofs.lemmas.List.{get_or-map, get_or_append_left, get_or_default, length-map, length_push, map-append, take_all, take_more}
use Rattle.std.proofs.lemmas.List.Elements.{All-map}
use Rattle.std.proofs.Math.Seq.{get_or-append_seam}
use Rattle.std.proofs.Math.Dec.{eqb}
use Rattle.std.specs.List.{All}
use Rattle.ob_net.specs.Chains.{AreChained, IsLinked, ends_of_joints}
use Rattle.ob_net.specs.Joints.{AreNodes, ends_at, ends_of, is_end, last_at}
use Rattle.ob_net.specs.Network.{JoinsTwo}
use Rattle.ob_net.specs.declared.joints.Joint.{Joint}
use Rattle.ob_net.specs.declared.net.Device.{Device}

-- the last device at a node comes before the place that was asked for, is at the node, and none between is
pub last_at_most : (ends : List (ℕ × ℕ)) (v k : ℕ) → last_at ends v k ≤ k
last_at_most ends v zero = omega arith
last_at_most ends v (suc k) =
    elim (cases_Bool (is_end v (ends_at ends k))) [
      | inl t ↦ rw (cond-true (is_end v (ends_at ends k)) (suc k) (last_at ends v k) t) (omega arith)
      | inr f ↦ rw (cond-false (is_end v (ends_at ends k)) (suc k) (last_at ends v k) f) (let h = last_at_most ends v k in omega (arith, h))
    ]

pub last_at_end : (ends : List (ℕ × ℕ)) (v k : ℕ) → 0 < last_at ends v k → is_end v (ends_at ends (last_at ends v k - 1)) ≡ true
last_at_end ends v zero h = absurd (omega arith)
last_at_end ends v (suc k) h =
    elim (cases_Bool (is_end v (ends_at ends k))) [
      | inl t ↦
          let here : cond (is_end v (ends_at ends k)) (suc k) (last_at ends v k) - 1 ≡ k = let e = cond-true (is_end v (ends_at ends k)) (suc k) (last_at ends v k) t in omega (arith, e) in
          subst (λ (j : ℕ). is_end v (ends_at ends j) ≡ true) (sym here) t
      | inr f ↦
          let e = cond-false (is_end v (ends_at ends k)) (suc k) (last_at ends v k) f in
          subst (λ (j : ℕ). is_end v (ends_at ends (j - 1)) ≡ true) (sym e) (last_at_end ends v k (subst (λ (j : ℕ). 0 < j) e h))
    ]

pub none_after_last : (ends : List (ℕ × ℕ)) (v k j : ℕ) → last_at ends v k ≤ j → j < k → is_end v (ends_at ends j) ≡ false
none_after_last ends v zero j from to = absurd (omega arith)
none_after_last ends v (suc k) j from to =
    elim (cases_Bool (is_end v (ends_at ends k))) [
      | inl t ↦ absurd (let e = cond-true (is_end v (ends_at ends k)) (suc k) (last_at ends v k) t in omega (arith, e))
      | inr f ↦
          let e = cond-false (is_end v (ends_at ends k)) (suc k) (last_at ends v k) f in
          elim (cases_eq j k) [
            | inl here ↦ subst (λ (i : ℕ). is_end v (ends_at ends i) ≡ false) (sym here) f
            | inr ne ↦ none_after_last ends v k j (subst (λ (i : ℕ). i ≤ j) e from) (omega (arith, ne))
          ]
    ]

-- an end is its own end
pub end_a : (ends : ℕ × ℕ) (v : ℕ) → ends.0 ≡ v → is_end v ends ≡ true
end_a ends v e = ap (λ b. b || eqb ends.1 v) (eq-eqb ends.0 v e)

pub end_b : (ends : ℕ × ℕ) (v : ℕ) → ends.1 ≡ v → is_end v ends ≡ true
end_b ends v e = ap (λ b. eqb ends.0 v || b) (eq-eqb ends.1 v e) ∙ or_true (eqb ends.0 v)
  where
    or_true : (b : Bool) → (b || true) ≡ true
    or_true true = refl
    or_true false = refl

pub no_end : (ends : ℕ × ℕ) (v : ℕ) → (ends.0 ≡ v → ⊥) → (ends.1 ≡ v → ⊥) → is_end v ends ≡ false
no_end ends v na nb =
    elim (eqb_tells ends.0 v) [
      | inl h ↦ absurd (na h.1)
      | inr a ↦ elim (eqb_tells ends.1 v) [
        | inl h ↦ absurd (nb h.1)
        | inr b ↦ ap (λ x. x || eqb ends.1 v) a.0 ∙ b.0
      ]
    ]

-- an end that isn't the first is the second
pub other_is_b : (ends : ℕ × ℕ) (v : ℕ) → is_end v ends ≡ true → (ends.0 ≡ v → ⊥) → ends.1 ≡ v
other_is_b ends v is na =
    elim (eqb_tells ends.0 v) [
      | inl h ↦ absurd (na h.1)
      | inr a ↦ eqb-true ends.1 v (sym (ap (λ x. x || eqb ends.1 v) a.0) ∙ is)
    ]

-- the devices up to a number are linked
pub record AreLinked (nodes : ℕ) (devices : List Device) (number : ℕ) (last : List ℕ) (joints : List Joint) : Type 0 where
  pub count : length joints ≡ number
  pub long : length last ≡ nodes
  pub here : ends_of_joints joints ≡ take number (ends_of devices)
  pub begins : (v : ℕ) → v < nodes → get_or last v 0 ≡ last_at (ends_of devices) v number
  pub linked : (k : ℕ) (j : Joint) → k < number → IsLinked (ends_of devices) k (get_or joints k j)

abbrev pub pair : Joint → ℕ × ℕ
pair j = (j.a, j.b)

pub length_ends : (joints : List Joint) → length (ends_of_joints joints) ≡ length joints
length_ends joints = length-map {B = ℕ × ℕ} joints pair

-- the ends of a device are nodes
pub ends_are_nodes : (nodes : ℕ) (joints : List Joint) (k : ℕ) (j : Joint) → k < length joints → j ≡ get_or joints k j → All (AreNodes nodes) (ends_of_joints joints) → AreNodes nodes (j.a, j.b)
ends_are_nodes nodes joints k j l is h =
    let long = length_ends joints in
    subst (AreNodes nodes) (get_or-map pair joints k j (0, 0) l ∙ ap pair (sym is)) (h k (0, 0) (omega (arith, long, l)))

-- the last device at a node, with one device more
last_at_yes : (ends : List (ℕ × ℕ)) (v k : ℕ) → is_end v (ends_at ends k) ≡ true → last_at ends v (k + 1) ≡ k + 1
last_at_yes ends v k t =
    let e : k + 1 ≡ suc k = omega arith in
    ap (last_at ends v) e ∙ cond-true (is_end v (ends_at ends k)) (suc k) (last_at ends v k) t ∙ sym e

last_at_no : (ends : List (ℕ × ℕ)) (v k : ℕ) → is_end v (ends_at ends k) ≡ false → last_at ends v (k + 1) ≡ last_at ends v k
last_at_no ends v k f =
    let e : k + 1 ≡ suc k = omega arith in
    ap (last_at ends v) e ∙ cond-false (is_end v (ends_at ends k)) (suc k) (last_at ends v k) f

abbrev pub device_pair : Device → ℕ × ℕ
device_pair d = (d.a, d.b)

pub ends_there : (devices : List Device) (k : ℕ) (d : Device) → k < length devices → d ≡ get_or devices k d → ends_at (ends_of devices) k ≡ (d.a, d.b)
ends_there devices k d l is =
    get_or-map device_pair devices k d (0, 0) l ∙ ap device_pair (sym is)

-- the last devices at the nodes, where the device with the number comes next
begins_more : (ends : List (ℕ × ℕ)) (number a b : ℕ) (last : List ℕ) (v : ℕ) → ends_at ends number ≡ (a, b) → a < length last → b < length last → get_or last v 0 ≡ last_at ends v number → get_or (set (set last a (number + 1)) b (number + 1)) v 0 ≡ last_at ends v (number + 1)
begins_more ends number a b last v e la lb h =
    let long = length-set last a (number + 1) in
    elim (cases_eq v b) [
      | inl at ↦
          get_or-set_at (set last a (number + 1)) b v (number + 1) 0 at (omega (arith, long, lb))
          ∙ sym (last_at_yes ends v number (ap (is_end v) e ∙ end_b (a, b) v (sym at)))
      | inr nb ↦
          get_or-set_other (set last a (number + 1)) b v (number + 1) 0 nb
          ∙ elim (cases_eq v a) as (λ _. get_or (set last a (number + 1)) v 0 ≡ last_at ends v (number + 1)) [
            | inl at ↦
                get_or-set_at last a v (number + 1) 0 at la
                ∙ sym (last_at_yes ends v number (ap (is_end v) e ∙ end_a (a, b) v (sym at)))
            | inr na ↦
                get_or-set_other last a v (number + 1) 0 na ∙ h
                ∙ sym (last_at_no ends v number (ap (is_end v) e ∙ no_end (a, b) v (λ x. na (sym x)) (λ x. nb (sym x))))
          ]
    ]

-- one device more
pub linked_more : (nodes : ℕ) (devices : List Device) (number : ℕ) (last : List ℕ) (joints : List Joint) (d : Device) (x y : ℕ) → number < length devices → d ≡ get_or devices number d → d.a < nodes → d.b < nodes → x ≡ get_or last d.a x → y ≡ get_or last d.b y → AreLinked nodes devices number last joints → AreLinked nodes devices (number + 1) (set (set last d.a (number + 1)) d.b (number + 1)) (joints ++ (record { a = d.a; b = d.b; before_a = x; before_b = y }) ∷ [])
linked_more nodes devices number last joints d x y l is la lb xs ys h =
    let ends : List (ℕ × ℕ) = ends_of devices in
    let joint : Joint = record { a = d.a; b = d.b; before_a = x; before_b = y } in
    let all = length-map {B = ℕ × ℕ} devices device_pair in
    let here = ends_there devices number d l is in
    let na : d.a < length last = let e = h.long in omega (arith, e, la) in
    let nb : d.b < length last = let e = h.long in omega (arith, e, lb) in
    record {
      count = let e = length_push joints joint in let k = h.count in omega (arith, e, k);
      long = length-set (set last d.a (number + 1)) d.b (number + 1) ∙ length-set last d.a (number + 1) ∙ h.long;
      here =
          map-append pair joints (joint ∷ []) ∙ ap (λ (q : List (ℕ × ℕ)). q ++ (d.a, d.b) ∷ []) h.here
          ∙ ap (λ (q : ℕ × ℕ). take number ends ++ q ∷ []) (sym here)
          ∙ sym (take_more ends number (0, 0) (omega (arith, all, l)));
      begins = λ v m. begins_more ends number d.a d.b last v here na nb (h.begins v m);
      linked = λ k j m. elim (cases_eq k number) [
        | inl at ↦
            let seam : get_or (joints ++ joint ∷ []) k j ≡ joint = ap (λ (i : ℕ). get_or (joints ++ joint ∷ []) i j) (at ∙ sym h.count) ∙ get_or-append_seam joints joint [] j in
            subst (IsLinked ends k) (sym seam) (record {
              before_a = xs ∙ get_or_default last d.a x 0 na ∙ h.begins d.a la ∙ ap (last_at ends d.a) (sym at);
              before_b = ys ∙ get_or_default last d.b y 0 nb ∙ h.begins d.b lb ∙ ap (last_at ends d.b) (sym at);
            })
        | inr ne ↦
            let below : k < number = omega (arith, m, ne) in
            let count = h.count in
            subst (IsLinked ends k) (sym (get_or_append_left joints (joint ∷ []) j k (omega (arith, below, count)))) (h.linked k j below)
      ];
    }

-- all devices
pub chained_all : (nodes : ℕ) (devices : List Device) (number : ℕ) (last : List ℕ) (joints : List Joint) → length devices ≡ number → length devices ≤ 2048 → All (JoinsTwo nodes) devices → AreLinked nodes devices number last joints → AreChained last joints
chained_all nodes devices number last joints all few joins h =
    let ends : List (ℕ × ℕ) = ends_of devices in
    let count = h.count in
    let long = length-map {B = ℕ × ℕ} devices device_pair in
    let whole : ends_of_joints joints ≡ ends = h.here ∙ take_all number ends (omega (arith, long, all)) in
    record {
      few = omega (arith, count, all, few);
      nodes =
          subst (All (AreNodes (length last))) (sym whole)
          (subst (λ (n : ℕ). All (AreNodes n) ends) (sym h.long)
          (All-map (AreNodes nodes) device_pair devices (λ k d l. let j = joins k d l in (j.a_is_node, j.b_is_node))));
      begins = λ v l. h.begins v (let e = h.long in omega (arith, e, l)) ∙ ap (last_at ends v) (sym count) ∙ ap (λ (q : List (ℕ × ℕ)). last_at q v (length joints)) (sym whole);
      linked = λ k j l. subst (λ (q : List (ℕ × ℕ)). IsLinked q k (get_or joints k j)) (sym whole) (h.linked k j (omega (arith, count, l)));
    }
