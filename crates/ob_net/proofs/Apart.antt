-- A set of nodes that closed devices join to no other node but GRID is supplied by the devices at its nodes alone.
--     apart_supplied        the law, for any positions
--     apart_as_of           the same, for positions taken at a second
--     apart_set             the set stays apart where one more device is moved
--     alike_both, alike_one positions stay alike for a node where a device is moved in both lists, or one that doesn't matter in one
use Rattle.std.proofs.Common.{◌≡◌, ◌≢◌, ◌<◌, ◌||◌, ℕ, zero, suc, Bool, true, false, cond, List, [], ◌∷◌, length, get_or, set, refl, sym, ap, subst, ◌∙◌, inl, inr, arith, true≢false, get_or-set_other}
use Rattle.std.proofs.lemmas.Bool.{cases_Bool, cases_eq, cond-true, cond-false}
use Rattle.std.proofs.lemmas.Grind.{get_or-set_at}
use Rattle.std.proofs.lemmas.List.{get_or_default}
use Rattle.std.proofs.lemmas.List.Elements.{All-from_recursion, recursion_from_All}
use Rattle.ob_base.specs.Life.{is_alive}
use Rattle.ob_base.specs.declared.Pos.{Pos}
use Rattle.ob_base.specs.declared.Pos.TheVariants.{Opened, Closed}
use Rattle.ob_net.specs.declared.TheConstants.{GRID}
use Rattle.ob_net.specs.declared.net.Device.{Device}
use Rattle.ob_net.specs.Apart.{AreAlikeFor, HasEnds, IsApart, KeepTo, KeepsTo, device_at, is_at, no_device}
use Rattle.ob_net.specs.Joints.{IsClosedAt}
use Rattle.ob_net.specs.Network.{Network, as_of}
use Rattle.ob_net.specs.Walk.{closed_among, is_connected, is_supplied}
use Rattle.ob_net.proofs.Connected.{connected_same, connected_to}
use Rattle.ob_net.proofs.Forests.{alike_closed, closed_alike}
use Rattle.ob_net.proofs.Searched.{grid_alike}

-- what is said of the two ends of one closed device
module _ (has fed : ℕ → Bool) (grid : has GRID ≡ false) (fed_grid : fed GRID ≡ true) where
  -- a node of the set is joined to none outside but GRID
  to_grid : (a b : ℕ) → (a ≢ GRID → b ≢ GRID → has a ≡ has b) → has a ≡ true → has b ≡ false → b ≡ GRID
  to_grid a b keeps t f =
      elim (cases_eq b GRID) as (λ _. b ≡ GRID) [
        | inl e ↦ e
        | inr ne ↦ absurd (true≢false (sym t ∙ keeps (λ e. true≢false (sym t ∙ ap has e ∙ grid)) ne ∙ f))
      ]

  -- of a node of the set what is asked, of each other node nothing
  inside : (a b : ℕ) → (a ≢ GRID → b ≢ GRID → has a ≡ has b) → ((has a || has b) ≡ true → fed a ≡ fed b)
      → cond (has a) (fed a) true ≡ cond (has b) (fed b) true
  inside a b keeps same =
      elim (cases_Bool (has a)) as (λ _. cond (has a) (fed a) true ≡ cond (has b) (fed b) true) [
        | inl t ↦
            let at : (has a || has b) ≡ true = rw t refl in
            elim (cases_Bool (has b)) as (λ _. cond (has a) (fed a) true ≡ cond (has b) (fed b) true) [
              | inl u ↦ cond-true (has a) (fed a) true t ∙ same at ∙ sym (cond-true (has b) (fed b) true u)
              | inr n ↦ cond-true (has a) (fed a) true t ∙ same at ∙ ap fed (to_grid a b keeps t n) ∙ fed_grid ∙ sym (cond-false (has b) (fed b) true n)
            ]
        | inr n ↦
            elim (cases_Bool (has b)) as (λ _. cond (has a) (fed a) true ≡ cond (has b) (fed b) true) [
              | inl u ↦
                  let at : (has a || has b) ≡ true = rw (n, u) refl in
                  cond-false (has a) (fed a) true n ∙ sym fed_grid ∙ ap fed (sym (to_grid b a (λ p q. sym (keeps q p)) u n)) ∙ same at ∙ sym (cond-true (has b) (fed b) true u)
              | inr m ↦ cond-false (has a) (fed a) true n ∙ sym (cond-false (has b) (fed b) true m)
            ]
      ]

  -- and the other way round
  outside : (a b : ℕ) → (a ≢ GRID → b ≢ GRID → has a ≡ has b) → ((has a || has b) ≡ false → fed a ≡ fed b)
      → cond (has a) true (fed a) ≡ cond (has b) true (fed b)
  outside a b keeps same =
      elim (cases_Bool (has a)) as (λ _. cond (has a) true (fed a) ≡ cond (has b) true (fed b)) [
        | inl t ↦
            elim (cases_Bool (has b)) as (λ _. cond (has a) true (fed a) ≡ cond (has b) true (fed b)) [
              | inl u ↦ cond-true (has a) true (fed a) t ∙ sym (cond-true (has b) true (fed b) u)
              | inr n ↦ cond-true (has a) true (fed a) t ∙ sym fed_grid ∙ ap fed (sym (to_grid a b keeps t n)) ∙ sym (cond-false (has b) true (fed b) n)
            ]
        | inr n ↦
            elim (cases_Bool (has b)) as (λ _. cond (has a) true (fed a) ≡ cond (has b) true (fed b)) [
              | inl u ↦ cond-false (has a) true (fed a) n ∙ ap fed (to_grid b a (λ p q. sym (keeps q p)) u n) ∙ fed_grid ∙ sym (cond-true (has b) true (fed b) u)
              | inr m ↦
                  let at : (has a || has b) ≡ false = rw (n, m) refl in
                  cond-false (has a) true (fed a) n ∙ same at ∙ sym (cond-false (has b) true (fed b) m)
            ]
      ]

-- what is connected to GRID under the one positions is so under the other ones
module _ (ds : List Device) (ps qs : List Pos) (has : ℕ → Bool) (v : ℕ) (grid : has GRID ≡ false)
    (keeps : KeepTo has ds ps (length ds)) (alike : AreAlikeFor has v ds ps qs) where
  abbrev fed : ℕ → Bool
  fed = λ w. is_connected (closed_among ds qs) w GRID

  fed_alike : (k : ℕ) → k < length ds → IsClosedAt ps k → is_at has (device_at ds k) ≡ has v → fed (device_at ds k).a ≡ fed (device_at ds k).b
  fed_alike k l c b =
      alike_closed fed ds qs (recursion_from_All (λ d. fed d.a ≡ fed d.b) (closed_among ds qs) (grid_alike (closed_among ds qs))) k no_device l (sym (alike k l b) ∙ c)

  through : (test : ℕ → Bool) → ((k : ℕ) → k < length ds → IsClosedAt ps k → test (device_at ds k).a ≡ test (device_at ds k).b)
      → is_connected (closed_among ds ps) v GRID ≡ true → test v ≡ test GRID
  through test each c =
      connected_same test (closed_among ds ps) (All-from_recursion (λ d. test d.a ≡ test d.b) (closed_among ds ps)
      (closed_alike test ds ps (λ k d l at. subst (λ (x : Device). test x.a ≡ test x.b) (get_or_default ds k no_device d l) (each k l at)))) v GRID c

  one_way : is_connected (closed_among ds ps) v GRID ≡ true → fed v ≡ true
  one_way c =
      let fed_grid : fed GRID ≡ true = connected_to (closed_among ds qs) GRID GRID refl in
      elim (cases_Bool (has v)) as (λ _. fed v ≡ true) [
        | inl t ↦
            let test : ℕ → Bool = λ w. cond (has w) (fed w) true in
            sym (cond-true (has v) (fed v) true t)
            ∙ through test (λ k l at. inside has fed grid fed_grid (device_at ds k).a (device_at ds k).b (keeps k l at) (λ b. fed_alike k l at (b ∙ sym t))) c
            ∙ cond-false (has GRID) (fed GRID) true grid
        | inr n ↦
            let test : ℕ → Bool = λ w. cond (has w) true (fed w) in
            sym (cond-false (has v) true (fed v) n)
            ∙ through test (λ k l at. outside has fed grid fed_grid (device_at ds k).a (device_at ds k).b (keeps k l at) (λ b. fed_alike k l at (b ∙ sym n))) c
            ∙ cond-false (has GRID) true (fed GRID) grid ∙ fed_grid
      ]

both_ways : {x y : Bool} → (x ≡ true → y ≡ true) → (y ≡ true → x ≡ true) → x ≡ y
both_ways {x} {y} f g = elim (cases_Bool x) [
  | inl t ↦ t ∙ sym (f t)
  | inr n ↦ elim (cases_Bool y) [ inl t ↦ g t ∙ sym t | inr m ↦ n ∙ sym m ]
]

pub apart_supplied : (net : Network) (ps qs : List Pos) (has : ℕ → Bool) (v : ℕ) → IsApart net ps has → IsApart net qs has
    → AreAlikeFor has v net.devices ps qs → is_supplied net ps v ≡ is_supplied net qs v
unfolding is_supplied
apart_supplied net ps qs has v p q alike =
    both_ways (one_way net.devices ps qs has v p.grid p.keeps alike)
    (one_way net.devices qs ps has v p.grid q.keeps (λ k l b. sym (alike k l b)))

opened≢closed : Opened ≡ Closed → ⊥
opened≢closed h = cc

-- a device's position at a second
both_opened : (b : Bool) → cond b Opened Opened ≡ Opened
both_opened true = refl
both_opened false = refl

as_of_at : (ds : List Device) (s : ℕ) (ps : List Pos) (k : ℕ) → k < length ds
    → get_or (as_of ds s ps) k Opened ≡ cond (is_alive (device_at ds k).life s) (get_or ps k Opened) Opened
as_of_at [] s ps k l = absurd (omega (arith, l))
as_of_at (d ∷ ds) s [] k l = sym (both_opened (is_alive (device_at (d ∷ ds) k).life s))
as_of_at (d ∷ ds) s (p ∷ ps) zero l = refl
as_of_at (d ∷ ds) s (p ∷ ps) (suc k) l = as_of_at ds s ps k (omega (arith, l))

closed_of : (b : Bool) (p : Pos) → cond b p Opened ≡ Closed → p ≡ Closed
closed_of true p h = h
closed_of false p h = absurd (opened≢closed h)

apart_at : (net : Network) (ps : List Pos) (has : ℕ → Bool) (s : ℕ) → IsApart net ps has → IsApart net (as_of net.devices s ps) has
apart_at net ps has s h = record {
  grid = h.grid;
  keeps = λ k l c. h.keeps k l (closed_of (is_alive (device_at net.devices k).life s) (get_or ps k Opened) (sym (as_of_at net.devices s ps k l) ∙ c));
}

pub apart_as_of : (net : Network) (ps qs : List Pos) (has : ℕ → Bool) (v s : ℕ) → IsApart net ps has → IsApart net qs has
    → AreAlikeFor has v net.devices ps qs → is_supplied net (as_of net.devices s ps) v ≡ is_supplied net (as_of net.devices s qs) v
apart_as_of net ps qs has v s p q alike =
    apart_supplied net (as_of net.devices s ps) (as_of net.devices s qs) has v (apart_at net ps has s p) (apart_at net qs has s q)
    (λ k l b. as_of_at net.devices s ps k l ∙ ap (λ x. cond (is_alive (device_at net.devices k).life s) x Opened) (alike k l b) ∙ sym (as_of_at net.devices s qs k l))

-- one device more is moved
closed_set : (ps : List Pos) (k : ℕ) (p : Pos) → get_or (set ps k p) k Opened ≡ Closed → p ≡ Closed
closed_set [] k p h = absurd (opened≢closed h)
closed_set (x ∷ ps) zero p h = h
closed_set (x ∷ ps) (suc k) p h = closed_set ps k p h

pub apart_set : (net : Network) (ps : List Pos) (has : ℕ → Bool) (k : ℕ) (p : Pos) → (p ≡ Closed → KeepsTo has (device_at net.devices k))
    → IsApart net ps has → IsApart net (set ps k p) has
apart_set net ps has k p closing h = record {
  grid = h.grid;
  keeps = λ j l c.
      elim (cases_eq j k) as (λ _. KeepsTo has (device_at net.devices j)) [
        | inl e ↦
            subst (λ (i : ℕ). KeepsTo has (device_at net.devices i)) (sym e)
            (closing (closed_set ps k p (subst (λ (i : ℕ). IsClosedAt (set ps k p) i) e c)))
        | inr ne ↦ h.keeps j l (sym (get_or-set_other ps k j p Opened ne) ∙ c)
      ];
}

pub alike_both : (ds : List Device) (has : ℕ → Bool) (v : ℕ) (ps qs : List Pos) (k : ℕ) (p : Pos) → length ps ≡ length ds → length qs ≡ length ds
    → AreAlikeFor has v ds ps qs → AreAlikeFor has v ds (set ps k p) (set qs k p)
alike_both ds has v ps qs k p long also h j l b =
    elim (cases_eq j k) as (λ _. get_or (set ps k p) j Opened ≡ get_or (set qs k p) j Opened) [
      | inl e ↦ get_or-set_at ps k j p Opened e (omega (arith, l, e, long)) ∙ sym (get_or-set_at qs k j p Opened e (omega (arith, l, e, also)))
      | inr ne ↦ get_or-set_other ps k j p Opened ne ∙ h j l b ∙ sym (get_or-set_other qs k j p Opened ne)
    ]

pub alike_one : (ds : List Device) (has : ℕ → Bool) (v : ℕ) (ps qs : List Pos) (k : ℕ) (p : Pos) → (is_at has (device_at ds k) ≡ has v → ⊥)
    → AreAlikeFor has v ds ps qs → AreAlikeFor has v ds ps (set qs k p)
alike_one ds has v ps qs k p apart h j l b =
    elim (cases_eq j k) as (λ _. get_or ps j Opened ≡ get_or (set qs k p) j Opened) [
      | inl e ↦ absurd (apart (subst (λ (i : ℕ). is_at has (device_at ds i) ≡ has v) e b))
      | inr ne ↦ h j l b ∙ sym (get_or-set_other qs k j p Opened ne)
    ]

-- a device whose ends are in the set keeps to it
pub ends_keep : (has : ℕ → Bool) (d : Device) → HasEnds has d → KeepsTo has d
ends_keep has d h a b = h.a a ∙ sym (h.b b)
