-- What a device cuts off, and when it cuts nothing off.
--     cut_off_supply, joined_supply      which nodes are supplied where the device is open, and where it is closed
--     stays_cut_off, stays_joined        for which other positions the same holds
--     cut_off_found, joined_found        what a search by the numbers of the devices' ends found
use Rattle.std.proofs.Common.{◌≡◌, ◌<◌, ◌&&◌, ◌||◌, ◌⊎◌, ℕ, zero, suc, Bool, true, false, cond, List, [], ◌∷◌, length, get_or, set, refl, sym, ap, subst, ◌∙◌, inl, inr, arith, true≢false, get_or-set_other}
use Rattle.std.specs.List.{AllByRecursion, filter}
use Rattle.std.proofs.lemmas.Bool.{cases_Bool, cases_eq, cases_lt, cond-true, cond-false}
use Rattle.std.proofs.lemmas.List.{get_or-map, get_or_default, get_or_past, length-map}
use Rattle.std.proofs.lemmas.List.Elements.{All-filter, All-from_recursion, recursion_from_All}
use Rattle.ob_base.specs.declared.Pos.{Pos}
use Rattle.ob_base.specs.declared.Pos.TheVariants.{Opened, Closed}
use Rattle.ob_net.specs.Apart.{device_at, is_at, no_device}
use Rattle.ob_net.specs.CutOff.{AreAlikeAt, AreClosedWithin, IsCutOff, IsJoined, IsSuppliedThrough, is_within, other_closed, other_closed_within}
use Rattle.ob_net.specs.declared.TheConstants.{GRID}
use Rattle.ob_net.specs.declared.net.Device.{Device}
use Rattle.ob_net.specs.Joints.{IsAlikeWithin, IsClosedAt, ends_at, ends_of}
use Rattle.ob_net.specs.Network.{Network}
use Rattle.ob_net.specs.Nodes.{is_among}
use Rattle.ob_net.specs.Traces.{AreConnectedWithin, IsPartWithout}
use Rattle.ob_net.specs.Walk.{closed_among, is_connected, is_supplied}
use Rattle.ob_net.proofs.Chains.{device_pair}
use Rattle.ob_net.proofs.Components.{both_true}
use Rattle.ob_net.proofs.Connected.{connected_same, connected_to, ends_decided}
use Rattle.ob_net.proofs.Forests.{closed_each, each_closed}
use Rattle.ob_net.proofs.Searched.{node_alike}
use Rattle.ob_net.proofs.Supplied.{connected_at}
use Rattle.ob_net.proofs.Switched.{closed_here}

-- it holds of each closed device
abbrev pub EachClosed : (Device → Type 0) → List Device → List Pos → Type 0
EachClosed Q ds ps = (k : ℕ) → k < length ds → IsClosedAt ps k → Q (device_at ds k)

-- the test says the same of the device's two ends
abbrev pub SameAtEnds : (ℕ → Bool) → Device → Type 0
SameAtEnds test d = test d.a ≡ test d.b

over_list : (Q : Device → Type 0) (ds : List Device) (ps : List Pos) → EachClosed Q ds ps → AllByRecursion Q (closed_among ds ps)
over_list Q ds ps h = closed_each Q ds ps (λ k d l c. subst Q (get_or_default ds k no_device d l) (h k l c))

by_number : (Q : Device → Type 0) (ds : List Device) (ps : List Pos) → AllByRecursion Q (closed_among ds ps) → EachClosed Q ds ps
by_number Q ds ps h k l c = each_closed Q ds ps h k no_device l c

-- what a test says of nodes that devices connect
same_by : (test : ℕ → Bool) (closed : List Device) (v w : ℕ) → AllByRecursion (SameAtEnds test) closed → is_connected closed v w ≡ true → test v ≡ test w
same_by test closed v w h c = connected_same test closed (All-from_recursion (SameAtEnds test) closed h) v w c

same_from : (closed : List Device) (w : ℕ) → AllByRecursion (SameAtEnds (λ v. is_connected closed v w)) closed
same_from closed w = recursion_from_All (SameAtEnds (λ v. is_connected closed v w)) closed (node_alike closed w)

-- what a test says of a supplied node
by_supply : (net : Network) (ps : List Pos) (test : ℕ → Bool) (v : ℕ) → EachClosed (SameAtEnds test) net.devices ps → is_supplied net ps v ≡ true → test v ≡ test GRID
unfolding is_supplied
by_supply net ps test v h s = same_by test (closed_among net.devices ps) v GRID (over_list (SameAtEnds test) net.devices ps h) s

supply_same : (net : Network) (ps : List Pos) → EachClosed (SameAtEnds (is_supplied net ps)) net.devices ps
unfolding is_supplied
supply_same net ps = by_number (SameAtEnds (is_supplied net ps)) net.devices ps (same_from (closed_among net.devices ps) GRID)

grid_supplied : (net : Network) (ps : List Pos) → is_supplied net ps GRID ≡ true
unfolding is_supplied
grid_supplied net ps = connected_to (closed_among net.devices ps) GRID GRID refl

-- the device open, and closed
opened≢closed : Opened ≡ Closed → ⊥
opened≢closed h = cc

opened_here : (ps : List Pos) (d : ℕ) → get_or (set ps d Opened) d Opened ≡ Opened
opened_here [] d = refl
opened_here (p ∷ ps) zero = refl
opened_here (p ∷ ps) (suc d) = opened_here ps d

not_opened : (ps : List Pos) (d k : ℕ) → IsClosedAt (set ps d Opened) k → k ≡ d → ⊥
not_opened ps d k c e = opened≢closed (sym (opened_here ps d) ∙ subst (λ (i : ℕ). IsClosedAt (set ps d Opened) i) e c)

other_position : (ps : List Pos) (d k : ℕ) (p q : Pos) → (k ≡ d → ⊥) → IsClosedAt (set ps d p) k → IsClosedAt (set ps d q) k
other_position ps d k p q ne c = get_or-set_other ps d k q Opened ne ∙ sym (get_or-set_other ps d k p Opened ne) ∙ c

less_closed : (Q : Device → Type 0) (ds : List Device) (ps : List Pos) (d : ℕ) → EachClosed Q ds (set ps d Closed) → EachClosed Q ds (set ps d Opened)
less_closed Q ds ps d h k l c = h k l (other_position ps d k Opened Closed (not_opened ps d k c) c)

more_closed : (Q : Device → Type 0) (ds : List Device) (ps : List Pos) (d : ℕ) → Q (device_at ds d) → EachClosed Q ds (set ps d Opened) → EachClosed Q ds (set ps d Closed)
more_closed Q ds ps d here h k l c =
    elim (cases_eq k d) as (λ _. Q (device_at ds k)) [
      | inl e ↦ subst (λ (i : ℕ). Q (device_at ds i)) (sym e) here
      | inr ne ↦ h k l (other_position ps d k Closed Opened ne c)
    ]

-- a node that is supplied where the device is open is so where it is closed
supplied_more : (net : Network) (ps : List Pos) (d v : ℕ) → is_supplied net (set ps d Opened) v ≡ true → is_supplied net (set ps d Closed) v ≡ true
supplied_more net ps d v s =
    by_supply net (set ps d Opened) (is_supplied net (set ps d Closed)) v
    (less_closed (SameAtEnds (is_supplied net (set ps d Closed))) net.devices ps d (supply_same net (set ps d Closed))) s
    ∙ grid_supplied net (set ps d Closed)

-- a set that the device cuts off
module _ (net : Network) (ps : List Pos) (d x y : ℕ) (has : ℕ → Bool) (cut : IsCutOff net ps d x y has) where
  abbrev when_open : ℕ → Bool
  when_open = is_supplied net (set ps d Opened)

  abbrev when_closed : ℕ → Bool
  when_closed = is_supplied net (set ps d Closed)

  has_same : EachClosed (SameAtEnds has) net.devices (set ps d Opened)
  has_same k l c =
      let others = other_closed net ps d in
      let e = device_at net.devices k in
      cut.each e.a ∙ by_number (SameAtEnds (λ v. is_connected others v y)) net.devices (set ps d Opened) (same_from others y) k l c ∙ sym (cut.each e.b)

  has_end : has y ≡ true
  has_end = cut.each y ∙ connected_to (other_closed net ps d) y y refl

  not_supplied : (v : ℕ) → has v ≡ true → when_open v ≡ false
  not_supplied v t =
      elim (cases_Bool (when_open v)) as (λ _. when_open v ≡ false) [
        | inl s ↦ absurd (true≢false (sym t ∙ by_supply net (set ps d Opened) has v has_same s ∙ cut.grid))
        | inr f ↦ f
      ]

  -- the device's ends, if a test says the same of x and y
  at_device : (test : ℕ → Bool) → test x ≡ test y → SameAtEnds test (device_at net.devices d)
  at_device test e =
      elim ((ends_decided x y (device_at net.devices d)).0 cut.ends) as (λ _. SameAtEnds test (device_at net.devices d)) [
        | inl h ↦ ap test h.0 ∙ e ∙ sym (ap test h.1)
        | inr h ↦ ap test h.0 ∙ sym e ∙ sym (ap test h.1)
      ]

  -- the supply where the device is open, with the nodes of the set as the other end is
  abbrev through_end : ℕ → Bool
  through_end = λ w. cond (has w) (when_open x) (when_open w)

  through_same : EachClosed (SameAtEnds through_end) net.devices (set ps d Closed)
  through_same =
      more_closed (SameAtEnds through_end) net.devices ps d
      (at_device through_end (cond-false (has x) (when_open x) (when_open x) cut.other ∙ sym (cond-true (has y) (when_open x) (when_open y) has_end)))
      (λ k l c.
      let e = device_at net.devices k in
      ap (λ b. cond b (when_open x) (when_open e.a)) (has_same k l c) ∙ ap (λ s. cond (has e.b) (when_open x) s) (supply_same net (set ps d Opened) k l c))

  supplied_less : (v : ℕ) → when_closed v ≡ true → through_end v ≡ true
  supplied_less v s =
      by_supply net (set ps d Closed) through_end v through_same s
      ∙ cond-false (has GRID) (when_open x) (when_open GRID) cut.grid ∙ grid_supplied net (set ps d Opened)

  outside_same : (v : ℕ) → has v ≡ false → when_open v ≡ when_closed v
  outside_same v f =
      both_true (supplied_more net ps d v)
      (λ s. sym (cond-false (has v) (when_open x) (when_open v) f) ∙ supplied_less v s)

  apart_ends : (device_at net.devices d).a ≡ (device_at net.devices d).b → ⊥
  apart_ends e =
      true≢false (sym has_end ∙ ap has (sym (elim ((ends_decided x y (device_at net.devices d)).0 cut.ends) as (λ _. x ≡ y) [
        | inl h ↦ sym h.0 ∙ e ∙ h.1
        | inr h ↦ sym h.1 ∙ sym e ∙ h.0
      ])) ∙ cut.other)

  in_range : d < length net.devices
  in_range =
      elim (cases_lt d (length net.devices)) as (λ _. d < length net.devices) [
        | inl l ↦ l
        | inr m ↦
            let past : device_at net.devices d ≡ no_device = get_or_past net.devices d no_device (omega (arith, m)) in
            absurd (apart_ends (ap (λ e. e.a) past ∙ sym (ap (λ e. e.b) past)))
      ]

  -- the device joins the set to its other end where it is closed
  inside_same : d < length ps → (v : ℕ) → has v ≡ true → when_closed v ≡ when_closed x
  inside_same l v t =
      let both : SameAtEnds when_closed (device_at net.devices d) = supply_same net (set ps d Closed) d in_range (closed_here ps d l) in
      same_by when_closed (other_closed net ps d) v y
      (over_list (SameAtEnds when_closed) net.devices (set ps d Opened) (less_closed (SameAtEnds when_closed) net.devices ps d (supply_same net (set ps d Closed))))
      (sym (cut.each v) ∙ t)
      ∙ elim ((ends_decided x y (device_at net.devices d)).0 cut.ends) as (λ _. when_closed y ≡ when_closed x) [
        | inl h ↦ sym (ap when_closed h.1) ∙ sym both ∙ ap when_closed h.0
        | inr h ↦ sym (ap when_closed h.0) ∙ both ∙ ap when_closed h.1
      ]

pub cut_off_supply : (net : Network) (positions : List Pos) (device x y : ℕ) (has : ℕ → Bool) (v : ℕ) → device < length positions
    → IsCutOff net positions device x y has → IsSuppliedThrough net positions device x has v
cut_off_supply net ps d x y has v l cut = record {
  outside = outside_same net ps d x y has cut v;
  opened = not_supplied net ps d x y has cut v;
  closed = λ t. inside_same net ps d x y has cut l v t ∙ sym (outside_same net ps d x y has cut x cut.other);
  other = outside_same net ps d x y has cut x cut.other;
}

-- the position of a device that isn't the one
at_position : (ps : List Pos) (d k : ℕ) (p : Pos) → (k ≡ d → ⊥) → IsClosedAt ps k → IsClosedAt (set ps d p) k
at_position ps d k p ne c = get_or-set_other ps d k p Opened ne ∙ c

of_position : (ps : List Pos) (d k : ℕ) (p : Pos) → (k ≡ d → ⊥) → IsClosedAt (set ps d p) k → IsClosedAt ps k
of_position ps d k p ne c = sym (get_or-set_other ps d k p Opened ne) ∙ c

neither : (b c : Bool) → (b || c) ≡ false → b ≡ c
neither true c h = absurd (true≢false h)
neither false c h = sym h

first_of_two : (b c : Bool) → b ≡ true → (b || c) ≡ true
first_of_two b c t = ap (λ x. x || c) t

-- the set stays cut off while no other device at it moves
module _ (net : Network) (ps qs : List Pos) (d x y : ℕ) (has : ℕ → Bool) (alike : AreAlikeAt has d net.devices ps qs) (cut : IsCutOff net ps d x y has) where
  still_same : EachClosed (SameAtEnds has) net.devices (set qs d Opened)
  still_same k l c =
      let e = device_at net.devices k in
      let ne = not_opened qs d k c in
      elim (cases_Bool (is_at has e)) as (λ _. has e.a ≡ has e.b) [
        | inl t ↦ has_same net ps d x y has cut k l (at_position ps d k Opened ne (alike k l ne t ∙ of_position qs d k Opened ne c))
        | inr f ↦ neither (has e.a) (has e.b) f
      ]

  -- the nodes of the set that are connected to y at the other positions
  abbrev still : ℕ → Bool
  still = λ w. cond (has w) (is_connected (other_closed net qs d) w y) false

  still_connected : EachClosed (SameAtEnds still) net.devices (set ps d Opened)
  still_connected k l c =
      let e = device_at net.devices k in
      let ne = not_opened ps d k c in
      let both : has e.a ≡ has e.b = has_same net ps d x y has cut k l c in
      elim (cases_Bool (has e.a)) as (λ _. still e.a ≡ still e.b) [
        | inl t ↦
            let there : IsClosedAt (set qs d Opened) k = at_position qs d k Opened ne (sym (alike k l ne (first_of_two (has e.a) (has e.b) t)) ∙ of_position ps d k Opened ne c) in
            cond-true (has e.a) (is_connected (other_closed net qs d) e.a y) false t
            ∙ by_number (SameAtEnds (λ v. is_connected (other_closed net qs d) v y)) net.devices (set qs d Opened) (same_from (other_closed net qs d) y) k l there
            ∙ sym (cond-true (has e.b) (is_connected (other_closed net qs d) e.b y) false (sym both ∙ t))
        | inr f ↦
            cond-false (has e.a) (is_connected (other_closed net qs d) e.a y) false f
            ∙ sym (cond-false (has e.b) (is_connected (other_closed net qs d) e.b y) false (sym both ∙ f))
      ]

  still_each : (v : ℕ) → has v ≡ is_connected (other_closed net qs d) v y
  still_each v =
      let end : has y ≡ true = has_end net ps d x y has cut in
      both_true
      (λ t.
      sym (cond-true (has v) (is_connected (other_closed net qs d) v y) false t)
      ∙ same_by still (other_closed net ps d) v y (over_list (SameAtEnds still) net.devices (set ps d Opened) still_connected) (sym (cut.each v) ∙ t)
      ∙ cond-true (has y) (is_connected (other_closed net qs d) y y) false end ∙ connected_to (other_closed net qs d) y y refl)
      (λ c. same_by has (other_closed net qs d) v y (over_list (SameAtEnds has) net.devices (set qs d Opened) still_same) c ∙ end)

pub stays_cut_off : (net : Network) (ps qs : List Pos) (device x y : ℕ) (has : ℕ → Bool) → AreAlikeAt has device net.devices ps qs
    → IsCutOff net ps device x y has → IsCutOff net qs device x y has
stays_cut_off net ps qs d x y has alike cut = record {
  ends = cut.ends;
  each = still_each net ps qs d x y has alike cut;
  grid = cut.grid;
  other = cut.other;
}

-- ends that other devices connect
pub joined_supply : (net : Network) (positions : List Pos) (device : ℕ) (has : ℕ → Bool) (v : ℕ) → IsJoined net positions device has
    → is_supplied net (set positions device Opened) v ≡ is_supplied net (set positions device Closed) v
joined_supply net ps d has v joined =
    let supplied : ℕ → Bool = is_supplied net (set ps d Opened) in
    let e = device_at net.devices d in
    let same : EachClosed (SameAtEnds supplied) net.devices (set ps d Opened) = supply_same net (set ps d Opened) in
    let ends : SameAtEnds supplied e =
    connected_same supplied (other_closed_within net ps d has)
    (All-filter (is_within has) (SameAtEnds supplied) (other_closed net ps d) (All-from_recursion (SameAtEnds supplied) (other_closed net ps d) (over_list (SameAtEnds supplied) net.devices (set ps d Opened) same)))
    e.a e.b joined in
    both_true (supplied_more net ps d v)
    (λ s. by_supply net (set ps d Closed) supplied v (more_closed (SameAtEnds supplied) net.devices ps d ends same) s ∙ grid_supplied net (set ps d Opened))

-- over the elements that pass a test
filtered : {X : Type 0} (p : X → Bool) (Q : X → Type 0) (xs : List X) → AllByRecursion (λ x. p x ≡ true → Q x) xs → AllByRecursion Q (filter p xs)
filtered p Q [] h = tt
filtered p Q (x ∷ xs) h =
    elim (cases_Bool (p x)) as (λ _. AllByRecursion Q (filter p (x ∷ xs))) [
      | inl t ↦ subst (AllByRecursion Q) (sym (cond-true (p x) (x ∷ filter p xs) (filter p xs) t)) (h.0 t, filtered p Q xs h.1)
      | inr f ↦ subst (AllByRecursion Q) (sym (cond-false (p x) (x ∷ filter p xs) (filter p xs) f)) (filtered p Q xs h.1)
    ]

unfiltered : {X : Type 0} (p : X → Bool) (Q : X → Type 0) (xs : List X) → AllByRecursion Q (filter p xs) → AllByRecursion (λ x. p x ≡ true → Q x) xs
unfiltered p Q [] h = tt
unfiltered p Q (x ∷ xs) h =
    elim (cases_Bool (p x)) as (λ _. AllByRecursion (λ x. p x ≡ true → Q x) (x ∷ xs)) [
      | inl t ↦
          let k : AllByRecursion Q (x ∷ filter p xs) = subst (AllByRecursion Q) (cond-true (p x) (x ∷ filter p xs) (filter p xs) t) h in
          ((λ _. k.0), unfiltered p Q xs k.1)
      | inr f ↦
          let k : AllByRecursion Q (filter p xs) = subst (AllByRecursion Q) (cond-false (p x) (x ∷ filter p xs) (filter p xs) f) h in
          ((λ t. absurd (true≢false (sym t ∙ f))), unfiltered p Q xs k)
    ]

-- a device between nodes of the set has ends that are connected alike
abbrev Within : (ℕ → Bool) → (ℕ → Bool) → Device → Type 0
Within has test e = is_within has e ≡ true → SameAtEnds test e

within_same : (net : Network) (ps : List Pos) (d : ℕ) (has : ℕ → Bool) (w : ℕ)
    → EachClosed (Within has (λ v. is_connected (other_closed_within net ps d has) v w)) net.devices (set ps d Opened)
within_same net ps d has w =
    let now : List Device = other_closed_within net ps d has in
    let test : ℕ → Bool = λ v. is_connected now v w in
    by_number (Within has test) net.devices (set ps d Opened) (unfiltered (is_within has) (SameAtEnds test) (other_closed net ps d) (same_from now w))

pub stays_joined : (net : Network) (ps qs : List Pos) (device : ℕ) (has : ℕ → Bool) → AreClosedWithin has device net.devices ps qs
    → IsJoined net ps device has → IsJoined net qs device has
stays_joined net ps qs d has still joined =
    let a = (device_at net.devices d).a in
    let b = (device_at net.devices d).b in
    let now : List Device = other_closed_within net qs d has in
    let test : ℕ → Bool = λ w. is_connected now w b in
    let here : EachClosed (Within has test) net.devices (set ps d Opened) = λ k l c is.
    let ne = not_opened ps d k c in
    within_same net qs d has b k l (at_position qs d k Opened ne (still k l ne is (of_position ps d k Opened ne c))) is in
    same_by test (other_closed_within net ps d has) a b
    (filtered (is_within has) (SameAtEnds test) (other_closed net ps d) (over_list (Within has test) net.devices (set ps d Opened) here)) joined
    ∙ connected_to now b b refl

-- what a search by the numbers of the devices' ends found
ends_of_device : (ds : List Device) (k : ℕ) → k < length ds → ends_at (ends_of ds) k ≡ device_pair (device_at ds k)
ends_of_device ds k l = get_or-map device_pair ds k no_device (0, 0) l

pub cut_off_found : (net : Network) (ps : List Pos) (d x y : ℕ) (nodes : List ℕ) → d < length net.devices
    → (ends_at (ends_of net.devices) d ≡ (y, x)) ⊎ (ends_at (ends_of net.devices) d ≡ (x, y))
    → IsPartWithout (ends_of net.devices) (set ps d Opened) x y nodes → IsCutOff net ps d x y (is_among nodes)
cut_off_found net ps d x y nodes l which h = record {
  ends =
      let e = device_at net.devices d in
      let is = ends_of_device net.devices d l in
      (ends_decided x y e).1 (elim which as (λ _. ((e.a ≡ x) × (e.b ≡ y)) ⊎ ((e.a ≡ y) × (e.b ≡ x))) [
        | inl w ↦ inr (ap (λ (p : ℕ × ℕ). p.0) (sym is ∙ w), ap (λ (p : ℕ × ℕ). p.1) (sym is ∙ w))
        | inr w ↦ inl (ap (λ (p : ℕ × ℕ). p.0) (sym is ∙ w), ap (λ (p : ℕ × ℕ). p.1) (sym is ∙ w))
      ]);
  each = λ v. connected_at net.devices (set ps d Opened) y (is_among nodes) v h.part;
  grid = h.grid;
  other = h.other;
}

pub joined_found : (net : Network) (ps : List Pos) (d : ℕ) (nodes : List ℕ) → d < length net.devices
    → AreConnectedWithin (ends_of net.devices) (set ps d Opened) (ends_at (ends_of net.devices) d).0 (ends_at (ends_of net.devices) d).1 nodes
    → IsJoined net ps d (is_among nodes)
joined_found net ps d nodes l h =
    let has : ℕ → Bool = is_among nodes in
    let a = (device_at net.devices d).a in
    let b = (device_at net.devices d).b in
    let now : List Device = other_closed_within net ps d has in
    let test : ℕ → Bool = λ v. is_connected now v b in
    let alike : IsAlikeWithin has test (ends_of net.devices) (set ps d Opened) = λ k m c one other.
    let long = length-map {B = ℕ × ℕ} net.devices device_pair in
    let n : k < length net.devices = omega (arith, m, long) in
    let is = ends_of_device net.devices k n in
    let both : is_within has (device_at net.devices k) ≡ true =
    true_and (has (device_at net.devices k).a) (has (device_at net.devices k).b) (ap (λ (p : ℕ × ℕ). has p.0) (sym is) ∙ one) (ap (λ (p : ℕ × ℕ). has p.1) (sym is) ∙ other) in
    subst (λ (p : ℕ × ℕ). test p.0 ≡ test p.1) (sym is) (within_same net ps d has b k n c both) in
    subst (λ (p : ℕ × ℕ). test p.0 ≡ test p.1) (ends_of_device net.devices d l) (h test alike) ∙ connected_to now b b refl
  where
    true_and : (x y : Bool) → x ≡ true → y ≡ true → (x && y) ≡ true
    true_and true y s t = t
    true_and false y s t = absurd (true≢false (sym s))
