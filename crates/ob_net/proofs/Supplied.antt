-- The nodes that closed devices connect to GRID are those that are supplied.
use Rattle.std.proofs.Common.{◌≡◌, ℕ, ◌<◌, ◌≤◌, Bool, false, List, [], ◌∷◌, refl, sym, ap, subst, ◌∙◌, inl, inr, length, get_or, map, arith, true≢false, slice_get, Some, zero, suc}
use Rattle.std.specs.List.{range_with_len}
use Rattle.std.proofs.lemmas.Bool.{cases_Bool, cases_lt}
use Rattle.std.proofs.lemmas.List.{get_or-map, length-map}
use Rattle.std.proofs.lemmas.List.Elements.{All-from_recursion, recursion_from_All}
use Rattle.std.proofs.lemmas.List.FromFn.{fill_by_all, get_or-map-range_with_len, length-map-range_with_len}
use Rattle.ob_base.specs.Life.{whole_life}
use Rattle.ob_base.specs.declared.Pos.{Pos}
use Rattle.ob_base.specs.declared.Pos.TheVariants.{Opened}
use Rattle.ob_net.specs.declared.TheConstants.{GRID}
use Rattle.ob_net.specs.declared.net.Device.{Device}
use Rattle.ob_net.specs.Forest.{IsAlike}
use Rattle.ob_net.specs.Joints.{IsAlikeOver, IsComponent, ends_of}
use Rattle.ob_net.specs.Network.{IsNetwork, Network}
use Rattle.ob_net.specs.Reach.{is_reached}
use Rattle.ob_net.specs.Walk.{closed_among, is_connected, is_supplied}
use Rattle.ob_net.proofs.Chains.{device_pair}
use Rattle.ob_net.proofs.Connected.{connected_same, connected_to}
use Rattle.ob_net.proofs.Forests.{alike_closed, closed_alike}
use Rattle.ob_net.proofs.Searched.{grid_alike, node_alike}

-- some device
abbrev no_device : Device
no_device = record { name = []; a = 0; b = 0; normal = Opened; life = whole_life }

-- by the numbers of the devices' ends, and over the list of the closed devices
pub alike_over : (test : ℕ → Bool) (ds : List Device) (ps : List Pos) → IsAlikeOver test (ends_of ds) ps → IsAlike test (closed_among ds ps)
alike_over test ds ps h =
    All-from_recursion (λ d. test d.a ≡ test d.b) (closed_among ds ps) (closed_alike test ds ps
    (λ k d l c. subst (λ (p : ℕ × ℕ). test p.0 ≡ test p.1) (get_or-map device_pair ds k d (0, 0) l) (h k (let e = length-map {B = ℕ × ℕ} ds device_pair in omega (arith, e, l)) c)))

pub over_alike : (test : ℕ → Bool) (ds : List Device) (ps : List Pos) → IsAlike test (closed_among ds ps) → IsAlikeOver test (ends_of ds) ps
over_alike test ds ps h k m c =
    let e = length-map {B = ℕ × ℕ} ds device_pair in
    let l : k < length ds = omega (arith, e, m) in
    subst (λ (p : ℕ × ℕ). test p.0 ≡ test p.1) (sym (get_or-map device_pair ds k no_device (0, 0) l))
    (alike_closed test ds ps (recursion_from_All (λ d. test d.a ≡ test d.b) (closed_among ds ps) h) k no_device l c)

past_end : (xs : List Bool) (v : ℕ) → length xs ≤ v → get_or xs v false ≡ false
past_end [] v l = refl
past_end (x ∷ xs) zero l = absurd (omega (arith, l))
past_end (x ∷ xs) (suc v) l = past_end xs v (omega (arith, l))

-- the nodes that are connected to a node, by the test of walks
pub connected_at : (ds : List Device) (ps : List Pos) (start : ℕ) (has : ℕ → Bool) (v : ℕ) → IsComponent (ends_of ds) ps start has → has v ≡ is_connected (closed_among ds ps) v start
connected_at ds ps start has v h =
    let closed = closed_among ds ps in
    elim (cases_Bool (has v)) [
      | inl t ↦
          let test : ℕ → Bool = λ u. is_connected closed u start in
          t ∙ sym (h.least v t test (over_alike test ds ps (node_alike closed start)) ∙ connected_to closed start start refl)
      | inr f ↦ elim (cases_Bool (is_connected closed v start)) [
        | inl t ↦ absurd (true≢false (sym (connected_same has closed (alike_over has ds ps h.alike) v start t ∙ h.at) ∙ f))
        | inr n ↦ f ∙ sym n
      ]
    ]

-- the nodes that are connected to GRID are supplied
pub component_supplied : (net : Network) (ends : List (ℕ × ℕ)) (ps : List Pos) (live : List Bool) → ends ≡ ends_of net.devices → length live ≡ length net.nodes → IsComponent ends ps 0 (is_reached live) → live ≡ map (is_supplied net ps) (range_with_len 0 (length net.nodes))
unfolding is_supplied
component_supplied net ends ps live is count h =
    let here : IsComponent (ends_of net.devices) ps 0 (is_reached live) = subst (λ (q : List (ℕ × ℕ)). IsComponent q ps 0 (is_reached live)) is h in
    fill_by_all (λ v. is_connected (closed_among net.devices ps) v GRID) live (length net.nodes) false count (λ v l. connected_at net.devices ps GRID (is_reached live) v here)

-- and the other way round
some_nodes : (net : Network) → IsNetwork net → 0 < length net.nodes
some_nodes net h = from net.nodes h.grid
  where
    from : {X : Type 0} {x : X} (xs : List X) → slice_get xs 0 ≡ Some x → 0 < length xs
    from [] e = absurd cc
    from (y ∷ ys) e = omega arith

pub supplied_component : (net : Network) (ends : List (ℕ × ℕ)) (ps : List Pos) (live : List Bool) → ends ≡ ends_of net.devices → IsNetwork net → live ≡ map (is_supplied net ps) (range_with_len 0 (length net.nodes)) → IsComponent ends ps 0 (is_reached live)
unfolding is_supplied
supplied_component net ends ps live same net_is is =
    let closed = closed_among net.devices ps in
    let n = length net.nodes in
    let test : ℕ → Bool = λ v. is_connected closed v GRID in
    let long : length live ≡ n = ap length is ∙ length-map-range_with_len test 0 n in
    let at : (v : ℕ) → v < n → is_reached live v ≡ test v = λ v l.
    ap (λ (xs : List Bool). is_reached xs v) is ∙ get_or-map-range_with_len test 0 n v v false l (omega arith) in
    subst (λ (q : List (ℕ × ℕ)). IsComponent q ps 0 (is_reached live)) (sym same)
    (record {
      at = at 0 (some_nodes net net_is) ∙ connected_to closed GRID GRID refl;
      alike = λ k m c.
          let e = length-map {B = ℕ × ℕ} net.devices device_pair in
          let l : k < length net.devices = omega (arith, e, m) in
          let d : Device = get_or net.devices k no_device in
          let j = net_is.joins k no_device l in
          subst (λ (p : ℕ × ℕ). is_reached live p.0 ≡ is_reached live p.1) (sym (get_or-map device_pair net.devices k no_device (0, 0) l))
          (at d.a j.a_is_node ∙ subst (λ (p : ℕ × ℕ). test p.0 ≡ test p.1) (get_or-map device_pair net.devices k no_device (0, 0) l) (over_alike test net.devices ps (grid_alike closed) k m c) ∙ sym (at d.b j.b_is_node));
      least = λ v t other alike.
          elim (cases_lt v n) [
            | inl l ↦ connected_same other closed (alike_over other net.devices ps alike) v GRID (sym (at v l) ∙ t)
            | inr l ↦ absurd (true≢false (sym t ∙ past_end live v (omega (arith, long, l))))
          ];
    })

-- the nodes that are supplied are those that are connected to GRID
pub supplied_part : (net : Network) (ps : List Pos) → IsComponent (ends_of net.devices) ps 0 (is_supplied net ps)
unfolding is_supplied
supplied_part net ps =
    let closed = closed_among net.devices ps in
    let test : ℕ → Bool = λ v. is_connected closed v GRID in
    record {
      at = connected_to closed GRID GRID refl;
      alike = over_alike test net.devices ps (grid_alike closed);
      least = λ v t other alike. connected_same other closed (alike_over other net.devices ps alike) v GRID t;
    }
