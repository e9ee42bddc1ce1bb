-- A change of the network: what stays, what it moves, and what leads to the runs after it.
use Rattle.std.proofs.Common.{◌≡◌, ◌∙◌, sym, ap, ap₂, subst, refl, ℕ, zero, suc, ◌+◌, ◌-◌, ◌<◌, ◌==◌, ◌&&◌, Bool, true, false, cond, get_or, List, [], ◌∷◌, ◌++◌, length, map, take, sum_by, Option, Some, None, IsSome, slice_get, inl, inr, length-append, arith, is_some}
use Rattle.std.specs.List.{All, AllPairs, Contains}
use Rattle.std.specs.Option.{option_and_then, option_map_or}
use Rattle.std.proofs.lemmas.Option.{same_Some}
use Rattle.std.proofs.lemmas.Bool.{cases_eq, cases_lt, eq-eqb, false≢true}
use Rattle.std.proofs.Math.Seq.{take-append_seam}
use Rattle.std.proofs.lemmas.List.Elements.{All-head, All-tail}
use Rattle.std.proofs.lemmas.List.Sums.{sum_by-cons}
use Rattle.ob_base.specs.declared.life.Life.{Life}
use Rattle.ob_base.specs.Life.{life_refusal}
use Rattle.ob_net.specs.declared.net.Device.{Device}
use Rattle.ob_net.specs.declared.net.Node.{Node}
use Rattle.ob_base.specs.declared.stop.Refusal.{Refusal}
use Rattle.ob_base.specs.declared.stop.Refusal.TheVariants.{Full, NameTaken}
use Rattle.ob_net.specs.declared.TheConstants.{MOST_NODES}
use Rattle.ob_net.specs.Network.{HasLife, IsNetwork, JoinsTwo, Network, home_feeder, node_of, node_refusal, with_joined, with_life, with_life_at, with_node}
use Rattle.ob_base.specs.Seconds.{seconds}
use Rattle.ob_net.specs.Walk.{is_supplied}
use Rattle.ob_sheet.specs.Supply.{is_deenergized}
use Rattle.ob_cust.specs.declared.Customer.{Customer}
use Rattle.ob_cust.specs.WithoutSupply.{is_without_supply}
use Rattle.ob_sheet.specs.declared.Entry.{Entry}
use Rattle.ob_sheet.specs.Sheet.{NameDevices}
use Rattle.ob_sweep.specs.Changed.{changed, Applies, IsAfter, IsLastNode}
use Rattle.ob_sweep.specs.declared.change.Change.TheVariants.{Joined}
use Rattle.ob_sweep.specs.declared.Run.{Run}
use Rattle.ob_sweep.specs.Deltas.{sections_of, IsDelta}
use Rattle.ob_sweep.specs.Timeline.{IsSection, runs_at}
use Rattle.ob_time.specs.Calendar.{day_count}
use Rattle.ob_post.specs.CustomerSeconds.{Days, has_key}
use Rattle.ob_post.specs.SectionLaws.{AreOnSections, ByRuns}
use Rattle.ob_post.specs.declared.Dim.{Dim}
use Rattle.ob_post.specs.declared.Dim.TheVariants.{Cause, Feeder, Day}
use Rattle.ob_post.specs.declared.posting.Posting.{Posting}
use Rattle.ob_state.specs.Amounts.{amount, days_of_book}
use Rattle.ob_post.specs.Balances.{Balances}
use Rattle.ob_state.specs.Effects.{amount_of_first, amount_of_node, amount_of_nodes, before_change, with_network, without_device, without_node}
use Rattle.ob_state.specs.Retimings.{runs_in}
use Rattle.ob_state.specs.Resolved.{node_change}
use Rattle.ob_state.specs.State.{BookState}
use Rattle.ob_state.specs.States.{AreRunsOf}
use Rattle.ob_state.proofs.Amounting.{all_nodes, get-before, is_section}
use Rattle.ob_post.proofs.Balancing.{balances_as, same_change}
use Rattle.ob_state.proofs.NodeByNode.{section_amount}
use Rattle.ob_state.proofs.Deltas.{untouched}
use Rattle.ob_state.proofs.Kept.{section_within}
use Rattle.ob_state.proofs.Untouched.{over_touched}

not_refused : (t : Bool) (r : Refusal) (o : Option Refusal) → cond t (Some r) o ≡ None → (t ≡ false) × (o ≡ None)
not_refused true r o h = cc
not_refused false r o h = (refl, h)

-- a network that takes one more node isn't full
pub has_place : (net : Network) (name : List ℕ) → IsNetwork net → node_refusal net name ≡ None → length net.nodes < MOST_NODES
has_place net name ok h =
    let few = ok.few_nodes in
    let free = not_refused (length net.nodes == MOST_NODES) (Full MOST_NODES) None (not_refused (is_some (node_of net name)) NameTaken _ h).1 in
    elim (cases_eq (length net.nodes) MOST_NODES) as (λ _. length net.nodes < MOST_NODES) [
      | inl e ↦ absurd (false≢true (sym free.0 ∙ eq-eqb (length net.nodes) MOST_NODES e))
      | inr o ↦ omega (arith, few, o)
    ]

-- ---- a node more
sum_same : {X : Type 0} (f g : X → ℕ) (xs : List X) → All (λ x. f x ≡ g x) xs → sum_by f xs ≡ sum_by g xs
sum_same f g [] h = refl
sum_same f g (x ∷ xs) h =
    sum_by-cons f x xs ∙ ap₂ (λ m n. m + n) (All-head (λ x. f x ≡ g x) x xs h) (sum_same f g xs (All-tail (λ x. f x ≡ g x) x xs h)) ∙ sym (sum_by-cons g x xs)

module _ (b : BookState) (node : Node) where
  abbrev more : BookState
  more = with_network b (with_node b.network node)

  old_feeder : (v : ℕ) → v < length b.network.nodes → home_feeder more.network v ≡ home_feeder b.network v
  old_feeder v l = ap (option_and_then (λ (n : Node). n.feeder)) (get-before b.network.nodes (node ∷ []) v l)

  same_key : (p : Days) (dim : Dim) (key : ℕ) (c : Customer) (s : ℕ) → c.section < length b.network.nodes
      → has_key more.network b.entries p dim key c s ≡ has_key b.network b.entries p dim key c s
  unfolding is_supplied
  same_key p Cause key c s l = refl
  same_key p Feeder key c s l = ap (λ o. option_map_or (λ f. f == key) o false) (old_feeder c.section l)
  same_key p Day key c s l = refl

  same_second : (p : Days) (dim : Dim) (key : ℕ) (c : Customer) (s : ℕ) → c.section < length b.network.nodes
      → (is_without_supply (is_deenergized more.network b.entries) c s && has_key more.network b.entries p dim key c s)
      ≡ (is_without_supply (is_deenergized b.network b.entries) c s && has_key b.network b.entries p dim key c s)
  unfolding is_supplied
  same_second p dim key c s l = ap (λ t. is_without_supply (is_deenergized b.network b.entries) c s && t) (same_key p dim key c s l)

  -- it changes no amount, since no customer is of it
  pub same_amount : AreOnSections b.network b.customers → (dim : Dim) (key : ℕ) → amount more dim key ≡ amount b dim key
  same_amount ok dim key =
      let p = days_of_book b in
      sum_same _ _ (seconds p.first p.end) (λ k d l.
      sum_same _ _ b.customers (λ i e m.
      let c : Customer = get_or b.customers i e in
      ap (λ t. cond t 1 0) (same_second p dim key c (get_or (seconds p.first p.end) k d) (section_within b.network c.section (ok i e m)))))

  -- lists that hold a state's runs hold the same for each section that there is with the node
  pub same_lists : (one other : List (List Run)) → AreRunsOf b one → AreRunsOf b other → (v : ℕ) → IsSection more.network v → runs_at one v ≡ runs_at other v
  same_lists one other first second v section =
      elim (cases_lt v (length b.network.nodes)) as (λ _. runs_at one v ≡ runs_at other v) [
        | inl l ↦ (let s = subst IsSome (old_feeder v l) section in first.defined v s ∙ sym (second.defined v s))
        | inr past ↦ first.empty v (omega (arith, past)) ∙ sym (second.empty v (omega (arith, past)))
      ]

-- the new node is the last one
get_new : (nodes : List Node) (node : Node) → slice_get (nodes ++ node ∷ []) (length nodes) ≡ Some node
get_new [] node = refl
get_new (x ∷ nodes) node = get_new nodes node

last_node : (net : Network) (node : Node) (home : Option ℕ) → node.feeder ≡ home → All (JoinsTwo (length net.nodes)) net.devices → IsLastNode (with_node net node) home
last_node net node home is joins =
    let more = length-append net.nodes (node ∷ []) in
    let one : length (net.nodes ++ node ∷ []) - 1 ≡ length net.nodes = omega (arith, more) in
    record {
      some = omega (arith, more);
      feeder = ap (λ n. home_feeder (with_node net node) n) one ∙ ap (option_and_then (λ (n : Node). n.feeder)) (get_new net.nodes node) ∙ is;
      free = subst (λ n. All (JoinsTwo n) net.devices) (sym one) joins;
    }

-- the network with it is one after the change that it is
pub node_after : (net : Network) (node : Node) (home : Option ℕ) → node.feeder ≡ home → All (JoinsTwo (length net.nodes)) net.devices → IsAfter (node_change home) (with_node net node)
node_after net node None is joins = last_node net node None is joins
node_after net node (Some f) is joins = last_node net node (Some f) is joins

-- that change leaves the sheet
pub node_sheet : (home : Option ℕ) (entries : List Entry) → (changed (node_change home) entries ≡ entries) × Applies (node_change home) entries
node_sheet None entries = (refl, tt)
node_sheet (Some f) entries = (refl, tt)

pub node_before : (home : Option ℕ) (b : BookState) → before_change (node_change home) b ≡ without_node b
node_before None b = refl
node_before (Some f) b = refl

-- a node that was added last is taken back
pub node_back : (b : BookState) (node : Node) → without_node (with_network b (with_node b.network node)) ≡ b
node_back b node =
    let nodes : List Node = b.network.nodes ++ node ∷ [] in
    let one : length nodes - 1 ≡ length b.network.nodes = omega (arith, length-append b.network.nodes (node ∷ [])) in
    ap (λ (ns : List Node). record b { network = record b.network { nodes = ns } })
    (ap (λ n. take n nodes) one ∙ take-append_seam b.network.nodes (node ∷ []))

-- ---- another list of devices, where b is the state after the change
abbrev with_devices : BookState → List Device → BookState
with_devices b devices = with_network b (record b.network { devices = devices })

module _ (b : BookState) (devices : List Device) where
  abbrev was : BookState
  was = with_devices b devices

  node_stays : (v : ℕ) (o : Option ℕ) (dim : Dim) (key : ℕ) → home_feeder b.network v ≡ o → ((f : ℕ) → o ≡ Some f → runs_in was v ≡ runs_in b v)
      → amount_of_node was v dim key ≡ amount_of_node b v dim key
  node_stays v None dim key h runs = rw h refl
  node_stays v (Some f) dim key h runs =
      section_amount was v f (runs_in b v) h (sym (runs f refl)) dim key ∙ sym (section_amount b v f (runs_in b v) h refl dim key)

  -- what is posted of the touched sections leads from all amounts to all
  device_balance : (p : Posting) (lists : List (List Run)) (delta : List (ℕ × List Run)) (ts : List ℕ) → ByRuns → AreOnSections b.network b.customers
      → AreRunsOf was lists → IsDelta b.network delta lists (runs_in b) → ts ≡ sections_of delta → AllPairs (λ v w. v < w) ts → All (λ v. v < length b.network.nodes) ts
      → Balances (day_count b.period) p (amount_of_nodes was ts) (amount_of_nodes b ts) → Balances (day_count b.period) p (amount was) (amount b)
  device_balance p lists delta ts by_runs ok are is named rising within h =
      let n = length b.network.nodes in
      balances_as (day_count b.period) p (amount_of_first was n) (amount_of_first b n) (amount was) (amount b) (all_nodes was by_runs ok) (all_nodes b by_runs ok)
      (same_change (day_count b.period) p (amount_of_nodes was ts) (amount_of_nodes b ts) (amount_of_first was n) (amount_of_first b n)
      (λ dim key.
      over_touched (λ v. amount_of_node was v dim key) (λ v. amount_of_node b v dim key) ts 0 n rising (λ k d l. (omega arith, let w = within k d l in omega arith))
      (λ v l apart.
      node_stays v (home_feeder b.network v) dim key refl
      (λ f at.
      let s = is_section (home_feeder b.network v) f at in
      sym (is.others v s (untouched delta v (λ c. apart (subst (λ xs. Contains xs v) (sym named) c))) ∙ are.defined v s))))
      h)

-- a network with the same nodes
other_devices : (b : BookState) (net : Network) → net.nodes ≡ b.network.nodes → with_network b net ≡ with_devices b net.devices
other_devices b net same = ap (λ (nodes : List Node). with_network b (record { nodes = nodes; devices = net.devices })) same

-- its home feeders and sections are the same
pub same_home : (net after : Network) → net.nodes ≡ after.nodes → (v : ℕ) → home_feeder net v ≡ home_feeder after v
same_home net after same v = ap (λ (nodes : List Node). home_feeder (record { nodes = nodes; devices = [] }) v) same

pub same_section : (net after : Network) → net.nodes ≡ after.nodes → (v : ℕ) → IsSection after v → IsSection net v
same_section net after same v s = subst IsSome (sym (same_home net after same v)) s

-- what is posted of the touched sections leads from all amounts before a change of the devices to all after it
pub altered_balance : (b : BookState) (net : Network) → net.nodes ≡ b.network.nodes
    → (p : Posting) (lists : List (List Run)) (delta : List (ℕ × List Run)) (ts : List ℕ) → ByRuns → AreOnSections b.network b.customers
    → AreRunsOf (with_network b net) lists → IsDelta b.network delta lists (runs_in b) → ts ≡ sections_of delta → AllPairs (λ v w. v < w) ts → All (λ v. v < length b.network.nodes) ts
    → Balances (day_count b.period) p (amount_of_nodes (with_network b net) ts) (amount_of_nodes b ts) → Balances (day_count b.period) p (amount (with_network b net)) (amount b)
altered_balance b net same p lists delta ts by_runs ok are is named rising within h =
    let e = other_devices b net same in
    subst (λ (w : BookState). Balances (day_count b.period) p (amount w) (amount b)) (sym e)
    (device_balance b net.devices p lists delta ts by_runs ok (subst (λ (w : BookState). AreRunsOf w lists) e are) is named rising within
    (subst (λ (w : BookState). Balances (day_count b.period) p (amount_of_nodes w ts) (amount_of_nodes b ts)) e h))

-- a device that was added last is taken back
pub taken_back : (b : BookState) (d : Device) → without_device (with_network b (with_joined b.network d)) ≡ b
taken_back b d =
    let devices : List Device = b.network.devices ++ d ∷ [] in
    let one : length devices - 1 ≡ length b.network.devices = omega (arith, length-append b.network.devices (d ∷ [])) in
    ap (λ (ds : List Device). record b { network = record b.network { devices = ds } })
    (ap (λ n. take n devices) one ∙ take-append_seam b.network.devices (d ∷ []))

-- and no entry names it
pub before_last : (b : BookState) (d : Device) → NameDevices (length b.network.devices) b.entries → All (λ (e : Entry). e.device < length (with_joined b.network d).devices - 1) b.entries
before_last b d h =
    let one : length (with_joined b.network d).devices - 1 ≡ length b.network.devices = omega (arith, length-append b.network.devices (d ∷ [])) in
    subst (λ n. All (λ (e : Entry). e.device < n) b.entries) (sym one) h

-- it has its life
joined_life : (ds : List Device) (d : Device) → slice_get (map (λ (x : Device). x.life) (ds ++ d ∷ [])) (length ds) ≡ Some d.life
joined_life [] d = refl
joined_life (x ∷ xs) d = joined_life xs d

-- the network with it is one after the device joined
pub joined_after : (net : Network) (d : Device) (number : ℕ) → number ≡ length net.devices → IsAfter (Joined number d.life) (with_joined net d)
joined_after net d number is =
    (omega (arith, is, length-append net.devices (d ∷ [])), subst (λ n. slice_get (map (λ (x : Device). x.life) (net.devices ++ d ∷ [])) n ≡ Some d.life) (sym is) (joined_life net.devices d))

-- ---- a device with another life
pub lived_now : (ds : List Device) (k : ℕ) (life : Life) → k < length ds → slice_get (map (λ (x : Device). x.life) (with_life_at ds k life)) k ≡ Some life
lived_now [] k life l = absurd (omega (arith, l))
lived_now (d ∷ ds) zero life l = refl
lived_now (d ∷ ds) (suc k) life l = lived_now ds k life (omega (arith, l))

life_again : (ds : List Device) (k : ℕ) (old new : Life) → slice_get (map (λ (x : Device). x.life) ds) k ≡ Some old → with_life_at (with_life_at ds k new) k old ≡ ds
life_again [] k old new has = refl
life_again (d ∷ ds) zero old new has = ap (λ (life : Life). record d { life = life } ∷ ds) (sym (same_Some d.life old has))
life_again (d ∷ ds) (suc k) old new has = ap (λ (q : List Device). d ∷ q) (life_again ds k old new has)

-- its old life is one that a device may have
pub old_life : (ds : List Device) (k : ℕ) (old : Life) → All HasLife ds → slice_get (map (λ (x : Device). x.life) ds) k ≡ Some old → life_refusal old ≡ None
old_life [] k old lives has = cc
old_life (d ∷ ds) zero old lives has = subst (λ (l : Life). life_refusal l ≡ None) (same_Some d.life old has) (rw (All-head HasLife d ds lives) refl)
old_life (d ∷ ds) (suc k) old lives has = old_life ds k old (All-tail HasLife d ds lives) has

-- its old life set again gives the state as it was
pub lived_back : (b : BookState) (k : ℕ) (old new : Life) → slice_get (map (λ (x : Device). x.life) b.network.devices) k ≡ Some old
    → with_network (with_network b (with_life b.network k new)) (with_life (with_life b.network k new) k old) ≡ b
lived_back b k old new has = ap (λ (ds : List Device). with_devices b ds) (life_again b.network.devices k old new has)
