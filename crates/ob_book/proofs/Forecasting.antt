-- The sections that a plan changes: the nodes after a command, and their names.
use Rattle.std.proofs.Common.{◌≡◌, ◌∙◌, sym, ap, ap₂, refl, false, ℕ, ◌<◌, ◌++◌, List, [], ◌∷◌, map, length, Option, Some, None}
use Rattle.std.specs.List.{slice_get}
use Rattle.std.specs.Option.{option_map, option_map_or}
use Rattle.std.proofs.lemmas.Option.{slice_get-map}
use Rattle.ob_net.specs.Network.{Network}
use Rattle.ob_net.specs.declared.net.Node.{Node as ANode}
use Rattle.ob_state.specs.declared.resolved.Resolved.{Resolved}
use Rattle.ob_state.specs.declared.resolved.Resolved.TheVariants.{Cause, Node, Device, Life, Customer, Service, Entered, Corrected, Withdrawn, Marked, Unmarked}
use Rattle.ob_state.proofs.Amounting.{get-before}
use Rattle.ob_state.specs.Resolved.{next_by}
use Rattle.ob_state.specs.State.{BookState}
use Rattle.ob_json.specs.Plans.{SectionOutages, are_same_intervals}
use Rattle.ob_json.specs.declared.plan.OutageInterval.{OutageInterval}
use Rattle.ob_book.specs.Forecasts.{intervals_of, name_of_node, section_change}
use Rattle.ob_book.specs.Intervals.{nodes_then}
use Rattle.ob_book.proofs.PlannedIntervals.{new_last}

-- commands that add no node
pub none_added : (net : Network) (r : Resolved) → ((number : ℕ) (node : ANode) → r ≡ Node number node → ⊥) → net.nodes ≡ nodes_then net r
none_added net (Cause code name) adds = refl
none_added net (Node number node) adds = absurd (adds number node refl)
none_added net (Device number device) adds = refl
none_added net (Life device old new) adds = refl
none_added net (Customer c) adds = refl
none_added net (Service old new) adds = refl
none_added net (Entered e) adds = refl
none_added net (Corrected old new) adds = refl
none_added net (Withdrawn old new) adds = refl
none_added net (Marked day engineer) adds = refl
none_added net (Unmarked day) adds = refl

-- the nodes after a command are those of the state that it leads to
pub nodes_are : (b : BookState) (r : Resolved) → nodes_then b.network r ≡ (next_by b r).network.nodes
nodes_are b (Cause code name) = refl
nodes_are b (Node number node) = refl
nodes_are b (Device number device) = refl
nodes_are b (Life device old new) = refl
nodes_are b (Customer c) = refl
nodes_are b (Service old new) = refl
nodes_are b (Entered e) = refl
nodes_are b (Corrected old new) = refl
nodes_are b (Withdrawn old new) = refl
nodes_are b (Marked day engineer) = refl
nodes_are b (Unmarked day) = refl

-- the name of the node that is added
pub new_name : (nodes : List ANode) (node : ANode) (v : ℕ) → v ≡ length nodes → Some node.name ≡ slice_get (map (λ n. n.name) (nodes ++ node ∷ [])) v
new_name nodes node v last =
    sym (slice_get-map (λ (n : ANode). n.name) (nodes ++ node ∷ []) v ∙ ap (λ (k : ℕ). option_map (λ (n : ANode). n.name) (slice_get (nodes ++ node ∷ []) k)) last
    ∙ ap (option_map (λ (n : ANode). n.name)) (new_last nodes node))

-- that of a node that was there
pub old_name : (nodes : List ANode) (node : ANode) (v : ℕ) → v < length nodes → slice_get (map (λ n. n.name) nodes) v ≡ slice_get (map (λ n. n.name) (nodes ++ node ∷ [])) v
old_name nodes node v within =
    slice_get-map (λ (n : ANode). n.name) nodes v ∙ ap (option_map (λ (n : ANode). n.name)) (sym (get-before nodes (node ∷ []) v within))
    ∙ sym (slice_get-map (λ (n : ANode). n.name) (nodes ++ node ∷ []) v)

of_some : (o : Option ANode) (name : List ℕ) → Some name ≡ option_map (λ n. n.name) o → name ≡ option_map_or (λ n. n.name) o []
of_some None name e = cc
of_some (Some n) name e = cc

-- the name of a node as plans show it
pub name_is : (b : BookState) (v : ℕ) (name : List ℕ) → Some name ≡ slice_get (map (λ n. n.name) b.network.nodes) v → name ≡ name_of_node b v
name_is b v name e = of_some (slice_get b.network.nodes v) name (e ∙ slice_get-map (λ (n : ANode). n.name) b.network.nodes v)

pub nodes_lead : (b c : BookState) (r : Resolved) → next_by b r ≡ c → nodes_then b.network r ≡ c.network.nodes
nodes_lead b c r next = nodes_are b r ∙ ap (λ (s : BookState). s.network.nodes) next

-- a section of this name, with these outage intervals before and after, where they aren't the same
pub changed_section : (b c : BookState) (v : ℕ) (shown : SectionOutages) → shown.section ≡ name_of_node c v → shown.before ≡ intervals_of b v → shown.after ≡ intervals_of c v
    → are_same_intervals (intervals_of b v) (intervals_of c v) ≡ false → Some shown ≡ section_change b c v
changed_section b c v shown section before after other =
    rw other
    (ap (λ (n : List ℕ). Some (record { section = n; before = shown.before; after = shown.after })) section
    ∙ ap₂ (λ (xs ys : List OutageInterval). Some (record { section = name_of_node c v; before = xs; after = ys })) before after)
