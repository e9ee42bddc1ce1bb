-- Words of the functions that find the outage intervals after a command: the entry that it enters or corrects, the runs that its plan
-- leads to, the nodes that there are then, and whether a node is a section then.
use Rattle.std.specs.Prelude.{◌==◌, ◌++◌, ℕ, Bool, List, [], ◌∷◌, Option, Some, None, is_some, if◌then◌else◌}
use Rattle.ob_net.specs.Network.{Network, home_feeder}
use Rattle.ob_net.specs.declared.net.Node.{Node as ANode}
use Rattle.ob_sheet.specs.declared.Entry.{Entry}
use Rattle.ob_sweep.specs.Deltas.{runs_after}
use Rattle.ob_sweep.specs.Timeline.{runs_at}
use Rattle.ob_sweep.specs.declared.Run.{Run}
use Rattle.ob_post.specs.CauseLaws.{cause_with}
use Rattle.ob_post.specs.SectionAmounts.{run_cause}
use Rattle.ob_json.specs.declared.plan.OutageInterval.{OutageInterval}
use Rattle.ob_state.specs.declared.resolved.Resolved.{Resolved}
use Rattle.ob_state.specs.declared.resolved.Resolved.TheVariants.{Cause, Node, Device, Life, Customer, Service, Entered, Corrected, Withdrawn, Marked, Unmarked}
use Rattle.ob_state.specs.declared.retiming.Retiming.{Retiming}
use Rattle.ob_state.specs.declared.retiming.Retiming.TheVariants.{Same, By}

-- the entry as it is after the command, where that enters or corrects one
abbrev pub entry_said : Resolved → Option Entry
entry_said (Cause code name) = None
entry_said (Node number node) = None
entry_said (Device number device) = None
entry_said (Life device old new) = None
entry_said (Customer c) = None
entry_said (Service old new) = None
entry_said (Entered e) = Some e
entry_said (Corrected old new) = Some new
entry_said (Withdrawn old new) = None
entry_said (Marked day engineer) = None
entry_said (Unmarked day) = None

-- the cause of a run, where this entry, if there is one, has its cause and all others theirs
abbrev pub cause_then : List Entry → Option Entry → Run → ℕ
cause_then entries None r = run_cause entries r
cause_then entries (Some e) r = cause_with entries e.no e.cause r

-- a run with that cause
abbrev pub interval_then : List Entry → Option Entry → Run → OutageInterval
interval_then entries said r = record { since = r.since; until = r.until; entry = r.cutter; cause = cause_then entries said r }

-- the runs that a node has then
abbrev pub runs_then : Retiming → List (List Run) → ℕ → List Run
runs_then Same lists v = runs_at lists v
runs_then (By delta) lists v = runs_after delta lists v

-- the node is a section of the network, or the section that joins it
abbrev pub is_section_then : Network → Resolved → ℕ → Bool
is_section_then net (Cause code name) v = is_some (home_feeder net v)
is_section_then net (Node number node) v = if number == v then is_some node.feeder else is_some (home_feeder net v)
is_section_then net (Device number device) v = is_some (home_feeder net v)
is_section_then net (Life device old new) v = is_some (home_feeder net v)
is_section_then net (Customer c) v = is_some (home_feeder net v)
is_section_then net (Service old new) v = is_some (home_feeder net v)
is_section_then net (Entered e) v = is_some (home_feeder net v)
is_section_then net (Corrected old new) v = is_some (home_feeder net v)
is_section_then net (Withdrawn old new) v = is_some (home_feeder net v)
is_section_then net (Marked day engineer) v = is_some (home_feeder net v)
is_section_then net (Unmarked day) v = is_some (home_feeder net v)

-- the nodes of the network, and the one that joins it
abbrev pub nodes_then : Network → Resolved → List ANode
nodes_then net (Cause code name) = net.nodes
nodes_then net (Node number node) = net.nodes ++ node ∷ []
nodes_then net (Device number device) = net.nodes
nodes_then net (Life device old new) = net.nodes
nodes_then net (Customer c) = net.nodes
nodes_then net (Service old new) = net.nodes
nodes_then net (Entered e) = net.nodes
nodes_then net (Corrected old new) = net.nodes
nodes_then net (Withdrawn old new) = net.nodes
nodes_then net (Marked day engineer) = net.nodes
nodes_then net (Unmarked day) = net.nodes
