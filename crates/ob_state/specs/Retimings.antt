-- What a command does to the runs of a state.
use Rattle.std.specs.Prelude.{◌≤◌, ℕ, List, length, ⊤}
use Rattle.ob_sweep.specs.Deltas.{IsDelta, Fits}
use Rattle.ob_sweep.specs.Runs.{history, runs_between}
use Rattle.ob_sweep.specs.declared.Run.{Run}
use Rattle.ob_time.specs.Calendar.{first_second_of, end_second_of}
use Rattle.ob_state.specs.declared.retiming.Retiming.{Retiming}
use Rattle.ob_state.specs.declared.retiming.Retiming.TheVariants.{Same, By}
use Rattle.ob_state.specs.State.{BookState}
use Rattle.ob_state.specs.States.{AreRunsOf}

-- the runs of a node in a state, over its period
abbrev pub runs_in : BookState → ℕ → List Run
runs_in b v = runs_between v (history b.network b.entries v) (first_second_of b.period) (end_second_of b.period)

-- it leads from the runs of a state's sections to those of another state's, whatever lists hold them: they stay, or the delta from
-- the one to the other is given, with a list for each node
abbrev pub LeadsTo : BookState → BookState → Retiming → Type 0
LeadsTo b c Same = (lists : List (List Run)) → AreRunsOf b lists → AreRunsOf c lists
LeadsTo b c (By delta) =
    (lists : List (List Run)) → AreRunsOf b lists
    → (length b.network.nodes ≤ length c.network.nodes) × (length c.network.nodes ≤ length lists) × Fits lists delta × IsDelta c.network delta lists (runs_in c)

-- what a delta names has a list
abbrev pub FitsTo : List (List Run) → Retiming → Type 0
FitsTo lists Same = ⊤
FitsTo lists (By delta) = Fits lists delta
