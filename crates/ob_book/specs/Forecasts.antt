-- What a plan shows: why a command is refused, or what it would move, and the sections whose outage intervals it would change.
use Rattle.std.specs.Prelude.{◌≡◌, ◌+◌, ℕ, List, [], map, Option, Some, None, is_some, Result, Ok, Err, if◌then◌else◌, length, slice_get}
use Rattle.std.specs.List.{filter_map, range_with_len}
use Rattle.std.specs.Option.{option_map_or}
use Rattle.ob_base.specs.declared.stop.Refusal.{Refusal}
use Rattle.ob_net.specs.Network.{home_feeder}
use Rattle.ob_sweep.specs.declared.Run.{Run}
use Rattle.ob_post.specs.SectionAmounts.{run_cause}
use Rattle.ob_json.specs.Plans.{Forecast, SectionOutages, are_same_intervals, forecast_text}
use Rattle.ob_json.specs.declared.plan.OutageInterval.{OutageInterval}
use Rattle.ob_command.specs.declared.command.Command.{Command}
use Rattle.ob_state.specs.State.{BookState}
use Rattle.ob_state.specs.Amounts.{moves}
use Rattle.ob_state.specs.Next.{next}
use Rattle.ob_state.specs.Refusals.{refusal}
use Rattle.ob_state.specs.Retimings.{runs_in}
use Rattle.ob_book.specs.Acts.{ActState, Referenced, Reply, answer, number_of}

-- a run with the cause that its cutter has in the state
abbrev pub interval_in : BookState → Run → OutageInterval
interval_in b r = record { since = r.since; until = r.until; entry = r.cutter; cause = run_cause b.entries r }

-- the outage intervals of a node in a state, rising; none where the node is a bus, or isn't there yet
abbrev pub intervals_of : BookState → ℕ → List OutageInterval
intervals_of b v = if is_some (home_feeder b.network v) then map (interval_in b) (runs_in b v) else []

-- the name of a node
abbrev pub name_of_node : BookState → ℕ → List ℕ
name_of_node b v = option_map_or (λ n. n.name) (slice_get b.network.nodes v) []

-- a node with its outage intervals in one state and in another; none where they are the same
abbrev pub section_change : BookState → BookState → ℕ → Option SectionOutages
section_change b c v =
    if are_same_intervals (intervals_of b v) (intervals_of c v) then None
    else Some (record { section = name_of_node c v; before = intervals_of b v; after = intervals_of c v })

-- what leads from one state to another: what it moves, and the sections whose outage intervals differ, by rising number
abbrev pub forecast : BookState → BookState → Forecast
forecast b c = record { moved = moves b c; sections = filter_map (section_change b c) (range_with_len 0 (length c.network.nodes)) }

-- what an accepted command would do, as JSON
abbrev pub forecast_text_of : BookState → Command → List ℕ
forecast_text_of b command = forecast_text (forecast b (next b command))

-- by the refusal, where there is one
abbrev pub plan_under : BookState → Command → Option Refusal → Result Forecast Refusal
plan_under b command (Some r) = Err r
plan_under b command None = Ok (forecast b (next b command))

-- the plan of a command: its refusal, or what it would do
abbrev pub plan_of : BookState → Command → Result Forecast Refusal
plan_of b command = plan_under b command (refusal b command)

-- the answer to a command of which a plan says this, where it is the next one that is accepted
abbrev pub answer_planned : ActState → Result Forecast Refusal → Result Reply Refusal
answer_planned b (Ok f) = Ok (record { number = length b.accepted + 1; moved = f.moved })
answer_planned b (Err r) = Err r

-- under a new reference a command is answered what its plan says: the refusal, or what it moves
abbrev pub PlansAreActed : Type 0
PlansAreActed = (b : ActState) (a : Referenced) → number_of b a.reference ≡ None → answer b a ≡ answer_planned b (plan_of b.book a.command)
