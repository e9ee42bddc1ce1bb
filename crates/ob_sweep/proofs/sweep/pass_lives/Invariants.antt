use Rattle.std.proofs.Common.{◌≡◌, ◌≤◌, ◌+◌, ◌-◌, ℕ, List, length, map}
use Rattle.ob_net.specs.Network.{as_of}
use Rattle.ob_sheet.specs.declared.Entry.{Entry}
use Rattle.ob_sheet.specs.Positions.{entered}
use Rattle.ob_sweep.specs.Steps.{IsSupplyAt, all_runs_until}
use Rattle.ob_sweep.specs.Turns.{turns_between}
use Rattle.ob_sweep.proofs.Sweeps.{AllEarlier}
use Rattle.ob_sweep.proofs.sweep.pass_lives.Given as goal

abbrev pub invariant-loop-alloc : goal.invariant-loop-alloc
invariant-loop-alloc l =
    let whole = l.fn.net.network in
    record {
      on : l.from ≤ l.at;
      up : l.at ≤ l.to;
      unchanged : l.net.network ≡ whole;
      node_room : l.net.node_room ≡ l.fn.net.node_room;
      device_room : l.net.device_room ≡ l.fn.net.device_room;
      counted : l.net.searches ≤ l.fn.net.searches + turns_between whole l.from l.at;
      long : length l.lists ≡ length l.fn.lists;
      was : IsSupplyAt whole (as_of whole.devices l.at l.entered) l.before;
      runs : (first : ℕ) (set : List Entry) → first ≤ l.from → AllEarlier (l.from + 1) set → l.entered ≡ entered whole set
          → map (λ r. r.items) l.fn.lists ≡ all_runs_until whole set l.from first l.end → map (λ r. r.items) l.lists ≡ all_runs_until whole set l.at first l.end;
    }

abbrev pub decreases-loop-alloc : goal.decreases-loop-alloc
decreases-loop-alloc l = l.to - l.at
