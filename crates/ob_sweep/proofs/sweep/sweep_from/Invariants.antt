use Rattle.std.proofs.Common.{◌≡◌, ◌≤◌, ◌<◌, ◌+◌, ◌++◌, ℕ, List, get_or, length, take, map}
use Rattle.ob_net.specs.Network.{as_of}
use Rattle.ob_sheet.specs.declared.Entry.{Entry}
use Rattle.ob_sweep.specs.Steps.{ArePositionsBefore, IsSupplyAt}
use Rattle.ob_sweep.specs.Turns.{turns_between}
use Rattle.ob_sweep.proofs.Swept.{Swept}
use Rattle.ob_sweep.proofs.sweep.sweep_from.Given as goal

abbrev pub invariant-loop-step : goal.invariant-loop-step
invariant-loop-step l =
    let whole = l.fn.net.network in
    record {
      unchanged : l.net.network ≡ whole;
      node_room : l.net.node_room ≡ l.fn.net.node_room;
      device_room : l.net.device_room ≡ l.fn.net.device_room;
      counted : l.net.searches ≤ l.fn.net.searches + (1 + l.step-index + turns_between whole l.first l.at);
      from : l.first ≤ l.at;
      below : l.at < l.end;
      onwards : (k : ℕ) (d : Entry) → l.step-index ≤ k → k < length l.steps → l.at ≤ (get_or l.steps k d).second;
      positions : length l.entered.items ≡ length whole.devices;
      count : length l.lists.items ≡ length whole.nodes;
      was : IsSupplyAt whole (as_of whole.devices l.at l.entered.items) l.supply;
      done : (base : List Entry) → ArePositionsBefore whole base l.first l.steps l.fn.entered.items
          → Swept whole (base ++ take l.step-index l.steps) l.at l.first l.end l.entered.items (map (λ r. r.items) l.lists.items);
    }
