use Rattle.std.proofs.Common.{◌≡◌, map, take}
use Rattle.serde_json.specs.View.{view}
use Rattle.ob_json.specs.Plans.{interval_data}
use Rattle.ob_json.proofs.plan.intervals.Given as goal

abbrev pub invariant-loop-interval : goal.invariant-loop-interval
invariant-loop-interval l = map view l.values.items ≡ map interval_data (take l.interval-index l.list)
