use Rattle.std.proofs.Common.{◌≡◌, map, take}
use Rattle.serde_json.specs.View.{view}
use Rattle.ob_json.specs.Indices.{index_data}
use Rattle.ob_json.proofs.indices.list.Given as goal

abbrev pub invariant-loop-fraction : goal.invariant-loop-fraction
invariant-loop-fraction l = map view l.values.items ≡ map index_data (take l.fraction-index l.indices)
