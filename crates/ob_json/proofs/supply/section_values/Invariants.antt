use Rattle.std.proofs.Common.{◌≡◌, map, take}
use Rattle.serde_json.specs.View.{view}
use Rattle.ob_json.specs.Supplies.{unsupplied_data}
use Rattle.ob_json.proofs.supply.section_values.Given as goal

abbrev pub invariant-loop-section : goal.invariant-loop-section
invariant-loop-section l = map view l.values.items ≡ map unsupplied_data (take l.section-index l.sections)
