use Rattle.std.proofs.Common.{◌≡◌, ◌-◌, map}
use Rattle.serde_json.specs.View.{view}
use Rattle.ob_json.specs.Totals.{row_data}
use Rattle.ob_json.proofs.Rows.{rows_between}
use Rattle.ob_json.proofs.totals.rows.Given as goal

abbrev pub invariant-loop-key : goal.invariant-loop-key
invariant-loop-key l = map view l.rows.items ≡ map row_data (rows_between l.postings l.dim l.initial.key (l.key - l.initial.key))
