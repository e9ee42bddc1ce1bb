use Rattle.std.proofs.Common.{◌≡◌, length, map, take}
use Rattle.sqlite.specs.Values.{bound}
use Rattle.ob_sql_rows.specs.Fields.{held}
use Rattle.ob_sql_rows.proofs.fields.values.Given as goal

abbrev pub invariant-fields : goal.invariant-fields
invariant-fields l = (length l.values ≡ 8) × (bound (take l.at l.values) ≡ map held (take l.at l.fields))
