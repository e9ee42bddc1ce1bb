use Rattle.std.proofs.Common.{◌≡◌, ℕ, ◌<◌, length, map, slice_index_or}
use Rattle.sqlite_value.specs.declared.value.Value.{Value}
use Rattle.ob_sql_rows.specs.Fields.{held}
use Rattle.ob_sql_rows.proofs.fields.has_fields.Given as goal

abbrev pub invariant-columns : goal.invariant-columns
invariant-columns l =
    (length l.row ≡ length l.fields)
    × ((i : ℕ) (d : Value) → i < l.at → slice_index_or l.row i d ≡ slice_index_or (map held l.fields) i d)
