-- What an edit of one row asks of the rules, so that nothing but the store can refuse it.
use Rattle.std.proofs.Common.{◌≡◌, List, true, false}
use Rattle.sqlite.specs.Order.{Row}
use Rattle.sqlite.specs.Table as sql
use Rattle.sqlite.specs.Schema.{Schema}
use Rattle.sqlite.specs.Tree.{Trees, rowid, put_row}
use Rattle.sqlite_trees.specs.Tree.{with_tree}
use Rattle.sqlite_trees.specs.View.{is_int, IsStorable, IsStorableRow}
use Rattle.sqlite_sql.specs.Ops.{fits_i64}
use Rattle.sqlite_sql.specs.Catalog.{entry_of}
use Rattle.sqlite_schema.specs.declared.schema.Constraint.TheVariants.{Datatype, NotNull, Check, Unique}
use Rattle.sqlite_schema.specs.declared.schema.Index.{Index}
use Rattle.sqlite_schema.specs.declared.schema.Keys.TheVariants.{Enforced}
use Rattle.sqlite_schema.specs.declared.schema.Among.TheVariants.{All}
use Rattle.sqlite_schema.specs.Rules.{passes, Keeps, Refers, table_reals, index_reals}
use Rattle.sqlite_rules.specs.declared.error.Refusal.{Refusal}
use Rattle.sqlite_rules.specs.Lists.{Has}
use Rattle.sqlite_rules.specs.Edit.{Edit, id_in, is_taken, IsRefused, IsOversized, Applies}

-- no rule refuses the edit, no row of it is too large, and after it each row has its parents
pub record IsLetIn (schema : Schema) (db : Trees) (edit : Edit) : Type 0 where
  pub refused : (why : Refusal) → ¬ (IsRefused schema Enforced db edit why)
  pub sized : (row : Row) → Has edit.news row → ¬ (IsOversized schema edit.table row)
  pub parents : (next : Trees) → Applies schema Enforced db edit next → Refers All schema next

-- the one row that an edit of a table puts among those that it leaves there passes each rule but the foreign keys
pub record Enters (schema : Schema) (db : Trees) (table : sql.Table) (left : List Row) (row : Row) : Type 0 where
  pub keyed : is_int (rowid row) ≡ true
  pub fits : fits_i64 (id_in (rowid row)) ≡ true
  pub typed : passes Datatype schema db table row ≡ true
  pub present : passes NotNull schema db table row ≡ true
  pub checked : passes Check schema db table row ≡ true
  pub free : is_taken left row ≡ false
  pub unique : Keeps Unique schema (with_tree db table.tree (put_row row left))
  pub storable : IsStorableRow (table_reals table) row
  pub entries : (i : Index) → Has schema.indexes i → i.table ≡ table.tree
      → IsStorable (index_reals (table_reals table) i.columns) (entry_of i.columns row)
