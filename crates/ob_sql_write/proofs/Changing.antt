-- What a command makes of the rows, once it is known what it comes to.
use Rattle.std.proofs.Common.{◌≡◌, sym, subst}
use Rattle.std.specs.Prelude.{Result}
use Rattle.std.specs.Borrow.{MutBor}
use Rattle.sqlite_trees.specs.declared.store.Store.{Ghosts}
use Rattle.sqlite.specs.Held.{Held}
use Rattle.ob_base.specs.declared.stop.Stop.{Stop}
use Rattle.ob_state.specs.declared.resolved.Resolved.{Resolved}
use Rattle.ob_sql_rows.specs.Steps.{Changes}
use Rattle.ob_sql_write.specs.Changing.{LetsRow, NeedsRow, rows_by}

pub changes_as : {S X : Type 0} (g : Ghosts S) (old new : MutBor (Held S)) (result : Result X Stop) (x y : Resolved) → x ≡ y
    → Changes g old new result (NeedsRow y) (LetsRow y) (rows_by y) → Changes g old new result (NeedsRow x) (LetsRow x) (rows_by x)
changes_as g old new result x y same = subst (λ it. Changes g old new result (NeedsRow it) (LetsRow it) (rows_by it)) (sym same)
