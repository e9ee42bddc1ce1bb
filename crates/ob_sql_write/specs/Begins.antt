-- What a store shows and a crash leaves once the tables of a new book were to be made.
use Rattle.std.specs.Prelude.{◌≡◌, ◌⊎◌, IsTrue}
use Rattle.sqlite.specs.Tree.{Trees}
use Rattle.sqlite.specs.State.{State, HasCleanDisk, Survives}
use Rattle.ob_sql_rows.specs.Schema.{no_schema}
use Rattle.ob_sql_rows.specs.Rows.{Tables}
use Rattle.ob_sql_write.specs.Keeps.{Leaves}

-- it was open, it shows what it showed, and has committed what it had
pub record ShowsAsBefore (old new : State) : Type 0 where
  pub was_open : IsTrue old.is_open
  pub now : new.now ≡ old.now
  pub committed : new.committed ≡ old.committed

-- while it is open it shows what it showed; a crash leaves no more than before
pub record Stays (old new : State) : Type 0 where
  pub shown : HasCleanDisk new → IsTrue new.is_open → ShowsAsBefore old new
  pub survives : Survives old new (λ _. ⊥)

-- it was open and its database held nothing, and these are the trees of a whole database of these tables
abbrev pub Begins : State → Tables → Trees → Type 0
Begins old tables trees = IsTrue old.is_open × (old.now.schema ≡ no_schema) × Leaves tables trees

-- while it is open it shows what it showed; a crash leaves what it left before, or these tables where nothing was
pub record StaysOrBegins (old new : State) (tables : Tables) : Type 0 where
  pub shown : HasCleanDisk new → IsTrue new.is_open → ShowsAsBefore old new
  pub left : HasCleanDisk new → (trees : Trees) → new.may_leave trees → old.may_leave trees ⊎ Begins old tables trees
