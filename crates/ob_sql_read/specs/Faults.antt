-- Why a reading of the tables stops.
use Rattle.std.specs.Prelude.{◌≡◌, ◌≢◌, ◌⊎◌, ℕ, List, Result, Ok, Err}
use Rattle.sqlite.specs.Listing.{understood}
use Rattle.sqlite.specs.Schema.{Schema}
use Rattle.sqlite.specs.State.{State, HasCause}
use Rattle.sqlite_trees.specs.declared.error.StoreError.TheVariants.{Io, Broken}
use Rattle.sqlite_resolve.specs.declared.compiled.Compiled.{Compiled}
use Rattle.ob_base.specs.Stop.{out_of_memory}
use Rattle.ob_base.specs.declared.stop.Stop.{Stop}
use Rattle.ob_base.specs.declared.stop.Stop.TheVariants.{Refused}
use Rattle.ob_base.specs.declared.stop.Refusal.TheVariants.{BadBook}
use Rattle.ob_sql_rows.specs.Steps.{IsStoreFault}

abbrev pub bad_book : Stop
bad_book = Refused BadBook

-- memory was refused, the store failed, or the tables aren't those of a book
abbrev pub IsReadFault : Stop → Type 0
IsReadFault stop = IsStoreFault stop ⊎ (stop ≡ bad_book)

-- memory was refused, the disk failed, or the store was shut before
abbrev pub HasTrouble : State → State → Stop → Type 0
HasTrouble old new stop = (stop ≡ out_of_memory) ⊎ (HasCause old new ⊥ Io ⊎ HasCause old new ⊥ Broken)

-- the tables aren't those of a book, unless other trouble came before
abbrev pub IsMissed : {X : Type 0} → State → State → Result X Stop → Type 0
IsMissed old new (Ok x) = ⊥
IsMissed old new (Err stop) = (stop ≡ bad_book) ⊎ HasTrouble old new stop

-- the schema gives the text no meaning
abbrev pub HasNoMeaning : Schema → List ℕ → Type 0
HasNoMeaning schema sql = (c : Compiled) → understood schema sql ≢ Ok c
