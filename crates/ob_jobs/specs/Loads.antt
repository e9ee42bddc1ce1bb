-- What a job finds before it works: a book that is loaded, and an input or an output that is opened.
use Rattle.std.specs.Prelude.{◌≡◌, ◌⊎◌, Option, Some, None, Result, Ok, Err, IfErr, OnOk}
use Rattle.ob_base.specs.declared.stop.Stop.{Stop}
use Rattle.ob_base.specs.declared.stop.Stop.TheVariants.{Fault}
use Rattle.ob_base.specs.declared.stop.Fault.{Fault as AFault}
use Rattle.ob_stream.specs.Watching.{watched_inner}
use Rattle.ob_stream.specs.declared.watched.Watched.{Watched}
use Rattle.ob_sql_rows.specs.declared.table.Table.{Table}
use Rattle.ob_store.specs.Calls.{Audited, CommitsNothing, Loads, OnOldTables, OnTables, Outdated, ReadAnswers, WasClean}
use Rattle.ob_store.specs.Keepers.{Ghosts, book_of}
use Rattle.ob_store.specs.Keeping.{IsBookAfter}
use Rattle.ob_store.specs.Versions.{IsLoadFault}
use Rattle.ob_store.specs.declared.keeper.Keeper.{Keeper}

-- something was opened and this was done with it; or it could not be opened, which is answered as this fault, and nothing was done
abbrev pub OpensThen : {A I X : Type 0} → (A → Option I → A → Type 0) → AFault → (Watched I → Result X Stop → Type 0) → Type 0
    → A → A → Result X Stop → Type 0
OpensThen {A} {I} opens fault Works Nothing was is done =
    (opens was None is × (done ≡ Err (Fault fault)) × Nothing)
    ⊎ ((opened : Watched I) × opens was (Some (watched_inner opened)) is × Works opened done)

-- something was taken and then this was done with it; or it could not be taken, which is answered, and nothing was done
abbrev pub TakesThen : {A I X : Type 0} → (A → Result I Stop → A → Type 0) → (I → A → Result X Stop → Type 0) → Type 0
    → A → A → Result X Stop → Type 0
TakesThen {A} {I} takes Works Nothing was is done =
    ((stop : Stop) × takes was (Err stop) is × (done ≡ Err stop) × Nothing)
    ⊎ ((taken : I) × (mid : A) × takes was (Ok taken) mid × Works taken mid done)

module _ {S T : Type 0} {g : Ghosts S} where
  -- a comparison of the tables with the commands in them: what differs, or why there is no answer
  pub record AuditOf (old new : Keeper S T g) (found : Result (Option Table) Stop) : Type 0 where
    pub kept : OnOk found (book_of new ≡ book_of old)
    pub dropped : IfErr found (IsBookAfter (book_of old) (book_of new))
    pub stops : IfErr found IsLoadFault
    pub clean : WasClean old new
    pub survives : CommitsNothing old new
    pub answers : ReadAnswers old new found
    pub audited : OnTables old new (Audited old new found)
    pub outdated : OnOldTables old new (Outdated old new found)

  -- the book of the tables was loaded, and then this was done over it; or none was loaded, which is answered, and nothing was done
  abbrev pub LoadsThen : {X : Type 0} → (Keeper S T g → Result X Stop → Type 0) → Type 0 → Keeper S T g → Keeper S T g
      → Result X Stop → Type 0
  LoadsThen Works Nothing old new done =
      ((stop : Stop) × Loads old new (Err stop) × (done ≡ Err stop) × Nothing)
      ⊎ ((mid : Keeper S T g) × Loads old mid (Ok tt) × Works mid done)
