-- The rows of each table by rising key, and a table compared with the rows that are expected of it.
use Rattle.std.specs.Prelude.{◌≡◌, ◌≢◌, Bool, false, List, [], ◌∷◌, Option, Some, None, Result, IsTrue, IfOk, IfErr, OnOk, ◌↔◌}
use Rattle.std.specs.List.Sorted.{IsPermutation}
use Rattle.std.specs.declared.cmp.Ordering.{Ordering}
use Rattle.sqlite.specs.Query.{output_cmp}
use Rattle.sqlite.specs.State.{HasCleanDisk, IsUnchanged, Survives}
use Rattle.sqlite_trees.specs.declared.store.Store.{Ghosts}
use Rattle.sqlite.specs.Held.{Held, state}
use Rattle.ob_base.specs.declared.stop.Stop.{Stop}
use Rattle.ob_sql_rows.specs.Listings.{keys_of, names_of, select_of}
use Rattle.ob_sql_rows.specs.Rows.{Columns, Tables}
use Rattle.ob_sql_rows.specs.declared.table.Table.{Table}
use Rattle.ob_sql_rows.specs.Steps.{HasFaultCause}
use Rattle.ob_sql_rows.specs.Versions.{schema_of}
use Rattle.ob_sql_rows.specs.declared.version.Version.{Version}
use Rattle.ob_sql_write.specs.Keeps.{KeepsIn}
use Rattle.ob_record.specs.Tables.{Shows}
use Rattle.ob_sql_read.specs.Faults.{HasNoMeaning, IsMissed, IsReadFault, bad_book}
use Rattle.ob_sql_read.specs.Listing.{Listing, list_query, keyed}

-- the rows of a table by rising key
abbrev pub listing_of : Table → Listing
listing_of table = record { table = table; keys = keys_of table; names = names_of table; text = select_of table }

-- rows in the order of the key
abbrev pub row_cmp : Table → Columns → Columns → Ordering
row_cmp table a b =
    output_cmp (list_query (listing_of table)) (keyed (listing_of table) a) (keyed (listing_of table) b)

-- what stands at places, of which some are empty
abbrev pub standing : {X : Type 0} → List (Option X) → List X
standing [] = []
standing (None ∷ places) = standing places
standing (Some x ∷ places) = x ∷ standing places

module _ {S : Type 0} (g : Ghosts S) (v : Version) where
  -- a table of a version was compared with rows that are expected; nothing was written
  pub record Compares (table : Table) (expected : List Columns) (old new : Held S) (result : Result Bool Stop) : Type 0 where
    pub mode : old.in_transaction ≡ false → new.in_transaction ≡ false
    pub survives : Survives (state g old) (state g new) (λ _. ⊥)
    -- whatever it answers, a store that keeps tables keeps them
    pub kept : (t : Tables) → KeepsIn v (state g old) t → KeepsIn v (state g new) t
    pub clean : HasCleanDisk (state g new) → HasCleanDisk (state g old)
    pub faults : IfErr result IsReadFault
    -- over the tables of the version the store is told to have failed only where it has
    pub cause : HasCleanDisk (state g new) → old.schema ≡ schema_of v → HasFaultCause (state g old) (state g new) result
    -- it is refused only where the tables aren't those of the version
    pub foreign : HasCleanDisk (state g new) → IfErr result (λ stop. stop ≡ bad_book → old.schema ≢ schema_of v)
    -- and it is refused where the schema has no such table, unless other trouble came before
    pub missed : HasNoMeaning old.schema (select_of table) → Survives (state g old) (state g new) (λ _. ⊥)
        × (HasCleanDisk (state g new) → IsMissed (state g old) (state g new) result)
    pub same : HasCleanDisk (state g new) → OnOk result (old.schema ≡ schema_of v → IsUnchanged (state g old) (state g new))
    -- the table has just these rows, in some order
    pub holds : HasCleanDisk (state g new) → IfOk result (λ is. old.schema ≡ schema_of v → (rows : List Columns)
        → Shows (state g old).now.trees table rows → IsTrue is ↔ IsPermutation rows expected)
