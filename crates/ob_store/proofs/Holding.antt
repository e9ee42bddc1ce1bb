-- What a keeper that read its tables has then.
use Rattle.std.proofs.Common.{◌≡◌, ◌≢◌, ◌⊎◌, inl, inr, Option, Some, None, Result, Ok, Err, refl, sym, ap, subst, ◌∙◌, IsTrue}
use Rattle.sqlite_trees.specs.declared.store.Store.{Ghosts}
use Rattle.sqlite.specs.Tree.{Trees}
use Rattle.sqlite.specs.Effect.{Database}
use Rattle.sqlite.specs.Held.{Held, state}
use Rattle.sqlite_catalog.specs.Listing.{IsSound}
use Rattle.sqlite.specs.State.{HasCleanDisk, IsLive}
use Rattle.ob_base.specs.declared.stop.Stop.{Stop}
use Rattle.ob_base.specs.declared.stop.Stop.TheVariants.{Fault}
use Rattle.ob_base.specs.declared.stop.Fault.TheVariants.{Store}
use Rattle.ob_state.specs.State.{BookState}
use Rattle.ob_book.specs.Acts.{ActState}
use Rattle.ob_sql_rows.specs.Schema.{book_schema}
use Rattle.ob_sql_rows.specs.Rows.{AreApart, Holds}
use Rattle.ob_sql_rows.specs.declared.table.Table.{Table}
use Rattle.ob_sql_write.specs.Keeps.{Keeps}
use Rattle.ob_record.specs.Tables.{tables_of}
use Rattle.ob_sql_rows.specs.Creation.{old_schema}
use Rattle.ob_sql_read.specs.Reading.{bad_book}
use Rattle.ob_sql_read.specs.Version.{IsOfBook}
use Rattle.ob_store.specs.Keeping.{IsBookAfter, KeeperValue, Ties}
use Rattle.ob_store.specs.Finding.{HasBook, HasNoBook, OnlyReads, ShowsTheSame}
use Rattle.ob_store.specs.Versions.{IsLoadFault, IsOutdated, Outdated, Tells, old_version}
use Rattle.ob_store.proofs.Dropping.{by_after}
use Rattle.ob_store.proofs.Reading.{no_more}
use Rattle.ob_store.specs.Loading.{Audited, Finding, Holding, HoldsNoBook, Loaded, trees_in}

module _ {S : Type 0} (g : Ghosts S) {X : Type 0} (Good : Trees → X → Type 0) (Bad : Trees → Type 0) (old new : Held S) (clean : HasCleanDisk (state g new)) where
  only_reads : (r : Result X Stop) → Tells g Good Bad old new r → OnlyReads g old new
  only_reads r it = record {
    kept = λ b k. record { kept = it.kept (tables_of b) k.kept; reached = k.reached; valid = k.valid };
    left = no_more (state g old) (state g new) it.survives clean;
  }

  shows_the_same : old.schema ≡ book_schema → (x : X) → Tells g Good Bad old new (Ok x) → ShowsTheSame g old new
  shows_the_same schema x it = (only_reads (Ok x) it, (it.same clean schema).0.now_is)

  shows_the_bad : IsOfBook old.schema → (stop : Stop) → (stop ≡ bad_book) ⊎ (stop ≡ old_version) → Tells g Good Bad old new (Err stop) → ShowsTheSame g old new
  shows_the_bad of stop is it = (only_reads (Err stop) it, it.same_bad clean is of)

-- what was told of a version, and over the tables of version 1
module _ {S : Type 0} (g : Ghosts S) {X : Type 0} (Good : Trees → X → Type 0) (Bad : Trees → Type 0) (old new : KeeperValue S) (clean : HasCleanDisk (state g new.conn)) where
  is_outdated : IsOfBook old.conn.schema → Tells g Good Bad old.conn new.conn (Err old_version) → new.book ≡ old.book → IsOutdated g old new
  is_outdated of it book = (it.outdated clean refl of, shows_the_bad g Good Bad old.conn new.conn clean of old_version (inr refl) it, book)

  module _ (Y : Type 0) (schema : old.conn.schema ≡ old_schema) where
    outdated_fault : (stop : Stop) → IsLoadFault stop → stop ≢ Fault Store → Tells g Good Bad old.conn new.conn (Err stop) → new.book ≡ old.book → Outdated g {X = Y} old new (Err stop)
    outdated_fault stop (inl (inl (inl memory))) other it book =
        subst (λ s. Outdated g {X = Y} old new (Err s)) (sym memory) (only_reads g Good Bad old.conn new.conn clean (Err stop) it, book)
    outdated_fault stop (inl (inl (inr store))) other it book = absurd (other store)
    outdated_fault stop (inl (inr bad)) other it book =
        subst (λ s. Outdated g {X = Y} old new (Err s)) (sym bad) (it.lacking clean bad schema, shows_the_bad g Good Bad old.conn new.conn clean (inr schema) stop (inl bad) it, book)
    outdated_fault stop (inr is) other it book =
        let at : Tells g Good Bad old.conn new.conn (Err old_version) = subst (λ s. Tells g Good Bad old.conn new.conn (Err s)) is it in
        subst (λ s. Outdated g {X = Y} old new (Err s)) (sym is) (refl, is_outdated (inr schema) at book)

    -- the tables of version 1 are those of no book
    pub outdated_ok : (x : X) → Tells g Good Bad old.conn new.conn (Ok x) → (y : Y) → Outdated g {X = Y} old new (Ok y)
    outdated_ok x it y = absurd (it.never clean schema)

    -- memory was refused, the book is of version 1, or its tables are those of no book
    outdated_err : (stop : Stop) → stop ≢ Fault Store → Tells g Good Bad old.conn new.conn (Err stop) → new.book ≡ old.book → Outdated g {X = Y} old new (Err stop)
    outdated_err stop other it book = outdated_fault stop it.faults other it book

    -- the store failed
    outdated_store : Tells g Good Bad old.conn new.conn (Err (Fault Store)) → new.book ≡ None → Outdated g {X = Y} old new (Err (Fault Store))
    outdated_store it book = (only_reads g Good Bad old.conn new.conn clean (Err (Fault Store)) it, book)

    pub outdated_stopped : (stop : Stop) → Tells g Good Bad old.conn new.conn (Err stop) → IsBookAfter old.book new.book stop → Outdated g {X = Y} old new (Err stop)
    outdated_stopped stop it book =
        by_after old.book new.book stop (λ s. Tells g Good Bad old.conn new.conn (Err s) → Outdated g {X = Y} old new (Err s)) book
        (λ other same told. outdated_err stop other told same) (λ none told. outdated_store told none) it

module _ {S : Type 0} (g : Ghosts S) (old new : KeeperValue S) (schema : old.conn.schema ≡ book_schema) (clean : HasCleanDisk (state g new.conn)) where
  -- the first table that differs was found, or none
  pub audited_ok : (found : Option Table) → Tells g Finding HasNoBook old.conn new.conn (Ok found) → new.book ≡ old.book → Audited g old new (Ok found)
  audited_ok found it book =
      let good = it.good clean schema in
      (good.0, good.1, shows_the_same g Finding HasNoBook old.conn new.conn clean schema found it, book)

  audited_fault : (stop : Stop) → IsLoadFault stop → stop ≢ Fault Store → Tells g Finding HasNoBook old.conn new.conn (Err stop) → new.book ≡ old.book → Audited g old new (Err stop)
  audited_fault stop (inl (inl (inl memory))) other it book =
      subst (λ s. Audited g old new (Err s)) (sym memory) (only_reads g Finding HasNoBook old.conn new.conn clean (Err stop) it, book)
  audited_fault stop (inl (inl (inr store))) other it book = absurd (other store)
  audited_fault stop (inl (inr bad)) other it book =
      let none = it.bad clean bad schema in
      subst (λ s. Audited g old new (Err s)) (sym bad) (none.0, none.1, shows_the_bad g Finding HasNoBook old.conn new.conn clean (inl schema) stop (inl bad) it, book)
  audited_fault stop (inr is) other it book =
      let at : Tells g Finding HasNoBook old.conn new.conn (Err old_version) = subst (λ s. Tells g Finding HasNoBook old.conn new.conn (Err s)) is it in
      subst (λ s. Audited g old new (Err s)) (sym is) (refl, is_outdated g Finding HasNoBook old new clean (inl schema) at book)

  -- memory was refused, the book is of version 1, or the tables name no book
  audited_err : (stop : Stop) → stop ≢ Fault Store → Tells g Finding HasNoBook old.conn new.conn (Err stop) → new.book ≡ old.book → Audited g old new (Err stop)
  audited_err stop other it book = audited_fault stop it.faults other it book

  -- the store failed
  audited_store : Tells g Finding HasNoBook old.conn new.conn (Err (Fault Store)) → new.book ≡ None → Audited g old new (Err (Fault Store))
  audited_store it book = (only_reads g Finding HasNoBook old.conn new.conn clean (Err (Fault Store)) it, book)

  pub audited_stopped : (stop : Stop) → Tells g Finding HasNoBook old.conn new.conn (Err stop) → IsBookAfter old.book new.book stop → Audited g old new (Err stop)
  audited_stopped stop it book =
      by_after old.book new.book stop (λ s. Tells g Finding HasNoBook old.conn new.conn (Err s) → Audited g old new (Err s)) book
      (λ other same told. audited_err stop other told same) (λ none told. audited_store told none) it

-- the same of a book that was loaded
module _ {S : Type 0} (g : Ghosts S) {B : Type 0} (state_of : B → BookState) (old new : KeeperValue S) (schema : old.conn.schema ≡ book_schema) (clean : HasCleanDisk (state g new.conn)) where
  abbrev Good : Trees → B → Type 0
  Good trees book = Holding trees (state_of book)

  keeps_so : (book : B) (it : Tells g Good HoldsNoBook old.conn new.conn (Ok book)) → IsLive (state g old.conn) → (IsTrue (state g old.conn).is_open → (state g old.conn).now ≡ (state g old.conn).committed)
      → (IsTrue (state g new.conn).is_open → (trees : Trees) → (state g new.conn).may_leave trees → trees ≡ (state g new.conn).committed.trees)
      → (b : ActState) → HasBook (trees_in g old.conn) b → AreApart (trees_in g old.conn 14) → Keeps (state g new.conn) (tables_of b)
  keeps_so book it live settled leaves b has apart =
      let same = it.same clean schema in
      let now = same.0.now_is in
      let committed : (state g new.conn).committed ≡ (state g new.conn).now = same.0.committed_is ∙ sym (settled same.0.was_open) ∙ sym now in
      let schema_is : (state g new.conn).now.schema ≡ book_schema = ap (λ (d : Database). d.schema) now ∙ schema in
      let holds : Holds (state g new.conn).now.trees (tables_of b) = subst (λ (d : Database). Holds d.trees (tables_of b)) (sym now) (record { rows = has.1; apart = apart }) in
      record {
        settled = λ tidy live. record { schema = schema_is; committed = committed; holds = holds };
        left = λ tidy trees may.
            let is : trees ≡ (state g new.conn).now.trees = leaves same.0.is_open trees may ∙ ap (λ (d : Database). d.trees) committed in
            let whole : IsSound (state g new.conn).now.schema (state g new.conn).now.trees = subst (λ (d : Database). IsSound d.schema d.trees) (sym now) (live same.0.was_open).0 in
            record {
              sound = subst (IsSound book_schema) (sym is) (subst (λ s. IsSound s (state g new.conn).now.trees) schema_is whole);
              holds = subst (λ t. Holds t (tables_of b)) (sym is) holds;
            };
      }

  -- the book of the tables was found
  pub loaded_ok : (book : B) → Tells g Good HoldsNoBook old.conn new.conn (Ok book) → IsLive (state g old.conn) → (IsTrue (state g old.conn).is_open → (state g old.conn).now ≡ (state g old.conn).committed)
      → (IsTrue (state g new.conn).is_open → (trees : Trees) → (state g new.conn).may_leave trees → trees ≡ (state g new.conn).committed.trees)
      → new.book ≡ Some (state_of book) → Loaded g old new (Ok tt)
  loaded_ok book it live settled leaves is =
      let found = (it.good clean schema).1 in
      let b = found.0 in
      let keeps = keeps_so book it live settled leaves b found.1 found.3 in
      let book_is : new.book ≡ Some b.book = is ∙ ap Some found.4 in
      let ties : Ties g new b = record { kept = record { kept = keeps; reached = found.1.0.reached; valid = found.1.0.valid }; book = subst (λ (o : Option BookState). Rattle.std.specs.Prelude.IfSome o (λ s. s ≡ b.book)) (sym book_is) refl } in (
        b,
        found.1,
        found.2,
        shows_the_same g Good HoldsNoBook old.conn new.conn clean schema book it,
        ties,
        book_is,
      )

  loaded_fault : (stop : Stop) → IsLoadFault stop → stop ≢ Fault Store → Tells g Good HoldsNoBook old.conn new.conn (Err stop) → new.book ≡ old.book → Loaded g old new (Err stop)
  loaded_fault stop (inl (inl (inl memory))) other it book =
      subst (λ s. Loaded g old new (Err s)) (sym memory) (only_reads g Good HoldsNoBook old.conn new.conn clean (Err stop) it, book)
  loaded_fault stop (inl (inl (inr store))) other it book = absurd (other store)
  loaded_fault stop (inl (inr bad)) other it book =
      let none = it.bad clean bad schema in
      subst (λ s. Loaded g old new (Err s)) (sym bad) (none.0, none.1, shows_the_bad g Good HoldsNoBook old.conn new.conn clean (inl schema) stop (inl bad) it, book)
  loaded_fault stop (inr is) other it book =
      let at : Tells g Good HoldsNoBook old.conn new.conn (Err old_version) = subst (λ s. Tells g Good HoldsNoBook old.conn new.conn (Err s)) is it in
      subst (λ s. Loaded g old new (Err s)) (sym is) (refl, is_outdated g Good HoldsNoBook old new clean (inl schema) at book)

  -- memory was refused, the book is of version 1, or the tables are those of no book
  loaded_err : (stop : Stop) → stop ≢ Fault Store → Tells g Good HoldsNoBook old.conn new.conn (Err stop) → new.book ≡ old.book → Loaded g old new (Err stop)
  loaded_err stop other it book = loaded_fault stop it.faults other it book

  -- the store failed
  loaded_store : Tells g Good HoldsNoBook old.conn new.conn (Err (Fault Store)) → new.book ≡ None → Loaded g old new (Err (Fault Store))
  loaded_store it book = (only_reads g Good HoldsNoBook old.conn new.conn clean (Err (Fault Store)) it, book)

  pub loaded_stopped : (stop : Stop) → Tells g Good HoldsNoBook old.conn new.conn (Err stop) → IsBookAfter old.book new.book stop → Loaded g old new (Err stop)
  loaded_stopped stop it book =
      by_after old.book new.book stop (λ s. Tells g Good HoldsNoBook old.conn new.conn (Err s) → Loaded g old new (Err s)) book
      (λ other same told. loaded_err stop other told same) (λ none told. loaded_store told none) it
