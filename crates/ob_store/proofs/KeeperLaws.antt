-- What follows for the crates above from what a keeper's store keeps.
use Rattle.std.proofs.Common.{◌≡◌, inl, inr, ℕ, true, false, Ok, arith, ap, length, subst, sym, ◌∙◌}
use Rattle.ob_book.specs.Acts.{ActState}
use Rattle.ob_sql_rows.specs.Creation.{old_schema}
use Rattle.ob_sql_rows.specs.Schema.{book_schema, no_schema}
use Rattle.ob_sql_rows.specs.declared.version.Version.TheVariants.{One}
use Rattle.ob_sql_write.specs.Keeps.{IsSettledIn, Leaves}
use Rattle.ob_sql_write.proofs.Commits.{numbers_survive}
use Rattle.ob_record.specs.Tables.{tables_of}
use Rattle.ob_sql_check.specs.OldTables.{HasOldBook, old_tables_of}
use Rattle.sqlite.specs.Held.{state}
use Rattle.ob_store.specs.Calls.{CommitsNothing, MigratesOldTables, WasEmpty}
use Rattle.ob_store.specs.Keepers.{CrashLeaves, Ghosts, HasOldTables, IsClean, IsOpen, StatesOld, Stores, StoresEither, StoresEitherVersion, StoresNumbers, StoresOld}
use Rattle.ob_store.specs.declared.keeper.Keeper.{Keeper}
use Rattle.ob_store.specs.Loading.{trees_in}
use Rattle.ob_store.proofs.OldBooks.{has_one}
use Rattle.ob_store.proofs.Upgrading.{two_versions}

not_empty : book_schema ≡ no_schema → ⊥
not_empty e = let n : ◌≡◌ {A = ℕ} 11 0 = ap (λ s. length s.tables) e in omega (arith, n)

not_empty_old : old_schema ≡ no_schema → ⊥
not_empty_old e = let n : ◌≡◌ {A = ℕ} 10 0 = ap (λ s. length s.tables) e in omega (arith, n)

module _ {S T : Type 0} {g : Ghosts S} where
  -- ---- what a crash leaves

  -- a crash leaves the book that is kept
  pub stored_left : {I : Type 0} (k : Keeper S T g) (books : I → ActState) (b : ActState) (i : I) → Stores k b → b ≡ books i → CrashLeaves k books
  stored_left k books b i keeps is clean trees may = (i, subst (λ (x : ActState). Leaves (tables_of x) trees) is (keeps.kept.left clean trees may))

  -- or one of the two that may be
  pub either_left : {I : Type 0} (k : Keeper S T g) (books : I → ActState) (b c : ActState) (i j : I) → StoresEither k b c → b ≡ books i → c ≡ books j → CrashLeaves k books
  either_left k books b c i j keeps first second clean trees may = elim (keeps.kept.left clean trees may) [
    | inl one ↦ (i, subst (λ (x : ActState). Leaves (tables_of x) trees) first one)
    | inr other ↦ (j, subst (λ (x : ActState). Leaves (tables_of x) trees) second other)
  ]

  -- hidden row numbers stay where nothing was committed
  pub numbers_stay : (old new : Keeper S T g) → CommitsNothing old new → StoresNumbers old → StoresNumbers new
  numbers_stay old new = numbers_survive (state g old.parts.conn) (state g new.parts.conn)

  -- ---- a book of version 1

  -- what is kept in the tables of version 1 is so in those of either version
  pub as_either_version : (k : Keeper S T g) (b : ActState) → StoresOld k b → StoresEitherVersion k b
  as_either_version k b keeps = record {
    kept = record { settled = keeps.kept.settled; left = λ clean trees may. inl (keeps.kept.left clean trees may) };
    reached = keeps.reached;
    valid = keeps.valid;
  }

  module _ (k : Keeper S T g) (b : ActState) (keeps : StoresEitherVersion k b) (clean : IsClean k) (live : IsOpen k) where
    settled_old : IsSettledIn One (state g k.parts.conn) (old_tables_of b)
    settled_old = keeps.kept.settled clean live

    has_old_book : HasOldBook (trees_in g k.parts.conn) b
    has_old_book = record { reached = keeps.reached; valid = keeps.valid; tables = settled_old.holds.rows }

    -- an open store shows the tables of version 1
    pub shows_old : HasOldTables k
    shows_old = settled_old.schema

    -- their heading states it
    pub states_old : StatesOld k
    states_old = has_one (trees_in g k.parts.conn) b has_old_book

    -- where they became those of version 2, they are the book's
    pub migrated_stores : (new : Keeper S T g) → MigratesOldTables k new (Ok true) → Stores new b
    migrated_stores new made = subst (λ (x : ActState). Stores new x) (sym (made.1.1 b has_old_book)) made.2

    -- they were not of version 2 before
    pub migrated_never : (new : Keeper S T g) → MigratesOldTables k new (Ok false) → ⊥
    migrated_never new told = two_versions (trees_in g k.parts.conn) states_old told.0

  -- ---- a database that held nothing kept no book

  module _ (old new : Keeper S T g) (b : ActState) (was_clean : IsClean old) (clean : IsClean new) (empty : WasEmpty old new) where
    pub none_stored : Stores old b → ⊥
    none_stored keeps = not_empty (sym (keeps.kept.settled was_clean (empty.live clean)).schema ∙ empty.schema)

    pub none_of_two : (c : ActState) → StoresEither old b c → ⊥
    none_of_two c keeps = not_empty (sym (keeps.kept.settled was_clean (empty.live clean)).schema ∙ empty.schema)

    pub none_of_versions : StoresEitherVersion old b → ⊥
    none_of_versions keeps = not_empty_old (sym (shows_old old b keeps was_clean (empty.live clean)) ∙ empty.schema)
