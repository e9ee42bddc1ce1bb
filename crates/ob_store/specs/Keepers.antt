-- What a keeper has of a book, as the crates above state it: no store, table or file is named by them. A keeper's type says which
-- store it is over, so these words take the keeper alone.
use Rattle.std.specs.Prelude.{◌≡◌, ◌≤◌, ℕ, Option, None, IsSome, IsTrue}
pub use Rattle.sqlite_trees.specs.declared.store.Store.{Ghosts}
use Rattle.sqlite.specs.Tree.{Trees}
use Rattle.sqlite.specs.Held.{Held, state}
use Rattle.sqlite.specs.State.{HasCleanDisk, IsLive}
use Rattle.ob_state.specs.State.{BookState}
use Rattle.ob_book.specs.Acts.{ActState}
use Rattle.ob_sql_rows.specs.Creation.{old_schema}
use Rattle.ob_sql_rows.specs.Schema.{book_schema, no_schema}
use Rattle.ob_sql_write.specs.Keeps.{KeepsNumbers, Leaves}
use Rattle.ob_sql_read.specs.Version.{HasVersion}
use Rattle.ob_record.specs.Tables.{tables_of}
use Rattle.ob_store.specs.Keeping as keeping
use Rattle.ob_store.specs.Keeping.{KeepsBook, KeepsEitherBook, KeepsEitherVersion, KeepsOldBook}
use Rattle.ob_store.specs.Loading.{trees_in}
use Rattle.ob_store.specs.declared.keeper.Keeper.{Keeper}

module _ {S T : Type 0} {g : Ghosts S} where
  -- the state of its book, where there is one
  abbrev pub book_of : Keeper S T g → Option BookState
  book_of k = k.parts.book

  -- its connection to the store
  abbrev pub connection_of : Keeper S T g → Held S
  connection_of k = k.parts.conn

  -- how often the network of that book was searched since the book was made; 0 where there is no book
  abbrev pub searches_of : Keeper S T g → ℕ
  searches_of k = k.parts.searches

  -- its store and its book are as they were; only the network of the book may have been searched
  abbrev pub OnlySearches : Keeper S T g → Keeper S T g → Type 0
  OnlySearches old new = (connection_of new ≡ connection_of old) × (book_of new ≡ book_of old)

  -- the network of its book was searched no more often than before
  abbrev pub SearchesNoMore : Keeper S T g → Keeper S T g → Type 0
  SearchesNoMore old new = searches_of new ≤ searches_of old

  -- its queries may take as many steps as they need
  abbrev pub IsUnlimited : Keeper S T g → Type 0
  IsUnlimited k = k.parts.conn.step_limit ≡ None

  -- its database has the tables of version 2
  abbrev pub HasTables : Keeper S T g → Type 0
  HasTables k = k.parts.conn.schema ≡ book_schema

  -- its database has the tables of version 1
  abbrev pub HasOldTables : Keeper S T g → Type 0
  HasOldTables k = k.parts.conn.schema ≡ old_schema

  -- its disk has returned what was written so far
  abbrev pub IsClean : Keeper S T g → Type 0
  IsClean k = HasCleanDisk (state g k.parts.conn)

  -- its store is open
  abbrev pub IsOpen : Keeper S T g → Type 0
  IsOpen k = IsTrue (state g k.parts.conn).is_open

  -- the heading of its tables states version 1
  abbrev pub StatesOld : Keeper S T g → Type 0
  StatesOld k = HasVersion 1 (trees_in g k.parts.conn)

  -- its store keeps the book and its commands, and its book, where it has one, has this state
  abbrev pub Ties : Keeper S T g → ActState → Type 0
  Ties k b = keeping.Ties g k.parts b

  -- it has a book, with this state, and its store keeps that
  abbrev pub Holds : Keeper S T g → ActState → Type 0
  Holds k b = Ties k b × IsSome (book_of k)

  -- its store keeps the book, and a crash leaves nothing else
  abbrev pub Stores : Keeper S T g → ActState → Type 0
  Stores k b = KeepsBook (state g k.parts.conn) b

  -- while its store is open it keeps the first book; a crash leaves that or the second
  abbrev pub StoresEither : Keeper S T g → ActState → ActState → Type 0
  StoresEither k b c = KeepsEitherBook (state g k.parts.conn) b c

  -- its store keeps the book in the tables of version 1, and a crash leaves nothing else
  abbrev pub StoresOld : Keeper S T g → ActState → Type 0
  StoresOld k b = KeepsOldBook (state g k.parts.conn) b

  -- while its store is open it keeps the book in the tables of version 1; a crash leaves it in these or in those of version 2
  abbrev pub StoresEitherVersion : Keeper S T g → ActState → Type 0
  StoresEitherVersion k b = KeepsEitherVersion (state g k.parts.conn) b

  -- if its disk is clean, a crash leaves one of these books
  abbrev pub CrashLeaves : {I : Type 0} → Keeper S T g → (I → ActState) → Type 0
  CrashLeaves {I} k books = IsClean k → (trees : Trees) → (state g k.parts.conn).may_leave trees → (i : I) × Leaves (tables_of (books i)) trees

  -- whatever a crash leaves has the hidden row numbers 1, 2, 3 and so on
  abbrev pub StoresNumbers : Keeper S T g → Type 0
  StoresNumbers k = KeepsNumbers (state g k.parts.conn)

  -- its store is open, and its database holds nothing
  pub record HoldsNothing (k : Keeper S T g) : Type 0 where
    pub live : IsOpen k
    pub whole : IsLive (state g k.parts.conn)
    pub schema : k.parts.conn.schema ≡ no_schema
    pub committed : (state g k.parts.conn).now ≡ (state g k.parts.conn).committed
