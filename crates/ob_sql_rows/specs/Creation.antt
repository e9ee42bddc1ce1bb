-- The tables of a book are made one after another.
use Rattle.std.specs.Prelude.{◌≡◌, ℕ, ◌<◌, List, [], ◌++◌, take, fold, codes, Result, IsTrue, IfErr, OnOk}
use Rattle.std.specs.List.{AllByRecursion}
use Rattle.std.specs.Borrow.{MutBor}
use Rattle.sqlite_trees.specs.declared.store.Store.{Ghosts}
use Rattle.sqlite.specs.Schema.{Schema}
use Rattle.sqlite.specs.Change.{created}
use Rattle.sqlite.specs.Effect.{Database, IsDatabase}
use Rattle.sqlite.specs.Held.{Held, state}
use Rattle.sqlite.specs.State.{State, HasCleanDisk}
use Rattle.ob_base.specs.declared.stop.Stop.{Stop}
use Rattle.ob_base.specs.declared.stop.Stop.TheVariants.{Fault}
use Rattle.ob_base.specs.declared.stop.Fault.TheVariants.{Store}
use Rattle.ob_sql_rows.specs.Schema.{book_tables, no_schema, book_schema}
use Rattle.ob_sql_rows.specs.Rows.{Tables, Holds}
use Rattle.ob_sql_rows.specs.Rules.{AreNumbered}
use Rattle.ob_sql_rows.specs.Steps.{Silent, IsStoreFault, HasFailed}
use Rattle.ob_sql_rows.specs.declared.table.Table.{Table}
use Rattle.ob_sql_rows.specs.declared.table.Table.TheVariants.{Meta, Cause, Node, Device, Life, Customer, Entry, Mark, Command, Moved, Posting}

-- the text that makes a table
abbrev pub create_text : Table → List ℕ
create_text Meta =
    codes "CREATE TABLE meta (id INTEGER PRIMARY KEY CHECK (id = 1), version INTEGER NOT NULL, "
    ++ codes "day0 TEXT NOT NULL, days INTEGER NOT NULL, zone TEXT NOT NULL) STRICT"
create_text Cause = codes "CREATE TABLE cause (code INTEGER PRIMARY KEY, name TEXT NOT NULL UNIQUE) STRICT"
create_text Node =
    codes "CREATE TABLE node (id INTEGER PRIMARY KEY, name TEXT NOT NULL UNIQUE, "
    ++ codes "kind INTEGER NOT NULL, feeder INTEGER NOT NULL) STRICT"
create_text Device =
    codes "CREATE TABLE device (id INTEGER PRIMARY KEY, name TEXT NOT NULL UNIQUE, "
    ++ codes "a INTEGER NOT NULL REFERENCES node (id), b INTEGER NOT NULL REFERENCES node (id), "
    ++ codes "normal INTEGER NOT NULL CHECK (normal >= 0 AND normal <= 1)) STRICT"
create_text Life =
    codes "CREATE TABLE life (device INTEGER PRIMARY KEY REFERENCES device (id), "
    ++ codes "since INTEGER NOT NULL, until INTEGER) STRICT"
create_text Customer =
    codes "CREATE TABLE customer (id INTEGER PRIMARY KEY, "
    ++ codes "section INTEGER NOT NULL REFERENCES node (id), since INTEGER NOT NULL, "
    ++ codes "until INTEGER) STRICT"
create_text Entry =
    codes "CREATE TABLE entry (id INTEGER PRIMARY KEY, rev INTEGER NOT NULL, "
    ++ codes "device INTEGER NOT NULL REFERENCES device (id), "
    ++ codes "pos INTEGER NOT NULL CHECK (pos >= 0 AND pos <= 1), second INTEGER NOT NULL, "
    ++ codes "cause INTEGER NOT NULL REFERENCES cause (code), crew TEXT NOT NULL, "
    ++ codes "kept INTEGER NOT NULL CHECK (kept >= 0 AND kept <= 1)) STRICT"
create_text Mark = codes "CREATE TABLE mark (day INTEGER PRIMARY KEY, engineer TEXT NOT NULL) STRICT"
create_text Command =
    codes "CREATE TABLE cmd (id INTEGER PRIMARY KEY, ref TEXT NOT NULL UNIQUE, "
    ++ codes "body TEXT NOT NULL) STRICT"
create_text Moved =
    codes "CREATE TABLE moved (cmd INTEGER NOT NULL REFERENCES cmd (id), dim INTEGER NOT NULL, "
    ++ codes "k INTEGER NOT NULL, delta INTEGER NOT NULL CHECK (delta <> 0), PRIMARY KEY (cmd, dim, "
    ++ codes "k)) STRICT"
create_text Posting =
    codes "CREATE TABLE posting (dim INTEGER NOT NULL, k INTEGER NOT NULL, "
    ++ codes "amount INTEGER NOT NULL CHECK (amount >= 0), PRIMARY KEY (dim, k)) STRICT"

-- how many tables are made before a table
abbrev pub before : Table → ℕ
before Meta = 0
before Cause = 1
before Node = 2
before Device = 3
before Customer = 4
before Entry = 5
before Mark = 6
before Command = 7
before Moved = 8
before Posting = 9
before Life = 10

-- the schema of the first tables
abbrev pub schema_of_first : ℕ → Schema
schema_of_first n = fold created no_schema (take n book_tables)

-- the schema of version 1: all tables but that of lives, which is made last
abbrev pub old_schema : Schema
old_schema = schema_of_first 10

-- the first tables are there, without rows
pub record HasEmpty (n : ℕ) (db : Database) : Type 0 where
  pub schema : db.schema ≡ schema_of_first n
  pub empty : AllByRecursion (λ t. db.trees t.tree ≡ []) (schema_of_first n).tables

-- no table has a row
abbrev pub no_rows : Tables
no_rows table = []

-- inside a transaction over so many of the tables, more were made
pub record MakesUpTo (from to : ℕ) (old new : State) : Type 0 where
  pub live : IsTrue new.is_open → IsTrue old.is_open
  pub stays : from < to → IsTrue new.is_open
  pub inside : IsTrue new.in_transaction
  pub made : HasEmpty from old.now → HasEmpty to new.now
  -- and they are a whole database
  pub sound : from < to → HasEmpty from old.now → IsDatabase new.now

-- inside a transaction over an empty database, the tables of a book were made, without rows
pub record MakesBook (old new : State) : Type 0 where
  pub live : IsTrue old.is_open
  pub stays : IsTrue new.is_open
  pub inside : IsTrue new.in_transaction
  pub schema : old.now.schema ≡ no_schema → new.now.schema ≡ book_schema
  pub sound : old.now.schema ≡ no_schema → IsDatabase new.now
  pub holds : old.now.schema ≡ no_schema → Holds new.now.trees no_rows
  pub numbered : old.now.schema ≡ no_schema → AreNumbered new.now.trees

-- a whole database that holds nothing
abbrev pub LetsBook : State → Type 0
LetsBook s = (s.now.schema ≡ no_schema) × IsDatabase s.now

-- a whole database of so many of the tables, without rows
abbrev pub LetsTable : ℕ → State → Type 0
LetsTable n s = HasEmpty n s.now × IsDatabase s.now

module _ {S : Type 0} (g : Ghosts S) where
  -- statements inside a transaction made this, or one failed, which it does only with a cause where they are let in;
  -- nothing was committed
  pub record Creates {X : Type 0} (old new : MutBor (Held S)) (result : Result X Stop)
      (Lets : State → Type 0) (Made : State → State → Type 0) : Type 0 where
    pub same_reference : new.ghost_name ≡ old.ghost_name
    pub silent : Silent (state g old.now) (state g new.now)
    pub faults : IfErr result IsStoreFault
    pub creates : HasCleanDisk (state g new.now) → OnOk result (IsTrue (state g old.now).in_transaction
        → Made (state g old.now) (state g new.now))
    pub cause : HasCleanDisk (state g new.now) → IfErr result (λ stop. stop ≡ Fault Store
        → IsTrue (state g old.now).in_transaction → Lets (state g old.now)
        → HasFailed (state g old.now) (state g new.now))
