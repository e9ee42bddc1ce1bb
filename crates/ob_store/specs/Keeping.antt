-- What a store keeps of a book, and how a keeper is tied to it.
use Rattle.std.specs.Prelude.{◌≡◌, ◌⊎◌, ⊤, ℕ, Option, None, IfSome, Result, Ok, Err, IsTrue, IfErr, OnOk, refl}
use Rattle.std.specs.List.{AllByRecursion}
use Rattle.std.specs.Coded.{Coded, code_by, coded×, coded_ℕ, coded_option}
use Rattle.sqlite_trees.specs.declared.store.Store.{Ghosts}
use Rattle.sqlite.specs.Held.{Held, state}
use Rattle.sqlite.specs.Tree.{Trees}
use Rattle.sqlite.specs.State.{State, HasCleanDisk}
use Rattle.ob_base.specs.declared.stop.Stop.{Stop}
use Rattle.ob_base.specs.declared.stop.Stop.TheVariants.{Refused, Fault}
use Rattle.ob_base.specs.declared.stop.Fault.TheVariants.{Store}
use Rattle.ob_state.specs.State.{BookState}
use Rattle.ob_book.specs.Acts.{ActState}
use Rattle.ob_sql_rows.specs.Schema.{no_schema}
use Rattle.ob_sql_rows.specs.Rows.{AreApart}
use Rattle.ob_sql_rows.specs.Steps.{HasFailed}
use Rattle.ob_sql_rows.specs.Versions.{schema_of}
use Rattle.ob_sql_rows.specs.declared.version.Version.{Version}
use Rattle.ob_sql_rows.specs.declared.version.Version.TheVariants.{One, Two}
use Rattle.ob_sql_write.specs.Keeps.{Keeps, KeepsEither, KeepsIn}
use Rattle.ob_sql_write.specs.Upgrade.{KeepsOldOr}
use Rattle.ob_sql_read.specs.Reading.{IsMissed}
use Rattle.ob_record.specs.Tables.{tables_of}
use Rattle.ob_record.specs.Naming.{IsReferenced}
use Rattle.ob_record.specs.Reached.{IsReached}
use Rattle.ob_sql_check.specs.OldTables.{IsOldReached, old_tables_of}
use Rattle.ob_store.specs.Shapes.{IsShapeOf}

-- the store keeps the tables of a book and its accepted commands, and a crash leaves nothing else
pub record KeepsBook (s : State) (b : ActState) : Type 0 where
  pub kept : Keeps s (tables_of b)
  pub reached : IsReached b
  -- what references and commands always are
  pub valid : AllByRecursion IsReferenced b.accepted

-- while it is open the store keeps the tables of the first book; a crash leaves these, or those of the second
pub record KeepsEitherBook (s : State) (b c : ActState) : Type 0 where
  pub kept : KeepsEither s (tables_of b) (tables_of c)
  pub reached : IsReached b
  pub other_reached : IsReached c
  pub valid : AllByRecursion IsReferenced b.accepted
  pub other_valid : AllByRecursion IsReferenced c.accepted

-- the store keeps the tables of version 1 of a book and its accepted commands, and a crash leaves nothing else
pub record KeepsOldBook (s : State) (b : ActState) : Type 0 where
  pub kept : KeepsIn One s (old_tables_of b)
  pub reached : IsOldReached b
  -- what references and commands always are
  pub valid : AllByRecursion IsReferenced b.accepted

-- while it is open the store keeps the tables of version 1 of a book; a crash leaves these, or those of version 2 of the book
pub record KeepsEitherVersion (s : State) (b : ActState) : Type 0 where
  pub kept : KeepsOldOr s (old_tables_of b) (tables_of b)
  pub reached : IsOldReached b
  pub valid : AllByRecursion IsReferenced b.accepted

-- what the store kept it keeps on: a book, one of two, a book of version 1, or a book in the tables of either version
pub record KeepsOn (old new : State) : Type 0 where
  pub book : (b : ActState) → KeepsBook old b → KeepsBook new b
  pub either : (b c : ActState) → KeepsEitherBook old b c → KeepsEitherBook new b c
  pub old_book : (b : ActState) → KeepsOldBook old b → KeepsOldBook new b
  pub version : (b : ActState) → KeepsEitherVersion old b → KeepsEitherVersion new b

-- of two books, or of the tables of both versions, it keeps the first
pub record KeepsFirst (old new : State) : Type 0 where
  pub either : (b c : ActState) → KeepsEitherBook old b c → KeepsBook new b
  pub version : (b : ActState) → KeepsEitherVersion old b → KeepsOldBook new b

-- an answer or a refusal: neither was memory refused nor did the store fail
abbrev pub IsAnswer : {X : Type 0} → Result X Stop → Type 0
IsAnswer (Ok x) = ⊤
IsAnswer (Err (Refused refusal)) = ⊤
IsAnswer (Err (Fault fault)) = ⊥

-- the file is broken: two amounts stand under one hidden row number, or one has none
abbrev pub IsBroken : Trees → Type 0
IsBroken trees = ¬ (AreApart (trees 14))

-- where the store is told to have failed, it has, or the file is broken
abbrev pub HasStoreCause : {X : Type 0} → State → State → Result X Stop → Type 0
HasStoreCause old new result = IfErr result (λ stop. stop ≡ Fault Store → HasFailed old new ⊎ IsBroken old.now.trees)

-- a connection to the store, the state of the book, where there is one, and how often the network of that book was searched since
-- the book was made; 0 where there is no book
pub record KeeperValue (S : Type 0) : Type 0 where
  pub conn : Held S
  pub book : Option BookState
  pub searches : ℕ

-- a value as its parts
abbrev pub keeper_code : {S : Type 0} → Coded (Held S) → Coded BookState → Coded (KeeperValue S)
keeper_code {S} held book =
    code_by (Held S × (Option BookState × ℕ)) (coded× held (coded× (coded_option book) coded_ℕ)) (λ k. (k.conn, (k.book, k.searches)))
    (λ p. record { conn = p.0; book = p.1.0; searches = p.1.1 }) (λ _. refl)

-- the book of a keeper whose call was stopped: none after a fault of the store, and else the one that there was
abbrev pub IsBookAfter : Option BookState → Option BookState → Stop → Type 0
IsBookAfter was is (Refused refusal) = is ≡ was
IsBookAfter was is (Fault Store) = is ≡ None
IsBookAfter was is (Fault fault) = is ≡ was

module _ {S : Type 0} (g : Ghosts S) where
  -- the tables were read: what the store kept it keeps on; an answer or a refusal is given by an open store alone, which then
  -- keeps the first of two that it may have kept, and an answer over tables that have the names of those of version 2; an empty
  -- database is told as that of no book, unless other trouble came before; over the tables of a version the store is told to have
  -- failed only where it has, or the file is broken
  pub record Answers {X : Type 0} (old new : Held S) (result : Result X Stop) : Type 0 where
    pub live : HasCleanDisk (state g new) → IsAnswer result → IsTrue (state g old).is_open
    pub keeps : KeepsOn (state g old) (state g new)
    pub first : HasCleanDisk (state g new) → IsAnswer result → KeepsFirst (state g old) (state g new)
    pub shape : HasCleanDisk (state g new) → OnOk result (IsShapeOf Two old.schema)
    pub empty : HasCleanDisk (state g new) → old.schema ≡ no_schema → IsMissed (state g old) (state g new) result
    pub cause : HasCleanDisk (state g new) → (v : Version) → old.schema ≡ schema_of v → HasStoreCause (state g old) (state g new) result

  -- the keeper's store keeps the tables of the book and its commands, and its book, where there is one, has their state
  pub record Ties (k : KeeperValue S) (b : ActState) : Type 0 where
    pub kept : KeepsBook (state g k.conn) b
    pub book : IfSome k.book (λ s. s ≡ b.book)
