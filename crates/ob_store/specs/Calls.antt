-- What a call makes of a keeper, as the crates above state it: no store, table or file is named by them. Where another module has a
-- word of the same name, that one speaks of a keeper's parts over a store that it names, and this one of the keeper.
use Rattle.std.specs.Prelude.{◌≡◌, ◌⊎◌, ◌≤◌, ◌+◌, ⊤, ℕ, Bool, List, length, Option, IsSome, IsTrue, Result, IfOk, IfErr}
use Rattle.sqlite_trees.specs.declared.store.Store.{Ghosts}
use Rattle.sqlite.specs.Held.{state}
use Rattle.sqlite.specs.State.{Survives}
use Rattle.ob_base.specs.declared.stop.Fault.{Fault as AFault}
use Rattle.ob_base.specs.declared.stop.Stop.{Stop}
use Rattle.ob_book.specs.Acts.{ActState, Referenced, act, acts, is_accepted}
use Rattle.ob_book.specs.Searches.{Bound}
use Rattle.ob_sql_rows.specs.Steps.{HasFailed, HasFaultCause}
use Rattle.ob_sql_rows.specs.declared.table.Table.{Table}
use Rattle.ob_sql_write.specs.Keeps.{WasUndone}
use Rattle.ob_record.specs.Tables.{tables_of}
use Rattle.ob_store.specs.Acting as acting
use Rattle.ob_store.specs.Crashing as crashing
use Rattle.ob_store.specs.Creating as creating
use Rattle.ob_store.specs.Creating.{HeldNothing, LeavesAll, MayBegin}
use Rattle.ob_store.specs.Keepers.{HasOldTables, HasTables, IsClean, IsOpen, StoresNumbers, StoresOld, Ties, book_of, searches_of}
use Rattle.ob_store.specs.Keeping.{Answers, KeepsOn}
use Rattle.ob_store.specs.Loading as loading
use Rattle.ob_store.specs.Migrating.{LeavesKept, LeftAsItWas, Migrated, MigratesKept, MigratesOn}
use Rattle.ob_store.specs.MovingOut as moving
use Rattle.ob_store.specs.Replying as replying
use Rattle.ob_store.specs.Searching as searching
use Rattle.ob_store.specs.Searching.{searches_of_lines}
use Rattle.ob_store.specs.Versions as versions
use Rattle.ob_store.specs.Whole as whole
use Rattle.ob_store.specs.Whole.{LeadTo, Line}
use Rattle.ob_store.specs.declared.keeper.Keeper.{Keeper}
use Rattle.ob_store.specs.declared.reply.Reply.{Reply}
use Rattle.ob_store.specs.declared.whole.Halted.{Halted}

module _ {S T : Type 0} {g : Ghosts S} where
  -- the store's queries may take as many steps as before
  abbrev pub KeepsLimit : Keeper S T g → Keeper S T g → Type 0
  KeepsLimit old new = new.parts.conn.step_limit ≡ old.parts.conn.step_limit

  -- if the disk is clean after the call, it was before it
  abbrev pub WasClean : Keeper S T g → Keeper S T g → Type 0
  WasClean old new = IsClean new → IsClean old

  -- if the disk is clean after the call, this holds of the book that the store kept before it
  abbrev pub IfStored : Keeper S T g → Keeper S T g → (ActState → Type 0) → Type 0
  IfStored old new P = IsClean new → (b : ActState) → Ties old b → P b

  -- the same of the book that the keeper had
  abbrev pub IfHeld : Keeper S T g → Keeper S T g → (ActState → Type 0) → Type 0
  IfHeld old new P = IsClean new → (b : ActState) → Ties old b → IsSome (book_of old) → P b

  -- the same of the book that an open store kept in the tables of version 1
  abbrev pub IfStoredOld : Keeper S T g → Keeper S T g → (ActState → Type 0) → Type 0
  IfStoredOld old new P = IsClean new → IsOpen old → (b : ActState) → StoresOld old b → P b

  -- if the disk is clean after the call, this holds over the tables of version 2
  abbrev pub OnTables : Keeper S T g → Keeper S T g → Type 0 → Type 0
  OnTables old new P = IsClean new → HasTables old → P

  -- the same over those of version 1
  abbrev pub OnOldTables : Keeper S T g → Keeper S T g → Type 0 → Type 0
  OnOldTables old new P = IsClean new → HasOldTables old → P

  -- what the store kept it still keeps, of either version
  abbrev pub StillStores : Keeper S T g → Keeper S T g → Type 0
  StillStores old new = KeepsOn (state g old.parts.conn) (state g new.parts.conn)

  -- nothing was committed: a crash leaves no more than before, and no failure of the store is forgotten
  abbrev pub CommitsNothing : Keeper S T g → Keeper S T g → Type 0
  CommitsNothing old new = Survives (state g old.parts.conn) (state g new.parts.conn) (λ _. ⊥)

  -- the same, but a crash may also leave the tables of version 2 of the one book of version 1 that the store kept
  abbrev pub CommitsUpgrade : Keeper S T g → Keeper S T g → Type 0
  CommitsUpgrade old new = Survives (state g old.parts.conn) (state g new.parts.conn) (LeavesKept (state g old.parts.conn))

  -- the store has a cause for its failure: the disk failed or refused during the call, the store was shut before it, or the steps
  -- of its queries are limited
  abbrev pub StoreFailed : Keeper S T g → Keeper S T g → Type 0
  StoreFailed old new = HasFailed (state g old.parts.conn) (state g new.parts.conn)

  -- the store undid the transaction that showed the tables of this book, as for want of memory
  abbrev pub UndidTables : Keeper S T g → ActState → Type 0
  UndidTables new b = WasUndone g (state g new.parts.conn) (tables_of b)

  -- where the store is reported to have failed on a command, it has; or it undid the rows of the command, which the book accepts
  abbrev pub HasCommandCause : {X : Type 0} → Keeper S T g → Keeper S T g → ActState → Referenced → Result X Stop → Type 0
  HasCommandCause old new b a result = acting.HasActCause g old.parts.conn new.parts.conn b a result

  -- where the store is reported to have failed on a new book of this period, it has; or it undid the book's rows
  abbrev pub HasCreationCause : {X : Type 0} → Keeper S T g → Keeper S T g → List ℕ → ℕ → List ℕ → Result X Stop → Type 0
  HasCreationCause old new first days zone result = creating.HasCreateCause g old.parts.conn new.parts.conn first days zone result

  -- no fault of the disk is forgotten, only a fault shuts the store, and its queries may take as many steps as before
  abbrev pub ForgetsNoFault : Keeper S T g → Keeper S T g → Type 0
  ForgetsNoFault old new = Survives (state g old.parts.conn) (state g new.parts.conn) (λ _. ⊤)

  -- why the store is reported to have failed over this book: it has; or after some commands more it undid the rows of one that
  -- the book accepts
  abbrev pub HasWorkCause : Keeper S T g → Keeper S T g → ActState → Type 0
  HasWorkCause old new b =
      StoreFailed old new
      ⊎ ((done : List Referenced) × (a : Referenced) × IsTrue (is_accepted (acts b done) a) × UndidTables new (act (acts b done) a))

  -- What is known of the store's faults after a call, which reports that the store failed or doesn't: none is forgotten. Over the
  -- book of a keeper hidden row numbers 1, 2, 3 and so on stay so, and then the store is reported to have failed with a cause only.
  pub record TellsFaults (old new : Keeper S T g) (failed : Type 0) : Type 0 where
    pub forgets : ForgetsNoFault old new
    pub numbered : IfHeld old new (λ b. StoresNumbers old → StoresNumbers new)
    pub cause : IfHeld old new (λ b. StoresNumbers old → failed → HasWorkCause old new b)

  -- the database held nothing before a new book was made in it, and the store was open
  abbrev pub WasEmpty : Keeper S T g → Keeper S T g → Type 0
  WasEmpty old new = HeldNothing (state g old.parts.conn) (state g new.parts.conn)

  -- no new book was made: the store has what it had, and a crash leaves no more than before
  abbrev pub LeftAll : Keeper S T g → Keeper S T g → Type 0
  LeftAll old new = LeavesAll g old.parts.conn new.parts.conn

  -- the store failed as a new book of the period was being made: it is there, or what was before
  abbrev pub MayHaveBegun : Keeper S T g → Keeper S T g → List ℕ → ℕ → List ℕ → Type 0
  MayHaveBegun old new first days zone = MayBegin g old.parts.conn new.parts.conn first days zone

  -- the tables were read, over any database: how the answer depends on it, and what the store then keeps
  abbrev pub ReadAnswers : {X : Type 0} → Keeper S T g → Keeper S T g → Result X Stop → Type 0
  ReadAnswers old new result = Answers g old.parts.conn new.parts.conn result

  -- tables of version 1 were to become those of version 2, over any database: how the answer depends on it, and what the store
  -- then keeps
  abbrev pub MigrationAnswers : Keeper S T g → Keeper S T g → Result Bool Stop → Type 0
  MigrationAnswers old new result = MigratesOn g old.parts.conn new.parts.conn result

  -- the same over the tables of version 1
  abbrev pub MigratesOldTables : Keeper S T g → Keeper S T g → Result Bool Stop → Type 0
  MigratesOldTables old new result = Migrated g old.parts.conn new.parts.conn result

  -- the same over those of version 2, where nothing is written
  abbrev pub LeavesCurrentTables : Keeper S T g → Keeper S T g → Result Bool Stop → Type 0
  LeavesCurrentTables old new result = LeftAsItWas g old.parts.conn new.parts.conn result

  -- the same of a book of version 1 that an open store kept
  abbrev pub MigratesStoredBook : Keeper S T g → ActState → Result Bool Stop → Type 0
  MigratesStoredBook new b result = MigratesKept g new.parts.conn b result

  -- what a command under a reference made of a keeper over a book, and the answer
  abbrev pub Acted : Keeper S T g → Keeper S T g → ActState → Referenced → Result Reply Stop → Type 0
  Acted old new b a result = acting.Acted g old.parts new.parts b a result

  -- what a list of commands made of a keeper over a book, and the answer
  abbrev pub ActedAll : Keeper S T g → ActState → List Line → Result ℕ Halted → Type 0
  ActedAll new b list result = whole.ActedAll g new.parts b list result

  -- where the store is reported to have failed on a list, it has; or all lines were answered, and it undid their rows
  abbrev pub HasListCause : {X : Type 0} → Keeper S T g → Keeper S T g → ActState → List Line → Result X Halted → Type 0
  HasListCause old new b list result = whole.HasListCause g old.parts.conn new.parts.conn b list result

  -- a crash leaves what it could leave before; or, of a book that the keeper had, one that it leads to so
  abbrev pub CommitsOf : (ActState → ActState → Type 0) → Keeper S T g → Keeper S T g → Type 0
  CommitsOf Leads old new = whole.CommitsOf g Leads old.parts new.parts

  -- what the lines of this list made of a keeper, each searched for as its command is, and how it ended; a crash leaves what it could
  -- leave before, or that with all commands of the list
  pub record ActsOnList (old new : Keeper S T g) (bound : Bound) (list : List Line) (result : Result ℕ Halted) : Type 0 where
    pub few : IfOk result (λ added. added ≤ length list)
    pub within : IfErr result (λ e. e.place ≤ length list)
    pub acted : IfHeld old new (λ b. ActedAll new b list result)
    -- if the hidden row numbers are consecutive, the store is reported to have failed with a cause only
    pub cause : IfHeld old new (λ b. StoresNumbers old → HasListCause old new b list result)
    pub commits : CommitsOf (LeadTo list) old new
    pub searched : IfHeld old new (λ b. searches_of new ≤ searches_of old + searches_of_lines bound b list)

  -- a new book of a period was made, or why none was
  abbrev pub Created : Keeper S T g → Keeper S T g → List ℕ → ℕ → List ℕ → Result ⊤ Stop → Type 0
  Created old new first days zone result = creating.Created g old.parts new.parts first days zone result

  -- a book was loaded from the tables, or why none was
  abbrev pub Loads : Keeper S T g → Keeper S T g → Result ⊤ Stop → Type 0
  Loads old new result = crashing.Loads g old.parts new.parts result

  -- over the tables of version 2 it is the one book that they hold, or why there is none
  abbrev pub Loaded : Keeper S T g → Keeper S T g → Result ⊤ Stop → Type 0
  Loaded old new result = loading.Loaded g old.parts new.parts result

  -- the keeper has a book of this kind, which its store keeps; or memory was refused, or the store failed
  abbrev pub HasLoaded : (ActState → Type 0) → Keeper S T g → Result ⊤ Stop → Type 0
  HasLoaded Is new result = crashing.HasLoaded g Is new.parts result

  -- the first table of version 2 that differs from those of a book, or why none is told
  abbrev pub Audited : Keeper S T g → Keeper S T g → Result (Option Table) Stop → Type 0
  Audited old new result = loading.Audited g old.parts new.parts result

  -- over the tables of version 1 a book of that version is told, and else they are those of no book
  abbrev pub Outdated : {X : Type 0} → Keeper S T g → Keeper S T g → Result X Stop → Type 0
  Outdated old new result = versions.Outdated g old.parts new.parts result

  -- the stored reply of the command of a number, of the keeper's book
  abbrev pub Replied : Keeper S T g → Keeper S T g → ActState → ℕ → Result (Option Reply) Stop → Type 0
  Replied old new b n result = replying.Replied g old.parts new.parts b n result

  -- what a sink took of the amounts that a book's commands moved, and how that ended
  abbrev pub MovesOut : {V : Type 0} → moving.Takes V → Keeper S T g → Keeper S T g → V → V → ActState → Result ℕ Stop → Type 0
  MovesOut takes old new was is b result = moving.MovesOut g takes old.parts new.parts was is b result

  -- memory was refused, and nothing has changed; or the store failed, for a cause, and there is no book
  abbrev pub StoreFails : Keeper S T g → Keeper S T g → ActState → AFault → Type 0
  StoreFails old new b fault = moving.StoreFails g old.parts new.parts b fault

  -- how often a load searched the network of the book that it made: no more than a replay of the book may
  abbrev pub SearchesOfLoad : Bound → Keeper S T g → Keeper S T g → Result ⊤ Stop → Type 0
  SearchesOfLoad bound old new result = searching.SearchesOfLoad g bound old.parts new.parts result

  -- where the store is reported to have failed as it was read, it has
  abbrev pub HasReadCause : {X : Type 0} → Keeper S T g → Keeper S T g → Result X Stop → Type 0
  HasReadCause old new result = HasFaultCause (state g old.parts.conn) (state g new.parts.conn) result

module _ {S T R U : Type 0} {g : Ghosts S} {h : Ghosts R} where
  -- the second keeper's store was opened over what a crash left of the first one's, whose disk was clean
  abbrev pub OpensAfter : Keeper S T g → Keeper R U h → Type 0
  OpensAfter old new = crashing.OpensAfterCrash g h old.parts.conn new.parts.conn
