-- What a command under a reference makes of a keeper.
use Rattle.std.specs.Prelude.{◌≡◌, ◌⊎◌, ⊤, ℕ, List, Result, Ok, Err, None, IsSome, IsTrue, IfErr}
use Rattle.sqlite_trees.specs.declared.store.Store.{Ghosts}
use Rattle.sqlite.specs.Held.{Held, state}
use Rattle.ob_base.specs.declared.stop.Stop.{Stop}
use Rattle.ob_base.specs.declared.stop.Stop.TheVariants.{Refused, Fault}
use Rattle.ob_base.specs.declared.stop.Fault.TheVariants.{OutOfMemory, Store}
use Rattle.ob_command.specs.declared.command.Command.{Command}
use Rattle.ob_state.specs.State.{BookState}
use Rattle.ob_book.specs.Acts.{ActState, Referenced, Reply, act, answer, is_accepted}
use Rattle.ob_sql_rows.specs.Steps.{HasFailed}
use Rattle.ob_sql_write.specs.Keeps.{WasUndone}
use Rattle.ob_record.specs.Tables.{tables_of}
use Rattle.ob_store.specs.Keeping.{KeeperValue, KeepsBook, KeepsEitherBook, Ties}
use Rattle.ob_store.specs.declared.reply.Reply.{Reply as GivenReply}

-- why a command on a book isn't answered a reply: it is refused, memory is, or the store fails
abbrev pub IsActStop : Stop → Type 0
IsActStop (Refused refusal) = ⊤
IsActStop (Fault OutOfMemory) = ⊤
IsActStop (Fault Store) = ⊤
IsActStop (Fault fault) = ⊥

-- a command under a reference
abbrev pub under : List ℕ → Command → Referenced
under reference command = record { reference = reference; command = command }

-- the number and the moves of a reply
abbrev pub reply_as : GivenReply → Reply
reply_as r = record { number = r.«no»; moved = r.moved }

module _ {S : Type 0} (g : Ghosts S) where
  -- what a command under a reference made of the store and of the state in memory, over a book b:
  -- a reply is that of the book, whose next state then stands; a refusal is that of the book, and changes nothing, nor does
  -- want of memory; after a fault of the store a crash leaves the book as it was or with the command
  abbrev pub Acts : Held S → BookState → BookState → ActState → Referenced → Result GivenReply Stop → Type 0
  Acts new was is b a (Ok reply) =
      (answer b a ≡ Ok (reply_as reply)) × KeepsBook (state g new) (act b a) × (is ≡ (act b a).book)
  Acts new was is b a (Err (Refused refusal)) =
      (answer b a ≡ Err refusal) × KeepsBook (state g new) b × (is ≡ was)
  Acts new was is b a (Err (Fault OutOfMemory)) = KeepsBook (state g new) b × (is ≡ was)
  Acts new was is b a (Err (Fault Store)) = KeepsEitherBook (state g new) b (act b a)
  Acts new was is b a (Err (Fault fault)) = ⊥

  -- the same of a keeper; after a fault of the store it has no book
  abbrev pub Acted : KeeperValue S → KeeperValue S → ActState → Referenced → Result GivenReply Stop → Type 0
  Acted old new b a (Ok reply) = (answer b a ≡ Ok (reply_as reply)) × Ties g new (act b a) × IsSome new.book
  Acted old new b a (Err (Refused refusal)) = (answer b a ≡ Err refusal) × Ties g new b × (new.book ≡ old.book)
  Acted old new b a (Err (Fault OutOfMemory)) = Ties g new b × (new.book ≡ old.book)
  Acted old new b a (Err (Fault Store)) = KeepsEitherBook (state g new.conn) b (act b a) × (new.book ≡ None)
  Acted old new b a (Err (Fault fault)) = ⊥

  -- where the store is told to have failed, it has; or the command was accepted, and the transaction that showed the tables
  -- with it was undone, as for want of memory
  abbrev pub HasActCause : {X : Type 0} → Held S → Held S → ActState → Referenced → Result X Stop → Type 0
  HasActCause old new b a result =
      IfErr result (λ stop. stop ≡ Fault Store → HasFailed (state g old) (state g new)
      ⊎ (IsTrue (is_accepted b a) × WasUndone g (state g new) (tables_of (act b a))))
