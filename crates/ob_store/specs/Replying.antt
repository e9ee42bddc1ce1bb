-- What a keeper answers to the number of a command.
use Rattle.std.specs.Prelude.{◌≡◌, ℕ, ◌&&◌, nat_le, length, Option, Some, None, Result, Ok, Err, if◌then◌else◌}
use Rattle.std.specs.Option.{option_map}
use Rattle.sqlite_trees.specs.declared.store.Store.{Ghosts}
use Rattle.sqlite.specs.Held.{Held, state}
use Rattle.ob_base.specs.declared.stop.Stop.{Stop}
use Rattle.ob_base.specs.declared.stop.Stop.TheVariants.{Refused, Fault}
use Rattle.ob_base.specs.declared.stop.Fault.TheVariants.{OutOfMemory, Store}
use Rattle.ob_book.specs.Acts.{ActState, Reply, reply_of}
use Rattle.ob_store.specs.Keeping.{KeeperValue, KeepsBook, Ties}
use Rattle.ob_store.specs.Acting.{reply_as}
use Rattle.ob_store.specs.declared.reply.Reply.{Reply as GivenReply}

-- the reply of the accepted command with a number, where there is one
abbrev pub kept_reply : ActState → ℕ → Option Reply
kept_reply b n = if nat_le 1 n && nat_le n (length b.accepted) then Some (reply_of b n) else None

module _ {S : Type 0} (g : Ghosts S) where
  -- the answer is that of the book, whose tables the store keeps as before
  abbrev pub Replies : Held S → ActState → ℕ → Result (Option GivenReply) Stop → Type 0
  Replies new b n (Ok found) = (option_map reply_as found ≡ kept_reply b n) × KeepsBook (state g new) b
  Replies new b n (Err (Refused refusal)) = ⊥
  Replies new b n (Err (Fault OutOfMemory)) = KeepsBook (state g new) b
  Replies new b n (Err (Fault Store)) = KeepsBook (state g new) b
  Replies new b n (Err (Fault fault)) = ⊥

  -- the answer is that of the book, and nothing has changed; after a fault of the store there is no book
  abbrev pub Replied : KeeperValue S → KeeperValue S → ActState → ℕ → Result (Option GivenReply) Stop → Type 0
  Replied old new b n (Ok found) = (option_map reply_as found ≡ kept_reply b n) × Ties g new b × (new.book ≡ old.book)
  Replied old new b n (Err (Refused refusal)) = ⊥
  Replied old new b n (Err (Fault OutOfMemory)) = Ties g new b × (new.book ≡ old.book)
  Replied old new b n (Err (Fault Store)) = KeepsBook (state g new.conn) b × (new.book ≡ None)
  Replied old new b n (Err (Fault fault)) = ⊥
