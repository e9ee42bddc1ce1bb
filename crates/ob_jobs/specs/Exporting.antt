-- What an export leaves behind.
use Rattle.std.specs.Prelude.{◌≡◌, ⊤, ℕ, List, ◌++◌, length, Option, None, Result, Ok, Err}
use Rattle.std.specs.Io.KnownBytes.{Appends}
use Rattle.ob_base.specs.declared.stop.Fault.{Fault as AFault}
use Rattle.ob_base.specs.declared.stop.Fault.TheVariants.{OutOfMemory, Store, Output}
use Rattle.ob_base.specs.declared.stop.Stop.{Stop}
use Rattle.ob_base.specs.declared.stop.Stop.TheVariants.{Refused, Fault}
use Rattle.ob_stream.specs.Streams.{AppendsFront}
use Rattle.ob_stream.specs.Watching.{HasJustFailed, watched_bytes}
use Rattle.ob_stream.specs.declared.watched.Watched.{Watched}
use Rattle.ob_book.specs.Acts.{ActState}
use Rattle.ob_store.specs.Calls.{StoreFailed}
use Rattle.ob_store.specs.Keepers.{Ghosts, Stores, Ties, book_of}
use Rattle.ob_store.specs.MovingOut.{all_moves}
use Rattle.ob_store.specs.declared.keeper.Keeper.{Keeper}

-- a first part of the text was written
pub record AppendsPart (old new : Option (List ℕ)) (text : List ℕ) : Type 0 where
  pub front : List ℕ
  pub rest : List ℕ
  pub parts : text ≡ front ++ rest
  pub appends : Appends old new front

module _ {W : Type 0} (contents : W → Option (List ℕ)) where
  -- the line was written whole; or nothing, where memory was refused; or a front of it, and then the writer's last call failed
  abbrev pub PutsLine : Watched W → Watched W → List ℕ → Result ⊤ AFault → Type 0
  PutsLine old new line (Ok done) = Appends (watched_bytes contents old) (watched_bytes contents new) line
  PutsLine old new line (Err OutOfMemory) = new ≡ old
  PutsLine old new line (Err Output) =
      AppendsFront (watched_bytes contents old) (watched_bytes contents new) line × HasJustFailed new
  PutsLine old new line (Err fault) = ⊥

  -- behind these bytes the text was written whole, with what the book's commands moved, so many amounts; or a first part of
  -- it, and then memory was refused, the store failed for a cause, or the writer's last call did. The store keeps the book as before
  abbrev pub Exports : {S T : Type 0} {g : Ghosts S} → Keeper S T g → Keeper S T g → Option (List ℕ) → Watched W → ActState → List ℕ → Result ℕ Stop → Type 0
  Exports old new was is b text (Ok count) =
      Appends was (watched_bytes contents is) text × (count ≡ length (all_moves b)) × Ties new b × (book_of new ≡ book_of old)
  Exports old new was is b text (Err (Refused refusal)) = ⊥
  Exports old new was is b text (Err (Fault OutOfMemory)) =
      AppendsPart was (watched_bytes contents is) text × Ties new b × (book_of new ≡ book_of old)
  Exports old new was is b text (Err (Fault Store)) =
      AppendsPart was (watched_bytes contents is) text × Stores new b × (book_of new ≡ None) × StoreFailed old new
  Exports old new was is b text (Err (Fault Output)) =
      AppendsPart was (watched_bytes contents is) text × HasJustFailed is × Ties new b × (book_of new ≡ book_of old)
  Exports old new was is b text (Err (Fault fault)) = ⊥
