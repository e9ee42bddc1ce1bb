-- What one row makes of a keeper.
use Rattle.std.specs.Prelude.{◌≡◌, ◌⊎◌, Bool, true, Result, Ok, Err, None}
use Rattle.std.specs.Result.{is_ok}
use Rattle.ob_base.specs.declared.stop.Refusal.{Refusal}
use Rattle.ob_base.specs.declared.stop.Stop.{Stop}
use Rattle.ob_base.specs.declared.stop.Stop.TheVariants.{Refused, Fault}
use Rattle.ob_base.specs.declared.stop.Fault.TheVariants.{OutOfMemory, Store}
use Rattle.ob_csv.specs.Rows.{Fields}
use Rattle.ob_command.specs.Fields.{IsRow}
use Rattle.ob_book.specs.Acts.{ActState, Referenced, act, answer, is_accepted}
use Rattle.ob_store.specs.Keepers.{Ghosts, Holds, StoresEither, book_of}
use Rattle.ob_store.specs.declared.keeper.Keeper.{Keeper}
use Rattle.ob_import.specs.Imports.{Says}

module _ {S T : Type 0} {g : Ghosts S} where
  -- what a command under a reference made of a keeper: where it was answered, whether it was new to the book
  abbrev pub Adds : Keeper S T g → ActState → Referenced → Result Bool Stop → Type 0
  Adds new b a (Ok is_new) = (is_ok (answer b a) ≡ true) × (is_new ≡ is_accepted b a) × Holds new (act b a)
  Adds new b a (Err (Refused refusal)) = (answer b a ≡ Err refusal) × Holds new b
  Adds new b a (Err (Fault OutOfMemory)) = Holds new b
  Adds new b a (Err (Fault Store)) = StoresEither new b (act b a) × (book_of new ≡ None)
  Adds new b a (Err (Fault fault)) = ⊥

  -- the same of a row: it says a command, or none, and then nothing changes
  abbrev pub AddsRow : Keeper S T g → ActState → Fields → Result Bool Stop → Type 0
  AddsRow new b row result =
      ((a : Referenced) × Says row a × Adds new b a result)
      ⊎ ((refusal : Refusal) × IsRow row (Err refusal) × (result ≡ Err (Refused refusal)) × Holds new b)
