-- What the opening of a book's file gives.
use Rattle.std.specs.Prelude.{◌≡◌, ◌⊎◌, None, Result, Ok, Err}
use Rattle.ob_base.specs.declared.stop.Stop.{Stop}
use Rattle.ob_base.specs.declared.stop.Stop.TheVariants.{Fault}
use Rattle.ob_base.specs.declared.stop.Fault.TheVariants.{OutOfMemory, Store}
use Rattle.ob_store.specs.Keepers.{Ghosts, IsUnlimited, book_of}
use Rattle.ob_store.specs.declared.keeper.Keeper.{Keeper}

-- why no file was opened: memory was refused, or the store failed
abbrev pub OpensNothing : Stop → Type 0
OpensNothing stop = (stop ≡ Fault OutOfMemory) ⊎ (stop ≡ Fault Store)

-- a keeper that has no book yet, over a connection whose queries may take any number of steps; or memory was refused, or the file
-- isn't there or can't be opened
abbrev pub OpensFile : {S T : Type 0} {g : Ghosts S} → Result (Keeper S T g) Stop → Type 0
OpensFile (Ok keeper) = (book_of keeper ≡ None) × IsUnlimited keeper
OpensFile (Err stop) = OpensNothing stop
