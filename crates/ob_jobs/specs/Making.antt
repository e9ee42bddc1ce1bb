-- What the making of a book leaves.
use Rattle.std.specs.Prelude.{⊤, ℕ, List, Result, OnOk}
use Rattle.ob_base.specs.declared.stop.Stop.{Stop}
use Rattle.ob_store.specs.Calls.{Created, HasCreationCause, KeepsLimit, WasClean}
use Rattle.ob_store.specs.Keepers.{Ghosts, IsClean, StoresNumbers}
use Rattle.ob_store.specs.declared.keeper.Keeper.{Keeper}

module _ {S T : Type 0} {g : Ghosts S} where
  -- the book of a period was to be made: whether it was, or why not, and what then stands
  pub record MakingOf (old new : Keeper S T g) (first : List ℕ) (days : ℕ) (zone : List ℕ) (done : Result ⊤ Stop) : Type 0 where
    pub clean : WasClean old new
    pub created : Created old new first days zone done
    pub cause : IsClean new → HasCreationCause old new first days zone done
    pub numbered : OnOk done (StoresNumbers new)
    pub limit : KeepsLimit old new
