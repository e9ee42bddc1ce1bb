-- What requests make of a book, and what a crash leaves of it.
use Rattle.std.specs.Prelude.{◌≡◌, ◌⊎◌, ⊤, ℕ, List, take, Option, None, Some, option_map}
use Rattle.ob_base.specs.declared.stop.Fault.{Fault}
use Rattle.ob_base.specs.declared.stop.Fault.TheVariants.{Store}
use Rattle.ob_book.specs.Acts.{ActState, Referenced, act, acts}
use Rattle.ob_store.specs.Keepers.{CrashLeaves, Ghosts, Stores, StoresEither, Ties}
use Rattle.ob_store.specs.declared.keeper.Keeper.{Keeper}

-- one state is that of the other after some commands
abbrev pub IsActed : Option ActState → Option ActState → Type 0
IsActed x y = (commands : List Referenced) × (y ≡ option_map (λ b. acts b commands) x)

module _ {S T : Type 0} {g : Ghosts S} where
  -- the book outlasts a crash, with the first of the commands that were in work
  abbrev pub Outlasts : Keeper S T g → Option ActState → Type 0
  Outlasts new None = ⊤
  Outlasts new (Some b) = (work : List Referenced) × CrashLeaves new (λ (count : ℕ). acts b (take count work))

  -- the store keeps the book; or it does while it is open, and a crash leaves that, or the book with the command that was in work
  abbrev pub KeepsInWork : Keeper S T g → ActState → Type 0
  KeepsInWork new b =
      Stores new b ⊎ ((command : Referenced) × StoresEither new b (act b command))

  -- The book is that of some commands more. Where the store has failed, that is the one that it keeps, or else a crash leaves it or
  -- the book with the command that was in work.
  abbrev pub IsLeft : Keeper S T g → ActState → Option Fault → Type 0
  IsLeft new b (Some Store) = (done : List Referenced) × KeepsInWork new (acts b done)
  IsLeft new b fault = (done : List Referenced) × Ties new (acts b done)
