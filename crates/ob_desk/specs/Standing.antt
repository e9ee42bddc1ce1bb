-- How a keeper stands to a book, where there is one.
use Rattle.std.specs.Prelude.{◌≡◌, ◌↔◌, Bool, Option, None, Some, IsSome, Result, Ok, Err}
use Rattle.ob_base.specs.declared.stop.Fault.{Fault}
use Rattle.ob_base.specs.declared.stop.Fault.TheVariants.{Reopen, Store}
use Rattle.ob_book.specs.Acts.{ActState}
use Rattle.ob_store.specs.Calls.{WasClean}
use Rattle.ob_store.specs.Keepers.{Ghosts, IsClean, Ties, book_of}
use Rattle.ob_store.specs.declared.keeper.Keeper.{Keeper}
use Rattle.ob_http_requests.specs.Message.{Message}
use Rattle.ob_http_routes.specs.Answers.{bookless}
use Rattle.ob_http_routes.specs.Answering.{Answered}

-- the fault of a call, where there is one
abbrev pub fault_of : {A : Type 0} → Result A Fault → Option Fault
fault_of (Ok x) = None
fault_of (Err fault) = Some fault

module _ {S T : Type 0} {g : Ghosts S} where
  -- However a call ends: a clean disk after it was one before it; without a book nothing changes; and a book is dropped exactly
  -- where the store has failed.
  pub record IsKept (old new : Keeper S T g) (fault : Option Fault) : Type 0 where
    pub clean : WasClean old new
    pub unopened : book_of old ≡ None → new ≡ old
    pub dropped : IsSome (book_of old) → (book_of new ≡ None) ↔ (fault ≡ Some Store)

  -- a call began over this book, on a disk that up to its end returns what was written; or over none
  abbrev pub Over : Keeper S T g → Keeper S T g → Option ActState → Type 0
  Over old new (Some b) = IsClean new × Ties old b × IsSome (book_of old)
  Over old new None = book_of old ≡ None

  -- the keeper has this book, or none
  abbrev pub Stands : Keeper S T g → Option ActState → Type 0
  Stands k (Some b) = Ties k b × IsSome (book_of k)
  Stands k None = book_of k ≡ None

  -- what a request leaves that a fault kept from its answer; without a book it is one that needs the book
  abbrev pub LeftBy : Keeper S T g → Option ActState → Message → Bool → Fault → Type 0
  LeftBy new (Some b) m closes fault = Answered new b m closes (Err fault)
  LeftBy new None m closes fault = (fault ≡ Reopen) × (bookless m ≡ None) × (book_of new ≡ None)
