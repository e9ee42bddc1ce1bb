-- The streams of a listener, served one after the other.
use Rattle.std.specs.Prelude.{◌≡◌, ◌↔◌, ⊤, ℕ, ◌+◌, ◌<◌, ◌==◌, Bool, List, [], ◌∷◌, length, Option, Some, None, IsSome, Result, Ok, Err, if◌then◌else◌}
use Rattle.ob_base.specs.declared.stop.Fault.{Fault}
use Rattle.ob_base.specs.declared.stop.Fault.TheVariants.{OutOfMemory, Store, Reopen, Input, Output}
use Rattle.ob_store.specs.Calls.{IfHeld, WasClean}
use Rattle.ob_store.specs.Keepers.{Ghosts, book_of}
use Rattle.ob_store.specs.declared.keeper.Keeper.{Keeper}
use Rattle.ob_desk.specs.Crashes.{IsLeft}
use Rattle.ob_desk.specs.Standing.{IsKept}
use Rattle.ob_desk.specs.declared.listen.Unserved.{Unserved}
use Rattle.ob_desk.specs.declared.listen.Unserved.TheVariants as unserved
use Rattle.ob_desk.specs.declared.listener.Listener.{Listener}

-- so many streams; 0 is as many as there can be
abbrev pub most_streams : ℕ → ℕ
most_streams count = if count == 0 then 18446744073709551615 else count

-- how many streams are still to be taken of a listener
abbrev pub streams_left : Listener → ℕ
streams_left listener = listener.left

-- its last call gave no stream
abbrev pub has_failed : Listener → Bool
has_failed listener = listener.failed

-- how the fault of a stream ends the desk, where it does: there is no book, or none any more
abbrev pub desk_end : Fault → Option Unserved
desk_end OutOfMemory = None
desk_end Store = Some unserved.Store
desk_end Reopen = Some unserved.Reopen
desk_end Input = None
desk_end Output = None

-- the fault that an end is told as
abbrev pub unserved_fault : Unserved → Fault
unserved_fault unserved.Listener = Input
unserved_fault unserved.Store = Store
unserved_fault unserved.Reopen = Reopen

-- the fault of the stream that ended a desk, where one did
abbrev pub last_fault : Result ⊤ Unserved → Option Fault
last_fault (Ok done) = None
last_fault (Err unserved.Listener) = None
last_fault (Err unserved.Store) = Some Store
last_fault (Err unserved.Reopen) = Some Reopen

module _ {S T : Type 0} {g : Ghosts S} where
  -- what a stream makes of a keeper, which was served to its end or until this fault
  pub record Streamed (old new : Keeper S T g) (fault : Option Fault) : Type 0 where
    pub kept : IsKept old new fault
    pub reopen : fault ≡ Some Reopen → book_of old ≡ None
    pub left : IfHeld old new (λ b. IsLeft new b fault)

  -- How a desk leaves its keeper: a clean disk after it was one before it; without a book nothing changes; a book is dropped
  -- exactly where the store has failed, and lacking only where there was none. The book is that of some commands more, also
  -- after a crash.
  pub record LeavesKeeper (old new : Keeper S T g) (result : Result ⊤ Unserved) : Type 0 where
    pub clean : WasClean old new
    pub unopened : book_of old ≡ None → new ≡ old
    pub dropped : IsSome (book_of old) → (book_of new ≡ None) ↔ (result ≡ Err unserved.Store)
    pub reopen : result ≡ Err unserved.Reopen → book_of old ≡ None
    pub left : IfHeld old new (λ b. IsLeft new b (last_fault result))

  module _ {L : Type 0} (tells : L → Fault → L → Type 0) where
    -- a stream was served to its end, and nothing was told; or a fault ended it that leaves the desk going, and that was told
    abbrev pub ServesStream : Keeper S T g → Keeper S T g → L → L → Option Fault → Type 0
    ServesStream old new was is None = Streamed old new None × (is ≡ was)
    ServesStream old new was is (Some fault) = Streamed old new (Some fault) × (desk_end fault ≡ None) × tells was fault is

    -- streams were served so, one after the other, which ended so
    abbrev pub ServesEach : Keeper S T g → Keeper S T g → L → L → List (Option Fault) → Type 0
    ServesEach old new was is [] = (new ≡ old) × (is ≡ was)
    ServesEach old new was is (end ∷ ends) =
        (mid : Keeper S T g) × (at : L) × ServesStream old mid was at end × ServesEach mid new at is ends

    -- streams were served so, and the next one ended by a fault that ends the desk
    abbrev pub ServesUntil : Keeper S T g → Keeper S T g → L → L → List (Option Fault) → Fault → Type 0
    ServesUntil old new was is ends fault = (mid : Keeper S T g) × ServesEach old mid was is ends × Streamed mid new (Some fault)

    -- Of so many streams that were to be taken so many are left: all were served; or some were, and then none could be taken;
    -- or the last that was taken ended the desk, which isn't told.
    abbrev pub ServesStreams : Keeper S T g → Keeper S T g → L → L → ℕ → ℕ → Result ⊤ Unserved → Type 0
    ServesStreams old new was is most left (Ok done) =
        (ends : List (Option Fault)) × (length ends ≡ most) × (left ≡ 0) × ServesEach old new was is ends
    ServesStreams old new was is most left (Err unserved.Listener) =
        (ends : List (Option Fault)) × (length ends + left ≡ most) × (0 < left) × ServesEach old new was is ends
    ServesStreams old new was is most left (Err unserved.Store) =
        (ends : List (Option Fault)) × (length ends + left + 1 ≡ most) × ServesUntil old new was is ends Store
    ServesStreams old new was is most left (Err unserved.Reopen) =
        (ends : List (Option Fault)) × (length ends + left + 1 ≡ most) × ServesUntil old new was is ends Reopen
