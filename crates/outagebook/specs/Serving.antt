-- What the program's server makes of a book.
use Rattle.std.specs.Prelude.{◌≡◌, ⊤, ℕ, List, Option, None, Result, Ok, Err}
use Rattle.ob_base.specs.declared.stop.Stop.{Stop}
use Rattle.ob_base.specs.declared.stop.Stop.TheVariants.{Fault}
use Rattle.ob_base.specs.declared.stop.Fault.{Fault as AFault}
use Rattle.ob_store.specs.Calls.{TellsFaults}
use Rattle.ob_store.specs.Keepers.{Ghosts}
use Rattle.ob_store.specs.declared.keeper.Keeper.{Keeper}
use Rattle.ob_desk.specs.Listening.{LeavesKeeper, ServesStreams, most_streams, unserved_fault}
use Rattle.ob_desk.specs.declared.listen.Unserved.{Unserved}
use Rattle.ob_desk.specs.declared.listen.Unserved.TheVariants as unserved
use Rattle.outagebook.specs.Ending.{TriesToTell, stop_line}
use Rattle.outagebook.specs.declared.desk.Complaints.{Complaints}

-- the line of a fault was printed, as far as there is memory for it and the writer takes it
abbrev pub TellsFault : {E : Type 0} → (E → Option (List ℕ)) → Complaints E → AFault → Complaints E → Type 0
TellsFault contents old fault new = TriesToTell contents old.err new.err (stop_line (Fault fault) None)

-- how a desk's end stops the job
abbrev pub stop_of_end : Result ⊤ Unserved → Result ⊤ Stop
stop_of_end (Ok done) = Ok tt
stop_of_end (Err end) = Err (Fault (unserved_fault end))

module _ {S T L : Type 0} {g : Ghosts S} (tells : L → AFault → L → Type 0) where
  -- a desk served so many streams, or fewer where it ended before, gave the faults of streams to its log, left the keeper so, and
  -- has a cause where the store is reported to have failed
  pub record ServesDesk (streams : ℕ) (old new : Keeper S T g) (before after : L) (result : Result ⊤ Stop) : Type 0 where
    pub end : Result ⊤ Unserved
    pub stopped : result ≡ stop_of_end end
    pub left : ℕ
    pub served : ServesStreams tells old new before after (most_streams streams) left end
    pub keeper : LeavesKeeper old new end
    pub faults : TellsFaults old new (end ≡ Err unserved.Store)
