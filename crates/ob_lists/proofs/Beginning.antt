-- What a load finds after a crash where a new book was to be made.
use Rattle.std.proofs.Common.{◌≡◌, inl, inr, ℕ, List, Result, Ok, Err, IsErr, refl}
use Rattle.std.specs.Prelude.{⊤}
use Rattle.ob_base.specs.declared.stop.Stop.{Stop}
use Rattle.ob_base.specs.declared.stop.Stop.TheVariants.{Refused, Fault}
use Rattle.ob_base.specs.declared.stop.Fault.TheVariants.{OutOfMemory, Store, Reopen, Input, Output}
use Rattle.ob_base.specs.declared.stop.Refusal.TheVariants.{BadField, UnknownName, NameTaken, OutOfPeriod, UnknownEntry, Stale, Withdrawn, UnknownCustomer, BadService, RefConflict, Full, MarkedAlready, NotMarked, UnknownCause, BadPeriod, BadBook, BadLife, OldVersion}
use Rattle.ob_time.specs.Calendar.{Calendar}
use Rattle.ob_book.specs.Acts.{start}
use Rattle.ob_store.specs.Calls.{Created, LeftAll, Loads}
use Rattle.ob_store.specs.Crashing.{LoadLaw}
use Rattle.ob_store.specs.Keepers.{Ghosts, HoldsNothing, IsClean, Stores}
use Rattle.ob_store.proofs.Restarting.{Settles, begun_after, nothing_after, stored_after}
use Rattle.ob_store.specs.declared.keeper.Keeper.{Keeper}
use Rattle.ob_lists.specs.Going.{Begun, Finds, Restarts}
use Rattle.ob_lists.specs.Standing.{Stands}
use Rattle.ob_lists.proofs.Restarting.{none}
use Rattle.ob_lists.proofs.Standings.{finds, loads_one}

module _ {S T R U : Type 0} {g : Ghosts S} {h : Ghosts R} (settles : Settles g) (settles_new : Settles h) (law : LoadLaw h) (old made : Keeper S T g) (next new : Keeper R U h)
    (held : HoldsNothing old) (it : Restarts made next) (found : Result ⊤ Stop) (loads : Loads next new found) (clean : IsClean new) where
  -- a book that the store keeps after the crash
  finds_kept : (p : Calendar) → Stores next (start p) → Finds (λ x. x ≡ start p) new found
  finds_kept p keeps =
      let stands : Stands (λ x. x ≡ start p) next =
      inl (record { book = start p; is = refl; ties = record { kept = keeps; book = none settles_new made next it (start p) } }) in
      finds (λ x. x ≡ start p) next new found stands loads (loads_one next new (λ x. x ≡ start p) law found loads clean stands)

  finds_none : LeftAll old made → IsErr found
  finds_none left = nothing_after settles settles_new old made next new held it.opens found loads clean left

  pub begun : (first : List ℕ) (days : ℕ) (zone : List ℕ) (r : Result ⊤ Stop) → Created old made first days zone r → Begun first days zone r new found
  begun first days zone (Ok done) created =
      (created.0, created.1, finds_kept created.0 (stored_after made next it.opens settles_new (start created.0) created.3.kept))
  begun first days zone (Err (Refused (BadField at))) created = absurd created
  begun first days zone (Err (Refused UnknownName)) created = absurd created
  begun first days zone (Err (Refused NameTaken)) created = absurd created
  begun first days zone (Err (Refused OutOfPeriod)) created = absurd created
  begun first days zone (Err (Refused UnknownEntry)) created = absurd created
  begun first days zone (Err (Refused (Stale revision))) created = absurd created
  begun first days zone (Err (Refused Withdrawn)) created = absurd created
  begun first days zone (Err (Refused UnknownCustomer)) created = absurd created
  begun first days zone (Err (Refused BadService)) created = absurd created
  begun first days zone (Err (Refused (RefConflict id))) created = absurd created
  begun first days zone (Err (Refused (Full most))) created = absurd created
  begun first days zone (Err (Refused MarkedAlready)) created = absurd created
  begun first days zone (Err (Refused NotMarked)) created = absurd created
  begun first days zone (Err (Refused UnknownCause)) created = absurd created
  begun first days zone (Err (Refused BadPeriod)) created = finds_none created.1
  begun first days zone (Err (Refused BadBook)) created = finds_none created.3
  begun first days zone (Err (Refused BadLife)) created = absurd created
  begun first days zone (Err (Refused (OldVersion version))) created = absurd created
  begun first days zone (Err (Fault OutOfMemory)) created = finds_none created.0
  begun first days zone (Err (Fault Store)) created =
      let may = begun_after settles settles_new old made next new held it.opens found loads clean first days zone created.0 in
      (may.0, may.1, elim may.2 [ inl keeps ↦ inl (finds_kept may.0 keeps) | inr none ↦ inr none ])
  begun first days zone (Err (Fault Reopen)) created = absurd created
  begun first days zone (Err (Fault Input)) created = absurd created
  begun first days zone (Err (Fault Output)) created = absurd created
