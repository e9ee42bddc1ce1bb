-- What becomes of the book of a keeper whose call was stopped, and what such a call answers then.
use Rattle.std.proofs.Common.{◌≡◌, ◌≢◌, inl, inr, ℕ, List, Option, Some, None, Err, refl, sym, ap, subst, ◌∙◌}
use Rattle.std.specs.Prelude.{IfSome}
use Rattle.sqlite_trees.specs.declared.store.Store.{Ghosts}
use Rattle.sqlite.specs.Held.{state}
use Rattle.ob_base.specs.declared.stop.Refusal.{Refusal}
use Rattle.ob_base.specs.declared.stop.Refusal.TheVariants.{BadField, UnknownName, NameTaken, OutOfPeriod, UnknownEntry, Stale, Withdrawn, UnknownCustomer, BadService, RefConflict, Full, MarkedAlready, NotMarked, UnknownCause, BadPeriod, BadBook, BadLife, OldVersion}
use Rattle.ob_base.specs.declared.stop.Stop.{Stop}
use Rattle.ob_base.specs.declared.stop.Stop.TheVariants.{Refused, Fault}
use Rattle.ob_base.specs.declared.stop.Fault.TheVariants.{OutOfMemory, Store, Reopen, Input, Output}
use Rattle.ob_state.specs.State.{BookState}
use Rattle.ob_book.specs.Acts.{ActState, Referenced}
use Rattle.ob_sql_rows.specs.Steps.{HasFailed, IsStoreFault}
use Rattle.ob_store.specs.Acting.{Acted, Acts}
use Rattle.ob_store.specs.Creating.{Created, Creates}
use Rattle.ob_store.specs.Keeping.{IsBookAfter, KeeperValue, KeepsBook, Ties}
use Rattle.ob_store.specs.MovingOut.{IsBookAfterMoves, MovesOut, Takes, TakesFront, all_moves}
use Rattle.ob_store.specs.Replying.{Replied, Replies}

-- another stop than a fault of the store keeps it
pub kept_after : (was is : Option BookState) (stop : Stop) → stop ≢ Fault Store → is ≡ was → IsBookAfter was is stop
kept_after was is (Refused refusal) other same = same
kept_after was is (Fault OutOfMemory) other same = same
kept_after was is (Fault Store) other same = absurd (other refl)
kept_after was is (Fault Reopen) other same = same
kept_after was is (Fault Input) other same = same
kept_after was is (Fault Output) other same = same

-- a stop is a fault of the store, after which there is none, or another one
pub by_after : (was is : Option BookState) (stop : Stop) (P : Stop → Type 0) → IsBookAfter was is stop → (stop ≢ Fault Store → is ≡ was → P stop) → (is ≡ None → P (Fault Store)) → P stop
by_after was is (Refused refusal) P book other store = other (λ e. cc) book
by_after was is (Fault OutOfMemory) P book other store = other (λ e. cc) book
by_after was is (Fault Store) P book other store = store book
by_after was is (Fault Reopen) P book other store = other (λ e. cc) book
by_after was is (Fault Input) P book other store = other (λ e. cc) book
by_after was is (Fault Output) P book other store = other (λ e. cc) book

-- the same of a handing out
pub after_moves : {V : Type 0} (takes : Takes V) (sink : V) (was is : Option BookState) (stop : Stop) → IsStoreFault stop → IsBookAfter was is stop → IsBookAfterMoves takes sink was is (Err stop)
after_moves takes sink was is stop (inl memory) book =
    subst (λ s. IsBookAfterMoves takes sink was is (Err s)) (sym memory) (inr (inl refl, subst (IsBookAfter was is) memory book))
after_moves takes sink was is stop (inr store) book =
    subst (λ s. IsBookAfterMoves takes sink was is (Err s)) (sym store) (inr (inr refl, subst (IsBookAfter was is) store book))

module _ {S : Type 0} (g : Ghosts S) (old new : KeeperValue S) where
  -- a store that keeps the book, where the keeper has the one that it had
  tied : (b : ActState) → Ties g old b → KeepsBook (state g new.conn) b → new.book ≡ old.book → Ties g new b
  tied b ties keeps same = record { kept = keeps; book = subst (λ (o : Option BookState). IfSome o (λ s. s ≡ b.book)) (sym same) ties.book }

  -- ---- why there is no new book
  module _ (first : List ℕ) (days : ℕ) (zone : List ℕ) where
    abbrev No : Refusal → Type 0
    No r = Creates g old.conn new.conn first days zone (Err (Refused r))

    not_created : (r : Refusal) → No r → new.book ≡ old.book → Created g old new first days zone (Err (Refused r))
    not_created (BadField at) it book = it
    not_created UnknownName it book = it
    not_created NameTaken it book = it
    not_created OutOfPeriod it book = it
    not_created UnknownEntry it book = it
    not_created (Stale revision) it book = it
    not_created Withdrawn it book = it
    not_created UnknownCustomer it book = it
    not_created BadService it book = it
    not_created (RefConflict id) it book = it
    not_created (Full most) it book = it
    not_created MarkedAlready it book = it
    not_created NotMarked it book = it
    not_created UnknownCause it book = it
    not_created BadPeriod it book = (it.0, it.1, book)
    not_created BadBook it book = (it.0, it.1, it.2, it.3, book)
    not_created BadLife it book = it
    not_created (OldVersion version) it book = it

    pub created_err : (stop : Stop) → Creates g old.conn new.conn first days zone (Err stop) → IsBookAfter old.book new.book stop → Created g old new first days zone (Err stop)
    created_err (Refused r) it book = not_created r it book
    created_err (Fault OutOfMemory) it book = (it, book)
    created_err (Fault Store) it book = (it, book)
    created_err (Fault Reopen) it book = it
    created_err (Fault Input) it book = it
    created_err (Fault Output) it book = it

  module _ (b : ActState) (ties : Ties g old b) where
    -- ---- why a command isn't answered a reply
    pub acted_err : (a : Referenced) (was is : BookState) → old.book ≡ Some was → (stop : Stop) → Acts g new.conn was is b a (Err stop) → IsBookAfter (Some is) new.book stop → Acted g old new b a (Err stop)
    acted_err a was is some (Refused r) it book =
        let same : new.book ≡ old.book = book ∙ ap Some it.2 ∙ sym some in
        (it.0, tied b ties it.1 same, same)
    acted_err a was is some (Fault OutOfMemory) it book =
        let same : new.book ≡ old.book = book ∙ ap Some it.1 ∙ sym some in
        (tied b ties it.0 same, same)
    acted_err a was is some (Fault Store) it book = (it, book)
    acted_err a was is some (Fault Reopen) it book = it
    acted_err a was is some (Fault Input) it book = it
    acted_err a was is some (Fault Output) it book = it

    -- ---- why no reply is found
    pub replied_err : (n : ℕ) (stop : Stop) → Replies g new.conn b n (Err stop) → IsBookAfter old.book new.book stop → Replied g old new b n (Err stop)
    replied_err n (Refused r) it book = it
    replied_err n (Fault OutOfMemory) it book = (tied b ties it book, book)
    replied_err n (Fault Store) it book = (it, book)
    replied_err n (Fault Reopen) it book = it
    replied_err n (Fault Input) it book = it
    replied_err n (Fault Output) it book = it

    -- ---- why the moves were handed out in part
    module _ {V : Type 0} (takes : Takes V) (was is : V) (front : TakesFront takes was (all_moves b) is) (keeps : KeepsBook (state g new.conn) b) where
      pub moved_err : (stop : Stop) → IsStoreFault stop → (stop ≡ Fault Store → HasFailed (state g old.conn) (state g new.conn)) → IsBookAfter old.book new.book stop → MovesOut g takes old new was is b (Err stop)
      moved_err stop (inl memory) cause book =
          let same : new.book ≡ old.book = subst (IsBookAfter old.book new.book) memory book in
          subst (λ s. MovesOut g takes old new was is b (Err s)) (sym memory) (inr (front, (tied b ties keeps same, same)))
      moved_err stop (inr store) cause book =
          subst (λ s. MovesOut g takes old new was is b (Err s)) (sym store) (inr (front, (keeps, subst (IsBookAfter old.book new.book) store book, cause store)))
