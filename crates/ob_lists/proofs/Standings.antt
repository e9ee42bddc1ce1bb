-- What each call makes of a book that the store may have.
use Rattle.std.proofs.Common.{◌≡◌, ◌⊎◌, inl, inr, ℕ, Bool, true, false, List, ◌++◌, Option, Some, None, Result, Ok, Err, is_some, IsSome, IfSome, IfErr, IsErr, OnOk, refl, sym, ap, subst, ◌∙◌}
use Rattle.std.specs.Prelude.{⊤}
use Rattle.std.proofs.lemmas.Bool.{cases_Bool}
use Rattle.sqlite.specs.Held.{state}
use Rattle.sqlite.specs.Tree.{Trees}
use Rattle.ob_base.specs.declared.stop.Stop.{Stop}
use Rattle.ob_base.specs.declared.stop.Stop.TheVariants.{Refused, Fault}
use Rattle.ob_base.specs.declared.stop.Fault.{Fault as AFault}
use Rattle.ob_base.specs.declared.stop.Fault.TheVariants.{OutOfMemory, Store, Reopen, Input, Output}
use Rattle.ob_base.specs.declared.stop.Refusal.{Refusal}
use Rattle.ob_base.specs.declared.stop.Refusal.TheVariants.{BadField, UnknownName, NameTaken, OutOfPeriod, UnknownEntry, Stale, Withdrawn, UnknownCustomer, BadService, RefConflict, Full, MarkedAlready, NotMarked, UnknownCause, BadPeriod, BadBook, BadLife, OldVersion}
use Rattle.ob_state.specs.State.{BookState}
use Rattle.ob_book.specs.Acts.{ActState, Referenced, act}
use Rattle.ob_sql_rows.specs.Rows.{AreApart, Tables}
use Rattle.ob_sql_rows.specs.Versions.{HoldsIn}
use Rattle.ob_sql_rows.specs.declared.version.Version.{Version}
use Rattle.ob_sql_rows.specs.declared.version.Version.TheVariants.{One, Two}
use Rattle.ob_sql_write.specs.Keeps.{IsSettledIn}
use Rattle.ob_record.specs.Tables.{tables_of}
use Rattle.ob_sql_check.specs.OldTables.{old_tables_of}
use Rattle.ob_store.specs.Acting.{reply_as}
use Rattle.ob_store.specs.Calls.{Acted, Created, HasLoaded, Loads, MigratesOldTables, MigratesStoredBook, MigrationAnswers, MovesOut, Outdated, ReadAnswers, Replied, StillStores, StoreFailed, StoreFails, WasEmpty}
use Rattle.ob_store.specs.Crashing.{LoadLaw}
use Rattle.ob_store.specs.Keepers.{Ghosts, HasOldTables, IsClean, IsOpen, StatesOld, Stores, StoresEitherVersion, StoresOld, Ties, book_of}
use Rattle.ob_store.specs.Keeping.{IsBookAfter}
use Rattle.ob_store.specs.MovingOut.{Takes}
use Rattle.ob_store.specs.Versions.{IsLoadFault}
use Rattle.ob_store.specs.declared.reply.Reply.{Reply as GivenReply}
use Rattle.ob_store.proofs.KeeperLaws.{as_either_version, migrated_never, migrated_stores, none_of_two, none_of_versions, none_stored, shows_old, states_old}
use Rattle.ob_store.specs.declared.keeper.Keeper.{Keeper}
use Rattle.ob_lists.specs.Standing.{InUpgrade, KeptOld, MayBe, Stands, Told, told_by}
use Rattle.ob_lists.specs.Going.{Finds, LoadsOne, OfOne}

-- the book after a stop is none, or as before
pub after_stop : (was is : Option BookState) (stop : Stop) → IsBookAfter was is stop → (is ≡ was) ⊎ (is ≡ None)
after_stop was is (Refused refusal) h = inl h
after_stop was is (Fault OutOfMemory) h = inl h
after_stop was is (Fault Store) h = inr h
after_stop was is (Fault Reopen) h = inl h
after_stop was is (Fault Input) h = inl h
after_stop was is (Fault Output) h = inl h

pub after_result : {X : Type 0} (was is : Option BookState) (r : Result X Stop) → OnOk r (is ≡ was) → IfErr r (IsBookAfter was is) → (is ≡ was) ⊎ (is ≡ None)
after_result was is (Ok x) found dropped = inl found
after_result was is (Err stop) found dropped = after_stop was is stop dropped

-- a book of the one kind is one of the other
pub stands_as : {S T : Type 0} {g : Ghosts S} (k : Keeper S T g) (Is Js : ActState → Type 0) → ((x : ActState) → Is x → Js x) → Stands Is k → Stands Js k
stands_as k Is Js so (inl it) = inl (record { book = it.book; is = so it.book it.is; ties = it.ties })
stands_as k Is Js so (inr (inl it)) = inr (inl (record {
  book = it.book;
  other = it.other;
  is = so it.book it.is;
  other_is = so it.other it.other_is;
  keeps = it.keeps;
  lost = it.lost;
}))
stands_as k Is Js so (inr (inr (inl it))) = inr (inr (inl (record { book = it.book; is = so it.book it.is; keeps = it.keeps; lost = it.lost })))
stands_as k Is Js so (inr (inr (inr it))) = inr (inr (inr (record { book = it.book; is = so it.book it.is; keeps = it.keeps; lost = it.lost })))

-- no two amounts of a version's tables stand under one hidden row number
apart_in : (v : Version) (trees : Trees) (t : Tables) → HoldsIn v trees t → AreApart (trees 14)
apart_in One trees t holds = holds.apart
apart_in Two trees t holds = holds.apart

module _ {S T : Type 0} {g : Ghosts S} (old new : Keeper S T g) where
  -- where the store is told to have failed as the tables of a version were read that it keeps, it has, since its file isn't broken
  failed_over : {X : Type 0} (v : Version) (t : Tables) → IsClean new → ReadAnswers {X = X} old new (Err (Fault Store))
      → (IsOpen old → IsSettledIn v (state g old.parts.conn) t) → StoreFailed old new
  failed_over v t clean answers settled = elim (cases_Bool (state g old.parts.conn).is_open) [
    | inl live ↦
        let it = settled live in
        elim (answers.cause clean v it.schema refl) [
          | inl failed ↦ failed
          | inr broken ↦ absurd (broken (apart_in v (state g old.parts.conn).now.trees t it.holds))
        ]
    | inr shut ↦ inr (inl shut)
  ]

  -- a book that is kept, and that of the keeper as before or none
  tie_as_before : (x : ActState) → Ties old x → Stores new x → book_of new ≡ book_of old → Ties new x
  tie_as_before x ties keeps same = record { kept = keeps; book = subst (λ b. IfSome b (λ s. s ≡ x.book)) (sym same) ties.book }

  pub tie_none : (x : ActState) → Stores new x → book_of new ≡ None → Ties new x
  tie_none x keeps none = record { kept = keeps; book = subst (λ b. IfSome b (λ s. s ≡ x.book)) (sym none) tt }

  tie_after : (x : ActState) → Ties old x → Stores new x → (book_of new ≡ book_of old) ⊎ (book_of new ≡ None) → Ties new x
  tie_after x ties keeps (inl same) = tie_as_before x ties keeps same
  tie_after x ties keeps (inr none) = tie_none x keeps none

  still_lost : book_of old ≡ None → (book_of new ≡ book_of old) ⊎ (book_of new ≡ None) → book_of new ≡ None
  still_lost lost (inl same) = same ∙ lost
  still_lost lost (inr none) = none

  module _ (Is : ActState → Type 0) where
    -- what the store kept it keeps on
    pub kept_on : StillStores old new → (book_of new ≡ book_of old) ⊎ (book_of new ≡ None) → Stands Is old → Stands Is new
    kept_on on how (inl it) = inl (record { book = it.book; is = it.is; ties = tie_after it.book it.ties (on.book it.book it.ties.kept) how })
    kept_on on how (inr (inl it)) = inr (inl (record {
      book = it.book;
      other = it.other;
      is = it.is;
      other_is = it.other_is;
      keeps = on.either it.book it.other it.keeps;
      lost = still_lost it.lost how;
    }))
    kept_on on how (inr (inr (inl it))) = inr (inr (inl (record { book = it.book; is = it.is; keeps = on.old_book it.book it.keeps; lost = still_lost it.lost how })))
    kept_on on how (inr (inr (inr it))) = inr (inr (inr (record { book = it.book; is = it.is; keeps = on.version it.book it.keeps; lost = still_lost it.lost how })))

    -- nothing was done
    pub unmoved : new ≡ old → Stands Is old → Stands Is new
    unmoved same stands = subst (λ k. Stands Is k) (sym same) stands

    -- a book that is lost, or one that the store keeps and the keeper has
    pub by_book : (b : Option BookState) → book_of old ≡ b → Stands Is old
        → (book_of old ≡ None) ⊎ ((x : ActState) × Is x × Ties old x × IsSome (book_of old))
    by_book None e stands = inl e
    by_book (Some s) e (inl it) = inr (it.book, it.is, it.ties, ap is_some e)
    by_book (Some s) e (inr (inl it)) = inl it.lost
    by_book (Some s) e (inr (inr (inl it))) = inl it.lost
    by_book (Some s) e (inr (inr (inr it))) = inl it.lost

    -- the answer of a call that needs a book is that of the one that there is
    pub of_one : {X : Type 0} {Answers : ActState → Type 0} (r : Result X Stop) → (book_of old ≡ None → r ≡ Err (Fault Reopen))
        → ((x : ActState) → Ties old x → IsSome (book_of old) → Answers x) → Stands Is old → OfOne Is old r Answers
    of_one r reopen answers stands = elim (by_book (book_of old) refl stands) [
      | inl none ↦ inl (none, reopen none)
      | inr it ↦ inr (it.0, it.1, answers it.0 it.2 it.3)
    ]

    -- what there may be of a book of version 1
    pub old_book : KeptOld Is old ⊎ InUpgrade Is old → (x : ActState) × Is x × StoresEitherVersion old x
    old_book (inl it) = (it.book, it.is, as_either_version old it.book it.keeps)
    old_book (inr it) = (it.book, it.is, it.keeps)

    -- whichever of these books there may be
    failed_for_cause : {X : Type 0} → IsClean old → IsClean new → ReadAnswers {X = X} old new (Err (Fault Store)) → Stands Is old → StoreFailed old new
    failed_for_cause was_clean clean answers (inl it) =
        failed_over Two (tables_of it.book) clean answers (λ live. it.ties.kept.kept.settled was_clean live)
    failed_for_cause was_clean clean answers (inr (inl it)) =
        failed_over Two (tables_of it.book) clean answers (λ live. it.keeps.kept.settled was_clean live)
    failed_for_cause was_clean clean answers (inr (inr it)) =
        let was = old_book it in
        failed_over One (old_tables_of was.0) clean answers (λ live. was.2.kept.settled was_clean live)

    -- ---- a load
    -- a book that was found is the one that there may be
    load_found : LoadLaw g → Loads old new (Ok tt) → IsClean new → Stands Is old → HasLoaded Is new (Ok tt)
    load_found law loads clean (inl it) =
        let got = (law old.parts new.parts (Ok tt) loads clean).0 it.book it.ties.kept in
        (got.0, subst Is (sym got.1) it.is, got.2, got.3)
    load_found law loads clean (inr (inl it)) =
        let got = (law old.parts new.parts (Ok tt) loads clean).1 it.book it.other it.keeps in
        (got.0, subst Is (sym got.1) it.is, got.2, got.3)
    load_found law loads clean (inr (inr it)) =
        let found = old_book it in
        absurd (loads.outdated clean (shows_old old found.0 found.2 (loads.clean clean) (loads.answers.live clean tt)))

    pub load_stands : LoadLaw g → (r : Result ⊤ Stop) → Loads old new r → IsClean new → Stands Is old → Stands Is new
    load_stands law (Ok done) loads clean stands =
        let got = load_found law loads clean stands in
        inl (record { book = got.0; is = got.1; ties = got.2 })
    load_stands law (Err stop) loads clean stands = kept_on loads.answers.keeps (after_stop (book_of old) (book_of new) stop loads.dropped) stands

    -- over the tables of version 1 that version is told
    pub told_old : (X : Type 0) (r : Refusal) → StatesOld old → KeptOld Is old ⊎ InUpgrade Is old → Outdated {X = X} old new (Err (Refused r)) → LoadsOne Is old new (Err (Refused r))
    told_old X (BadField at) one it told = absurd told
    told_old X UnknownName one it told = absurd told
    told_old X NameTaken one it told = absurd told
    told_old X OutOfPeriod one it told = absurd told
    told_old X UnknownEntry one it told = absurd told
    told_old X (Stale revision) one it told = absurd told
    told_old X Withdrawn one it told = absurd told
    told_old X UnknownCustomer one it told = absurd told
    told_old X BadService one it told = absurd told
    told_old X (RefConflict id) one it told = absurd told
    told_old X (Full most) one it told = absurd told
    told_old X MarkedAlready one it told = absurd told
    told_old X NotMarked one it told = absurd told
    told_old X UnknownCause one it told = absurd told
    told_old X BadPeriod one it told = absurd told
    told_old X BadBook one it told = absurd (told.0 one)
    told_old X BadLife one it told = absurd told
    told_old X (OldVersion version) one it told = (told.0, it)

    -- a fault that a load can have
    pub load_fault : {X : Type 0} (f : AFault) → IsLoadFault (Fault f) → IsClean old → IsClean new → ReadAnswers {X = X} old new (Err (Fault f))
        → Stands Is old → LoadsOne Is old new (Err (Fault f))
    load_fault OutOfMemory may was_clean clean answers stands = tt
    load_fault Store may was_clean clean answers stands = failed_for_cause was_clean clean answers stands
    load_fault Reopen may was_clean clean answers stands = elim may [ inl read ↦ elim read [ inl store ↦ elim store [ inl e ↦ absurd cc | inr e ↦ absurd cc ] | inr e ↦ absurd cc ] | inr e ↦ absurd cc ]
    load_fault Input may was_clean clean answers stands = elim may [ inl read ↦ elim read [ inl store ↦ elim store [ inl e ↦ absurd cc | inr e ↦ absurd cc ] | inr e ↦ absurd cc ] | inr e ↦ absurd cc ]
    load_fault Output may was_clean clean answers stands = elim may [ inl read ↦ elim read [ inl store ↦ elim store [ inl e ↦ absurd cc | inr e ↦ absurd cc ] | inr e ↦ absurd cc ] | inr e ↦ absurd cc ]

    pub loads_one : LoadLaw g → (r : Result ⊤ Stop) → Loads old new r → IsClean new → Stands Is old → LoadsOne Is old new r
    loads_one law (Ok done) loads clean stands = load_found law loads clean stands
    loads_one law (Err (Refused r)) loads clean (inl it) = absurd ((law old.parts new.parts (Err (Refused r)) loads clean).0 it.book it.ties.kept)
    loads_one law (Err (Refused r)) loads clean (inr (inl it)) = absurd ((law old.parts new.parts (Err (Refused r)) loads clean).1 it.book it.other it.keeps)
    loads_one law (Err (Refused r)) loads clean (inr (inr it)) =
        let found = old_book it in
        let was_clean = loads.clean clean in
        let live = loads.answers.live clean tt in
        told_old ⊤ r (states_old old found.0 found.2 was_clean live) it (loads.outdated clean (shows_old old found.0 found.2 was_clean live))
    loads_one law (Err (Fault f)) loads clean stands = load_fault f loads.stops (loads.clean clean) clean loads.answers stands

    -- ---- a stored reply, and what was moved
    replied_by : (n : ℕ) (r : Result (Option GivenReply) Stop) (x : ActState) → Is x → Replied old new x n r → Stands Is new
    replied_by n (Ok found) x is done = inl (record { book = x; is = is; ties = done.1 })
    replied_by n (Err (Refused refusal)) x is done = absurd done
    replied_by n (Err (Fault OutOfMemory)) x is done = inl (record { book = x; is = is; ties = done.0 })
    replied_by n (Err (Fault Store)) x is done = inl (record { book = x; is = is; ties = tie_none x done.0 done.1 })
    replied_by n (Err (Fault Reopen)) x is done = absurd done
    replied_by n (Err (Fault Input)) x is done = absurd done
    replied_by n (Err (Fault Output)) x is done = absurd done

    pub reply_stands : (n : ℕ) (r : Result (Option GivenReply) Stop) → (book_of old ≡ None → new ≡ old)
        → ((x : ActState) → Ties old x → IsSome (book_of old) → Replied old new x n r) → Stands Is old → Stands Is new
    reply_stands n r unopened replied stands = elim (by_book (book_of old) refl stands) [
      | inl none ↦ unmoved (unopened none) stands
      | inr it ↦ replied_by n r it.0 it.1 (replied it.0 it.2 it.3)
    ]

    store_failed : (x : ActState) → Is x → (f : AFault) → StoreFails old new x f → Stands Is new
    store_failed x is OutOfMemory done = inl (record { book = x; is = is; ties = done.0 })
    store_failed x is Store done = inl (record { book = x; is = is; ties = tie_none x done.0 done.1 })
    store_failed x is Reopen done = absurd done
    store_failed x is Input done = absurd done
    store_failed x is Output done = absurd done

    module _ {V : Type 0} (takes : Takes V) (was now : V) where
      moved_by : (r : Result ℕ Stop) (x : ActState) → Is x → MovesOut takes old new was now x r → Stands Is new
      moved_by (Ok count) x is done = inl (record { book = x; is = is; ties = done.2 })
      moved_by (Err (Refused refusal)) x is done = absurd done
      moved_by (Err (Fault f)) x is (inl sink) = inl (record { book = x; is = is; ties = sink.1 })
      moved_by (Err (Fault f)) x is (inr store) = store_failed x is f store.1

      pub moves_stand : (r : Result ℕ Stop) → (book_of old ≡ None → new ≡ old)
          → ((x : ActState) → Ties old x → IsSome (book_of old) → MovesOut takes old new was now x r) → Stands Is old → Stands Is new
      moves_stand r unopened moves stands = elim (by_book (book_of old) refl stands) [
        | inl none ↦ unmoved (unopened none) stands
        | inr it ↦ moved_by r it.0 it.1 (moves it.0 it.2 it.3)
      ]

    -- ---- a migration
    -- the clauses of a migration
    module _ (r : Result Bool Stop) (on : MigrationAnswers old new r) (clean : IsClean new) (was_clean : IsClean old)
        (how : (book_of new ≡ book_of old) ⊎ (book_of new ≡ None)) where
      in_upgrade : (x : ActState) → Is x → StoresEitherVersion new x → book_of old ≡ None → Stands Is new
      in_upgrade x is keeps lost = inr (inr (inr (record { book = x; is = is; keeps = keeps; lost = still_lost lost how })))

      now_kept : (x : ActState) → Is x → Stores new x → book_of old ≡ None → Stands Is new
      now_kept x is keeps lost = inl (record { book = x; is = is; ties = tie_none x keeps (still_lost lost how) })

    migrated_kept : (r : Result Bool Stop) (on : MigrationAnswers old new r) (clean : IsClean new) (was_clean : IsClean old)
        (how : (book_of new ≡ book_of old) ⊎ (book_of new ≡ None)) (it : KeptOld Is old) → (IsOpen old → MigratesStoredBook new it.book r) → Stands Is new
    migrated_kept (Ok true) on clean was_clean how it kept = now_kept (Ok true) on clean was_clean how it.book it.is (kept (on.live clean tt)) it.lost
    migrated_kept (Ok false) on clean was_clean how it kept = absurd (kept (on.live clean tt))
    migrated_kept (Err (Refused r)) on clean was_clean how it kept = absurd (kept (on.live clean tt))
    migrated_kept (Err (Fault f)) on clean was_clean how it kept =
        in_upgrade (Err (Fault f)) on clean was_clean how it.book it.is (on.version clean it.book (as_either_version old it.book it.keeps)) it.lost

    migrated_either : (r : Result Bool Stop) (on : MigrationAnswers old new r) (clean : IsClean new) (was_clean : IsClean old)
        (how : (book_of new ≡ book_of old) ⊎ (book_of new ≡ None)) (it : InUpgrade Is old) → (HasOldTables old → MigratesOldTables old new r) → Stands Is new
    migrated_either (Ok true) on clean was_clean how it migrated =
        let live = on.live clean tt in
        let made = migrated (shows_old old it.book it.keeps was_clean live) in
        now_kept (Ok true) on clean was_clean how it.book it.is (migrated_stores old it.book it.keeps was_clean live new made) it.lost
    migrated_either (Ok false) on clean was_clean how it migrated =
        let live = on.live clean tt in
        absurd (migrated_never old it.book it.keeps was_clean live new (migrated (shows_old old it.book it.keeps was_clean live)))
    migrated_either (Err stop) on clean was_clean how it migrated =
        in_upgrade (Err stop) on clean was_clean how it.book it.is (on.version clean it.book it.keeps) it.lost

    pub migrate_stands : (r : Result Bool Stop) → MigrationAnswers old new r → IsClean new → IsClean old
        → (book_of new ≡ book_of old) ⊎ (book_of new ≡ None) → (HasOldTables old → MigratesOldTables old new r)
        → (IsOpen old → (x : ActState) → StoresOld old x → MigratesStoredBook new x r) → Stands Is old → Stands Is new
    migrate_stands r on clean was_clean how migrated kept (inl it) =
        inl (record { book = it.book; is = it.is; ties = tie_after it.book it.ties (on.book it.book it.ties.kept) how })
    migrate_stands r on clean was_clean how migrated kept (inr (inl it)) = inr (inl (record {
      book = it.book;
      other = it.other;
      is = it.is;
      other_is = it.other_is;
      keeps = on.either it.book it.other it.keeps;
      lost = still_lost it.lost how;
    }))
    migrate_stands r on clean was_clean how migrated kept (inr (inr (inl it))) = migrated_kept r on clean was_clean how it (λ live. kept live it.book it.keeps)
    migrate_stands r on clean was_clean how migrated kept (inr (inr (inr it))) = migrated_either r on clean was_clean how it migrated

    -- ---- a new book where there may be one
    -- there was something in a database where a book may be
    held_nothing : IsClean old → IsClean new → WasEmpty old new → Stands Is old → ⊥
    held_nothing was_clean clean empty (inl it) = none_stored old new it.book was_clean clean empty it.ties.kept
    held_nothing was_clean clean empty (inr (inl it)) = none_of_two old new it.book was_clean clean empty it.other it.keeps
    held_nothing was_clean clean empty (inr (inr it)) = let found = old_book it in none_of_versions old new found.0 was_clean clean empty found.2

    pub create_refused : (first : List ℕ) (days : ℕ) (zone : List ℕ) (r : Result ⊤ Stop) → Created old new first days zone r → IsClean new
        → IsClean old → Stands Is old → IsErr r
    create_refused first days zone (Ok done) made clean was_clean stands = absurd (held_nothing was_clean clean made.2 stands)
    create_refused first days zone (Err stop) made clean was_clean stands = refl

    pub create_stands : (first : List ℕ) (days : ℕ) (zone : List ℕ) (r : Result ⊤ Stop) → Created old new first days zone r → IsClean new
        → IsClean old → Stands Is old → Stands Is new
    create_stands first days zone (Ok done) made clean was_clean stands = absurd (held_nothing was_clean clean made.2 stands)
    create_stands first days zone (Err (Refused (BadField at))) made clean was_clean stands = absurd made
    create_stands first days zone (Err (Refused UnknownName)) made clean was_clean stands = absurd made
    create_stands first days zone (Err (Refused NameTaken)) made clean was_clean stands = absurd made
    create_stands first days zone (Err (Refused OutOfPeriod)) made clean was_clean stands = absurd made
    create_stands first days zone (Err (Refused UnknownEntry)) made clean was_clean stands = absurd made
    create_stands first days zone (Err (Refused (Stale revision))) made clean was_clean stands = absurd made
    create_stands first days zone (Err (Refused Withdrawn)) made clean was_clean stands = absurd made
    create_stands first days zone (Err (Refused UnknownCustomer)) made clean was_clean stands = absurd made
    create_stands first days zone (Err (Refused BadService)) made clean was_clean stands = absurd made
    create_stands first days zone (Err (Refused (RefConflict id))) made clean was_clean stands = absurd made
    create_stands first days zone (Err (Refused (Full most))) made clean was_clean stands = absurd made
    create_stands first days zone (Err (Refused MarkedAlready)) made clean was_clean stands = absurd made
    create_stands first days zone (Err (Refused NotMarked)) made clean was_clean stands = absurd made
    create_stands first days zone (Err (Refused UnknownCause)) made clean was_clean stands = absurd made
    create_stands first days zone (Err (Refused BadPeriod)) made clean was_clean stands = kept_on made.1.keeps (inl made.2) stands
    create_stands first days zone (Err (Refused BadBook)) made clean was_clean stands = kept_on made.3.keeps (inl made.4) stands
    create_stands first days zone (Err (Refused BadLife)) made clean was_clean stands = absurd made
    create_stands first days zone (Err (Refused (OldVersion version))) made clean was_clean stands = absurd made
    create_stands first days zone (Err (Fault OutOfMemory)) made clean was_clean stands = kept_on made.0.keeps (inl made.1) stands
    create_stands first days zone (Err (Fault Store)) made clean was_clean stands = kept_on made.0.3 (inr made.1) stands
    create_stands first days zone (Err (Fault Reopen)) made clean was_clean stands = absurd made
    create_stands first days zone (Err (Fault Input)) made clean was_clean stands = absurd made
    create_stands first days zone (Err (Fault Output)) made clean was_clean stands = absurd made

  -- ---- a command
  module _ (b : ActState) (before : List Told) (a : Referenced) where
    acted_by : (r : Result GivenReply Stop) (x : ActState) → MayBe b before x → Acted old new x a r → Stands (MayBe b (told_by a r ++ before)) new
    acted_by (Ok reply) x is done = inl (record { book = act x a; is = (x, is, (reply_as reply, done.0), refl); ties = done.1 })
    acted_by (Err (Refused refusal)) x is done = inl (record { book = x; is = is; ties = done.1 })
    acted_by (Err (Fault OutOfMemory)) x is done = inl (record { book = x; is = is; ties = done.0 })
    acted_by (Err (Fault Store)) x is done = inr (inl (record {
      book = x;
      other = act x a;
      is = (x, is, inl refl);
      other_is = (x, is, inr refl);
      keeps = done.0;
      lost = done.1;
    }))
    acted_by (Err (Fault Reopen)) x is done = absurd done
    acted_by (Err (Fault Input)) x is done = absurd done
    acted_by (Err (Fault Output)) x is done = absurd done

    pub act_stands : (r : Result GivenReply Stop) → (book_of old ≡ None → r ≡ Err (Fault Reopen)) → (book_of old ≡ None → new ≡ old)
        → ((x : ActState) → Ties old x → IsSome (book_of old) → Acted old new x a r) → Stands (MayBe b before) old → Stands (MayBe b (told_by a r ++ before)) new
    act_stands r reopen unopened acted stands = elim (by_book (MayBe b before) (book_of old) refl stands) [
      | inl none ↦ subst (λ r. Stands (MayBe b (told_by a r ++ before)) new) (sym (reopen none)) (unmoved (MayBe b before) (unopened none) stands)
      | inr it ↦ acted_by r it.0 it.1 (acted it.0 it.2 it.3)
    ]

-- what a load finds that is the last of some calls
pub finds : {S T : Type 0} {g : Ghosts S} (Is : ActState → Type 0) (old new : Keeper S T g) (r : Result ⊤ Stop) → Stands Is old → Loads old new r
    → LoadsOne Is old new r → Finds Is new r
finds Is old new r stands loads one = record { before = old; stands = stands; loads = loads; one = one }
