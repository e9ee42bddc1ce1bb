-- What is made of the tables of version 1 that a crash left.
use Rattle.std.proofs.Common.{◌≡◌, ◌⊎◌, inl, inr, Bool, true, false, Result, Ok, Err, refl, sym, subst}
use Rattle.std.specs.List.{AllByRecursion}
use Rattle.sqlite_trees.specs.declared.store.Store.{Ghosts}
use Rattle.sqlite.specs.Held.{Held, state}
use Rattle.ob_base.specs.declared.stop.Stop.{Stop}
use Rattle.ob_base.specs.declared.stop.Stop.TheVariants.{Refused, Fault}
use Rattle.ob_base.specs.declared.stop.Refusal.{Refusal}
use Rattle.ob_base.specs.declared.stop.Refusal.TheVariants.{BadField, UnknownName, NameTaken, OutOfPeriod, UnknownEntry, Stale, Withdrawn, UnknownCustomer, BadService, RefConflict, Full, MarkedAlready, NotMarked, UnknownCause, BadPeriod, BadBook, BadLife, OldVersion}
use Rattle.ob_book.specs.Acts.{ActState}
use Rattle.ob_sql_rows.specs.Creation.{old_schema}
use Rattle.ob_sql_rows.specs.declared.version.Version.TheVariants.{One}
use Rattle.ob_sql_write.specs.Keeps.{LeavesIn}
use Rattle.ob_record.specs.Naming.{IsReferenced}
use Rattle.ob_record.specs.Reached.{ReachedAreFew}
use Rattle.ob_sql_check.specs.Laws.{OldIsReached}
use Rattle.ob_sql_check.specs.OldTables.{HasOldBook, IsOldReached, old_tables_of}
use Rattle.ob_store.specs.Crashing.{OpensAfterCrash, Restores}
use Rattle.ob_store.specs.Keeping.{KeeperValue, KeepsBook}
use Rattle.ob_store.specs.Loading.{trees_in}
use Rattle.ob_store.specs.Migrating.{KeepsEitherVersion, KeepsOldBook, Migrated}
use Rattle.ob_store.specs.OldCrashing.{HasMigrated, OldCrashLaw, RestoresOld}
use Rattle.ob_store.proofs.Crashing.{one_schema, restored}
use Rattle.ob_store.proofs.OldBooks.{has_one}
use Rattle.ob_store.proofs.Upgrading.{two_versions}

module _ {R : Type 0} (h : Ghosts R) (conn new : Held R) (b : ActState) (has : HasOldBook (trees_in h conn) b) where
  -- no refusal but that of other tables is told, and these are the book's
  not_refused : (r : Refusal) → Migrated h conn new (Err (Refused r)) → ⊥
  not_refused (BadField at) made = made
  not_refused UnknownName made = made
  not_refused NameTaken made = made
  not_refused OutOfPeriod made = made
  not_refused UnknownEntry made = made
  not_refused (Stale revision) made = made
  not_refused Withdrawn made = made
  not_refused UnknownCustomer made = made
  not_refused BadService made = made
  not_refused (RefConflict id) made = made
  not_refused (Full most) made = made
  not_refused MarkedAlready made = made
  not_refused NotMarked made = made
  not_refused UnknownCause made = made
  not_refused BadPeriod made = made
  not_refused BadBook made = made.1 b has
  not_refused BadLife made = made
  not_refused (OldVersion version) made = made

  -- a migration makes them this book's, since they are of no other
  has_migrated : (r : Result Bool Stop) → Migrated h conn new r → HasMigrated h b new r
  has_migrated (Ok true) made = subst (λ (x : ActState). KeepsBook (state h new) x) (sym (made.1.1 b has)) made.2
  has_migrated (Ok false) made = two_versions (trees_in h conn) (has_one (trees_in h conn) b has) made.0
  has_migrated (Err (Refused r)) made = not_refused r made
  has_migrated (Err (Fault fault)) made = tt

module _ {S R : Type 0} (g : Ghosts S) (h : Ghosts R) (few : ReachedAreFew) (old : OldIsReached) (was : Held S) (keeper : KeeperValue R) (opens : OpensAfterCrash g h was keeper.conn) where
  old_restored : (b : ActState) → IsOldReached b → AllByRecursion IsReferenced b.accepted → LeavesIn One (old_tables_of b) (trees_in h keeper.conn) → RestoresOld h keeper b
  old_restored b reached valid leaves =
      let has : HasOldBook (trees_in h keeper.conn) b = record { reached = reached; valid = valid; tables = leaves.holds.rows } in
      record {
        schema = one_schema keeper.conn.schema old_schema (trees_in h keeper.conn) (opens.live opens.opens.is_open).0 leaves.sound;
        told = has_one (trees_in h keeper.conn) b has;
        migrates = λ new r made. has_migrated h keeper.conn new b has r made;
      }

  kept : (b : ActState) → KeepsOldBook (state g was) b → RestoresOld h keeper b
  kept b keeps = old_restored b keeps.reached keeps.valid (keeps.kept.left opens.clean (trees_in h keeper.conn) opens.left)

  either : (b : ActState) → KeepsEitherVersion (state g was) b → RestoresOld h keeper b ⊎ Restores h keeper (λ x. x ≡ b)
  either b keeps = elim (keeps.kept.left opens.clean (trees_in h keeper.conn) opens.left) [
    | inl first ↦ inl (old_restored b keeps.reached keeps.valid first)
    | inr other ↦ inr (restored h few keeper opens.opens opens.live (λ x. x ≡ b) b refl (old b keeps.reached).0 keeps.valid other)
  ]

pub old_crash_law : {S R : Type 0} (g : Ghosts S) (h : Ghosts R) → ReachedAreFew → OldIsReached → OldCrashLaw g h
old_crash_law g h few old was keeper opens = (kept g h few old was keeper opens, either g h few old was keeper opens)
