-- What is left of the tables of version 1 once they were to be made those of version 2.
use Rattle.std.proofs.Common.{◌≡◌, ◌⊎◌, inl, inr, ℕ, [], ◌∷◌, Bool, true, false, Result, Ok, Err, IsTrue, sym, ap, subst, ◌∙◌, arith}
use Rattle.std.specs.Prelude.{⊤, IfErr, OnOk}
use Rattle.std.proofs.lemmas.List.Sorted.{IsPermutation-sym, IsPermutation-trans}
use Rattle.sqlite_trees.specs.declared.store.Store.{Ghosts}
use Rattle.sqlite.specs.Tree.{Trees}
use Rattle.sqlite.specs.Effect.{Database}
use Rattle.sqlite.specs.Held.{Held, state}
use Rattle.sqlite.specs.State.{State, HasCleanDisk, IsLive, IsUnchanged, Survives}
use Rattle.sqlite.specs.Order.{column}
use Rattle.sqlite.proofs.Callers.{one_permutation}
use Rattle.sqlite.proofs.StateLemmas.{survives_then}
use Rattle.sqlite_catalog.specs.Listing.{IsSound}
use Rattle.ob_base.specs.Stop.{out_of_memory}
use Rattle.ob_base.specs.declared.stop.Stop.{Stop}
use Rattle.ob_base.specs.declared.stop.Stop.TheVariants.{Fault}
use Rattle.ob_base.specs.declared.stop.Fault.TheVariants.{Store}
use Rattle.ob_book.specs.Acts.{ActState}
use Rattle.ob_sql_rows.specs.Creation.{old_schema}
use Rattle.ob_sql_rows.specs.Rows.{AreApart, Columns, Holds, Tables, number}
use Rattle.ob_sql_rows.specs.Schema.{book_schema}
use Rattle.ob_sql_rows.specs.Steps.{IsStoreFault}
use Rattle.ob_sql_rows.proofs.Failing.{failed_after}
use Rattle.ob_sql_rows.specs.Versions.{HoldsOld, schema_of}
use Rattle.ob_sql_rows.specs.declared.version.Version.{Version}
use Rattle.ob_sql_rows.specs.declared.version.Version.TheVariants.{One, Two}
use Rattle.ob_sql_write.specs.Keeps.{HasCommitCause, Keeps, KeepsIn, KeepsNumbers, Leaves, LeavesIn}
use Rattle.ob_sql_write.specs.Upgrade.{CanUpgrade, KeepsOldOr, LeavesUpgraded, LetsUpgrade, with_upgrade}
use Rattle.ob_sql_write.proofs.Commits.{numbers_survive}
use Rattle.ob_record.specs.Tables.{tables_of}
use Rattle.ob_sql_read.specs.Reading.{IsReadFault}
use Rattle.ob_sql_read.specs.Version.{HasVersion}
use Rattle.ob_sql_check.specs.Laws.{OldIsReached}
use Rattle.ob_sql_check.specs.OldTables.{HasOldBook, old_tables_of}
use Rattle.ob_store.specs.declared.migrating.Upgrade.{Upgrade}
use Rattle.ob_store.specs.Finding.{Finds, OnlyReads}
use Rattle.ob_store.specs.Keeping.{HasStoreCause, KeepsBook}
use Rattle.ob_store.specs.Migrating.{HasUpgradeCause, HoldsNoOldBook, KeepsEitherVersion, KeepsOldBook, KeepsOnNumbers, LeavesKept, LeftAsItWas, Migrated, MigratesKept, OnlyReadsOld, StaysOrUpgrades}
use Rattle.ob_store.specs.Shapes.{IsShapeOf}
use Rattle.ob_store.specs.Upgrading.{HasWriteCause, IsTold, IsUntold, IsUpgradeOf, LeavesWritten, Migrates, OfUpgraded, Upgradable, Upgraded}
use Rattle.ob_store.proofs.Accepting.{holds_as, keeps_as, leaves_as}
use Rattle.ob_store.proofs.Crashing.{one_schema}
use Rattle.ob_store.proofs.OldBooks.{has_one}
use Rattle.ob_store.proofs.Reading.{fails, no_more, then_more}
use Rattle.ob_store.proofs.Telling.{no_old_shape, now_shape}

-- ---- the tables that a store shows outside a transaction it keeps
pub keeps_old : (s : State) (t : Tables) → IsTrue s.is_open → IsLive s → (IsTrue s.is_open → s.now ≡ s.committed) → (IsTrue s.is_open → (trees : Trees) → s.may_leave trees → trees ≡ s.committed.trees) → s.now.schema ≡ old_schema
    → HoldsOld s.now.trees t → KeepsIn One s t
keeps_old s t opened live settled leaves schema holds = record {
  settled = λ clean is. record { schema = schema; committed = sym (settled opened); holds = holds };
  left = λ clean trees may.
      let is : trees ≡ s.now.trees = leaves opened trees may ∙ ap (λ (d : Database). d.trees) (sym (settled opened)) in
      record {
        sound = subst (IsSound old_schema) (sym is) (subst (λ x. IsSound x s.now.trees) schema (live opened).0);
        holds = subst (λ x. HoldsOld x t) (sym is) holds;
      };
}

-- what a commit leaves of the tables of version 1 of a book are those of version 2, where it makes them so
pub written : (s : State) (it : Upgrade) (b : ActState) → IsUpgradeOf b it → KeepsIn One s (old_tables_of b) → (trees : Trees) → LeavesUpgraded s (CanUpgrade it.bodies.items it.devices) (with_upgrade it.bodies.items it.devices) trees → Leaves (tables_of b) trees
written s it b makes keeps trees leaves = leaves_as (with_upgrade it.bodies.items it.devices (old_tables_of b)) (tables_of b) makes.rows trees (leaves (old_tables_of b) keeps makes.can)

pub survives_as : (old new : State) (P Q : Trees → Type 0) → ((trees : Trees) → P trees → Q trees) → Survives old new P → Survives old new Q
survives_as old new P Q f s = record {
  clean = s.clean;
  shield = s.shield;
  counts = s.counts;
  limit = s.limit;
  closes = s.closes;
  crash = λ clean trees may. elim (s.crash clean trees may) [ inl was ↦ inl was | inr commits ↦ inr (f trees commits) ];
}

-- no trees are a whole database of both versions
not_both : (trees : Trees) (t u : Tables) → LeavesIn One t trees → Leaves u trees → ⊥
not_both trees t u one two =
    let same : book_schema ≡ old_schema = one_schema book_schema old_schema trees two.sound one.sound in
    no_old_shape (subst (IsShapeOf Two) same now_shape)

-- a heading tells one version
two_rows : (row other : Columns) → row ∷ [] ≡ other ∷ [] → column row 1 ≡ number 1 → column other 1 ≡ number 2 → ⊥
two_rows row other same one two =
    let is : row ≡ other = cc in
    let numbers : number 1 ≡ number 2 = sym one ∙ ap (λ r. column r 1) is ∙ two in
    absurd (let n : ◌≡◌ {A = ℕ} 1 2 = cc in omega (arith, n))

pub two_versions : (trees : Trees) → HasVersion 1 trees → HasVersion 2 trees → ⊥
two_versions trees one two =
    two_rows one.0 two.0 (sym (one_permutation _ _ (IsPermutation-trans _ _ _ (IsPermutation-sym _ _ one.1) two.1))) one.2 two.2

-- ---- the upgrade of the book that was found
module _ {S : Type 0} (g : Ghosts S) (old_law : OldIsReached) (old new : Held S) (it : Upgrade)
    (survives : Survives (state g old) (state g new) (LeavesUpgraded (state g old) (CanUpgrade it.bodies.items it.devices) (with_upgrade it.bodies.items it.devices))) (b : ActState) (has : HasOldBook (state g old).now.trees b)
    (makes : IsUpgradeOf b it) (keeps : KeepsIn One (state g old) (old_tables_of b)) where
  abbrev made : Tables
  made = with_upgrade it.bodies.items it.devices (old_tables_of b)

  keeps_one : KeepsIn One (state g new) (old_tables_of b) → KeepsOldBook (state g new) b
  keeps_one kept = record { kept = kept; reached = has.reached; valid = has.valid }

  upgraded : ((t : Tables) → KeepsIn One (state g old) t → CanUpgrade it.bodies.items it.devices t → Keeps (state g new) (with_upgrade it.bodies.items it.devices t)) → Upgraded g old new b (Ok tt)
  upgraded done = record {
    kept = keeps_as made (tables_of b) makes.rows (state g new) (done (old_tables_of b) keeps makes.can);
    reached = (old_law b has.reached).0;
    valid = has.valid;
  }

  either_of : KeepsOldOr (state g new) (old_tables_of b) made → KeepsEitherVersion (state g new) b
  either_of it = record {
    kept = record {
      settled = it.settled;
      left = λ clean trees may. elim (it.left clean trees may) [ inl was ↦ inl was | inr is ↦ inr (leaves_as made (tables_of b) makes.rows trees is) ];
    };
    reached = has.reached;
    valid = has.valid;
  }

  left_so : HasCleanDisk (state g new) → (trees : Trees) → (state g new).may_leave trees → (state g old).may_leave trees ⊎ Leaves (tables_of b) trees
  left_so clean trees may = elim (survives.crash clean trees may) [
    | inl was ↦ inl was
    | inr is ↦ inr (leaves_as made (tables_of b) makes.rows trees (is (old_tables_of b) keeps makes.can))
  ]

  left_old : KeepsIn One (state g new) (old_tables_of b) → HasCleanDisk (state g new) → (trees : Trees) → (state g new).may_leave trees → (state g old).may_leave trees
  left_old kept clean trees may = elim (left_so clean trees may) [
    | inl was ↦ was
    | inr is ↦ absurd (not_both trees (old_tables_of b) (tables_of b) (kept.left clean trees may) is)
  ]

  not_upgraded : HasCleanDisk (state g new) → (stop : Stop) → IsStoreFault stop → (stop ≡ out_of_memory → (t : Tables) → KeepsIn One (state g old) t → KeepsIn One (state g new) t)
      → ((t : Tables) → KeepsIn One (state g old) t → CanUpgrade it.bodies.items it.devices t → KeepsOldOr (state g new) t (with_upgrade it.bodies.items it.devices t)) → Upgraded g old new b (Err stop)
  not_upgraded clean stop (inl memory) undone either =
      let kept = undone memory (old_tables_of b) keeps in
      subst (λ s. Upgraded g old new b (Err s)) (sym memory) (keeps_one kept, left_old kept clean)
  not_upgraded clean stop (inr store) undone either =
      subst (λ s. Upgraded g old new b (Err s)) (sym store) (either_of (either (old_tables_of b) keeps makes.can), left_so clean)

  -- it was, or it wasn't
  pub upgraded_or : HasCleanDisk (state g new) → (r : Result ⊤ Stop) → IfErr r IsStoreFault
      → OnOk r ((t : Tables) → KeepsIn One (state g old) t → CanUpgrade it.bodies.items it.devices t → Keeps (state g new) (with_upgrade it.bodies.items it.devices t))
      → IfErr r (λ stop. stop ≡ out_of_memory → (t : Tables) → KeepsIn One (state g old) t → KeepsIn One (state g new) t)
      → IfErr r (λ stop. (t : Tables) → KeepsIn One (state g old) t → CanUpgrade it.bodies.items it.devices t → KeepsOldOr (state g new) t (with_upgrade it.bodies.items it.devices t)) → Upgraded g old new b r
  upgraded_or clean (Ok done) fault made_so undone either = upgraded made_so
  upgraded_or clean (Err stop) fault made_so undone either = not_upgraded clean stop fault undone either

  -- why it wasn't: the rows that were undone are those of version 2
  undone_as : HasCommitCause g (state g old) (state g new) made → HasCommitCause g (state g old) (state g new) (tables_of b)
  undone_as (inl failed) = inl failed
  undone_as (inr it) =
      let trees = (state g it.0).now.trees in
      let holds : Holds trees (tables_of b) = holds_as made (tables_of b) makes.rows trees it.1 in
      inr (it.0, holds, it.2)

  pub not_caused : HasCleanDisk (state g new) → KeepsNumbers (state g old) → (r : Result ⊤ Stop)
      → IfErr r (λ stop. stop ≡ Fault Store → HasCleanDisk (state g new) → (t : Tables) → KeepsIn One (state g old) t → KeepsNumbers (state g old) → CanUpgrade it.bodies.items it.devices t
      → LetsUpgrade it.bodies.items it.devices t → HasCommitCause g (state g old) (state g new) (with_upgrade it.bodies.items it.devices t)) → HasWriteCause g old new (tables_of b) r
  not_caused clean numbers (Ok done) told = tt
  not_caused clean numbers (Err stop) told = λ store. undone_as (told store clean (old_tables_of b) keeps numbers makes.can makes.lets)

-- ---- the whole of it
module _ {S : Type 0} (g : Ghosts S) where
  still : (old new : Held S) → Survives (state g old) (state g new) (λ _. ⊥) → Survives (state g old) (state g new) (LeavesKept (state g old))
  still old new s = record {
    clean = s.clean;
    shield = s.shield;
    counts = s.counts;
    limit = s.limit;
    closes = s.closes;
    crash = λ clean trees may. inl (no_more (state g old) (state g new) s clean trees may);
  }

  -- a book of version 1 that an opened store keeps is the one that its tables hold
  kept_has : (conn : Held S) → HasCleanDisk (state g conn) → IsTrue (state g conn).is_open → (b : ActState) → KeepsOldBook (state g conn) b → (conn.schema ≡ old_schema) × HasOldBook (state g conn).now.trees b
  kept_has conn clean opened b keeps =
      let it = keeps.kept.settled clean opened in
      (it.schema, record { reached = keeps.reached; valid = keeps.valid; tables = it.holds.rows })

  -- no book of version 1 stands where the heading tells another version
  no_old : (trees : Trees) → IsUntold One trees → HoldsNoOldBook trees
  no_old trees none b has = none.1 (has_one trees b has)

  two_not_one : (trees : Trees) → HasVersion 2 trees → HoldsNoOldBook trees
  two_not_one trees two b has = two_versions trees (has_one trees b has) two

  module _ (old new : Held S) where
    keeps_on : ((t : Tables) → KeepsIn One (state g old) t → KeepsIn One (state g new) t) → (b : ActState) → KeepsOldBook (state g old) b → KeepsOldBook (state g new) b
    keeps_on kept b keeps = record { kept = kept (old_tables_of b) keeps.kept; reached = keeps.reached; valid = keeps.valid }

    keeps_now : ((t : Tables) → KeepsIn Two (state g old) t → KeepsIn Two (state g new) t) → (b : ActState) → KeepsBook (state g old) b → KeepsBook (state g new) b
    keeps_now kept b keeps = record { kept = kept (tables_of b) keeps.kept; reached = keeps.reached; valid = keeps.valid }

    pub as_either : (b : ActState) → KeepsOldBook (state g new) b → KeepsEitherVersion (state g new) b
    as_either b keeps = record {
      kept = record { settled = keeps.kept.settled; left = λ clean trees may. inl (keeps.kept.left clean trees may) };
      reached = keeps.reached;
      valid = keeps.valid;
    }

    module _ {X : Type 0} (Good : Trees → X → Type 0) (Bad : Trees → Type 0) (r : Result X Stop) (clean : HasCleanDisk (state g new)) where
      reads_old : Finds g One Good Bad old new r → OnlyReadsOld g old new
      reads_old it = record { kept = keeps_on it.kept; left = no_more (state g old) (state g new) it.survives clean }

      reads_now : Finds g Two Good Bad old new r → OnlyReads g old new
      reads_now it = record { kept = keeps_now it.kept; left = no_more (state g old) (state g new) it.survives clean }

    -- ---- the heading tells version 2
    module _ (is : Bool) (so : is ≡ true) (told : (v : Version) → Finds g v (IsTold v) (IsUntold v) old new (Ok is)) where
      at : (v : Version) → Finds g v (IsTold v) (IsUntold v) old new (Ok true)
      at v = subst (λ x. Finds g v (IsTold v) (IsUntold v) old new (Ok x)) so (told v)

      pub was_new : Migrates g old new (Ok false)
      was_new = record {
        clean = (at One).clean;
        survives = still old new (at One).survives;
        faults = tt;
        cause = λ clean v schema. tt;
        migrated = λ clean schema. ((at One).good clean schema, (reads_old (IsTold One) (IsUntold One) (Ok true) clean (at One), ((at One).same clean schema).0.now_is));
        current = λ clean schema. ((at Two).good clean schema, (reads_now (IsTold Two) (IsUntold Two) (Ok true) clean (at Two), ((at Two).same clean schema).0.now_is));
        kept = λ clean opened b keeps.
            let has = kept_has old ((at One).clean clean) opened b keeps in
            two_not_one (state g old).now.trees ((at One).good clean has.0) b has.1;
        numbered = λ of. numbers_survive (state g old) (state g new) (at One).survives;
      }

    -- ---- the reading stopped
    abbrev Foreign : Trees → Type 0
    Foreign trees = (¬ (HasVersion 2 trees)) × HoldsNoOldBook trees

    module _ {X : Type 0} (Good : Trees → X → Type 0) (stop : Stop) (it : Finds g One Good Foreign old new (Err stop)) where
      not_migrated : HasCleanDisk (state g new) → old.schema ≡ old_schema → IsReadFault stop → Migrated g old new (Err stop)
      not_migrated clean schema (inl (inl memory)) = subst (λ s. Migrated g old new (Err s)) (sym memory) (reads_old Good Foreign (Err stop) clean it)
      not_migrated clean schema (inl (inr store)) =
          let reads = reads_old Good Foreign (Err stop) clean it in
          let stays : StaysOrUpgrades g old new = record { kept = λ b keeps. as_either b (reads.kept b keeps); left = λ trees may. inl (reads.left trees may) } in
          subst (λ s. Migrated g old new (Err s)) (sym store) stays
      not_migrated clean schema (inr bad) =
          let none = it.bad clean bad schema in
          subst (λ s. Migrated g old new (Err s)) (sym bad) (none.0, none.1, (reads_old Good Foreign (Err stop) clean it, it.same_bad clean bad schema))

      not_kept : HasCleanDisk (state g new) → IsTrue (state g old).is_open → (b : ActState) → KeepsOldBook (state g old) b → IsReadFault stop → MigratesKept g new b (Err stop)
      not_kept clean opened b keeps (inl (inl memory)) = subst (λ s. MigratesKept g new b (Err s)) (sym memory) (keeps_on it.kept b keeps)
      not_kept clean opened b keeps (inl (inr store)) = subst (λ s. MigratesKept g new b (Err s)) (sym store) (as_either b (keeps_on it.kept b keeps))
      not_kept clean opened b keeps (inr bad) =
          let has = kept_has old (it.clean clean) opened b keeps in
          absurd ((it.bad clean bad has.0).1 b has.1)

      cause_of : (HasCleanDisk (state g new) → old.schema ≡ book_schema → HasStoreCause {X = Bool} (state g old) (state g new) (Err stop)) → HasCleanDisk (state g new) → (v : Version) → old.schema ≡ schema_of v → HasUpgradeCause g old new (Err stop)
      cause_of now clean One schema is = inl (it.cause clean schema is)
      cause_of now clean Two schema is = inl (now clean schema is)

      pub stopped : (HasCleanDisk (state g new) → old.schema ≡ book_schema → HasStoreCause {X = Bool} (state g old) (state g new) (Err stop)) → (HasCleanDisk (state g new) → old.schema ≡ book_schema → LeftAsItWas g old new (Err stop))
          → Migrates g old new (Err stop)
      stopped now current = record {
        clean = it.clean;
        survives = still old new it.survives;
        faults = it.faults;
        cause = cause_of now;
        migrated = λ clean schema. not_migrated clean schema it.faults;
        current = current;
        kept = λ clean opened b keeps. not_kept clean opened b keeps it.faults;
        numbered = λ of. numbers_survive (state g old) (state g new) it.survives;
      }

    -- ---- at the heading
    module _ (stop : Stop) (told : (v : Version) → Finds g v (IsTold v) (IsUntold v) old new (Err stop)) where
      left_now : HasCleanDisk (state g new) → old.schema ≡ book_schema → IsReadFault stop → LeftAsItWas g old new (Err stop)
      left_now clean schema (inl (inl memory)) = subst (λ s. LeftAsItWas g old new (Err s)) (sym memory) (reads_now (IsTold Two) (IsUntold Two) (Err stop) clean (told Two))
      left_now clean schema (inl (inr store)) = subst (λ s. LeftAsItWas g old new (Err s)) (sym store) (reads_now (IsTold Two) (IsUntold Two) (Err stop) clean (told Two))
      left_now clean schema (inr bad) =
          subst (λ s. LeftAsItWas g old new (Err s)) (sym bad) ((told Two).bad clean bad schema, (reads_now (IsTold Two) (IsUntold Two) (Err stop) clean (told Two), (told Two).same_bad clean bad schema))

      pub untold : Migrates g old new (Err stop)
      untold =
          stopped (IsTold One) stop (fails g One (IsTold One) (IsUntold One) (IsTold One) Foreign old new stop (λ trees none. (none.0, no_old trees none)) (told One))
          (told Two).cause (λ clean schema. left_now clean schema (told Two).faults)

  -- ---- the heading tells version 1, and the tables are read
  module _ (old mid : Held S) (is : Bool) (other : is ≡ false) (told : (v : Version) → Finds g v (IsTold v) (IsUntold v) old mid (Ok is)) (end : Held S) where
    first : (v : Version) → Finds g v (IsTold v) (IsUntold v) old mid (Ok false)
    first v = subst (λ x. Finds g v (IsTold v) (IsUntold v) old mid (Ok x)) other (told v)

    not_now : HasCleanDisk (state g mid) → old.schema ≡ book_schema → ⊥
    not_now clean schema = (first Two).good clean schema

    abbrev Both : Trees → Upgrade → Type 0
    Both trees up = IsTold One trees false × Upgradable trees up

    abbrev Neither : Trees → Type 0
    Neither trees = IsTold One trees false × HoldsNoOldBook trees

    both : (r : Result Upgrade Stop) → Finds g One Upgradable HoldsNoOldBook mid end r → Finds g One Both Neither old end r
    both r second = then_more g One (IsTold One) (IsUntold One) Upgradable HoldsNoOldBook old mid end false r (first One) second

    pub unfound : (stop : Stop) → Finds g One Upgradable HoldsNoOldBook mid end (Err stop) → Migrates g old end (Err stop)
    unfound stop second = stopped old end Both stop (both (Err stop) second) (λ clean schema. absurd (not_now (second.clean clean) schema)) (λ clean schema. absurd (not_now (second.clean clean) schema))

    module _ (up : Upgrade) (second : Finds g One Upgradable HoldsNoOldBook mid end (Ok up)) (new : Held S) (clean_then : HasCleanDisk (state g new) → HasCleanDisk (state g end))
        (survives : Survives (state g end) (state g new) (LeavesWritten g end up))
        (r : Result ⊤ Stop) (upgrades : HasCleanDisk (state g new) → IsTrue (state g end).is_open → end.schema ≡ old_schema → (b : ActState) → HasOldBook (state g end).now.trees b → AreApart ((state g end).now.trees 14) → IsUpgradeOf b up → Upgraded g end new b r) where
      read : Finds g One Both Neither old end (Ok up)
      read = both (Ok up) second

      module _ (clean : HasCleanDisk (state g new)) (schema : old.schema ≡ old_schema) where
        found : Upgradable (state g old).now.trees up
        found = (read.good (clean_then clean) schema).1

        same : IsUnchanged (state g old) (state g end)
        same = read.same (clean_then clean) schema

        -- what was found is so of the store that was read
        of_found : (P : ActState → Type 0) → OfUpgraded g end up P → P found.0
        of_found P so =
            let now : (state g end).now ≡ (state g old).now = same.0.now_is in
            so same.0.is_open (ap (λ (d : Database). d.schema) now ∙ schema) found.0
            (subst (λ (d : Database). HasOldBook d.trees found.0) (sym now) found.1.0) (subst (λ (d : Database). AreApart (d.trees 14)) (sym now) found.2) found.3

        upgraded_so : Upgraded g end new found.0 r
        upgraded_so = of_found (λ b. Upgraded g end new b r) (upgrades clean)

        -- a book that the store kept is the one that was found
        it_is : (b : ActState) → KeepsOldBook (state g old) b → b ≡ found.0
        it_is b keeps = found.1.1 b (kept_has old (read.clean (clean_then clean)) same.0.was_open b keeps).1

        no_more_read : (trees : Trees) → (state g end).may_leave trees → (state g old).may_leave trees
        no_more_read = no_more (state g old) (state g end) read.survives (clean_then clean)

      -- the row numbers that a crash left stay
      numbers_stay : (HasCleanDisk (state g mid) → IsTrue (state g old).is_open) → (KeepsNumbers (state g end) → OfUpgraded g end up (λ b. KeepsNumbers (state g new))) → KeepsOnNumbers g old new
      numbers_stay opened numbered of numbers clean trees may =
          let early = second.clean (clean_then clean) in
          elim (of (read.clean (clean_then clean)) (opened early)) [
            | inl now ↦ absurd (not_now early now)
            | inr schema ↦
                let still : KeepsNumbers (state g end) = numbers_survive (state g old) (state g end) read.survives numbers in
                of_found clean schema (λ b. KeepsNumbers (state g new)) (numbered still) clean trees may
          ]

      -- a crash leaves the tables of version 2 of no book but the one that was found
      kept_leaves : (HasCleanDisk (state g mid) → IsTrue (state g old).is_open) → (HasCleanDisk (state g mid) → IsShapeOf One old.schema) → HasCleanDisk (state g new) → (trees : Trees) → LeavesWritten g end up trees → LeavesKept (state g old) trees
      kept_leaves opened shape clean trees leaves =
          let early = second.clean (clean_then clean) in (
            opened early,
            shape early,
            λ schema.
                let it = found clean schema in
                let is = same clean schema in
                let now : (state g end).now ≡ (state g old).now = is.0.now_is in (
                  it.0,
                  it.1,
                  leaves is.0.is_open (ap (λ (d : Database). d.schema) now ∙ schema) it.0 (subst (λ (d : Database). HasOldBook d.trees it.0) (sym now) it.1.0) (subst (λ (d : Database). AreApart (d.trees 14)) (sym now) it.2) it.3,
                ),
          )

      all_survives : (HasCleanDisk (state g mid) → IsTrue (state g old).is_open) → (HasCleanDisk (state g mid) → IsShapeOf One old.schema) → Survives (state g old) (state g new) (LeavesKept (state g old))
      all_survives opened shape =
          survives_then (state g old) (state g end) (state g new) _ _ (LeavesKept (state g old)) (λ _ db none. absurd none) (λ clean db leaves. kept_leaves opened shape clean db leaves) read.survives survives

      not_current : HasCleanDisk (state g new) → old.schema ≡ book_schema → ⊥
      not_current clean schema = not_now (second.clean (clean_then clean)) schema

      -- the book of version 1 that an opened store kept
      of_kept : (clean : HasCleanDisk (state g new)) (opened : IsTrue (state g old).is_open) (b : ActState) (keeps : KeepsOldBook (state g old) b) → Upgraded g end new b r
      of_kept clean opened b keeps =
          let schema = (kept_has old (read.clean (clean_then clean)) opened b keeps).0 in
          subst (λ x. Upgraded g end new x r) (sym (it_is clean schema b keeps)) (upgraded_so clean schema)

  module _ (old mid : Held S) (is : Bool) (other : is ≡ false) (told : (v : Version) → Finds g v (IsTold v) (IsUntold v) old mid (Ok is)) (end : Held S) (up : Upgrade) (second : Finds g One Upgradable HoldsNoOldBook mid end (Ok up))
      (new : Held S) (clean_then : HasCleanDisk (state g new) → HasCleanDisk (state g end)) (survives : Survives (state g end) (state g new) (LeavesWritten g end up))
      (opened : HasCleanDisk (state g mid) → IsTrue (state g old).is_open) (shape : HasCleanDisk (state g mid) → IsShapeOf One old.schema) where
    abbrev UpgradesTo : Result ⊤ Stop → Type 0
    UpgradesTo r = HasCleanDisk (state g new) → IsTrue (state g end).is_open → end.schema ≡ old_schema → (b : ActState) → HasOldBook (state g end).now.trees b → AreApart ((state g end).now.trees 14) → IsUpgradeOf b up → Upgraded g end new b r

    abbrev NumbersTo : Type 0
    NumbersTo = KeepsNumbers (state g end) → OfUpgraded g end up (λ b. KeepsNumbers (state g new))

    pub was_old : UpgradesTo (Ok tt) → NumbersTo → Migrates g old new (Ok true)
    was_old upgrades numbered = record {
      clean = λ clean. (read old mid is other told end up second new clean_then survives (Ok tt) upgrades).clean (clean_then clean);
      survives = all_survives old mid is other told end up second new clean_then survives (Ok tt) upgrades opened shape;
      faults = tt;
      cause = λ clean v schema. tt;
      migrated = λ clean schema.
          let it = found old mid is other told end up second new clean_then survives (Ok tt) upgrades clean schema in
          (it.0, it.1, upgraded_so old mid is other told end up second new clean_then survives (Ok tt) upgrades clean schema);
      current = λ clean schema. not_current old mid is other told end up second new clean_then survives (Ok tt) upgrades clean schema;
      kept = λ clean opened b keeps. of_kept old mid is other told end up second new clean_then survives (Ok tt) upgrades clean opened b keeps;
      numbered = numbers_stay old mid is other told end up second new clean_then survives (Ok tt) upgrades opened numbered;
    }

    module _ (stop : Stop) (upgrades : UpgradesTo (Err stop)) where
      failed_so : HasCleanDisk (state g new) → old.schema ≡ old_schema → IsStoreFault stop → Migrated g old new (Err stop)
      failed_so clean schema (inl memory) =
          let at : (b : ActState) → Upgraded g end new b (Err stop) → Upgraded g end new b (Err out_of_memory) = λ b. subst (λ s. Upgraded g end new b (Err s)) memory in
          let reads : OnlyReadsOld g old new = record {
            kept = λ b keeps.
                let is_it = it_is old mid is other told end up second new clean_then survives (Err stop) upgrades clean schema b keeps in
                let so = upgraded_so old mid is other told end up second new clean_then survives (Err stop) upgrades clean schema in
                (at b (subst (λ x. Upgraded g end new x (Err stop)) (sym is_it) so)).0;
            left = λ trees may.
                let so = upgraded_so old mid is other told end up second new clean_then survives (Err stop) upgrades clean schema in
                let it = found old mid is other told end up second new clean_then survives (Err stop) upgrades clean schema in
                no_more_read old mid is other told end up second new clean_then survives (Err stop) upgrades clean schema trees ((at it.0 so).1 trees may);
          } in
          subst (λ s. Migrated g old new (Err s)) (sym memory) reads
      failed_so clean schema (inr store) =
          let at : (b : ActState) → Upgraded g end new b (Err stop) → Upgraded g end new b (Err (Fault Store)) = λ b. subst (λ s. Upgraded g end new b (Err s)) store in
          let so = upgraded_so old mid is other told end up second new clean_then survives (Err stop) upgrades clean schema in
          let it = found old mid is other told end up second new clean_then survives (Err stop) upgrades clean schema in
          let stays : StaysOrUpgrades g old new = record {
            kept = λ b keeps.
                let is_it = it_is old mid is other told end up second new clean_then survives (Err stop) upgrades clean schema b keeps in
                (at b (subst (λ x. Upgraded g end new x (Err stop)) (sym is_it) so)).0;
            left = λ trees may. elim ((at it.0 so).1 trees may) [
              | inl was ↦ inl (no_more_read old mid is other told end up second new clean_then survives (Err stop) upgrades clean schema trees was)
              | inr leaves ↦ inr (it.0, it.1, leaves)
            ];
          } in
          subst (λ s. Migrated g old new (Err s)) (sym store) stays

      failed_kept : IsStoreFault stop → (b : ActState) → Upgraded g end new b (Err stop) → MigratesKept g new b (Err stop)
      failed_kept (inl memory) b so =
          let at : Upgraded g end new b (Err out_of_memory) = subst (λ s. Upgraded g end new b (Err s)) memory so in
          subst (λ s. MigratesKept g new b (Err s)) (sym memory) at.0
      failed_kept (inr store) b so =
          let at : Upgraded g end new b (Err (Fault Store)) = subst (λ s. Upgraded g end new b (Err s)) store so in
          subst (λ s. MigratesKept g new b (Err s)) (sym store) at.0

      -- what fails after the tables were read has failed in the whole
      since : (t : Tables) → HasCleanDisk (state g new) → HasCommitCause g (state g end) (state g new) t → HasCommitCause g (state g old) (state g new) t
      since t clean (inl fails) =
          let one = (read old mid is other told end up second new clean_then survives (Err stop) upgrades).survives in
          inl (failed_after (state g old) (state g end) (state g new) _ _ one (clean_then clean) survives fails)
      since t clean (inr undone) = inr undone

      abbrev Causes : Type 0
      Causes = HasCleanDisk (state g new) → KeepsNumbers (state g end) → OfUpgraded g end up (λ b. HasWriteCause g end new (tables_of b) (Err stop))

      -- the tables were being made those of version 2
      failed_cause : Causes → HasCleanDisk (state g new) → (v : Version) → old.schema ≡ schema_of v → HasUpgradeCause g old new (Err stop)
      failed_cause causes clean One schema store =
          let it = found old mid is other told end up second new clean_then survives (Err stop) upgrades clean schema in
          let one = (read old mid is other told end up second new clean_then survives (Err stop) upgrades).survives in
          let cause : KeepsNumbers (state g old) → HasCommitCause g (state g old) (state g new) (tables_of it.0) = λ numbers.
          since (tables_of it.0) clean (of_found old mid is other told end up second new clean_then survives (Err stop) upgrades clean schema (λ b. HasWriteCause g end new (tables_of b) (Err stop))
          (causes clean (numbers_survive (state g old) (state g end) one numbers)) store) in
          inr (schema, it.0, it.1, cause)
      failed_cause causes clean Two schema store = absurd (not_current old mid is other told end up second new clean_then survives (Err stop) upgrades clean schema)

      pub failed : IsStoreFault stop → Causes → NumbersTo → Migrates g old new (Err stop)
      failed fault causes numbered = record {
        clean = λ clean. (read old mid is other told end up second new clean_then survives (Err stop) upgrades).clean (clean_then clean);
        survives = all_survives old mid is other told end up second new clean_then survives (Err stop) upgrades opened shape;
        faults = inl fault;
        cause = failed_cause causes;
        migrated = λ clean schema. failed_so clean schema fault;
        current = λ clean schema. absurd (not_current old mid is other told end up second new clean_then survives (Err stop) upgrades clean schema);
        kept = λ clean opened b keeps. failed_kept fault b (of_kept old mid is other told end up second new clean_then survives (Err stop) upgrades clean opened b keeps);
        numbered = numbers_stay old mid is other told end up second new clean_then survives (Err stop) upgrades opened numbered;
      }
