-- A store that is asked keeps on what it kept, and what it answers comes of an open one.
use Rattle.std.proofs.Common.{◌≡◌, ◌≢◌, ◌⊎◌, inl, inr, [], Result, Ok, Err, IsTrue, refl, sym, ap, subst, ◌∙◌}
use Rattle.std.specs.Prelude.{⊤, OnOk}
use Rattle.sqlite_trees.specs.declared.store.Store.{Ghosts}
use Rattle.sqlite.specs.Tree.{Trees}
use Rattle.sqlite.specs.Schema.{Schema}
use Rattle.sqlite.specs.Effect.{Database}
use Rattle.sqlite.specs.Held.{Held, state}
use Rattle.sqlite.specs.State.{State, HasCleanDisk, IsNotRun, IsRolledBack, IsUnchanged}
use Rattle.sqlite.specs.declared.error.Error.{Error}
use Rattle.sqlite.specs.declared.error.Error.TheVariants.{SqliteFailure}
use Rattle.sqlite.specs.declared.error.ErrorCode.TheVariants as code
use Rattle.sqlite_catalog.specs.Listing.{IsSound}
use Rattle.sqlite.specs.Listing.{understood}
use Rattle.sqlite.proofs.Callers.{IsPlain, unchanged_then}
use Rattle.sqlite_tied.specs.Compute.{everything}
use Rattle.ob_base.specs.Stop.{out_of_memory}
use Rattle.ob_base.specs.declared.stop.Stop.{Stop}
use Rattle.ob_base.specs.declared.stop.Stop.TheVariants.{Refused, Fault}
use Rattle.ob_base.specs.declared.stop.Fault.TheVariants.{Store}
use Rattle.ob_sql_rows.specs.Creation.{old_schema}
use Rattle.ob_sql_rows.specs.Schema.{no_schema}
use Rattle.ob_sql_rows.specs.Rows.{Tables}
use Rattle.ob_sql_rows.specs.Steps.{HasFailed}
use Rattle.ob_sql_rows.specs.Versions.{HoldsIn, schema_of}
use Rattle.ob_sql_rows.specs.declared.version.Version.{Version}
use Rattle.ob_sql_rows.specs.declared.table.Table.TheVariants.{Meta}
use Rattle.ob_sql_rows.specs.declared.version.Version.TheVariants.{One, Two}
use Rattle.ob_sql_write.specs.Keeps.{IsSettledIn, KeepsEitherIn, KeepsIn}
use Rattle.ob_sql_write.proofs.Commits.{settled_as}
use Rattle.ob_record.specs.Tables.{tables_of}
use Rattle.ob_sql_read.specs.Faults.{HasNoMeaning, IsMissed, IsReadFault, bad_book}
use Rattle.ob_sql_read.specs.Reading.{IsInputError}
use Rattle.ob_sql_read.specs.Version.{HasVersion, IsOfBook}
use Rattle.ob_sql_rows.proofs.Failing.{not_run, stop_cause}
use Rattle.ob_sql_read.specs.Listing.{IsListingOver}
use Rattle.ob_sql_read.proofs.Asking.{missed, not_understood}
use Rattle.ob_sql_read.proofs.Failing.{answered_over}
use Rattle.ob_sql_read.proofs.Headings.{meta_listing, no_meaning}
use Rattle.ob_sql_read.proofs.Listing.{still_then}
use Rattle.ob_sql_read.proofs.Selects.{is_listing}
use Rattle.ob_sql_check.specs.OldTables.{old_tables_of}
use Rattle.ob_store.specs.Differing.{NoneSo}
use Rattle.ob_store.specs.Finding.{Finds}
use Rattle.ob_store.specs.Keeping.{Answers, HasStoreCause, IsAnswer}
use Rattle.ob_store.specs.Shapes.{IsShapeOf}
use Rattle.ob_store.specs.Versions.{AnyTrees, Asks, Looks, Tells}
use Rattle.ob_store.proofs.Failing.{cause_later}
use Rattle.ob_store.proofs.Handing.{spared_unread}
use Rattle.ob_store.proofs.Reading.{if_err, if_ok, no_more, on_ok}
use Rattle.ob_store.proofs.Telling.{unversioned}

-- ---- what holds is so of each answer
pub whatever : {X : Type 0} {P : Type 0} (r : Result X Stop) → P → OnOk r P
whatever (Ok x) p = p
whatever (Err stop) p = tt

-- ---- a refusal is one whatever is answered
pub refused_as : (X Y : Type 0) (stop : Stop) → IsAnswer {X = X} (Err stop) → IsAnswer {X = Y} (Err stop)
refused_as X Y (Refused refusal) answer = tt
refused_as X Y (Fault fault) answer = absurd answer

-- a refusal of a reading says that the tables are those of no book
refused_bad : (X : Type 0) (stop : Stop) → IsReadFault stop → IsAnswer {X = X} (Err stop) → stop ≡ bad_book
refused_bad X stop (inl (inl memory)) answer = absurd (subst (λ s. IsAnswer {X = X} (Err s)) memory answer)
refused_bad X stop (inl (inr store)) answer = absurd (subst (λ s. IsAnswer {X = X} (Err s)) store answer)
refused_bad X stop (inr bad) answer = bad

-- ---- what is shown once nothing changed, or all was undone
still_settled : (v : Version) (old new : State) (t : Tables) → IsTrue new.is_open → IsUnchanged old new ⊎ IsRolledBack old new → (IsTrue old.is_open → IsSettledIn v old t) → IsSettledIn v new t
still_settled v old new t live (inl same) was =
    let it = was same.0.was_open in
    record {
      schema = ap (λ (d : Database). d.schema) same.0.now_is ∙ it.schema;
      committed = same.0.committed_is ∙ it.committed ∙ sym same.0.now_is;
      holds = subst (λ (d : Database). HoldsIn v d.trees t) (sym same.0.now_is) it.holds;
    }
still_settled v old new t live (inr back) was = settled_as old new t (was (back.was_open live)) (back.undone live)

-- ---- the columns of a heading were looked for, which the tables of either version have
plain_heading : (v : Version) → IsPlain (understood (schema_of v) meta_listing.text)
unfolding understood everything
plain_heading One = (refl, refl)
plain_heading Two = (refl, refl)

meta_is : (v : Version) → IsListingOver (schema_of v) meta_listing
meta_is One = is_listing One Meta tt
meta_is Two = is_listing Two Meta tt

has_meaning : (v : Version) (schema : Schema) → schema ≡ schema_of v → HasNoMeaning schema meta_listing.text → ⊥
has_meaning v schema is none = go (understood (schema_of v) meta_listing.text) refl (plain_heading v)
  where
    go : (it : _) → understood (schema_of v) meta_listing.text ≡ it → IsPlain it → ⊥
    go (Ok c) known plain = none c (ap (λ s. understood s meta_listing.text) is ∙ known)
    go (Err e) known plain = plain

module _ (old new : State) (e : Error) (fails : IsNotRun old new meta_listing.text [] e) where
  pub looked_still : IsUnchanged old new ⊎ IsRolledBack old new
  looked_still = spared_unread old new meta_listing.text [] e fails

  pub looked_same : (stop : Stop) → IsReadFault stop → (stop ≡ bad_book → IsInputError e) → IsAnswer {X = ⊤} (Err stop) → IsUnchanged old new
  looked_same stop fault input answer = (not_understood old new meta_listing.text [] e (input (refused_bad ⊤ stop fault answer)) fails).1

  pub looked_foreign : IsInputError e → ¬ (IsOfBook old.now.schema)
  looked_foreign input of =
      let none : HasNoMeaning old.now.schema meta_listing.text = (not_understood old new meta_listing.text [] e input fails).0 in
      elim of [ inl has ↦ has_meaning Two old.now.schema has none | inr has ↦ has_meaning One old.now.schema has none ]

  -- over the tables of a version the store failed
  pub looked_failed : (v : Version) → old.now.schema ≡ schema_of v → (stop : Stop) → (e ≡ SqliteFailure code.OutOfMemory → stop ≡ out_of_memory) → stop ≡ Fault Store → HasFailed old new
  looked_failed v schema stop memory is = stop_cause old new e stop memory (not_run old new meta_listing.text [] e (answered_over meta_listing (meta_is v) schema) fails) is

  -- nor is an empty database one
  pub looked_empty : (stop : Stop) → (IsInputError e → stop ≡ bad_book) → (e ≡ SqliteFailure code.OutOfMemory → stop ≡ out_of_memory) → old.now.schema ≡ no_schema → IsMissed {X = ⊤} old new (Err stop)
  looked_empty stop bad memory empty = missed old new meta_listing.text [] e stop bad memory (no_meaning old.now.schema meta_listing.text empty refl) fails

module _ {S : Type 0} (g : Ghosts S) where
  module _ (old mid : Held S) (r : Result ⊤ Stop) (look : Looks g old mid r) where
    pub looked_kept : (v : Version) (t : Tables) → KeepsIn v (state g old) t → KeepsIn v (state g mid) t
    looked_kept v t keeps = record {
      settled = λ clean live. still_settled v (state g old) (state g mid) t live (look.still clean) (keeps.settled (look.clean clean));
      left = λ clean trees may. keeps.left (look.clean clean) trees (no_more (state g old) (state g mid) look.survives clean trees may);
    }

    looked_either : (v : Version) (t u : Tables) → KeepsEitherIn v (state g old) t u → KeepsEitherIn v (state g mid) t u
    looked_either v t u keeps = record {
      settled = λ clean live. still_settled v (state g old) (state g mid) t live (look.still clean) (keeps.settled (look.clean clean));
      left = λ clean trees may. keeps.left (look.clean clean) trees (no_more (state g old) (state g mid) look.survives clean trees may);
    }

    -- what an open store keeps is what it shows
    pub open_keeps : (v : Version) (t u : Tables) → IsTrue (state g old).is_open → KeepsEitherIn v (state g old) t u → KeepsIn v (state g old) t
    open_keeps v t u opened keeps = record {
      settled = keeps.settled;
      left = λ clean trees may.
          let it = keeps.settled clean opened in
          let is : trees ≡ (state g old).now.trees = look.left opened trees may ∙ ap (λ (d : Database). d.trees) it.committed in
          record {
            sound = subst (IsSound (schema_of v)) (sym is) (subst (λ s. IsSound s (state g old).now.trees) it.schema (look.whole opened).0);
            holds = subst (λ x. HoldsIn v x t) (sym is) it.holds;
          };
    }

    looked_first : HasCleanDisk (state g mid) → IsAnswer r → (v : Version) (t u : Tables) → KeepsEitherIn v (state g old) t u → KeepsIn v (state g mid) t
    looked_first clean answer v t u keeps = looked_kept v t (open_keeps v t u (look.same clean answer).0.was_open keeps)

    -- it is all that was asked
    pub asked_once : Asks g old mid r
    asked_once = record {
      live = λ clean answer. (look.same clean answer).0.was_open;
      kept = looked_kept;
      either = looked_either;
      first = looked_first;
      empty = look.empty;
    }

    -- and something else after it
    pub asked_more : IsAnswer r → (HasCleanDisk (state g mid) → old.schema ≢ no_schema) → {X : Type 0} (new : Held S) (done : Result X Stop) → (HasCleanDisk (state g new) → HasCleanDisk (state g mid)) → ((v : Version) (t : Tables) → KeepsIn v (state g mid) t → KeepsIn v (state g new) t) → Asks g old new done
    asked_more answer filled new done clean_then kept_then = record {
      live = λ clean is. (look.same (clean_then clean) answer).0.was_open;
      kept = λ v t keeps. kept_then v t (looked_kept v t keeps);
      either = λ v t u keeps. record {
        settled = λ clean live. (kept_then v t (looked_first (clean_then clean) answer v t u keeps)).settled clean live;
        left = λ clean trees may. inl ((kept_then v t (looked_first (clean_then clean) answer v t u keeps)).left clean trees may);
      };
      first = λ clean is v t u keeps. kept_then v t (looked_first (clean_then clean) answer v t u keeps);
      empty = λ clean none. absurd (filled (clean_then clean) none);
    }

  -- ---- then the version was looked at
  pub told_none : (old mid : Held S) (stop : Stop) → Looks g old mid (Err stop) → Tells g AnyTrees NoneSo old mid (Err stop)
  told_none old mid stop look =
      unversioned g old mid look.mode look.survives look.clean (λ t keeps. looked_kept old mid (Err stop) look Two t keeps) stop look.faults look.cause look.foreign

  module _ (old mid new : Held S) (look : Looks g old mid (Ok tt)) (r : Result ⊤ Stop) (it : Tells g AnyTrees NoneSo mid new r) where
    same : HasCleanDisk (state g new) → IsUnchanged (state g old) (state g mid)
    same c = look.same (it.clean c) tt

    seen : HasCleanDisk (state g new) → (state g mid).now ≡ (state g old).now
    seen c = (same c).0.now_is

    there : HasCleanDisk (state g new) → mid.schema ≡ old.schema
    there c = ap (λ (d : Database). d.schema) (seen c)

    of_there : HasCleanDisk (state g new) → IsOfBook old.schema → IsOfBook mid.schema
    of_there c of = subst IsOfBook (sym (there c)) of

    pub told_then : Tells g AnyTrees NoneSo old new r
    told_then = record {
      mode = λ idle. it.mode (look.mode idle);
      clean = λ c. look.clean (it.clean c);
      survives = still_then (state g old) (state g mid) (state g new) look.survives it.survives;
      kept = λ t keeps. it.kept t (looked_kept old mid (Ok tt) look Two t keeps);
      faults = it.faults;
      cause = λ c v has. cause_later (state g old) (state g mid) (state g new) r look.survives it.survives (it.clean c) (seen c) (it.cause c v (there c ∙ has));
      same = λ c. on_ok r (it.same c) (λ step has. unchanged_then (state g old) (state g mid) (state g new) (same c) (step (there c ∙ has)));
      same_bad = λ c. if_err r (it.same_bad c) (λ stop step is of. step is (of_there c of) ∙ seen c);
      good = λ c. if_ok r (it.good c) (λ x found has. (subst (λ (d : Database). ¬ (HasVersion 1 d.trees)) (seen c) (found (there c ∙ has)).0, tt));
      bad = λ c. if_err r (it.bad c) (λ stop found is has. absurd (found is (there c ∙ has)).1);
      outdated = λ c. if_err r (it.outdated c) (λ stop found is of. subst (λ (d : Database). HasVersion 1 d.trees) (seen c) (found is (of_there c of)));
      never = λ c. on_ok r (it.never c) (λ other has. other (there c ∙ has));
      lacking = λ c. if_err r (it.lacking c) (λ stop found is has. subst (λ (d : Database). ¬ (HasVersion 1 d.trees)) (seen c) (found is (there c ∙ has)));
    }

  -- ---- a refusal ends it
  pub asks_err : {X Y : Type 0} (old mid : Held S) (stop : Stop) → Asks g {X = X} old mid (Err stop) → Asks g {X = Y} old mid (Err stop)
  asks_err {X} {Y} old mid stop it = record {
    live = λ clean answer. it.live clean (refused_as Y X stop answer);
    kept = it.kept;
    either = it.either;
    first = λ clean answer. it.first clean (refused_as Y X stop answer);
    empty = it.empty;
  }

  pub asked_err : {Y : Type 0} (old mid : Held S) (stop : Stop) → Looks g old mid (Err stop) → Asks g {X = Y} old mid (Err stop)
  asked_err {Y} old mid stop look = asks_err {X = ⊤} {Y = Y} old mid stop (asked_once old mid (Err stop) look)

  -- ---- and then the tables of version 2 were read
  module _ {X : Type 0} (Good : Trees → X → Type 0) (Bad : Trees → Type 0) (old mid new : Held S) (r : Result X Stop) (told : Tells g AnyTrees NoneSo old mid (Ok tt)) (asks : Asks g {X = ⊤} old mid (Ok tt)) (second : Finds g Two Good Bad mid new r) where
    -- those of version 1 weren't there
    not_old : HasCleanDisk (state g new) → (HasCleanDisk (state g old) → IsTrue (state g old).is_open → (state g old).now.schema ≡ old_schema) → ⊥
    not_old clean was = told.never (second.clean clean) (was (told.clean (second.clean clean)) (asks.live (second.clean clean) tt))

    kept_all : (v : Version) (t : Tables) → KeepsIn v (state g old) t → KeepsIn v (state g new) t
    kept_all One t keeps = record {
      settled = λ clean live. absurd (not_old clean (λ c o. (keeps.settled c o).schema));
      left = λ clean trees may. absurd (not_old clean (λ c o. (keeps.settled c o).schema));
    }
    kept_all Two t keeps = second.kept t (asks.kept Two t keeps)

    either_all : (v : Version) (t u : Tables) → KeepsEitherIn v (state g old) t u → KeepsEitherIn v (state g new) t u
    either_all One t u keeps = record {
      settled = λ clean live. absurd (not_old clean (λ c o. (keeps.settled c o).schema));
      left = λ clean trees may. absurd (not_old clean (λ c o. (keeps.settled c o).schema));
    }
    either_all Two t u keeps = record {
      settled = λ clean live. (second.kept t (asks.first (second.clean clean) tt Two t u keeps)).settled clean live;
      left = λ clean trees may. inl ((second.kept t (asks.first (second.clean clean) tt Two t u keeps)).left clean trees may);
    }

    first_all : HasCleanDisk (state g new) → (v : Version) (t u : Tables) → KeepsEitherIn v (state g old) t u → KeepsIn v (state g new) t
    first_all clean One t u keeps = absurd (not_old clean (λ c o. (keeps.settled c o).schema))
    first_all clean Two t u keeps = second.kept t (asks.first (second.clean clean) tt Two t u keeps)

    pub asks_then : Asks g old new r
    asks_then = record {
      live = λ clean answer. asks.live (second.clean clean) tt;
      kept = kept_all;
      either = either_all;
      first = λ clean answer. first_all clean;
      empty = λ clean none. absurd (asks.empty (second.clean clean) none);
    }

  -- ---- what was kept of tables was kept of books
  pub answers : {X : Type 0} (old new : Held S) (r : Result X Stop) → Asks g old new r → (HasCleanDisk (state g new) → OnOk r (IsShapeOf Two old.schema))
      → (HasCleanDisk (state g new) → (v : Version) → old.schema ≡ schema_of v → HasStoreCause (state g old) (state g new) r) → Answers g old new r
  answers old new r it shape cause = record {
    live = it.live;
    keeps = record {
      book = λ b k. record { kept = it.kept Two (tables_of b) k.kept; reached = k.reached; valid = k.valid };
      either = λ b c k. record {
        kept = it.either Two (tables_of b) (tables_of c) k.kept;
        reached = k.reached;
        other_reached = k.other_reached;
        valid = k.valid;
        other_valid = k.other_valid;
      };
      old_book = λ b k. record { kept = it.kept One (old_tables_of b) k.kept; reached = k.reached; valid = k.valid };
      version = λ b k. record { kept = it.either One (old_tables_of b) (tables_of b) k.kept; reached = k.reached; valid = k.valid };
    };
    first = λ clean answer. record {
      either = λ b c k. record { kept = it.first clean answer Two (tables_of b) (tables_of c) k.kept; reached = k.reached; valid = k.valid };
      version = λ b k. record { kept = it.first clean answer One (old_tables_of b) (tables_of b) k.kept; reached = k.reached; valid = k.valid };
    };
    shape = shape;
    empty = it.empty;
    cause = cause;
  }

  -- the same of what a keeper answers then
  pub answers_ok : {X Y : Type 0} (old new : Held S) (x : X) (y : Y) → Answers g old new (Ok x) → Answers g old new (Ok y)
  answers_ok old new x y it = record { live = it.live; keeps = it.keeps; first = it.first; shape = it.shape; empty = it.empty; cause = λ clean v schema. tt }

  pub answers_err : {X Y : Type 0} (old new : Held S) (stop : Stop) → Answers g {X = X} old new (Err stop) → Answers g {X = Y} old new (Err stop)
  answers_err {X} {Y} old new stop it = record {
    live = λ clean answer. it.live clean (refused_as Y X stop answer);
    keeps = it.keeps;
    first = λ clean answer. it.first clean (refused_as Y X stop answer);
    shape = λ clean. tt;
    empty = it.empty;
    cause = it.cause;
  }
