-- The version of a book, and then its tables.
use Rattle.std.proofs.Common.{◌≡◌, ◌≢◌, ◌⊎◌, inl, inr, ℕ, length, Bool, true, false, true≢false, IsTrue, Result, Ok, Err, refl, sym, ap, subst, ◌∙◌, arith}
use Rattle.std.specs.Prelude.{◌↔◌, ⊤, IfErr}
use Rattle.sqlite_tied.specs.Compute.{everything}
use Rattle.sqlite_trees.specs.declared.store.Store.{Ghosts}
use Rattle.sqlite.specs.Tree.{Trees}
use Rattle.sqlite.specs.Effect.{Database}
use Rattle.sqlite.specs.Held.{Held, state}
use Rattle.sqlite.specs.State.{HasCleanDisk, IsUnchanged, Survives}
use Rattle.sqlite.proofs.Callers.{unchanged_then}
use Rattle.ob_base.specs.Stop.{out_of_memory}
use Rattle.ob_base.specs.declared.stop.Stop.{Stop}
use Rattle.ob_base.specs.declared.stop.Stop.TheVariants.{Fault}
use Rattle.ob_base.specs.declared.stop.Fault.TheVariants.{Store}
use Rattle.ob_sql_rows.specs.Creation.{old_schema}
use Rattle.ob_sql_rows.specs.Schema.{book_schema}
use Rattle.ob_sql_rows.specs.Rows.{Tables}
use Rattle.ob_sql_write.specs.Keeps.{Keeps}
use Rattle.ob_sql_read.specs.Reading.{IsReadFault, bad_book}
use Rattle.ob_sql_read.specs.Version.{HasVersion, IsOfBook}
use Rattle.ob_sql_rows.specs.Steps.{HasFaultCause}
use Rattle.ob_sql_rows.specs.Versions.{schema_of}
use Rattle.ob_sql_rows.specs.declared.version.Version.{Version}
use Rattle.ob_sql_rows.specs.declared.version.Version.TheVariants.{One, Two}
use Rattle.ob_sql_read.proofs.Listing.{still_then}
use Rattle.ob_store.specs.Finding.{Finds}
use Rattle.ob_store.specs.Keeping.{HasStoreCause}
use Rattle.ob_store.specs.Differing.{NoneSo}
use Rattle.ob_store.specs.Shapes.{IsShapeOf}
use Rattle.ob_store.specs.Versions.{AnyTrees, Tells, old_version}
use Rattle.ob_store.proofs.Failing.{as_store_cause, cause_later, no_store}
use Rattle.ob_store.proofs.Reading.{if_err, if_ok, on_ok}

-- ---- the tables of version 2 have their names, and those of version 1 haven't
pub now_shape : IsShapeOf Two book_schema
unfolding everything
now_shape = (refl, refl, refl)

pub no_old_shape : IsShapeOf Two old_schema → ⊥
unfolding everything
no_old_shape shape = absurd (let n : ◌≡◌ {A = ℕ} 10 11 = ap length shape.0 in omega (arith, n))

-- ---- one stop is no other
read_alone : (stop : Stop) → IsReadFault stop → stop ≢ old_version
read_alone stop (inl (inl memory)) is = absurd (let e : out_of_memory ≡ old_version = sym memory ∙ is in cc)
read_alone stop (inl (inr store)) is = absurd (let e : Fault Store ≡ old_version = sym store ∙ is in cc)
read_alone stop (inr bad) is = absurd (let e : bad_book ≡ old_version = sym bad ∙ is in cc)

bad_alone : bad_book ≢ old_version
bad_alone is = absurd cc

either_stop : (stop : Stop) → IsReadFault stop → (stop ≡ bad_book) ⊎ (stop ≡ old_version) → stop ≡ bad_book
either_stop stop fault (inl bad) = bad
either_stop stop fault (inr old) = absurd (read_alone stop fault old)

module _ {S : Type 0} (g : Ghosts S) where
  -- ---- what was looked at
  module _ (old new : Held S) (mode : old.in_transaction ≡ false → new.in_transaction ≡ false) (survives : Survives (state g old) (state g new) (λ _. ⊥)) (clean : HasCleanDisk (state g new) → HasCleanDisk (state g old))
      (kept : (t : Tables) → Keeps (state g old) t → Keeps (state g new) t) where
    -- no version was read
    pub unversioned : (stop : Stop) → IsReadFault stop → (HasCleanDisk (state g new) → (v : Version) → old.schema ≡ schema_of v → HasFaultCause {X = ⊤} (state g old) (state g new) (Err stop)) → (HasCleanDisk (state g new) → stop ≡ bad_book → ¬ (IsOfBook old.schema)) → Tells g AnyTrees NoneSo old new (Err stop)
    unversioned stop fault cause foreign = record {
      mode = mode;
      clean = clean;
      survives = survives;
      kept = kept;
      faults = inl fault;
      cause = λ c v schema. as_store_cause {X = ⊤} (state g old) (state g new) (Err stop) (cause c v schema);
      same = λ c. tt;
      same_bad = λ c is of. absurd (foreign c (either_stop stop fault is) of);
      good = λ c. tt;
      bad = λ c is has. absurd (foreign c is (inl has));
      outdated = λ c is of. absurd (read_alone stop fault is);
      never = λ c. tt;
      lacking = λ c is has. absurd (foreign c is (inr has));
    }

    module _ (same : HasCleanDisk (state g new) → IsOfBook old.schema → IsUnchanged (state g old) (state g new)) (is : Bool) (version : HasCleanDisk (state g new) → IsOfBook old.schema → (IsTrue is → HasVersion 1 (state g old).now.trees) × (HasVersion 1 (state g old).now.trees → IsTrue is)) where
      -- it is 1
      pub outdated : is ≡ true → Tells g AnyTrees NoneSo old new (Err old_version)
      outdated so = record {
        mode = mode;
        clean = clean;
        survives = survives;
        kept = kept;
        faults = inr refl;
        cause = λ c v schema is. absurd cc;
        same = λ c. tt;
        same_bad = λ c stop of. (same c of).0.now_is;
        good = λ c. tt;
        bad = λ c bad has. absurd (bad_alone (sym bad));
        outdated = λ c stop of. (version c of).0 so;
        never = λ c. tt;
        lacking = λ c bad has. absurd (bad_alone (sym bad));
      }

      module _ (other : is ≡ false) (is_book : Bool) (shape : IsTrue is_book ↔ IsShapeOf Two old.schema) where
        none : HasCleanDisk (state g new) → IsOfBook old.schema → ¬ (HasVersion 1 (state g old).now.trees)
        none c of has = true≢false (sym ((version c of).1 has) ∙ other)

        -- it isn't, and the tables have the names of those of version 2
        pub current : is_book ≡ true → Tells g AnyTrees NoneSo old new (Ok tt)
        current so = record {
          mode = mode;
          clean = clean;
          survives = survives;
          kept = kept;
          faults = tt;
          cause = λ c v schema. tt;
          same = λ c has. same c (inl has);
          same_bad = λ c. tt;
          good = λ c has. (none c (inl has), tt);
          bad = λ c. tt;
          outdated = λ c. tt;
          never = λ c has. no_old_shape (subst (IsShapeOf Two) has (shape.0 so));
          lacking = λ c. tt;
        }

        -- it isn't, and they haven't
        pub lacks : is_book ≡ false → Tells g AnyTrees NoneSo old new (Err bad_book)
        lacks off = record {
          mode = mode;
          clean = clean;
          survives = survives;
          kept = kept;
          faults = inl (inr refl);
          cause = λ c v schema. no_store bad_book (inl refl);
          same = λ c. tt;
          same_bad = λ c stop of. (same c of).0.now_is;
          good = λ c. tt;
          bad = λ c stop has. absurd (true≢false (sym (shape.1 (subst (IsShapeOf Two) (sym has) now_shape)) ∙ off));
          outdated = λ c stop of. absurd (bad_alone stop);
          never = λ c. tt;
          lacking = λ c stop has. none c (inr has);
        }

  -- ---- then the tables
  pub tells_err : {X : Type 0} (Good : Trees → X → Type 0) (Bad : Trees → Type 0) (old new : Held S) (stop : Stop) → Tells g AnyTrees NoneSo old new (Err stop) → Tells g Good Bad old new (Err stop)
  tells_err Good Bad old new stop it = record {
    mode = it.mode;
    clean = it.clean;
    survives = it.survives;
    kept = it.kept;
    faults = it.faults;
    cause = it.cause;
    same = λ c. tt;
    same_bad = it.same_bad;
    good = λ c. tt;
    bad = λ c is has. absurd (it.bad c is has).1;
    outdated = it.outdated;
    never = λ c. tt;
    lacking = it.lacking;
  }

  both_err : {X : Type 0} {P Q R : Stop → Type 0} (r : Result X Stop) → IfErr r P → IfErr r Q → ((stop : Stop) → P stop → Q stop → R stop) → IfErr r R
  both_err (Ok x) p q f = p
  both_err (Err stop) p q f = f stop p q

  read_only : (X : Type 0) (r : Result X Stop) → IfErr r IsReadFault → IfErr r (λ stop. stop ≢ old_version)
  read_only X r fault = if_err r fault read_alone

  module _ {X : Type 0} (Good : Trees → X → Type 0) (Bad : Trees → Type 0) (old mid new : Held S) (r : Result X Stop) (first : Tells g AnyTrees NoneSo old mid (Ok tt)) (second : Finds g Two Good Bad mid new r) where
    unchanged : HasCleanDisk (state g new) → old.schema ≡ book_schema → IsUnchanged (state g old) (state g mid)
    unchanged c has = first.same (second.clean c) has

    there : HasCleanDisk (state g new) → old.schema ≡ book_schema → mid.schema ≡ book_schema
    there c has = ap (λ (d : Database). d.schema) (unchanged c has).0.now_is ∙ has

    seen : HasCleanDisk (state g new) → old.schema ≡ book_schema → (state g mid).now ≡ (state g old).now
    seen c has = (unchanged c has).0.now_is

    not_old : HasCleanDisk (state g new) → old.schema ≡ book_schema → ¬ (HasVersion 1 (state g old).now.trees)
    not_old c has = (first.good (second.clean c) has).0

    causes : HasCleanDisk (state g new) → (v : Version) → old.schema ≡ schema_of v → HasStoreCause (state g old) (state g new) r
    causes c Two has = cause_later (state g old) (state g mid) (state g new) r first.survives second.survives (second.clean c) (seen c has) (second.cause c (there c has))
    causes c One has = absurd (first.never (second.clean c) has)

    pub then_tables : Tells g Good Bad old new r
    then_tables = record {
      mode = λ idle. second.mode (first.mode idle);
      clean = λ c. first.clean (second.clean c);
      survives = still_then (state g old) (state g mid) (state g new) first.survives second.survives;
      kept = λ t keeps. second.kept t (first.kept t keeps);
      faults = if_err r second.faults (λ stop fault. inl fault);
      cause = causes;
      same = λ c. on_ok r (second.same c) (λ step has. unchanged_then (state g old) (state g mid) (state g new) (unchanged c has) (step (there c has)));
      same_bad = λ c. both_err r (second.same_bad c) second.faults (λ stop step fault is of. elim of [
        | inl has ↦ step (either_stop stop fault is) (there c has) ∙ seen c has
        | inr has ↦ absurd (first.never (second.clean c) has)
      ]);
      good = λ c. if_ok r (second.good c) (λ x found has. (not_old c has, subst (λ (d : Database). Good d.trees x) (seen c has) (found (there c has))));
      bad = λ c. if_err r (second.bad c) (λ stop found is has. (not_old c has, subst (λ (d : Database). Bad d.trees) (seen c has) (found is (there c has))));
      outdated = λ c. if_err r (read_only X r second.faults) (λ stop other is of. absurd (other is));
      never = λ c. on_ok r (second.same c) (λ step has. first.never (second.clean c) has);
      lacking = λ c. if_err r (second.bad c) (λ stop found is has. absurd (first.never (second.clean c) has));
    }
