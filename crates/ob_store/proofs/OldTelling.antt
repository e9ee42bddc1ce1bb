-- What the heading tells where the tables of version 1 are to be made those of version 2.
use Rattle.std.proofs.Common.{◌≡◌, inl, inr, ℕ, length, List, [], Bool, true, false, true≢false, IsTrue, Result, Ok, Err, refl, sym, ap, subst, ◌∙◌, arith}
use Rattle.std.specs.Prelude.{◌↔◌, ⊤, IfOk}
use Rattle.sqlite_trees.specs.declared.store.Store.{Ghosts}
use Rattle.sqlite.specs.Tree.{Trees}
use Rattle.sqlite.specs.Schema.{Schema}
use Rattle.sqlite.specs.Effect.{Database}
use Rattle.sqlite.specs.Held.{Held, state}
use Rattle.sqlite.specs.State.{State, HasCleanDisk, IsUnchanged, Shown, Survives}
use Rattle.ob_base.specs.declared.stop.Stop.{Stop}
use Rattle.ob_sql_rows.specs.Creation.{old_schema}
use Rattle.ob_sql_rows.specs.Schema.{book_schema}
use Rattle.sqlite_tied.specs.Compute.{everything}
use Rattle.ob_sql_rows.specs.Listings.{select_of}
use Rattle.ob_sql_rows.specs.Rows.{Columns, Tables}
use Rattle.ob_sql_rows.specs.Steps.{HasFaultCause}
use Rattle.ob_sql_rows.specs.Versions.{schema_of}
use Rattle.ob_sql_rows.specs.declared.table.Table.TheVariants.{Meta}
use Rattle.ob_sql_rows.specs.declared.version.Version.{Version}
use Rattle.ob_sql_rows.specs.declared.version.Version.TheVariants.{One, Two}
use Rattle.ob_sql_write.specs.Keeps.{KeepsIn}
use Rattle.ob_sql_read.specs.Reading.{IsReadFault, bad_book}
use Rattle.ob_sql_read.specs.Version.{HasVersion, IsOfBook, IsVersionRow}
use Rattle.ob_sql_read.proofs.Asking.{shown_before}
use Rattle.ob_sql_read.proofs.Selects.{writes_nothing}
use Rattle.ob_store.specs.Differing.{NoneSo}
use Rattle.ob_store.specs.Finding.{Finds}
use Rattle.ob_store.specs.Migrating.{ShowsVersion}
use Rattle.ob_store.specs.Shapes.{IsShapeOf}
use Rattle.ob_store.specs.Upgrading.{IsTold, IsUntold}
use Rattle.ob_store.specs.Versions.{Looks}
use Rattle.ob_store.proofs.Asking.{looked_kept}
use Rattle.ob_store.proofs.Failing.{no_store}
use Rattle.ob_store.proofs.Reading.{fails, find_as, if_ok, read_err, read_ok, then_bad, then_more}

pub of_book : (v : Version) (schema : Schema) → schema ≡ schema_of v → IsOfBook schema
of_book One schema is = inr is
of_book Two schema is = inl is

-- whether the heading tells a version
abbrev pub Decides : ℕ → Trees → Bool → Type 0
Decides n trees is = IsTrue is ↔ HasVersion n trees

untold : (v : Version) (trees : Trees) → ¬ (HasVersion 2 trees) → ¬ (HasVersion 1 trees) → IsUntold v trees
untold One trees two one = (two, one)
untold Two trees two one = two

-- the schema of version 1 has its shape, and that of version 2 hasn't
shape_old : IsShapeOf One old_schema
unfolding everything
shape_old = (refl, refl, refl)

shape_now : IsShapeOf One book_schema → ⊥
unfolding everything
shape_now shape = absurd (let n : ◌≡◌ {A = ℕ} 11 10 = ap length shape.0 in omega (arith, n))

-- with another shape the tables aren't those of version 1, and with this one they aren't those of version 2
untold_there : (v : Version) (schema : Schema) → schema ≡ schema_of v → ¬ (IsShapeOf One schema) → (trees : Trees) → ¬ (HasVersion 2 trees) → IsUntold v trees
untold_there One schema is other trees two = absurd (other (subst (IsShapeOf One) (sym is) shape_old))
untold_there Two schema is other trees two = two

told_old : (v : Version) (schema : Schema) → schema ≡ schema_of v → IsShapeOf One schema → (trees : Trees) → ¬ (HasVersion 2 trees) → IsTold v trees false
told_old One schema is shape trees two = two
told_old Two schema is shape trees two = absurd (shape_now (subst (IsShapeOf One) is shape))

-- ---- the heading showed a version
pub shown_so : (n : ℕ) (old new : State) (is : Bool) → is ≡ true → (rows : List Columns) × Shown (select_of Meta) [] old new rows × (IsTrue is ↔ IsVersionRow n rows) → ShowsVersion n old new
shown_so n old new is so it = (it.0, it.1, it.2.0 so)

-- and so it does after a step that changed nothing
pub shown_since : (n : ℕ) (old mid new : State) → IsUnchanged old mid → ShowsVersion n mid new → ShowsVersion n old new
shown_since n old mid new same it = (it.0, shown_before old mid new (select_of Meta) (select_of Meta) it.0 (writes_nothing Meta) (refl, same) it.1, it.2)

module _ {S : Type 0} (g : Ghosts S) where
  -- ---- one version was looked for
  module _ (n : ℕ) (v : Version) (old new : Held S) (mode : old.in_transaction ≡ false → new.in_transaction ≡ false) (survives : Survives (state g old) (state g new) (λ _. ⊥)) (clean : HasCleanDisk (state g new) → HasCleanDisk (state g old))
      (kept : (v : Version) (t : Tables) → KeepsIn v (state g old) t → KeepsIn v (state g new) t) where
    pub looked : (is : Bool) → (HasCleanDisk (state g new) → IsOfBook old.schema → IsUnchanged (state g old) (state g new)) → (HasCleanDisk (state g new) → IsOfBook old.schema → IsTrue is ↔ HasVersion n (state g old).now.trees)
        → Finds g v (Decides n) NoneSo old new (Ok is)
    looked is same version = read_ok g v (Decides n) NoneSo old new is mode survives clean (kept v) (λ c schema. same c (of_book v old.schema schema)) (λ c schema. version c (of_book v old.schema schema))

    pub unread : (stop : Stop) → IsReadFault stop → (HasCleanDisk (state g new) → (v : Version) → old.schema ≡ schema_of v → HasFaultCause {X = Bool} (state g old) (state g new) (Err stop)) → (HasCleanDisk (state g new) → stop ≡ bad_book → ¬ (IsOfBook old.schema)) → Finds g v (Decides n) NoneSo old new (Err stop)
    unread stop fault cause foreign = read_err g v (Decides n) NoneSo old new stop mode survives clean (kept v) fault (λ c. cause c v) (λ c bad schema. foreign c bad (of_book v old.schema schema))

  module _ (v : Version) (old mid : Held S) where
    -- it tells version 2
    pub told_new : (is : Bool) → is ≡ true → Finds g v (Decides 2) NoneSo old mid (Ok is) → Finds g v (IsTold v) (IsUntold v) old mid (Ok true)
    told_new is so it = record {
      mode = it.mode;
      clean = it.clean;
      survives = it.survives;
      kept = it.kept;
      faults = tt;
      cause = λ c schema. tt;
      same = it.same;
      same_bad = λ c. tt;
      good = λ c schema. (it.good c schema).0 so;
      bad = λ c. tt;
    }

    pub told_none : (stop : Stop) → Finds g v (Decides 2) NoneSo old mid (Err stop) → Finds g v (IsTold v) (IsUntold v) old mid (Err stop)
    told_none stop it = fails g v (Decides 2) NoneSo (IsTold v) (IsUntold v) old mid stop (λ trees none. absurd none) it

    -- it doesn't
    module _ (is : Bool) (other : is ≡ false) (first : Finds g v (Decides 2) NoneSo old mid (Ok is)) (new : Held S) where
      abbrev Both : Trees → Bool → Type 0
      Both trees one = Decides 2 trees is × Decides 1 trees one

      abbrev Neither : Trees → Type 0
      Neither trees = Decides 2 trees is × NoneSo trees

      both : (r : Result Bool Stop) → Finds g v (Decides 1) NoneSo mid new r → Finds g v Both Neither old new r
      both r second = then_more g v (Decides 2) NoneSo (Decides 1) NoneSo old mid new is r first second

      not_two : (trees : Trees) → Decides 2 trees is → ¬ (HasVersion 2 trees)
      not_two trees so has = true≢false (sym (so.1 has) ∙ other)

      pub told_fault : (stop : Stop) → Finds g v (Decides 1) NoneSo mid new (Err stop) → Finds g v (IsTold v) (IsUntold v) old new (Err stop)
      told_fault stop second = fails g v Both Neither (IsTold v) (IsUntold v) old new stop (λ trees none. absurd none.1) (both (Err stop) second)

      pub told_other : (one : Bool) → one ≡ false → Finds g v (Decides 1) NoneSo mid new (Ok one) → Finds g v (IsTold v) (IsUntold v) old new (Err bad_book)
      told_other one not_one second =
          then_bad g v Both Neither (IsTold v) (IsUntold v) old new one (both (Ok one) second) (λ trees so. untold v trees (not_two trees so.0) (λ has. true≢false (sym (so.1.1 has) ∙ not_one)))

      module _ (one : Bool) (second : Finds g v (Decides 1) NoneSo mid new (Ok one)) (is_old : Bool) (shape : IsTrue is_old ↔ IsShapeOf One old.schema) where
        read : Finds g v Both Neither old new (Ok one)
        read = both (Ok one) second

        pub told_lives : is_old ≡ false → Finds g v (IsTold v) (IsUntold v) old new (Err bad_book)
        told_lives another = record {
          mode = read.mode;
          clean = read.clean;
          survives = read.survives;
          kept = read.kept;
          faults = inr refl;
          cause = λ c schema. no_store bad_book (inl refl);
          same = λ c. tt;
          same_bad = λ c is schema. (read.same c schema).0.now_is;
          good = λ c. tt;
          bad = λ c is schema. untold_there v old.schema schema (λ has. true≢false (sym (shape.1 has) ∙ another)) (state g old).now.trees (not_two (state g old).now.trees (read.good c schema).0);
        }

        pub told_one : is_old ≡ true → Finds g v (IsTold v) (IsUntold v) old new (Ok false)
        told_one so = record {
          mode = read.mode;
          clean = read.clean;
          survives = read.survives;
          kept = read.kept;
          faults = tt;
          cause = λ c schema. tt;
          same = read.same;
          same_bad = λ c. tt;
          good = λ c schema. told_old v old.schema schema (shape.0 so) (state g old).now.trees (not_two (state g old).now.trees (read.good c schema).0);
          bad = λ c. tt;
        }

  -- ---- where the store is open
  pub looked_err : (v : Version) (old mid : Held S) (stop : Stop) → Looks g old mid (Err stop) → Finds g v (IsTold v) (IsUntold v) old mid (Err stop)
  looked_err v old mid stop look =
      read_err g v (IsTold v) (IsUntold v) old mid stop look.mode look.survives look.clean (looked_kept g old mid (Err stop) look v) look.faults (λ c. look.cause c v) (λ c bad schema. look.foreign c bad (of_book v old.schema schema))

  pub looked_then : (v : Version) (old mid new : Held S) (r : Result Bool Stop) → Looks g old mid (Ok tt) → Finds g v (IsTold v) (IsUntold v) mid new r → Finds g v (IsTold v) (IsUntold v) old new r
  looked_then v old mid new r look it =
      let first : Finds g v (λ trees (done : ⊤). ⊤) NoneSo old mid (Ok tt) = read_ok g v (λ trees (done : ⊤). ⊤) NoneSo old mid tt look.mode look.survives look.clean (looked_kept g old mid (Ok tt) look v) (λ c schema. look.same c tt) (λ c schema. tt) in
      find_as g v (λ trees z. ⊤ × IsTold v trees z) (IsTold v) (λ trees. ⊤ × IsUntold v trees) (IsUntold v) old new r (λ trees x found. found.1) (λ trees none. none.1)
      (then_more g v (λ trees (done : ⊤). ⊤) NoneSo (IsTold v) (IsUntold v) old mid new tt r first it)

  pub looked_told : (old mid new : Held S) (r : Result Bool Stop) → Looks g old mid (Ok tt) → HasCleanDisk (state g mid) → IfOk r (λ is. IsTrue is → ShowsVersion 2 (state g mid) (state g new))
      → IfOk r (λ is. IsTrue is → ShowsVersion 2 (state g old) (state g new))
  looked_told old mid new r look clean told = if_ok r told (λ is so told. shown_since 2 (state g old) (state g mid) (state g new) (look.same clean tt) (so told))

  pub looked_shape : (v : Version) (old mid : Held S) → Looks g old mid (Ok tt) → HasCleanDisk (state g mid) → IsShapeOf v mid.schema → IsShapeOf v old.schema
  looked_shape v old mid look clean shape = subst (IsShapeOf v) (ap (λ (d : Database). d.schema) (look.same clean tt).0.now_is) shape
