-- One reading of tables after another.
use Rattle.std.proofs.Common.{◌≡◌, ◌≢◌, ◌⊎◌, inl, inr, Result, Ok, Err, false, refl, ap, subst, ◌∙◌}
use Rattle.std.specs.Prelude.{IfOk, IfErr, OnOk}
use Rattle.sqlite_trees.specs.declared.store.Store.{Ghosts}
use Rattle.sqlite.specs.Tree.{Trees}
use Rattle.sqlite.specs.Effect.{Database}
use Rattle.sqlite.specs.Held.{Held, state}
use Rattle.sqlite.specs.State.{State, HasCleanDisk, IsUnchanged, Survives}
use Rattle.sqlite.proofs.Callers.{unchanged_then}
use Rattle.ob_base.specs.declared.stop.Stop.{Stop}
use Rattle.ob_base.specs.declared.stop.Stop.TheVariants.{Fault}
use Rattle.ob_base.specs.declared.stop.Fault.TheVariants.{Store}
use Rattle.ob_base.specs.Stop.{out_of_memory}
use Rattle.ob_sql_rows.specs.Versions.{schema_of}
use Rattle.ob_sql_rows.specs.declared.version.Version.{Version}
use Rattle.ob_sql_rows.specs.Rows.{Tables}
use Rattle.ob_sql_rows.proofs.Silence.{silent_same}
use Rattle.ob_sql_write.specs.Keeps.{KeepsIn}
use Rattle.ob_sql_read.specs.Reading.{IsReadFault, bad_book}
use Rattle.ob_sql_read.proofs.Listing.{still_then}
use Rattle.ob_sql_rows.specs.Steps.{HasFaultCause}
use Rattle.ob_store.specs.Finding.{Finds}
use Rattle.ob_store.specs.Keeping.{IsBroken}
use Rattle.ob_store.proofs.Failing.{as_store_cause, cause_later, no_store}

pub on_ok : {X E : Type 0} {P Q : Type 0} (r : Result X E) → OnOk r P → (P → Q) → OnOk r Q
on_ok (Ok x) p f = f p
on_ok (Err e) p f = p

pub if_ok : {X E : Type 0} {P Q : X → Type 0} (r : Result X E) → IfOk r P → ((x : X) → P x → Q x) → IfOk r Q
if_ok (Ok x) p f = f x p
if_ok (Err e) p f = p

pub if_err : {X E : Type 0} {P Q : E → Type 0} (r : Result X E) → IfErr r P → ((e : E) → P e → Q e) → IfErr r Q
if_err (Ok x) p f = p
if_err (Err e) p f = f e p

-- a crash leaves no more than before
pub no_more : (old new : State) → Survives old new (λ _. ⊥) → HasCleanDisk new → (trees : Trees) → new.may_leave trees → old.may_leave trees
no_more old new survives clean trees may = elim (survives.crash clean trees may) [ inl was ↦ was | inr none ↦ absurd none ]

module _ {S : Type 0} (g : Ghosts S) (v : Version) where
  -- one reading after another
  pub then_more : {X Z : Type 0} (Good : Trees → X → Type 0) (Bad : Trees → Type 0) (More : Trees → Z → Type 0) (Less : Trees → Type 0) (old mid new : Held S) (x : X) (r : Result Z Stop)
      → Finds g v Good Bad old mid (Ok x) → Finds g v More Less mid new r → Finds g v (λ trees z. Good trees x × More trees z) (λ trees. Good trees x × Less trees) old new r
  then_more Good Bad More Less old mid new x r first second =
      let at : HasCleanDisk (state g new) → old.schema ≡ schema_of v → (IsUnchanged (state g old) (state g mid)) × (mid.schema ≡ schema_of v) = λ clean schema.
      let it = first.same (second.clean clean) schema in (it, ap (λ (d : Database). d.schema) it.0.now_is ∙ schema) in
      let seen : HasCleanDisk (state g new) → old.schema ≡ schema_of v → (state g mid).now ≡ (state g old).now = λ clean schema. (at clean schema).0.0.now_is in
      record {
        mode = λ idle. second.mode (first.mode idle);
        clean = λ clean. first.clean (second.clean clean);
        survives = still_then (state g old) (state g mid) (state g new) first.survives second.survives;
        kept = λ t keeps. second.kept t (first.kept t keeps);
        faults = second.faults;
        cause = λ clean schema. cause_later (state g old) (state g mid) (state g new) r first.survives second.survives (second.clean clean) (seen clean schema) (second.cause clean (at clean schema).1);
        same = λ clean. on_ok r (second.same clean) (λ step schema. unchanged_then (state g old) (state g mid) (state g new) (at clean schema).0 (step (at clean schema).1));
        same_bad = λ clean. if_err r (second.same_bad clean) (λ stop step is schema. step is (at clean schema).1 ∙ (at clean schema).0.0.now_is);
        good = λ clean. if_ok r (second.good clean) (λ z found schema.
            (first.good (second.clean clean) schema, subst (λ (d : Database). More d.trees z) (seen clean schema) (found (at clean schema).1)));
        bad = λ clean. if_err r (second.bad clean) (λ stop none is schema.
            (first.good (second.clean clean) schema, subst (λ (d : Database). Less d.trees) (seen clean schema) (none is (at clean schema).1)));
      }

  -- an error is one of whatever was looked for
  pub fails : {X Y : Type 0} (Good : Trees → X → Type 0) (Bad : Trees → Type 0) (Good' : Trees → Y → Type 0) (Bad' : Trees → Type 0) (old new : Held S) (stop : Stop) → ((trees : Trees) → Bad trees → Bad' trees)
      → Finds g v Good Bad old new (Err stop) → Finds g v Good' Bad' old new (Err stop)
  fails Good Bad Good' Bad' old new stop worse it = record {
    mode = it.mode;
    clean = it.clean;
    survives = it.survives;
    kept = it.kept;
    faults = it.faults;
    cause = it.cause;
    same = it.same;
    same_bad = it.same_bad;
    good = λ clean. tt;
    bad = λ clean is schema. worse (state g old).now.trees (it.bad clean is schema);
  }

  -- what was found is so of the trees, or tells more of them
  pub find_as : {X : Type 0} (Good Good' : Trees → X → Type 0) (Bad Bad' : Trees → Type 0) (old new : Held S) (r : Result X Stop) → ((trees : Trees) (x : X) → Good trees x → Good' trees x) → ((trees : Trees) → Bad trees → Bad' trees)
      → Finds g v Good Bad old new r → Finds g v Good' Bad' old new r
  find_as Good Good' Bad Bad' old new (Ok x) better worse it = record {
    mode = it.mode;
    clean = it.clean;
    survives = it.survives;
    kept = it.kept;
    faults = it.faults;
    cause = λ clean schema. tt;
    same = it.same;
    same_bad = λ clean. tt;
    good = λ clean has. better (state g old).now.trees x (it.good clean has);
    bad = λ clean. tt;
  }
  find_as Good Good' Bad Bad' old new (Err stop) better worse it = fails Good Bad Good' Bad' old new stop worse it

  module _ {X Y : Type 0} (Good : Trees → X → Type 0) (Bad : Trees → Type 0) (Good' : Trees → Y → Type 0) (Bad' : Trees → Type 0) (old mid : Held S) (x : X) (first : Finds g v Good Bad old mid (Ok x)) where
    -- what was read leads to an error that says nothing of the tables, or that the file is broken
    pub then_fault : (stop : Stop) → IsReadFault stop → stop ≢ bad_book → (stop ≡ Fault Store → (trees : Trees) → Good trees x → IsBroken trees) → Finds g v Good' Bad' old mid (Err stop)
    then_fault stop fault other broken = record {
      mode = first.mode;
      clean = first.clean;
      survives = first.survives;
      kept = first.kept;
      faults = fault;
      cause = λ clean schema is. inr (broken is (state g old).now.trees (first.good clean schema));
      same = λ clean. tt;
      same_bad = λ clean is. absurd (other is);
      good = λ clean. tt;
      bad = λ clean is. absurd (other is);
    }

    -- what was read is no book's
    pub then_bad : ((trees : Trees) → Good trees x → Bad' trees) → Finds g v Good' Bad' old mid (Err bad_book)
    then_bad none = record {
      mode = first.mode;
      clean = first.clean;
      survives = first.survives;
      kept = first.kept;
      faults = inr refl;
      cause = λ clean schema. no_store bad_book (inl refl);
      same = λ clean. tt;
      same_bad = λ clean is schema. (first.same clean schema).0.now_is;
      good = λ clean. tt;
      bad = λ clean is schema. none (state g old).now.trees (first.good clean schema);
    }

    -- what was read gives what was looked for
    pub then_good : (y : Y) → ((trees : Trees) → Good trees x → Good' trees y) → Finds g v Good' Bad' old mid (Ok y)
    then_good y found = record {
      mode = first.mode;
      clean = first.clean;
      survives = first.survives;
      kept = first.kept;
      faults = tt;
      cause = λ clean schema. tt;
      same = first.same;
      same_bad = λ clean. tt;
      good = λ clean schema. found (state g old).now.trees (first.good clean schema);
      bad = λ clean. tt;
    }

-- what may stop a reading
pub read_fault : (stop : Stop) → (stop ≡ bad_book) ⊎ (stop ≡ out_of_memory) → IsReadFault stop
read_fault stop (inl bad) = inr bad
read_fault stop (inr memory) = inl (inl memory)

-- nothing was read
pub none_read : {S : Type 0} (g : Ghosts S) (v : Version) {X : Type 0} (Good : Trees → X → Type 0) (Bad : Trees → Type 0) (conn : Held S) (stop : Stop) → (stop ≡ bad_book) ⊎ (stop ≡ out_of_memory)
    → (stop ≡ bad_book → (trees : Trees) → Bad trees) → Finds g v Good Bad conn conn (Err stop)
none_read g v Good Bad conn stop fault none = record {
  mode = λ idle. idle;
  clean = λ clean. clean;
  survives = (silent_same (state g conn)).survives;
  kept = λ t keeps. keeps;
  faults = read_fault stop fault;
  cause = λ clean schema. no_store stop fault;
  same = λ clean. tt;
  same_bad = λ clean is schema. refl;
  good = λ clean. tt;
  bad = λ clean is schema. none is (state g conn).now.trees;
}

module _ {S : Type 0} (g : Ghosts S) (v : Version) {X : Type 0} (Good : Trees → X → Type 0) (Bad : Trees → Type 0) (old new : Held S) where
  -- a reading that answered
  pub read_ok : (x : X) → (old.in_transaction ≡ false → new.in_transaction ≡ false) → Survives (state g old) (state g new) (λ _. ⊥) → (HasCleanDisk (state g new) → HasCleanDisk (state g old))
      → ((t : Tables) → KeepsIn v (state g old) t → KeepsIn v (state g new) t)
      → (HasCleanDisk (state g new) → old.schema ≡ schema_of v → IsUnchanged (state g old) (state g new)) → (HasCleanDisk (state g new) → old.schema ≡ schema_of v → Good (state g old).now.trees x)
      → Finds g v Good Bad old new (Ok x)
  read_ok x mode survives clean kept same good = record {
    mode = mode;
    clean = clean;
    survives = survives;
    kept = kept;
    faults = tt;
    cause = λ clean schema. tt;
    same = same;
    same_bad = λ is. tt;
    good = good;
    bad = λ is. tt;
  }

  -- a reading that failed, or found the tables of no book
  pub read_err : (stop : Stop) → (old.in_transaction ≡ false → new.in_transaction ≡ false) → Survives (state g old) (state g new) (λ _. ⊥) → (HasCleanDisk (state g new) → HasCleanDisk (state g old))
      → ((t : Tables) → KeepsIn v (state g old) t → KeepsIn v (state g new) t)
      → IsReadFault stop → (HasCleanDisk (state g new) → old.schema ≡ schema_of v → HasFaultCause {X = X} (state g old) (state g new) (Err stop)) → (HasCleanDisk (state g new) → stop ≡ bad_book → old.schema ≢ schema_of v)
      → Finds g v Good Bad old new (Err stop)
  read_err stop mode survives clean kept fault cause foreign = record {
    mode = mode;
    clean = clean;
    survives = survives;
    kept = kept;
    faults = fault;
    cause = λ clean schema. as_store_cause {X = X} (state g old) (state g new) (Err stop) (cause clean schema);
    same = λ is. tt;
    same_bad = λ is bad schema. absurd (foreign is bad schema);
    good = λ is. tt;
    bad = λ is bad schema. absurd (foreign is bad schema);
  }
