-- What a migration leaves of what the store kept.
use Rattle.std.proofs.Common.{◌≡◌, ◌≢◌, inl, inr, Bool, false, true≢false, Result, Ok, Err, IsTrue, sym, subst}
use Rattle.std.specs.Prelude.{IfOk, IfErr}
use Rattle.sqlite_trees.specs.declared.store.Store.{Ghosts}
use Rattle.sqlite.specs.Held.{Held, state}
use Rattle.sqlite.specs.State.{HasCleanDisk}
use Rattle.ob_base.specs.declared.stop.Stop.{Stop}
use Rattle.ob_book.specs.Acts.{ActState}
use Rattle.ob_sql_rows.specs.Rows.{Tables}
use Rattle.ob_sql_rows.specs.Schema.{book_schema, no_schema}
use Rattle.ob_sql_rows.specs.Versions.{schema_of}
use Rattle.ob_sql_rows.specs.declared.version.Version.{Version}
use Rattle.ob_sql_rows.specs.declared.version.Version.TheVariants.{One, Two}
use Rattle.ob_sql_write.specs.Keeps.{KeepsEitherIn, KeepsIn}
use Rattle.ob_record.specs.Tables.{tables_of}
use Rattle.ob_sql_read.specs.Reading.{IsReadFault}
use Rattle.ob_sql_check.specs.OldTables.{old_tables_of}
use Rattle.ob_store.specs.Finding.{Finds}
use Rattle.ob_store.specs.Keeping.{KeepsBook, KeepsEitherBook, KeepsEitherVersion, KeepsOldBook}
use Rattle.ob_store.specs.Migrating.{HasUpgradeCause, KeepsOnNumbers, MigratesKept, MigratesOn, ShowsVersion}
use Rattle.ob_store.specs.Shapes.{IsShapeOf}
use Rattle.ob_store.specs.Upgrading.{IsTold, IsUntold, Migrates}
use Rattle.ob_store.specs.Versions.{Asks}
use Rattle.ob_store.proofs.Upgrading.{as_either}

module _ {S : Type 0} (g : Ghosts S) where
  -- the store was asked alone
  module _ (old new : Held S) where
    pub on_ok : (is : Bool) → Asks g {X = Bool} old new (Ok is) → (HasCleanDisk (state g new) → ShowsVersion 2 (state g old) (state g new)) → KeepsOnNumbers g old new → MigratesOn g old new (Ok false)
    on_ok is it told numbered = record {
      live = λ clean answer. it.live clean tt;
      shape = λ clean so. absurd (true≢false (sym so));
      told = λ clean no. told clean;
      book = λ b k. record { kept = it.kept Two (tables_of b) k.kept; reached = k.reached; valid = k.valid };
      either = λ b c k. record {
        kept = it.either Two (tables_of b) (tables_of c) k.kept;
        reached = k.reached;
        other_reached = k.other_reached;
        valid = k.valid;
        other_valid = k.other_valid;
      };
      version = λ clean. tt;
      empty = λ clean none. absurd (it.empty clean none);
      cause = λ clean v schema. tt;
      numbered = numbered;
    }

    pub on_err : (stop : Stop) → Asks g {X = Bool} old new (Err stop) → (HasCleanDisk (state g new) → (v : Version) → old.schema ≡ schema_of v → HasUpgradeCause g old new (Err stop)) → KeepsOnNumbers g old new → MigratesOn g old new (Err stop)
    on_err stop it cause numbered = record {
      live = it.live;
      shape = λ clean. tt;
      told = λ clean. tt;
      book = λ b k. record { kept = it.kept Two (tables_of b) k.kept; reached = k.reached; valid = k.valid };
      either = λ b c k. record {
        kept = it.either Two (tables_of b) (tables_of c) k.kept;
        reached = k.reached;
        other_reached = k.other_reached;
        valid = k.valid;
        other_valid = k.other_valid;
      };
      version = λ clean b k. record { kept = it.either One (old_tables_of b) (tables_of b) k.kept; reached = k.reached; valid = k.valid };
      empty = it.empty;
      cause = cause;
      numbered = numbered;
    }

  -- no tables of version 2 stood where the heading told another version
  pub now_told : (old mid : Held S) (is : Bool) → is ≡ false → ((v : Version) → Finds g v (IsTold v) (IsUntold v) old mid (Ok is)) → HasCleanDisk (state g mid) → old.schema ≡ book_schema → ⊥
  now_told old mid is other told clean schema = (subst (λ x. Finds g Two (IsTold Two) (IsUntold Two) old mid (Ok x)) other (told Two)).good clean schema

  -- the tables were read, and perhaps written
  module _ (old new : Held S) (r : Result Bool Stop) (opened : HasCleanDisk (state g new) → IsTrue (state g old).is_open)
      (first : IsTrue (state g old).is_open → (v : Version) (t u : Tables) → KeepsEitherIn v (state g old) t u → KeepsIn v (state g old) t) (other : HasCleanDisk (state g new) → old.schema ≡ book_schema → ⊥)
      (filled : HasCleanDisk (state g new) → old.schema ≢ no_schema)
      (shape : HasCleanDisk (state g new) → IfOk r (λ done. IsTrue done → IsShapeOf One old.schema))
      (told : HasCleanDisk (state g new) → IfOk r (λ done. done ≡ false → ShowsVersion 2 (state g old) (state g new))) (it : Migrates g old new r) where
    not_now : HasCleanDisk (state g new) → (b c : ActState) → KeepsEitherBook (state g old) b c → ⊥
    not_now clean b c k = other clean (k.kept.settled (it.clean clean) (opened clean)).schema

    no_book : HasCleanDisk (state g new) → (b : ActState) → KeepsBook (state g old) b → ⊥
    no_book clean b k = other clean (k.kept.settled (it.clean clean) (opened clean)).schema

    of_old : (b : ActState) → KeepsEitherVersion (state g old) b → HasCleanDisk (state g new) → MigratesKept g new b r
    of_old b k clean =
        let keeps : KeepsOldBook (state g old) b = record { kept = first (opened clean) One (old_tables_of b) (tables_of b) k.kept; reached = k.reached; valid = k.valid } in
        it.kept clean (opened clean) b keeps

    as_version : (stop : Stop) → IsReadFault stop → (b : ActState) → MigratesKept g new b (Err stop) → KeepsEitherVersion (state g new) b
    as_version stop (inl (inl memory)) b m = as_either g old new b (subst (λ s. MigratesKept g new b (Err s)) memory m)
    as_version stop (inl (inr store)) b m = subst (λ s. MigratesKept g new b (Err s)) store m
    as_version stop (inr bad) b m = absurd (subst (λ s. MigratesKept g new b (Err s)) bad m)

    versions : (x : Result Bool Stop) → IfErr x IsReadFault → ((b : ActState) → KeepsEitherVersion (state g old) b → MigratesKept g new b x)
        → IfErr x (λ stop. (b : ActState) → KeepsEitherVersion (state g old) b → KeepsEitherVersion (state g new) b)
    versions (Ok x) fault of = tt
    versions (Err stop) fault of = λ b k. as_version stop fault b (of b k)

    pub on_more : MigratesOn g old new r
    on_more = record {
      live = λ clean answer. opened clean;
      shape = shape;
      told = told;
      book = λ b k. record {
        kept = record { settled = λ clean live. absurd (no_book clean b k); left = λ clean trees may. absurd (no_book clean b k) };
        reached = k.reached;
        valid = k.valid;
      };
      either = λ b c k. record {
        kept = record { settled = λ clean live. absurd (not_now clean b c k); left = λ clean trees may. absurd (not_now clean b c k) };
        reached = k.reached;
        other_reached = k.other_reached;
        valid = k.valid;
        other_valid = k.other_valid;
      };
      version = λ clean. versions r it.faults (λ b k. of_old b k clean);
      empty = λ clean none. absurd (filled clean none);
      cause = it.cause;
      numbered = it.numbered;
    }
