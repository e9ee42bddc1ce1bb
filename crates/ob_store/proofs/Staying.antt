-- What a store keeps on where it shows what it showed, and where a new book may have begun in an empty database.
use Rattle.std.proofs.Common.{◌≡◌, ◌⊎◌, inl, inr, ℕ, length, IsTrue, sym, ap, subst, ◌∙◌, arith}
use Rattle.sqlite.specs.Tree.{Trees}
use Rattle.sqlite.specs.Schema.{Schema}
use Rattle.sqlite.specs.Effect.{Database}
use Rattle.sqlite.specs.State.{State, HasCleanDisk}
use Rattle.sqlite_tied.specs.Compute.{everything}
use Rattle.ob_sql_rows.specs.Creation.{old_schema}
use Rattle.ob_sql_rows.specs.Schema.{book_schema, no_schema}
use Rattle.ob_sql_rows.specs.Rows.{Tables}
use Rattle.ob_sql_rows.specs.Versions.{HoldsIn, schema_of}
use Rattle.ob_sql_rows.specs.declared.version.Version.{Version}
use Rattle.ob_sql_rows.specs.declared.version.Version.TheVariants.{One, Two}
use Rattle.ob_sql_write.specs.Begins.{Begins, ShowsAsBefore}
use Rattle.ob_sql_write.specs.Keeps.{IsSettledIn, KeepsEitherIn, KeepsIn}
use Rattle.ob_record.specs.Tables.{tables_of}
use Rattle.ob_sql_check.specs.OldTables.{old_tables_of}
use Rattle.ob_store.specs.Keeping.{KeepsOn}

-- an empty database has the tables of neither version
none_old : no_schema ≡ old_schema → ⊥
unfolding everything
none_old is = absurd (let n : ◌≡◌ {A = ℕ} 0 10 = ap (λ (s : Schema). length s.tables) is in omega (arith, n))

none_now : no_schema ≡ book_schema → ⊥
unfolding everything
none_now is = absurd (let n : ◌≡◌ {A = ℕ} 0 11 = ap (λ (s : Schema). length s.tables) is in omega (arith, n))

none_of : (v : Version) → no_schema ≡ schema_of v → ⊥
none_of One is = none_old is
none_of Two is = none_now is

module _ (old new : State) (clean_then : HasCleanDisk new → HasCleanDisk old) (shown : HasCleanDisk new → IsTrue new.is_open → ShowsAsBefore old new) (tables : Tables)
    (left : HasCleanDisk new → (trees : Trees) → new.may_leave trees → old.may_leave trees ⊎ Begins old tables trees) where
  settled_on : (v : Version) (t : Tables) → (HasCleanDisk old → IsTrue old.is_open → IsSettledIn v old t) → HasCleanDisk new → IsTrue new.is_open → IsSettledIn v new t
  settled_on v t was clean live =
      let s = shown clean live in
      let it = was (clean_then clean) s.was_open in
      record {
        schema = ap (λ (d : Database). d.schema) s.now ∙ it.schema;
        committed = s.committed ∙ it.committed ∙ sym s.now;
        holds = subst (λ (d : Database). HoldsIn v d.trees t) (sym s.now) it.holds;
      }

  -- no new book begins where the tables of one stood
  left_on : (v : Version) (t : Tables) → (HasCleanDisk old → IsTrue old.is_open → IsSettledIn v old t) → HasCleanDisk new → (trees : Trees) → new.may_leave trees → old.may_leave trees
  left_on v t was clean trees may = elim (left clean trees may) [
    | inl before ↦ before
    | inr begins ↦ absurd (none_of v (sym begins.1 ∙ (was (clean_then clean) begins.0).schema))
  ]

  kept_on : (v : Version) (t : Tables) → KeepsIn v old t → KeepsIn v new t
  kept_on v t keeps = record {
    settled = settled_on v t keeps.settled;
    left = λ clean trees may. keeps.left (clean_then clean) trees (left_on v t keeps.settled clean trees may);
  }

  either_on : (v : Version) (t u : Tables) → KeepsEitherIn v old t u → KeepsEitherIn v new t u
  either_on v t u keeps = record {
    settled = settled_on v t keeps.settled;
    left = λ clean trees may. keeps.left (clean_then clean) trees (left_on v t keeps.settled clean trees may);
  }

  pub keeps_on : KeepsOn old new
  keeps_on = record {
    book = λ b k. record { kept = kept_on Two (tables_of b) k.kept; reached = k.reached; valid = k.valid };
    either = λ b c k. record {
      kept = either_on Two (tables_of b) (tables_of c) k.kept;
      reached = k.reached;
      other_reached = k.other_reached;
      valid = k.valid;
      other_valid = k.other_valid;
    };
    old_book = λ b k. record { kept = kept_on One (old_tables_of b) k.kept; reached = k.reached; valid = k.valid };
    version = λ b k. record { kept = either_on One (old_tables_of b) (tables_of b) k.kept; reached = k.reached; valid = k.valid };
  }

pub keeps_same : (s : State) → KeepsOn s s
keeps_same s = record { book = λ b k. k; either = λ b c k. k; old_book = λ b k. k; version = λ b k. k }
