-- What is left of a book after a crash, once its store is opened again.
use Rattle.std.proofs.Common.{◌≡◌, ◌⊎◌, inl, inr, IsTrue, Err, IsErr, Ok, Result, refl, sym, ap, subst, ◌∙◌}
use Rattle.std.specs.Prelude.{⊤, List, ℕ}
use Rattle.sqlite_catalog.specs.Listing.{IsSound}
use Rattle.sqlite.specs.Tree.{Trees}
use Rattle.sqlite.specs.Held.{state}
use Rattle.ob_base.specs.declared.stop.Stop.{Stop}
use Rattle.ob_time.specs.Calendar.{Calendar}
use Rattle.ob_time.specs.Period.{IsPeriodText}
use Rattle.ob_book.specs.Acts.{ActState, start}
use Rattle.ob_sql_rows.specs.Rows.{Tables}
use Rattle.ob_sql_rows.specs.Versions.{schema_of}
use Rattle.ob_sql_rows.specs.declared.version.Version.{Version}
use Rattle.ob_sql_rows.specs.declared.version.Version.TheVariants.{One, Two}
use Rattle.ob_sql_write.specs.Begins.{Stays}
use Rattle.ob_sql_write.specs.Keeps.{KeepsIn, LeavesIn}
use Rattle.ob_sql_read.specs.Reading.{IsMissed}
use Rattle.ob_record.specs.Tables.{tables_of}
use Rattle.ob_sql_check.specs.Laws.{OldIsReached}
use Rattle.ob_sql_check.specs.OldTables.{old_tables_of}
use Rattle.ob_store.specs.Calls.{LeftAll, Loads, MayHaveBegun, OpensAfter}
use Rattle.ob_store.specs.Crashing.{CrashLaw}
use Rattle.ob_store.specs.Keepers.{Ghosts, HoldsNothing, IsClean, Stores, StoresEither, StoresEitherVersion, StoresNumbers, StoresOld}
use Rattle.ob_store.specs.declared.keeper.Keeper.{Keeper}
use Rattle.ob_store.specs.Loading.{trees_in}
use Rattle.ob_store.proofs.Crashing.{one_schema}

-- while a store is open a crash leaves its last commit, as each store promises
abbrev pub Settles : {R : Type 0} → Ghosts R → Type 0
Settles {R} h = (s : R) (db : Trees) → IsTrue (h.view s).is_open → h.recovers s db → db ≡ (h.view s).committed

module _ {S T R U : Type 0} {g : Ghosts S} {h : Ghosts R} (old : Keeper S T g) (new : Keeper R U h) (it : OpensAfter old new) where
  -- hidden row numbers stay
  pub numbers_after : CrashLaw g h → StoresNumbers old → StoresNumbers new
  numbers_after law = (law old.parts.conn new.parts it).2

  module _ (settles : Settles h) where
    -- the tables that the crash left are kept
    kept_in : (v : Version) (t : Tables) → LeavesIn v t (trees_in h new.parts.conn) → KeepsIn v (state h new.parts.conn) t
    kept_in v t leaves = record {
      settled = λ clean live. record {
        schema = one_schema new.parts.conn.schema (schema_of v) (trees_in h new.parts.conn) (it.live it.opens.is_open).0 leaves.sound;
        committed = sym it.opens.clean;
        holds = leaves.holds;
      };
      left = λ clean trees may. subst (λ x. LeavesIn v t x) (sym (settles new.parts.conn.store trees it.opens.is_open may ∙ ap (λ d. d.trees) (sym it.opens.clean))) leaves;
    }

    -- a book that was kept
    pub stored_after : (b : ActState) → Stores old b → Stores new b
    stored_after b k = record { kept = kept_in Two (tables_of b) (k.kept.left it.clean (trees_in h new.parts.conn) it.left); reached = k.reached; valid = k.valid }

    -- one of two
    pub either_after : (b c : ActState) → StoresEither old b c → Stores new b ⊎ Stores new c
    either_after b c k = elim (k.kept.left it.clean (trees_in h new.parts.conn) it.left) [
      | inl first ↦ inl (record { kept = kept_in Two (tables_of b) first; reached = k.reached; valid = k.valid })
      | inr other ↦ inr (record { kept = kept_in Two (tables_of c) other; reached = k.other_reached; valid = k.other_valid })
    ]

    -- a book of version 1
    pub old_after : (b : ActState) → StoresOld old b → StoresOld new b
    old_after b k = record { kept = kept_in One (old_tables_of b) (k.kept.left it.clean (trees_in h new.parts.conn) it.left); reached = k.reached; valid = k.valid }

    -- a book in the tables of either version
    pub version_after : OldIsReached → (b : ActState) → StoresEitherVersion old b → StoresOld new b ⊎ Stores new b
    version_after reached b k = elim (k.kept.left it.clean (trees_in h new.parts.conn) it.left) [
      | inl first ↦ inl (record { kept = kept_in One (old_tables_of b) first; reached = k.reached; valid = k.valid })
      | inr other ↦ inr (record { kept = kept_in Two (tables_of b) other; reached = (reached b k.reached).0; valid = k.valid })
    ]

-- ---- where a new book was to be made

is_missed : {S T : Type 0} {g : Ghosts S} (old new : Keeper S T g) (r : Result ⊤ Stop) → IsMissed (state g old.parts.conn) (state g new.parts.conn) r → IsErr r
is_missed old new (Ok done) missed = absurd missed
is_missed old new (Err stop) missed = refl

module _ {S T R U : Type 0} {g : Ghosts S} {h : Ghosts R} (settles : Settles g) (settles_new : Settles h) (old made : Keeper S T g) (next new : Keeper R U h) (held : HoldsNothing old)
    (it : OpensAfter made next) (found : Result ⊤ Stop) (loads : Loads next new found) (clean : IsClean new) where
  -- what the empty store could leave is empty too, so a load finds no book in it
  none_found : (state g old.parts.conn).may_leave (trees_in h next.parts.conn) → IsErr found
  none_found may =
      let same : trees_in h next.parts.conn ≡ (state g old.parts.conn).now.trees = settles old.parts.conn.store (trees_in h next.parts.conn) held.live may ∙ ap (λ d. d.trees) (sym held.committed) in
      let sound = subst (λ trees. IsSound old.parts.conn.schema trees) (sym same) (held.whole held.live).0 in
      let empty = one_schema next.parts.conn.schema old.parts.conn.schema (trees_in h next.parts.conn) (it.live it.opens.is_open).0 sound ∙ held.schema in
      is_missed next new found (loads.answers.empty clean empty)

  unchanged : Stays (state g old.parts.conn) (state g made.parts.conn) → (state g old.parts.conn).may_leave (trees_in h next.parts.conn)
  unchanged stays = elim (stays.survives.crash it.clean (trees_in h next.parts.conn) it.left) [ inl may ↦ may | inr never ↦ absurd never ]

  -- none was made
  pub nothing_after : LeftAll old made → IsErr found
  nothing_after left = none_found (unchanged left.stays)

  -- the store failed as it was being made
  pub begun_after : (first : List ℕ) (days : ℕ) (zone : List ℕ) → MayHaveBegun old made first days zone
      → (p : Calendar) × IsPeriodText first days zone p × (Stores next (start p) ⊎ IsErr found)
  begun_after first days zone (p, named, reached, keeps, begins) = (
    p,
    named,
    elim (begins.left it.clean (trees_in h next.parts.conn) it.left) [
      | inl may ↦ inr (none_found may)
      | inr begun ↦ inl (record { kept = kept_in made next it settles_new Two (tables_of (start p)) begun.2; reached = reached; valid = tt })
    ],
  )
