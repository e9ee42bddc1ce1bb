-- A reading leaves the tables that a store keeps.
use Rattle.std.proofs.Common.{◌≡◌, ◌⊎◌, inl, inr, ℕ, List, [], Some, None, Option, sym, ap, subst₂, ◌∙◌, arith}
use Rattle.sqlite.specs.Order.{Row}
use Rattle.sqlite.specs.Effect.{Database}
use Rattle.sqlite.specs.Listing.{understood}
use Rattle.sqlite.specs.Clock.{timed}
use Rattle.sqlite.specs.declared.error.Error.{Error}
use Rattle.sqlite.specs.State.{State, HasCleanDisk, IsUnchanged, IsRolledBack, IsNotRun, FailsToQuery, FailsToShow, Fails, Survives, CommitsShowing}
use Rattle.sqlite_schema.specs.declared.command.Returning.{Returning}
use Rattle.sqlite_resolve.specs.declared.compiled.Compiled.{Compiled}
use Rattle.sqlite.proofs.Callers.{IsPlain, never_commits}
use Rattle.ob_sql_rows.specs.Versions.{schema_of}
use Rattle.ob_sql_rows.specs.declared.version.Version.{Version}
use Rattle.ob_sql_rows.specs.Rows.{Tables}
use Rattle.ob_sql_rows.proofs.Silence.{silent_same}
use Rattle.ob_sql_write.specs.Keeps.{KeepsIn}
use Rattle.ob_sql_write.proofs.Commits.{unchanged, undone}
use Rattle.ob_sql_read.specs.Listing.{Listing, IsListingOver}

-- nothing changed, or the transaction was undone
abbrev pub IsStill : State → State → Type 0
IsStill old new = IsUnchanged old new ⊎ IsRolledBack old new

-- ---- what fails
pub failed_still : (old new : State) (e : Error) → Fails old new ⊥ e ⊎ IsUnchanged old new → IsStill old new
failed_still old new e (inl fails) = inr fails.3
failed_still old new e (inr same) = inl same

pub not_run : (old new : State) (sql : List ℕ) (params : Row) (e : Error) → IsNotRun old new sql params e → IsStill old new
unfolding IsNotRun
not_run old new sql params e (inl h) = inl h.1
not_run old new sql params e (inr fails) = inr fails.3

unshown : (old new : State) (sql : List ℕ) (c : Compiled) (params : Row) (e : Error) (o : Option Returning) → FailsToShow old new sql c params e o → IsStill old new
unshown old new sql c params e None f = inl f.3
unshown old new sql c params e (Some what) (inl h) = inl h.1
unshown old new sql c params e (Some what) (inr fails) = inr fails.3

pub unread : (old new : State) (sql : List ℕ) (params : Row) (e : Error) → FailsToQuery sql params old new e → IsStill old new
unfolding FailsToQuery
unread old new sql params e (inl h) = not_run old new sql params e h
unread old new sql params e (inr h) = unshown old new sql h.0 (timed params h.0.formats h.1.now) e h.0.returning h.2

-- ---- what a store keeps
pub kept_still : (v : Version) (old new : State) (t : Tables) → (HasCleanDisk new → IsStill old new) → Survives old new (λ _. ⊥) → KeepsIn v old t → KeepsIn v new t
kept_still v old new t still survives keeps = record {
  settled = λ clean live. elim (still clean) [
    | inl same ↦ (unchanged old new t (λ _. same) survives keeps).settled clean live
    | inr back ↦ (undone old old new t (silent_same old) (λ _. back) survives keeps).settled clean live
  ];
  left = λ clean trees may.
      let first : HasCleanDisk old = omega (arith, survives.clean, clean) in
      elim (survives.crash clean trees may) [ inl before ↦ keeps.left first trees before | inr none ↦ absurd none ];
}

-- a text that was prepared is asked
module _ (v : Version) (known : List ℕ) (is_plain : IsPlain (understood (schema_of v) known)) (old mid new : State) (text : List ℕ) (prepared : HasCleanDisk mid → (text ≡ known) × IsUnchanged old mid) (t : Tables) (keeps : KeepsIn v old t)
    (first : Survives old mid (λ _. ⊥)) (s : Survives mid new (CommitsShowing text [] mid)) where
  plain : HasCleanDisk mid → IsPlain (understood mid.now.schema text)
  plain clean =
      let it = prepared clean in
      let was = keeps.settled (omega (arith, first.clean, clean)) it.1.0.was_open in
      subst₂ (λ x k. IsPlain (understood x k)) (sym (ap (λ (d : Database). d.schema) it.1.0.now_is ∙ was.schema)) (sym it.0) is_plain

  silent : Survives mid new (λ _. ⊥)
  silent = record {
    clean = s.clean;
    shield = s.shield;
    counts = s.counts;
    limit = s.limit;
    closes = s.closes;
    crash = λ clean db may.
        let early : HasCleanDisk mid = omega (arith, s.clean, clean) in
        elim (s.crash clean db may) [ inl before ↦ inl before | inr commits ↦ absurd (never_commits text [] mid db (plain early) commits) ];
  }

  -- it needs no schema, since a store that keeps tables of a version has its schema while it is open
  pub kept_text : (HasCleanDisk new → IsPlain (understood mid.now.schema text) → IsStill mid new) → KeepsIn v new t
  kept_text still =
      kept_still v mid new t (λ clean. let early : HasCleanDisk mid = omega (arith, s.clean, clean) in still clean (plain early)) silent (unchanged old mid t (λ clean. (prepared clean).1) first keeps)

-- the same of a listing
pub kept_asked : (v : Version) (l : Listing) → IsListingOver (schema_of v) l → (old mid new : State) (text : List ℕ) (prepared : HasCleanDisk mid → (text ≡ l.text) × IsUnchanged old mid) (t : Tables) → KeepsIn v old t → Survives old mid (λ _. ⊥)
    → Survives mid new (CommitsShowing text [] mid) → (HasCleanDisk new → IsPlain (understood mid.now.schema text) → IsStill mid new) → KeepsIn v new t
kept_asked v l means old mid new text prepared t keeps first s still = kept_text v l.text means.plain old mid new text prepared t keeps first s still
