-- A listing whose text was prepared and asked, and whose rows were then read.
use Rattle.std.proofs.Common.{◌≡◌, ℕ, List, [], inl, ap, ◌∙◌, arith, IsTrue, OnOk}
use Rattle.std.specs.Prelude.{Result}
use Rattle.sqlite.specs.Effect.{Database}
use Rattle.sqlite.specs.Held.{Held, state}
use Rattle.sqlite.specs.Given.{HasBegun, HasGiven}
use Rattle.sqlite.specs.State.{HasCleanDisk, IsUnchanged, Survives, CommitsShowing}
use Rattle.sqlite_trees.specs.declared.store.Store.{Ghosts}
use Rattle.sqlite.proofs.Callers.{begun_plain, unchanged_then}
use Rattle.ob_base.specs.declared.stop.Stop.{Stop}
use Rattle.ob_sql_rows.specs.Versions.{schema_of}
use Rattle.ob_sql_rows.specs.declared.version.Version.{Version}
use Rattle.ob_sql_rows.specs.declared.version.Version.TheVariants.{Two}
use Rattle.ob_sql_rows.specs.Rows.{Tables}
use Rattle.ob_sql_rows.specs.Steps.{HasFaultCause}
use Rattle.ob_sql_rows.proofs.Failing.{cause_after}
use Rattle.ob_sql_write.specs.Keeps.{KeepsIn}
use Rattle.ob_sql_write.proofs.Steps.{on_ok}
use Rattle.ob_sql_read.specs.Faults.{IsMissed}
use Rattle.ob_sql_read.specs.Listing.{Listing, IsListingOver}
use Rattle.ob_sql_read.proofs.Asking.{listing_quiet, never_clean}
use Rattle.ob_sql_read.proofs.Kept.{kept_asked}
use Rattle.ob_sql_read.proofs.Listing.{begins, still_then}

-- from old to mid the text was prepared, from mid to start it was asked, from start to last its rows were read
pub record IsRead {S : Type 0} (g : Ghosts S) (l : Listing) (old mid start last : Held S) (text : List ℕ) : Type 0 where
  pub prepared : HasCleanDisk (state g mid) → (text ≡ l.text) × IsUnchanged (state g old) (state g mid)
  pub first : Survives (state g old) (state g mid) (λ _. ⊥)
  pub asked : Survives (state g mid) (state g start) (CommitsShowing text [] (state g mid))
  pub begun : HasCleanDisk (state g start) → HasBegun g text [] mid start
  pub rest : Survives (state g start) (state g last) (λ _. ⊥)

module _ {S : Type 0} {g : Ghosts S} {l : Listing} {old mid start last : Held S} {text : List ℕ} (it : IsRead g l old mid start last text) (means : (v : Version) → IsListingOver (schema_of v) l) where
  -- it commits nothing
  pub survives_read : Survives (state g old) (state g last) (λ _. ⊥)
  survives_read =
      still_then (state g old) (state g start) (state g last) (listing_quiet l (means Two) (state g old) (state g mid) (state g start) text it.prepared it.first it.asked) it.rest

  pub clean_read : HasCleanDisk (state g last) → HasCleanDisk (state g old)
  clean_read clean = omega (arith, it.first.clean, it.asked.clean, it.rest.clean, clean)

  pub clean_start : HasCleanDisk (state g last) → HasCleanDisk (state g start)
  clean_start clean = omega (arith, it.rest.clean, clean)

  -- over the tables of a version it begins with no row, and nothing has changed
  pub begun_read : HasCleanDisk (state g last) → (v : Version) → (state g old).now.schema ≡ schema_of v → HasGiven g l.text [] start [] × IsUnchanged (state g old) (state g start)
  begun_read clean v has =
      let begun : HasCleanDisk (state g start) = clean_start clean in
      let early : HasCleanDisk (state g mid) = omega (arith, it.asked.clean, begun) in
      begins g l (means v) old mid start text (it.prepared early) has (it.begun begun)

  -- nothing changes where the rows leave all as it was
  pub same_read : {X : Type 0} (r : Result X Stop) → HasCleanDisk (state g last) → OnOk r (IsTrue (state g start).is_open → IsUnchanged (state g start) (state g last))
      → OnOk r ((v : Version) → (state g old).now.schema ≡ schema_of v → IsUnchanged (state g old) (state g last))
  same_read r clean same =
      on_ok r same (λ step v has.
      let b = begun_read clean v has in
      unchanged_then (state g old) (state g start) (state g last) b.1 (step b.1.0.is_open))

  -- what the rows tell of a failure holds of the whole
  pub cause_read : {X : Type 0} (r : Result X Stop) → HasCleanDisk (state g last) → (v : Version) → (state g old).now.schema ≡ schema_of v
      → (IsTrue (state g start).is_open → (state g start).now.schema ≡ schema_of v → HasGiven g l.text [] start [] → HasFaultCause (state g start) (state g last) r) → HasFaultCause (state g old) (state g last) r
  cause_read r clean v has told =
      let b = begun_read clean v has in
      let first = listing_quiet l (means Two) (state g old) (state g mid) (state g start) text it.prepared it.first it.asked in
      cause_after (state g old) (state g start) (state g last) _ _ r first (clean_start clean) it.rest (told b.1.0.is_open (ap (λ (d : Database). d.schema) b.1.0.now_is ∙ has) b.0)

  -- a store keeps what it kept
  pub kept_read : (v : Version) (t : Tables) → (KeepsIn v (state g start) t → KeepsIn v (state g last) t) → KeepsIn v (state g old) t → KeepsIn v (state g last) t
  kept_read v t rest keeps =
      rest (kept_asked v l (means v) (state g old) (state g mid) (state g start) text it.prepared t keeps it.first it.asked (λ late plain. inl (begun_plain g text [] mid start plain (it.begun late)).1))

  -- a text without meaning isn't prepared
  pub missed_read : {X : Type 0} (r : Result X Stop) → (HasCleanDisk (state g mid) → ⊥) → Survives (state g old) (state g last) (λ _. ⊥) × (HasCleanDisk (state g last) → IsMissed (state g old) (state g last) r)
  missed_read r unprepared =
      let unread : HasCleanDisk (state g start) → ⊥ = λ clean. unprepared (omega (arith, it.asked.clean, clean)) in (
        still_then (state g old) (state g start) (state g last) (never_clean (state g old) (state g mid) (state g start) _ it.first it.asked unread) it.rest,
        λ clean. absurd (unread (clean_start clean)),
      )
