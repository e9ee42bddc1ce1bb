-- A query of the rows of a table, prepared and answered as a whole.
use Rattle.std.proofs.Common.{◌≡◌, ◌≢◌, ℕ, List, [], inl, inr, refl, sym, ap, subst, ◌∙◌}
use Rattle.std.specs.Prelude.{◌⊎◌, Result, Ok, Err, IfErr}
use Rattle.sqlite.specs.Order.{Row}
use Rattle.sqlite.specs.Effect.{Database}
use Rattle.sqlite.specs.Listing.{IsSourceOf, reads_listing, understood}
use Rattle.sqlite.specs.Clock.{timed}
use Rattle.sqlite.specs.Outline.{Outline}
use Rattle.sqlite.specs.Steps.{Outlines}
use Rattle.sqlite.specs.State.{State, HasCause, HasCleanDisk, IsUnchanged, IsNotRun, Shown, ShowsRows, Survives, CommitsShowing, store_error}
use Rattle.sqlite.specs.declared.error.Error.{Error}
use Rattle.sqlite.specs.declared.error.Error.TheVariants.{SqliteFailure}
use Rattle.sqlite.specs.declared.error.ErrorCode.TheVariants as code
use Rattle.sqlite_trees.specs.Tree.{Trees}
use Rattle.sqlite_resolve.specs.declared.error.CompileError.{CompileError}
use Rattle.ob_base.specs.Stop.{out_of_memory}
use Rattle.ob_base.specs.declared.stop.Stop.{Stop}
use Rattle.sqlite_trees.specs.declared.error.StoreError.{StoreError}
use Rattle.sqlite_trees.specs.declared.error.StoreError.TheVariants.{OutOfMemory, Io, Corrupt, Full, Broken, Unstorable}
use Rattle.sqlite_resolve.specs.declared.compiled.Compiled.{Compiled}
use Rattle.sqlite.proofs.Callers.{IsPlain, command_of, reads_as, unchanged_then}
use Rattle.sqlite.specs.Command.{Command as SqlCommand}
use Rattle.sqlite.specs.Schema.{Schema}
use Rattle.ob_sql_rows.specs.Steps.{IsStoreFault}
use Rattle.ob_sql_read.specs.Listing.{Listing, IsListingOver, Lists, Means, ShowsNoWrite, list_command}
use Rattle.ob_sql_read.specs.Faults.{IsReadFault, bad_book}
use Rattle.ob_sql_read.specs.Reading.{HasNoMeaning, HasTrouble, IsInputError}
use Rattle.ob_sql_read.proofs.Listing.{quiet, still_then}

-- no failure of a store is one of the text
of_store : (cause : StoreError) → IsInputError (store_error cause) → ⊥
of_store OutOfMemory h = h
of_store Io h = h
of_store Corrupt h = h
of_store Full h = h
of_store Broken h = h
of_store Unstorable h = h

-- a text that wasn't understood means nothing, and nothing was run
pub not_understood : (old new : State) (sql : List ℕ) (params : Row) (e : Error) → IsInputError e → IsNotRun old new sql params e → HasNoMeaning old.now.schema sql × IsUnchanged old new
unfolding IsNotRun
not_understood old new sql params e input (inl (inl none, same)) = (λ c known. absurd (let e = sym none.1 ∙ known in cc), same)
not_understood old new sql params e input (inl (inr (c, known, inl more), same)) = absurd (subst IsInputError more.1 input)
not_understood old new sql params e input (inl (inr (c, known, inr (inl more)), same)) = absurd (subst IsInputError more.1 input)
not_understood old new sql params e input (inl (inr (c, known, inr (inr more)), same)) = absurd (subst IsInputError more.1 input)
not_understood old new sql params e input (inr fails) = absurd (of_store fails.0 (subst IsInputError fails.1 input))

-- a text without meaning isn't prepared
trouble : (cause : StoreError) (old new : State) (e : Error) (stop : Stop) → e ≡ store_error cause → (e ≡ SqliteFailure code.OutOfMemory → stop ≡ out_of_memory) → HasCause old new ⊥ cause → HasTrouble old new stop
trouble OutOfMemory old new e stop is memory cause = inl (memory is)
trouble Io old new e stop is memory cause = inr (inl cause)
trouble Corrupt old new e stop is memory cause = inr (inl cause)
trouble Full old new e stop is memory cause = inr (inl cause)
trouble Broken old new e stop is memory cause = inr (inr cause)
trouble Unstorable old new e stop is memory cause = absurd cause

pub missed : (old new : State) (sql : List ℕ) (params : Row) (e : Error) (stop : Stop) → (IsInputError e → stop ≡ bad_book) → (e ≡ SqliteFailure code.OutOfMemory → stop ≡ out_of_memory) → HasNoMeaning old.now.schema sql → IsNotRun old new sql params e
    → (stop ≡ bad_book) ⊎ HasTrouble old new stop
unfolding IsNotRun
missed old new sql params e stop bad memory none (inl (inl h, same)) = inl (bad (subst IsInputError (sym h.2) tt))
missed old new sql params e stop bad memory none (inl (inr h, same)) = absurd (none h.0 h.1)
missed old new sql params e stop bad memory none (inr fails) = inr (trouble fails.0 old new e stop fails.1 memory fails.2)

pub no_outline : (it : Result Compiled CompileError) (s : Outline) → ((c : Compiled) → it ≢ Ok c) → Outlines it s → ⊥
no_outline (Ok c) s none h = none c refl
no_outline (Err e) s none h = h

-- what can't end on a clean disk commits nothing
pub never_clean : (old mid new : State) (P : Trees → Type 0) → Survives old mid (λ _. ⊥) → Survives mid new P → (HasCleanDisk new → ⊥) → Survives old new (λ _. ⊥)
never_clean old mid new P first s never = still_then old mid new first (record {
  clean = s.clean;
  shield = s.shield;
  counts = s.counts;
  limit = s.limit;
  closes = s.closes;
  crash = λ clean db may. absurd (never clean);
})

-- a plain query changes nothing
pub shown_unchanged : (sql : List ℕ) (params : Row) (old new : State) (rows : List Row) → IsPlain (understood old.now.schema sql) → Shown sql params old new rows → IsUnchanged old new
unfolding Shown
shown_unchanged sql params old new rows plain h =
    let none = (subst IsPlain h.1.is plain).0 in
    let it = subst (ShowsRows old new sql h.0 (timed params h.0.formats h.1.now) rows) none h.2 in
    it.3

-- what a query of a text that was prepared shows, it shows from the start
pub shown_before : (old mid new : State) (sql text : List ℕ) (rows : List Row) → ShowsNoWrite sql → (text ≡ sql) × IsUnchanged old mid → Shown text [] mid new rows → Shown sql [] old new rows
unfolding Shown
shown_before old mid new sql text rows silent ready shown =
    let h = subst (λ t. Shown t [] mid new rows) ready.0 shown in
    let none = silent mid.now.schema h.0 h.1.is in
    let full = timed [] h.0.formats h.1.now in
    let it = subst (ShowsRows mid new sql h.0 full rows) none h.2 in
    let now = ready.1.0.now_is in (
      h.0,
      record { is = subst (λ (d : Database). understood d.schema sql ≡ Ok h.0) now h.1.is; whole = h.1.whole; given = h.1.given; now = h.1.now },
      subst (ShowsRows old new sql h.0 full rows) (sym none)
          (it.0, subst (λ (d : Database). IsSourceOf (reads_listing d.schema sql) d it.0) now it.1, it.2, unchanged_then old mid new ready.1 it.3),
    )

module _ {at : Schema} (l : Listing) (means : IsListingOver at l) (old mid new : State) (text : List ℕ) (prepared : HasCleanDisk mid → (text ≡ l.text) × IsUnchanged old mid) where
  -- a whole listing commits nothing
  pub listing_quiet : Survives old mid (λ _. ⊥) → Survives mid new (CommitsShowing text [] mid) → Survives old new (λ _. ⊥)
  listing_quiet first s = still_then old mid new first (quiet l means old mid new text prepared s)

means_command : (it : Result Compiled CompileError) (command : SqlCommand) → Means it command → command_of it ≡ command
means_command (Ok c) command h = h
means_command (Err e) command h = absurd h

module _ {at : Schema} (l : Listing) (means : IsListingOver at l) where
  -- and changes nothing
  pub listing_whole : (old mid new : State) (text : List ℕ) (prepared : HasCleanDisk mid → (text ≡ l.text) × IsUnchanged old mid) → old.now.schema ≡ at → HasCleanDisk mid → (rows : List Row) → Shown text [] mid new rows
      → Lists l old.now rows × IsUnchanged old new
  listing_whole old mid new text prepared has clean rows h =
      let it = prepared clean in
      let there : mid.now.schema ≡ at = ap (λ (d : Database). d.schema) it.1.0.now_is ∙ has in
      let shown = subst (λ x. Shown x [] mid new rows) it.0 h in
      let plain : IsPlain (understood mid.now.schema l.text) = subst (λ x. IsPlain (understood x l.text)) (sym there) means.plain in
      let command : command_of (understood at l.text) ≡ list_command l = means_command (understood at l.text) (list_command l) means.means in (
        subst (λ (d : Database). Lists l d rows) it.1.0.now_is (reads_as l.text [] mid new at there (list_command l) command means.plain means.unlisted rows shown),
        unchanged_then old mid new it.1 (shown_unchanged l.text [] mid new rows plain shown),
      )

  -- where a listing's text isn't understood, the tables are others
  pub foreign_tables : (old : State) (sql : List ℕ) → l.text ≡ sql → HasNoMeaning old.now.schema sql → old.now.schema ≢ at
  foreign_tables old sql text none has = go (understood at l.text) refl means.plain
    where
      go : (it : _) → understood at l.text ≡ it → IsPlain it → ⊥
      go (Ok c) known plain = none c (ap (λ s. understood s sql) has ∙ ap (understood at) (sym text) ∙ known)
      go (Err e) known plain = plain

-- a failure of the store doesn't say that the tables are those of no book
pub faults_alone : {X : Type 0} (r : Result X Stop) (P : Type 0) → IfErr r IsStoreFault → IfErr r (λ stop. stop ≡ bad_book → P)
faults_alone (Ok x) P h = tt
faults_alone (Err stop) P (inl memory) = λ bad. absurd (let e = sym memory ∙ bad in cc)
faults_alone (Err stop) P (inr fault) = λ bad. absurd (let e = sym fault ∙ bad in cc)

-- and it is why a reading stops
pub faults_read : {X : Type 0} (r : Result X Stop) → IfErr r IsStoreFault → IfErr r IsReadFault
faults_read (Ok x) h = h
faults_read (Err stop) h = inl h
