-- What a commit, a failed commit and a rollback make of the tables that a store keeps.
use Rattle.std.proofs.Common.{◌≡◌, inl, inr, sym, ap, subst, ◌∙◌, arith, IsTrue, true, true≢false}
use Rattle.std.specs.Prelude.{false, Result, Ok, Err, OnOk, IfOk}
use Rattle.sqlite.specs.Tree.{Trees}
use Rattle.sqlite.specs.Effect.{Database}
use Rattle.sqlite.specs.declared.error.Error.{Error}
use Rattle.sqlite_trees.specs.declared.error.StoreError.{StoreError}
use Rattle.sqlite_trees.specs.declared.error.StoreError.TheVariants.{OutOfMemory, Io, Corrupt, Full, Broken, Unstorable}
use Rattle.sqlite_trees.specs.declared.store.Store.{Ghosts}
use Rattle.sqlite_catalog.specs.Listing.{IsSound}
use Rattle.sqlite.specs.State.{State, HasCause, HasCleanDisk, IsLive, Survives, Shows, IsRolledBack, IsUnchanged}
use Rattle.sqlite.specs.Held.{Held, state}
use Rattle.sqlite.specs.Steps.{FailsToCommit}
use Rattle.sqlite.proofs.StateLemmas.{survives_then}
use Rattle.sqlite.proofs.Callers.{survives_begin}
use Rattle.ob_sql_rows.specs.Schema.{book_schema}
use Rattle.std.proofs.lemmas.Bool.{cases_Bool}
use Rattle.ob_sql_rows.specs.Rows.{Tables, Holds}
use Rattle.ob_sql_rows.specs.Rules.{AreNumbered}
use Rattle.ob_sql_rows.specs.Steps.{HasFailed, LetsIn, Silent, Makes}
use Rattle.ob_sql_rows.proofs.Failing.{failed_after, failed_before}
use Rattle.ob_sql_rows.specs.Versions.{HoldsIn}
use Rattle.ob_sql_rows.specs.declared.version.Version.{Version}
use Rattle.ob_sql_rows.specs.declared.version.Version.TheVariants.{One, Two}
use Rattle.ob_sql_write.specs.Keeps.{HasCommitCause, Leaves, IsSettledIn, Keeps, KeepsIn, KeepsEitherIn, KeepsNumbers, LeavesChangedIn, MakesOf}
use Rattle.ob_sql_write.specs.Upgrade.{LetsUpgradeIn}

pub silent_begin : {S : Type 0} (g : Ghosts S) (h : Held S) (new : State) → Silent (state g (record h { in_transaction = true })) new → Silent (state g h) new
silent_begin g h new s = record {
  survives = survives_begin g h new (λ _. ⊥) s.survives;
  kept = λ clean. let k = s.kept clean in record { was_open = k.was_open; committed = k.committed };
}

-- a commit that fails leaves what was committed before the transaction
undone_by : (last new : State) (committed : Database) (e : Error) → IsTrue last.in_transaction → (IsTrue last.is_open → last.committed ≡ committed) → FailsToCommit last new e → IsTrue new.is_open
    → (new.now ≡ committed) × (new.committed ≡ committed)
undone_by last new committed e inside kept (inl fails) live =
    let back = fails.3 in
    let was = kept (back.was_open live) in
    ((back.undone live).0 ∙ was, (back.undone live).1 ∙ was)
undone_by last new committed e inside kept (inr outside) live = absurd (true≢false (sym inside ∙ outside.1))

module _ {version : Version} where
  -- what is seen is what was committed
  pub settled_as : (old new : State) (t : Tables) → IsSettledIn version old t → (new.now ≡ old.committed) × (new.committed ≡ old.committed) → IsSettledIn version new t
  settled_as old new t was back = record {
    schema = ap (λ (d : Database). d.schema) (back.0 ∙ was.committed) ∙ was.schema;
    committed = back.1 ∙ sym back.0;
    holds = subst (λ (d : Database). HoldsIn version d.trees t) (sym (back.0 ∙ was.committed)) was.holds;
  }

  -- a transaction that was rolled back
  pub undone : (old mid new : State) (t : Tables) → Silent old mid → (HasCleanDisk new → IsRolledBack mid new) → Survives mid new (λ _. ⊥) → KeepsIn version old t → KeepsIn version new t
  undone old mid new t quiet back drops keeps =
      let all = survives_then old mid new _ _ (λ _. ⊥) (λ _ db none. none) (λ _ db none. none) quiet.survives drops in
      record {
        settled = λ clean live.
            let late : HasCleanDisk mid = omega (arith, drops.clean, clean) in
            let first : HasCleanDisk old = omega (arith, all.clean, clean) in
            let it = back clean in
            let open_mid = it.was_open live in
            let k = quiet.kept late in
            settled_as old new t (keeps.settled first (k.was_open open_mid)) ((it.undone live).0 ∙ k.committed open_mid, (it.undone live).1 ∙ k.committed open_mid);
        left = λ clean trees may.
            let first : HasCleanDisk old = omega (arith, all.clean, clean) in
            elim (all.crash clean trees may) [ inl before ↦ keeps.left first trees before | inr none ↦ absurd none ];
      }

  -- a call that changed nothing
  pub unchanged : (old new : State) (t : Tables) → (HasCleanDisk new → IsUnchanged old new) → Survives old new (λ _. ⊥) → KeepsIn version old t → KeepsIn version new t
  unchanged old new t same survives keeps = record {
    settled = λ clean live.
        let it = (same clean).0 in
        let first : HasCleanDisk old = omega (arith, survives.clean, clean) in
        let was = keeps.settled first it.was_open in
        record {
          schema = ap (λ (d : Database). d.schema) it.now_is ∙ was.schema;
          committed = it.committed_is ∙ was.committed ∙ sym it.now_is;
          holds = subst (λ (d : Database). HoldsIn version d.trees t) (sym it.now_is) was.holds;
        };
    left = λ clean trees may.
        let first : HasCleanDisk old = omega (arith, survives.clean, clean) in
        elim (survives.crash clean trees may) [ inl before ↦ keeps.left first trees before | inr none ↦ absurd none ];
  }

-- a change of the tables is one of those of the version that is written
pub of_two : {old new : State} {needs : Tables → Type 0} {change : Tables → Tables} → Makes old new needs change → MakesOf Two old new needs change
of_two it = record { live = it.live; stays = it.stays; inside = it.inside; schema = it.schema; sound = it.sound; holds = it.holds; numbered = it.numbered }

module _ {version : Version} (old last end : State) (t : Tables) (needs : Tables → Type 0) (change : Tables → Tables) (live : IsLive old) (keeps : KeepsIn version old t) (needed : needs t) (quiet : Silent old last)
    (makes : HasCleanDisk last → MakesOf version (record old { in_transaction = true }) last needs change) (ends : Survives last end (λ db. db ≡ last.now.trees)) where
  all : Survives old end (λ db. db ≡ last.now.trees)
  all = survives_then old last end _ _ (λ db. db ≡ last.now.trees) (λ _ db none. absurd none) (λ clean db is. is) quiet.survives ends

  made : HasCleanDisk end → (last.now.schema ≡ book_schema) × Holds last.now.trees (change t) × IsSound book_schema last.now.trees
  made clean =
      let late : HasCleanDisk last = omega (arith, ends.clean, clean) in
      let first : HasCleanDisk old = omega (arith, all.clean, clean) in
      let it = makes late in
      let was = keeps.settled first it.live in
      let has = it.schema was.schema in
      (has, it.holds was.schema t was.holds needed, subst (λ s. IsSound s last.now.trees) has (it.sound was.schema (live it.live).0))

  leaves : HasCleanDisk end → (trees : Trees) → trees ≡ last.now.trees → Leaves (change t) trees
  leaves clean trees is =
      let m = made clean in record { sound = subst (IsSound book_schema) (sym is) m.2; holds = subst (λ x. Holds x (change t)) (sym is) m.1 }

  pub committed : (HasCleanDisk end → Shows last end last.now last.now false) → (IsTrue end.is_open → (trees : Trees) → end.may_leave trees → trees ≡ end.committed.trees) → Keeps end (change t)
  committed shows law = record {
    settled = λ clean live.
        let it = shows clean in
        let m = made clean in
        record {
          schema = ap (λ (d : Database). d.schema) it.now_is ∙ m.0;
          committed = it.committed_is ∙ sym it.now_is;
          holds = subst (λ (d : Database). Holds d.trees (change t)) (sym it.now_is) m.1;
        };
    left = λ clean trees may. let it = shows clean in leaves clean trees (law it.is_open trees may ∙ ap (λ (d : Database). d.trees) it.committed_is);
  }

  pub failed : (e : Error) → (HasCleanDisk end → FailsToCommit last end e) → KeepsEitherIn version end t (change t)
  failed e fails = record {
    settled = λ clean live.
        let late : HasCleanDisk last = omega (arith, ends.clean, clean) in
        let first : HasCleanDisk old = omega (arith, all.clean, clean) in
        let it = makes late in
        settled_as old end t (keeps.settled first it.live) (undone_by last end old.committed e it.inside (λ open_last. (quiet.kept late).committed open_last) (fails clean) live);
    left = λ clean trees may.
        let first : HasCleanDisk old = omega (arith, all.clean, clean) in
        elim (all.crash clean trees may) [ inl before ↦ inl (keeps.left first trees before) | inr after ↦ inr (leaves clean trees after) ];
  }

-- ---- the hidden row numbers
-- a call that commits nothing keeps them
pub numbers_survive : (old new : State) → Survives old new (λ _. ⊥) → KeepsNumbers old → KeepsNumbers new
numbers_survive old new survives numbers clean trees may =
    let first : HasCleanDisk old = omega (arith, survives.clean, clean) in
    elim (survives.crash clean trees may) [ inl before ↦ numbers first trees before | inr none ↦ absurd none ]

-- what an open store keeps is what a crash may leave
pub numbers_shown : {version : Version} (s : State) (t : Tables) → KeepsIn version s t → KeepsNumbers s → (IsTrue s.is_open → s.may_leave s.committed.trees) → HasCleanDisk s → IsTrue s.is_open → AreNumbered s.now.trees
numbers_shown s t keeps numbers stays clean live = subst (λ (d : Database). AreNumbered d.trees) (keeps.settled clean live).committed (numbers clean s.committed.trees (stays live))

-- a commit leaves what was left before, or what the transaction showed
pub numbered_commit : {version : Version} (old last end : State) (t : Tables) → KeepsIn version old t → KeepsNumbers old → (IsTrue old.is_open → old.may_leave old.committed.trees) → Silent old last
    → (needs : Tables → Type 0) (change : Tables → Tables) → needs t → (HasCleanDisk last → MakesOf version (record old { in_transaction = true }) last needs change) → Survives last end (λ db. db ≡ last.now.trees) → KeepsNumbers end
numbered_commit old last end t keeps numbers stays quiet needs change needed makes ends clean trees may =
    let late : HasCleanDisk last = omega (arith, ends.clean, clean) in
    let first : HasCleanDisk old = omega (arith, quiet.survives.clean, late) in
    let it = makes late in
    let was = keeps.settled first it.live in
    elim (ends.crash clean trees may) [
      | inl before ↦ numbers_survive old last quiet.survives numbers late trees before
      | inr is ↦ subst AreNumbered (sym is) (it.numbered was.schema t was.holds needed (numbers_shown old t keeps numbers stays first it.live))
    ]

-- ---- why a commit fails
-- the disk has failed or refused, or memory was refused and all is undone
commit_cause : {S : Type 0} (g : Ghosts S) (old : State) (last : Held S) (end : State) (t : Tables) (cause : StoreError) → Silent old (state g last) → HasCleanDisk (state g last) → Survives (state g last) end (λ db. db ≡ (state g last).now.trees)
    → Holds (state g last).now.trees t → HasCause (state g last) end ⊥ cause → IsRolledBack (state g last) end → HasCommitCause g old end t
commit_cause g old last end t OutOfMemory quiet late ends holds has back = inr (last, holds, back)
commit_cause g old last end t Io quiet late ends holds has back = inl (failed_after old (state g last) end _ _ quiet.survives late ends (inl has))
commit_cause g old last end t Corrupt quiet late ends holds has back = inl (failed_after old (state g last) end _ _ quiet.survives late ends (inl has))
commit_cause g old last end t Full quiet late ends holds has back = inl (failed_after old (state g last) end _ _ quiet.survives late ends (inl has))
commit_cause g old last end t Broken quiet late ends holds has back = inl (failed_after old (state g last) end _ _ quiet.survives late ends (inr (inl has)))
commit_cause g old last end t Unstorable quiet late ends holds has back = absurd has

pub fails_to_commit : {S : Type 0} (g : Ghosts S) (old : State) (last : Held S) (end : State) (t : Tables) (e : Error) → Silent old (state g last) → HasCleanDisk (state g last) → Survives (state g last) end (λ db. db ≡ (state g last).now.trees)
    → Holds (state g last).now.trees t → IsTrue (state g last).in_transaction → FailsToCommit (state g last) end e → HasCommitCause g old end t
fails_to_commit g old last end t e quiet late ends holds inside (inl fails) = commit_cause g old last end t fails.0 quiet late ends holds fails.2 fails.3
fails_to_commit g old last end t e quiet late ends holds inside (inr outside) = absurd (true≢false (sym inside ∙ outside.1))

pub failed_cause : {version : Version} {S : Type 0} (g : Ghosts S) (old : State) (last : Held S) (end : State) (t : Tables) (needs : Tables → Type 0) (change : Tables → Tables) → KeepsIn version old t → needs t → Silent old (state g last)
    → (HasCleanDisk (state g last) → MakesOf version (record old { in_transaction = true }) (state g last) needs change) → Survives (state g last) end (λ db. db ≡ (state g last).now.trees)
    → (e : Error) → HasCleanDisk end → FailsToCommit (state g last) end e → HasCommitCause g old end (change t)
failed_cause g old last end t needs change keeps needed quiet makes ends e clean fails =
    let late : HasCleanDisk (state g last) = omega (arith, ends.clean, clean) in
    let first : HasCleanDisk old = omega (arith, quiet.survives.clean, late) in
    let it = makes late in
    let was = keeps.settled first it.live in
    fails_to_commit g old last end (change t) e quiet late ends (it.holds was.schema t was.holds needed) it.inside fails

-- a step failed, and the transaction is dropped
pub dropped_cause : (old last end : State) (P : Trees → Type 0) (t : Tables) (needs lets : Tables → Type 0) → HasCleanDisk old → IsLive old → Keeps old t → KeepsNumbers old → (IsTrue old.is_open → old.may_leave old.committed.trees) → needs t → lets t
    → (LetsIn (record old { in_transaction = true }) needs lets → HasFailed (record old { in_transaction = true }) last) → Survives last end P → HasFailed old end
dropped_cause old last end P t needs lets first whole keeps numbers stays needed allowed told drops = elim (cases_Bool old.is_open) [
  | inl live ↦
      let was = keeps.settled first live in
      failed_before old last end P (told (record { schema = was.schema; sound = (whole live).0; numbered = numbers_shown old t keeps numbers stays first live; tables = t; holds = was.holds; needed = needed; allowed = allowed })) drops
  | inr shut ↦ inr (inl shut)
]

pub dropped_upgrade : (old last end : State) (P : Trees → Type 0) (t : Tables) (needs lets : Tables → Type 0) → HasCleanDisk old → IsLive old → KeepsIn One old t → KeepsNumbers old → (IsTrue old.is_open → old.may_leave old.committed.trees) → needs t → lets t
    → (LetsUpgradeIn (record old { in_transaction = true }) needs lets → HasFailed (record old { in_transaction = true }) last) → Survives last end P → HasFailed old end
dropped_upgrade old last end P t needs lets first whole keeps numbers stays needed allowed told drops = elim (cases_Bool old.is_open) [
  | inl live ↦
      let was = keeps.settled first live in
      failed_before old last end P (told (record { schema = was.schema; sound = (whole live).0; numbered = numbers_shown old t keeps numbers stays first live; tables = t; holds = was.holds; needed = needed; allowed = allowed })) drops
  | inr shut ↦ inr (inl shut)
]

-- a crash leaves what it left before, or the tables with the change
pub survives_commit : {version : Version} (old last end : State) (needs : Tables → Type 0) (change : Tables → Tables) → IsLive old → Silent old last
    → (HasCleanDisk last → MakesOf version (record old { in_transaction = true }) last needs change) → Survives last end (λ db. db ≡ last.now.trees) → Survives old end (LeavesChangedIn version old needs change)
survives_commit old last end needs change live quiet makes ends =
    survives_then old last end _ _ (LeavesChangedIn _ old needs change) (λ _ db none. absurd none) (λ clean db is t keeps needed. leaves old last end t needs change live keeps needed quiet makes ends clean db is) quiet.survives ends

-- a transaction that was dropped leaves what it left before
pub survives_drop : (old last end : State) (Commits : Trees → Type 0) → Silent old last → Survives last end (λ _. ⊥) → Survives old end Commits
survives_drop old last end Commits quiet drops =
    survives_then old last end _ _ Commits (λ _ db none. absurd none) (λ _ db none. absurd none) quiet.survives drops

-- what a crash leaves is the first, so it is the first or the second
pub first_of_either : {version : Version} (s : State) (t u : Tables) → KeepsIn version s t → KeepsEitherIn version s t u
first_of_either s t u keeps = record { settled = keeps.settled; left = λ clean trees may. inl (keeps.left clean trees may) }

pub both_ok : {X E : Type 0} (r : Result X E) {P : Type 0} {Q R : X → Type 0} → OnOk r P → IfOk r Q → ((x : X) → P → Q x → R x) → IfOk r R
both_ok (Ok x) p q f = f x p q
both_ok (Err e) p q f = q
