-- What a transaction over the tables of a book leaves of the store, committed or not.
use Rattle.std.proofs.Common.{◌≡◌, ◌⊎◌, ◌∙◌, ◌+◌, ℕ, List, [], length, Option, Some, Ok, Err, IsTrue, true, false, inl, inr, refl, sym, ap, subst, arith}
use Rattle.std.specs.Prelude.{IfSome, IsSome}
use Rattle.sqlite_trees.specs.declared.store.Store.{Ghosts}
use Rattle.sqlite.specs.Held.{Held, state}
use Rattle.sqlite.specs.State.{State, HasCleanDisk, IsLive, IsRolledBack, Shows, Survives}
use Rattle.sqlite.specs.Steps.{FailsToCommit}
use Rattle.sqlite.specs.Tree.{Trees}
use Rattle.sqlite.specs.declared.error.Error.{Error}
use Rattle.ob_base.specs.declared.stop.Stop.{Stop}
use Rattle.ob_base.specs.declared.stop.Stop.TheVariants.{Refused, Fault}
use Rattle.ob_base.specs.declared.stop.Fault.{Fault as AFault}
use Rattle.ob_base.specs.declared.stop.Fault.TheVariants.{OutOfMemory, Store, Reopen, Input, Output}
use Rattle.ob_state.specs.State.{BookState}
use Rattle.ob_book.specs.Acts.{ActState}
use Rattle.ob_book.specs.Searches.{Bound}
use Rattle.sqlite_catalog.specs.Listing.{IsSound}
use Rattle.ob_sql_rows.specs.Rows.{Holds}
use Rattle.ob_sql_rows.specs.Schema.{book_schema}
use Rattle.ob_sql_rows.specs.Steps.{HasFailed, Makes, Silent}
use Rattle.ob_sql_write.specs.Keeps.{KeepsNumbers, Leaves, WasUndone}
use Rattle.ob_sql_write.proofs.Commits.{committed, failed, failed_cause, numbered_commit, numbers_shown, of_two, undone}
use Rattle.ob_record.specs.Tables.{tables_of}
use Rattle.ob_store.specs.Acting.{IsActStop}
use Rattle.ob_store.specs.Keeping.{KeeperValue, KeepsBook, Ties}
use Rattle.ob_store.specs.Lines.{CommitsList}
use Rattle.ob_store.specs.Whole.{ActedAll, ActsAll, CommitsOf, EndsAt, Halts, IsWhole, KeepsFirstOrLast, LeadTo, LeavesLast, LedBy, Line, ShowsBook, after_lines}

-- the transaction that has begun
abbrev pub begun : State → State
begun s = record s { in_transaction = true }

-- a transaction that begins over a store that keeps a book shows its tables
pub shows_begun : (old : State) (b : ActState) → HasCleanDisk old → KeepsBook old b → ShowsBook (begun old) b
shows_begun old b clean keeps = record {
  inside = refl;
  schema = λ live. (keeps.kept.settled clean live).schema;
  holds = λ live. (keeps.kept.settled clean live).holds;
  reached = keeps.reached;
  valid = keeps.valid;
}

pub whole_begun : (old : State) (b : ActState) → HasCleanDisk old → IsLive old → (IsTrue old.is_open → old.may_leave old.committed.trees) → KeepsBook old b → KeepsNumbers old → IsWhole (begun old)
whole_begun old b clean whole stays keeps numbers = record {
  sound = λ live. (whole live).0;
  numbered = λ live. numbers_shown old (tables_of b) keeps.kept numbers stays clean live;
}

-- nothing was done
pub survives_same : (s : State) (P : Trees → Type 0) → Survives s s P
survives_same s P = record { clean = omega arith; shield = λ x. x; counts = omega arith; limit = refl; closes = λ clean live. inl live; crash = λ clean db may. inl may }

pub acts_none : {S : Type 0} (g : Ghosts S) (conn : Held S) (is : BookState) (b : ActState) (list : List Line) → list ≡ [] → KeepsBook (state g conn) b → is ≡ b.book → ActsAll g conn is b list (Ok 0)
acts_none g conn is b list none keeps same = (b, ap (after_lines b 0) none, (let e : length b.accepted + 0 ≡ length b.accepted = omega arith in e), keeps, same)

-- memory was refused before there was a line
starved_end : (s : State) (b : ActState) (list : List Line) (place : ℕ) (fault : AFault) → fault ≡ OutOfMemory → KeepsBook s b → EndsAt s b list place (Fault fault)
starved_end s b list place OutOfMemory memory keeps = keeps
starved_end s b list place Store memory keeps = inl keeps
starved_end s b list place Reopen memory keeps = absurd (let e : ◌≡◌ {A = AFault} Reopen OutOfMemory = memory in cc)
starved_end s b list place Input memory keeps = absurd (let e : ◌≡◌ {A = AFault} Input OutOfMemory = memory in cc)
starved_end s b list place Output memory keeps = absurd (let e : ◌≡◌ {A = AFault} Output OutOfMemory = memory in cc)

pub not_store : (fault : AFault) → fault ≡ OutOfMemory → Fault fault ≡ Fault Store → ⊥
not_store fault memory store = let e : ◌≡◌ {A = Stop} (Fault OutOfMemory) (Fault Store) = sym (ap (λ f. Fault f) memory) ∙ store in cc

pub starved_none : {S : Type 0} (g : Ghosts S) (bound : Bound) (conn : Held S) (is : BookState) (n : ℕ) (list : List Line) (fault : AFault) → fault ≡ OutOfMemory
    → CommitsList g bound conn conn is is n n list (Err (record { place = 0; stop = Fault fault }))
starved_none g bound conn is n list fault memory = record {
  few = tt;
  within = omega arith;
  acts = λ clean b keeps same. starved_end (state g conn) b list 0 fault memory keeps;
  cause = λ clean b keeps numbers same store. absurd (not_store fault memory store);
  survives = survives_same (state g conn) (LeavesLast (state g conn) is list);
  searched = λ clean b keeps same. tt;
}

-- ---- the transaction was dropped
-- the store keeps what it kept
pub kept_dropped : (old last end : State) (b : ActState) → Silent old last → (HasCleanDisk end → IsRolledBack last end) → Survives last end (λ _. ⊥) → KeepsBook old b → KeepsBook end b
kept_dropped old last end b quiet back drops keeps =
    record { kept = undone old last end (tables_of b) quiet back drops keeps.kept; reached = keeps.reached; valid = keeps.valid }

pub ends_at : (s : State) (b : ActState) (list : List Line) (place : ℕ) (stop : Stop) → KeepsBook s b → IsActStop stop → Halts b list place stop → EndsAt s b list place stop
ends_at s b list place (Refused refused) keeps act halts = (halts, keeps)
ends_at s b list place (Fault OutOfMemory) keeps act halts = keeps
ends_at s b list place (Fault Store) keeps act halts = inl keeps
ends_at s b list place (Fault Reopen) keeps act halts = absurd act
ends_at s b list place (Fault Input) keeps act halts = absurd act
ends_at s b list place (Fault Output) keeps act halts = absurd act

-- ---- the list was written whole, and the transaction was to be committed
-- the tables of the one book were made those of the other
pub made : (old last : State) (is : BookState) (b : ActState) (list : List Line) (added : ℕ) (it : LedBy (begun old) last is b list added) → IsTrue old.is_open
    → Makes (begun old) last (λ t. t ≡ tables_of b) (λ t. tables_of it.book)
made old last is b list added it live = it.leads live

module _ (old last end : State) (is : BookState) (b : ActState) (list : List Line) (added : ℕ) (it : LedBy (begun old) last is b list added) (live : IsTrue old.is_open) (whole : IsLive old) (keeps : KeepsBook old b)
    (quiet : Silent old last) (ends : Survives last end (λ db. db ≡ last.now.trees)) where
  -- what a crash then leaves is the first book or the last
  pub left_last : HasCleanDisk end → (trees : Trees) → trees ≡ last.now.trees → Leaves (tables_of it.book) trees
  left_last clean trees is =
      let late : HasCleanDisk last = omega (arith, ends.clean, clean) in
      let first : HasCleanDisk old = omega (arith, quiet.survives.clean, late) in
      let m = made old last _ b list added it live in
      let was = keeps.kept.settled first live in
      let has = m.schema was.schema in
      record {
        sound = subst (IsSound book_schema) (sym is) (subst (λ s. IsSound s last.now.trees) has (m.sound was.schema (whole live).0));
        holds = subst (λ x. Holds x (tables_of it.book)) (sym is) (m.holds was.schema (tables_of b) was.holds refl);
      }

  pub kept_last : (HasCleanDisk end → Shows last end last.now last.now false) → (IsTrue end.is_open → (trees : Trees) → end.may_leave trees → trees ≡ end.committed.trees) → KeepsBook end it.book
  kept_last shows law = record {
    kept = committed old last end (tables_of b) (λ t. t ≡ tables_of b) (λ t. tables_of it.book) whole keeps.kept refl quiet (λ late. of_two (made old last _ b list added it live)) ends shows law;
    reached = it.reached;
    valid = it.valid;
  }

  pub kept_either : (e : Error) → (HasCleanDisk end → FailsToCommit last end e) → KeepsFirstOrLast end b list
  kept_either e fails = inr (
    it.book,
    it.lead,
    record {
      kept = failed old last end (tables_of b) (λ t. t ≡ tables_of b) (λ t. tables_of it.book) whole keeps.kept refl quiet (λ late. of_two (made old last _ b list added it live)) ends e fails;
      reached = keeps.reached;
      other_reached = it.reached;
      valid = keeps.valid;
      other_valid = it.valid;
    },
  )

  pub numbers_last : KeepsNumbers old → (IsTrue old.is_open → old.may_leave old.committed.trees) → KeepsNumbers end
  numbers_last numbers stays =
      numbered_commit old last end (tables_of b) keeps.kept numbers stays quiet (λ t. t ≡ tables_of b) (λ t. tables_of it.book) refl (λ late. of_two (made old last _ b list added it live)) ends

-- why the commit fails
pub commit_cause : {S : Type 0} (g : Ghosts S) (old : State) (last : Held S) (end : State) (is : BookState) (b : ActState) (list : List Line) (added : ℕ) (it : LedBy (begun old) (state g last) is b list added) → IsTrue old.is_open
    → KeepsBook old b → Silent old (state g last) → Survives (state g last) end (λ db. db ≡ (state g last).now.trees) → (e : Error) → HasCleanDisk end → FailsToCommit (state g last) end e
    → HasFailed old end ⊎ ((c : ActState) × LeadTo list b c × WasUndone g end (tables_of c))
commit_cause g old last end is b list added it live keeps quiet ends e clean fails =
    elim (failed_cause g old last end (tables_of b) (λ t. t ≡ tables_of b) (λ t. tables_of it.book) keeps.kept refl quiet (λ late. of_two (made old (state g last) is b list added it live)) ends e clean fails) [
      | inl broke ↦ inl broke
      | inr back ↦ inr (it.book, it.lead, back)
    ]

-- ---- a keeper
pub acted_ok : {S : Type 0} (g : Ghosts S) (conn : Held S) (is : BookState) (n : ℕ) (b : ActState) (list : List Line) (added : ℕ) → ActsAll g conn is b list (Ok added)
    → ActedAll g (record { conn = conn; book = Some is; searches = n }) b list (Ok added)
acted_ok g conn is n b list added it = (it.0, it.1, it.2, record { kept = it.3; book = it.4 }, refl)

-- a crash leaves what the transaction may leave
pub commits_of : {S : Type 0} (g : Ghosts S) (k : KeeperValue S) (old new : Held S) (book : Option BookState) (n : ℕ) (was : BookState) (list : List Line) → old ≡ k.conn → k.book ≡ Some was
    → Survives (state g old) (state g new) (LeavesLast (state g old) was list) → CommitsOf g (LeadTo list) k (record { conn = new; book = book; searches = n })
commits_of g k old new book n was list conn_is book_is it =
    subst (λ h. Survives (state g h) (state g new) (λ trees. (b : ActState) → Ties g k b → IsSome k.book → (c : ActState) × LeadTo list b c × Leaves (tables_of c) trees)) conn_is
    (record {
      clean = it.clean;
      shield = it.shield;
      counts = it.counts;
      limit = it.limit;
      closes = it.closes;
      crash = λ clean db may. elim (it.crash clean db may) [
        | inl before ↦ inl before
        | inr leads ↦ inr (λ b ties some. leads b (subst (λ h. KeepsBook (state g h) b) (sym conn_is) ties.kept) (subst (λ o. IfSome o (λ s. s ≡ b.book)) book_is ties.book))
      ];
    })
