-- What stands once a command under a new reference was decided on, and once its rows were committed or not.
use Rattle.std.proofs.Common.{◌≡◌, ◌⊎◌, inl, inr, ◌+◌, List, [], ◌∷◌, ◌++◌, length, Some, None, Ok, Err, true, refl, sym, ap, subst}
use Rattle.std.specs.Prelude.{⊤}
use Rattle.std.specs.List.{AllByRecursion}
use Rattle.std.specs.List.Sorted.{IsPermutation}
use Rattle.std.proofs.lemmas.List.Sorted.{IsPermutation-trans}
use Rattle.sqlite_trees.specs.declared.store.Store.{Ghosts}
use Rattle.sqlite.specs.Tree.{Trees}
use Rattle.sqlite.specs.Held.{Held, state}
use Rattle.sqlite.specs.State.{State}
use Rattle.ob_base.specs.Stop.{out_of_memory}
use Rattle.ob_base.specs.declared.stop.Stop.{Stop}
use Rattle.ob_base.specs.declared.stop.Stop.TheVariants.{Refused, Fault}
use Rattle.ob_base.specs.declared.stop.Refusal.{Refusal}
use Rattle.ob_base.specs.declared.stop.Fault.{Fault as AFault}
use Rattle.ob_base.specs.declared.stop.Fault.TheVariants.{OutOfMemory, Store}
use Rattle.ob_post.specs.Postings.{PostedAmounts}
use Rattle.ob_state.specs.State.{BookState}
use Rattle.ob_state.specs.Refusals.{refusal}
use Rattle.ob_state.specs.Next.{next}
use Rattle.ob_state.specs.Amounts.{moves}
use Rattle.ob_book.specs.Acts.{ActState, Referenced, act, answer, is_accepted, number_of, take_on}
use Rattle.ob_sql_rows.specs.Rows.{Tables, Holds}
use Rattle.ob_sql_rows.specs.Steps.{HasFailed, IsStoreFault}
use Rattle.ob_sql_rows.specs.declared.table.Table.{Table}
use Rattle.ob_sql_write.specs.declared.act.Act.{Act}
use Rattle.ob_sql_write.specs.Acts.{LetsAct, NeedsRows, with_act}
use Rattle.ob_sql_write.specs.Keeps.{HasCommitCause, Keeps, KeepsEither, KeepsNumbers, IsSettled, Leaves, WasUndone}
use Rattle.ob_record.specs.Leading.{Records}
use Rattle.ob_record.specs.Naming.{IsReferenced}
use Rattle.ob_record.specs.Reached.{AcceptedIsReached}
use Rattle.ob_record.specs.Tables.{tables_of}
use Rattle.ob_store.specs.Keeping.{KeepsBook, KeepsEitherBook}
use Rattle.ob_store.specs.Acting.{Acts, HasActCause}

module _ (t u : Tables) (same : (table : Table) → IsPermutation (t table) (u table)) where
  pub holds_as : (trees : Trees) → Holds trees t → Holds trees u
  holds_as trees holds = record {
    rows = λ table. IsPermutation-trans _ (t table) (u table) (holds.rows table) (same table);
    apart = holds.apart;
  }

  pub leaves_as : (trees : Trees) → Leaves t trees → Leaves u trees
  leaves_as trees leaves = record { sound = leaves.sound; holds = holds_as trees leaves.holds }

  settled_as : (s : State) → IsSettled s t → IsSettled s u
  settled_as s it = record { schema = it.schema; committed = it.committed; holds = holds_as s.now.trees it.holds }

  -- a store keeps the same rows in any order
  pub keeps_as : (s : State) → Keeps s t → Keeps s u
  keeps_as s keeps = record {
    settled = λ clean live. settled_as s (keeps.settled clean live);
    left = λ clean trees may. leaves_as trees (keeps.left clean trees may);
  }

  pub either_as : (s : State) (first : Tables) → KeepsEither s first t → KeepsEither s first u
  either_as s first keeps = record {
    settled = keeps.settled;
    left = λ clean trees may. elim (keeps.left clean trees may) [ inl was ↦ inl was | inr is ↦ inr (leaves_as trees is) ];
  }

-- a command was refused, or memory was, before anything was written
pub decided : {S : Type 0} (g : Ghosts S) (conn : Held S) (was is : BookState) (b : ActState) (a : Referenced) → is ≡ was → KeepsBook (state g conn) b → number_of b a.reference ≡ None → (stop : Stop)
    → ((r : Refusal) → stop ≡ Refused r → refusal b.book a.command ≡ Some r) → ((f : AFault) → stop ≡ Fault f → f ≡ OutOfMemory) → Acts g conn was is b a (Err stop)
decided g conn was is b a same keeps fresh (Refused r) refused fault = let e = refused r refl in (rw (fresh, e), keeps, same)
decided g conn was is b a same keeps fresh (Fault f) refused fault = subst (λ x. Acts g conn was is b a (Err (Fault x))) (sym (fault f refl)) (keeps, same)

-- before anything was written no fault of the store is told
pub none_told : {P : Type 0} (stop : Stop) → ((f : AFault) → stop ≡ Fault f → f ≡ OutOfMemory) → stop ≡ Fault Store → P
none_told stop fault is = absurd (let e = fault Store is in cc)

-- one more reference and command of their types
pub valid_more : (list : List Referenced) (a : Referenced) → AllByRecursion IsReferenced list → IsReferenced a → AllByRecursion IsReferenced (list ++ a ∷ [])
valid_more [] a valid named = (named, tt)
valid_more (x ∷ list) a valid named = (valid.0, valid_more list a valid.1 named)

module _ {S : Type 0} (g : Ghosts S) (old new : Held S) (b : ActState) (a : Referenced) (p : PostedAmounts) (written : Act) (law : AcceptedIsReached) (keeps : KeepsBook (state g old) b)
    (records : Records b a p written) (fresh : number_of b a.reference ≡ None) (free : refusal b.book a.command ≡ None) (named : IsReferenced a) where
  accepted : is_accepted b a ≡ true
  accepted = rw (fresh, free)

  taken : take_on b a ≡ act b a
  taken = rw accepted

  pub done : ((t : Tables) → Keeps (state g old) t → NeedsRows p written t → Keeps (state g new) (with_act p written t)) → KeepsBook (state g new) (act b a)
  done commits = subst (KeepsBook (state g new)) taken
      (record {
        kept = keeps_as (with_act p written (tables_of b)) (tables_of (take_on b a)) records.tables (state g new) (commits (tables_of b) keeps.kept records.needs);
        reached = law b a keeps.reached accepted;
        valid = valid_more b.accepted a keeps.valid named;
      })

  either : ((t : Tables) → Keeps (state g old) t → NeedsRows p written t → KeepsEither (state g new) t (with_act p written t)) → KeepsEitherBook (state g new) b (act b a)
  either commits = subst (KeepsEitherBook (state g new) b) taken
      (record {
        kept = either_as (with_act p written (tables_of b)) (tables_of (take_on b a)) records.tables (state g new) (tables_of b) (commits (tables_of b) keeps.kept records.needs);
        reached = keeps.reached;
        other_reached = law b a keeps.reached accepted;
        valid = keeps.valid;
        other_valid = valid_more b.accepted a keeps.valid named;
      })

  pub answered : b.book.accepted ≡ length b.accepted → answer b a ≡ Ok (record { number = b.book.accepted + 1; moved = moves b.book (next b.book a.command) })
  answered counts = rw (fresh, free, counts) refl

  pub book_is : next b.book a.command ≡ (act b a).book
  book_is = ap (λ s. s.book) taken

  -- the rows that were undone are those of the tables with the command
  undone_as : HasCommitCause g (state g old) (state g new) (with_act p written (tables_of b))
      → HasFailed (state g old) (state g new) ⊎ ((is_accepted b a ≡ true) × WasUndone g (state g new) (tables_of (act b a)))
  undone_as (inl failed) = inl failed
  undone_as (inr it) =
      let trees = (state g it.0).now.trees in
      let holds : Holds trees (tables_of (take_on b a)) = holds_as (with_act p written (tables_of b)) (tables_of (take_on b a)) records.tables trees it.1 in
      inr (accepted, (it.0, subst (λ (s : ActState). Holds trees (tables_of s)) taken holds, it.2))

  -- the commit, or a statement before it, failed only with a cause
  pub caused : (stop : Stop) → KeepsNumbers (state g old) → (stop ≡ Fault Store → (t : Tables) → Keeps (state g old) t → KeepsNumbers (state g old) → NeedsRows p written t → LetsAct written t
      → HasCommitCause g (state g old) (state g new) (with_act p written t)) → HasActCause g {X = ⊤} old new b a (Err stop)
  caused stop numbers told = λ store. undone_as (told store (tables_of b) keeps.kept numbers records.needs (records.lets fresh named))

  -- a commit failed, or a statement before it
  pub failed : (was is : BookState) → is ≡ was → (stop : Stop) → IsStoreFault stop → (stop ≡ out_of_memory → (t : Tables) → Keeps (state g old) t → Keeps (state g new) t)
      → ((t : Tables) → Keeps (state g old) t → NeedsRows p written t → KeepsEither (state g new) t (with_act p written t)) → Acts g new was is b a (Err stop)
  failed was is same stop (inl memory) undone commits =
      subst (λ s. Acts g new was is b a (Err s)) (sym memory) (record { kept = undone memory (tables_of b) keeps.kept; reached = keeps.reached; valid = keeps.valid }, same)
  failed was is same stop (inr store) undone commits = subst (λ s. Acts g new was is b a (Err s)) (sym store) (either commits)
