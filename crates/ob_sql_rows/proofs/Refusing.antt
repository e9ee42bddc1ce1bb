-- Why a statement that writes fails: the store failed, or its query may take so many steps only, or a rule of the tables refuses it.
use Rattle.std.proofs.Common.{◌≡◌, ◌≢◌, ◌⊎◌, inl, inr, ℕ, zero, suc, ◌≤◌, ℤ, List, [], ◌∷◌, length, length-append, append-nil, filter, drop, slice_get, Bool, true, false, Option, Some, None, Result, Ok, Err, IsSome, refl, sym, ap, subst, subst₂, ◌∙◌, arith, true≢false}
use Rattle.std.specs.Prelude.{MatchBool, if◌then◌else◌, fold, not, ◌&&◌, ◌||◌, is_some}
use Rattle.std.specs.List.{list_all}
use Rattle.std.specs.Ordering.{is_lt, int_cmp}
use Rattle.sqlite_trees.specs.Tree.{Trees, with_tree}
use Rattle.sqlite_trees.specs.View.{is_int, IsStorable, IsStorableRow}
use Rattle.sqlite_trees.specs.declared.error.StoreError.{StoreError}
use Rattle.sqlite_trees.specs.declared.error.StoreError.TheVariants.{OutOfMemory, Io, Corrupt, Full, Broken, Unstorable}
use Rattle.sqlite_sql.specs.Ops.{fits_i64}
use Rattle.sqlite_sql.specs.Catalog.{entry_of}
use Rattle.sqlite_sql.specs.Program.{ProgramOverflows}
use Rattle.sqlite_schema.specs.declared.schema.Constraint.TheVariants.{Datatype, NotNull, Check, PrimaryKey, Unique, ForeignKey}
use Rattle.sqlite_schema.specs.declared.schema.Keys.TheVariants.{Enforced}
use Rattle.sqlite_schema.specs.declared.schema.Among.TheVariants.{All}
use Rattle.sqlite_schema.specs.declared.program.Program.{Program}
use Rattle.sqlite_schema.specs.Rules.{passes, Keeps, Refers, references_fit, table_reals, index_reals}
use Rattle.sqlite_resolve.specs.declared.compiled.Compiled.{Compiled}
use Rattle.sqlite_resolve.specs.declared.error.CompileError.{CompileError}
use Rattle.sqlite_rules.specs.declared.error.Refusal.{Refusal}
use Rattle.sqlite_rules.specs.declared.error.Refusal.TheVariants.{Violates, Mismatch, NoRowid, BadReference, TooDeep}
use Rattle.sqlite_rules.specs.Lists.{Has}
use Rattle.sqlite_rules.specs.Edit.{Edit, id_in, with_rowid, edit_of, put_all, are_fresh, left_by, taken_by, is_referred, IsRefused, IsOversized, Applies}
use Rattle.sqlite_rules.specs.Action.{works, Leads, Writes}
use Rattle.sqlite_rules.specs.Calls.{ids_of}
use Rattle.sqlite_rules.specs.Cast.{cast_row}
use Rattle.sqlite.specs.Schema.{Schema}
use Rattle.sqlite.specs.Table as sql
use Rattle.sqlite.specs.Order.{Row}
use Rattle.sqlite.specs.Tree.{rowid, without_rowid}
use Rattle.sqlite.specs.declared.types.Value.TheVariants.{Null}
use Rattle.sqlite.specs.Term.{Term, eval_all, holds}
use Rattle.sqlite.specs.Source.TheVariants.{Values}
use Rattle.sqlite.specs.Command.{Command}
use Rattle.sqlite.specs.Command.TheVariants.{Select, Insert, Update, Delete, Rows}
use Rattle.sqlite.specs.Rowids.TheVariants.{Chosen, Given}
use Rattle.sqlite.specs.Program.{given_at}
use Rattle.sqlite.specs.Clock.{timed}
use Rattle.sqlite.specs.Calls.{IsWrite}
use Rattle.sqlite.specs.Effect.{Database, is_query, IsSource}
use Rattle.sqlite.specs.Listing.{understood}
use Rattle.sqlite.specs.Rows.{Outcome, Gives, Queried, Sourced, Edited, Written, Task, stamped, rowids_for, count_of, higher, sequence, Counter, CounterIn, Counts, CountsIn, Inserts, Updates, Deletes}
use Rattle.sqlite.specs.Does.{Does, OnRows, Concludes, AtPlace}
use Rattle.sqlite.specs.State.{State, mode_of, HasCause, Fails, store_error, IsNotRun, IsStatement, IsMisplaced, RunsCommand, RunsAlone, ExecutesIn, EndsScope, Escapes, is_pragma, shows_rows, text_of}
use Rattle.sqlite.specs.declared.error.Error.{Error}
use Rattle.sqlite.specs.declared.error.Error.TheVariants.{SqliteFailure}
use Rattle.sqlite.specs.declared.error.ErrorCode.TheVariants as code
use Rattle.sqlite.proofs.Callers.{statement_of, one_step}
use Rattle.ob_sql_rows.specs.Steps.{Failed, HasFailed}
use Rattle.ob_sql_rows.proofs.Failing.{IsUntyped}
use Rattle.ob_sql_rows.proofs.Queries.{whole}
use Rattle.ob_sql_rows.proofs.Answers.{one_answer}
use Rattle.ob_sql_rows.proofs.Entering.{IsLetIn, Enters}
use Rattle.ob_sql_rows.proofs.Statements.{went, same_value, settled, chosen_for}

-- ---- the text of a statement

-- the text is one statement, with as many parameters, and is this command
pub record IsWritten (schema : Schema) (text : List ℕ) (params : Row) (command : Command) (c : Compiled) : Type 0 where
  pub whole : length text ≤ c.tail
  pub given : length params ≡ length c.names
  pub timeless : c.formats ≡ []
  pub plain : c.returning ≡ None
  pub is : c.command ≡ command

abbrev pub IsWrittenAs : Schema → List ℕ → Row → Command → Result Compiled CompileError → Type 0
IsWrittenAs schema text params command (Ok c) = IsWritten schema text params command c
IsWrittenAs schema text params command (Err e) = ⊥

no_query : (command : Command) → IsWrite command → is_query command ≡ false
no_query (Select q names) w = absurd w
no_query _ w = refl

no_pragma : (command : Command) → IsWrite command → is_pragma command ≡ false
no_pragma (Rows values width names) w = absurd w
no_pragma _ w = refl

silent_command : (c : Compiled) → IsWrite c.command → c.returning ≡ None → shows_rows false c ≡ false
silent_command c w plain =
    ap (λ b. b || (not false && (is_pragma c.command || is_some c.returning))) (no_query c.command w)
    ∙ ap (λ b. not false && (b || is_some c.returning)) (no_pragma c.command w) ∙ ap is_some plain

-- a write ends no transaction, and has no place where it may not stand
no_escape : (s : State) (command : Command) → IsWrite command → ¬ Escapes 0 s command
no_escape s command w (inl (inl commits)) = subst IsWrite commits w
no_escape s command w (inl (inr rolls)) = subst IsWrite rolls w
no_escape s command w (inr (name, inl releases, held)) = subst IsWrite releases w
no_escape s command w (inr (name, inr goes, held)) = subst IsWrite goes w

not_misplaced : (s : State) (command : Command) (e : Error) → IsWrite command → ¬ IsMisplaced s command e
not_misplaced s command e w (inl (is, inl (begins, inside))) = subst IsWrite begins w
not_misplaced s command e w (inl (is, inr (inl commits, outside))) = subst IsWrite commits w
not_misplaced s command e w (inl (is, inr (inr rolls, outside))) = subst IsWrite rolls w
not_misplaced s command e w (inr (is, name, inl releases, unnamed)) = subst IsWrite releases w
not_misplaced s command e w (inr (is, name, inr goes, unnamed)) = subst IsWrite goes w

-- a step of the store fails for want of memory, for a cause of its own, or at a row that can't be stored
by_cause : (old new : State) (P : Type 0) (cause : StoreError) → HasCause old new P cause → (store_error cause ≡ SqliteFailure code.OutOfMemory) ⊎ (HasFailed old new ⊎ P)
by_cause old new P OutOfMemory h = inl refl
by_cause old new P Io h = inr (inl (inl h))
by_cause old new P Corrupt h = inr (inl (inl h))
by_cause old new P Full h = inr (inl (inl h))
by_cause old new P Broken h = inr (inl (inr (inl h)))
by_cause old new P Unstorable h = inr (inr h)

failed_or : (old new : State) (P : Type 0) (e : Error) → e ≢ SqliteFailure code.OutOfMemory → Fails old new P e → HasFailed old new ⊎ P
failed_or old new P e other fails = elim (by_cause old new P fails.0 fails.2) [
  | inl memory ↦ absurd (other (fails.1 ∙ memory))
  | inr rest ↦ rest
]

module _ (schema : Schema) (text : List ℕ) (params : Row) (command : Command) (writes : IsWrite command) (written : IsWrittenAs schema text params command (understood schema text))
    (old new : State) (has : old.now.schema ≡ schema) where
  -- a part of the statement stops it
  abbrev pub IsStopped : Type 0
  IsStopped = (stop : Option Error) × Does old.step_limit (mode_of old) params old.now (statement_of text (understood schema text)) None command (Err stop)

  known : understood schema text ≡ understood old.now.schema text
  known = ap (λ s. understood s text) (sym has)

  as_written : (c : Compiled) → understood old.now.schema text ≡ Ok c → IsWritten schema text params command c
  as_written c is = subst (IsWrittenAs schema text params command) (known ∙ is) written

  write_not_run : (e : Error) → IsNotRun old new text params e → e ≢ SqliteFailure code.OutOfMemory → HasFailed old new
  unfolding IsNotRun
  write_not_run e (inl (inl none, same)) other = absurd (subst (IsWrittenAs schema text params command) (known ∙ none.1) written)
  write_not_run e (inl (inr (c, is, inl (more, error)), same)) other = absurd (more (as_written c is).whole)
  write_not_run e (inl (inr (c, is, inr (inl (differ, error))), same)) other = absurd (differ (as_written c is).given)
  write_not_run e (inl (inr (c, is, inr (inr (clock, error))), same)) other = absurd (clock (as_written c is).timeless)
  write_not_run e (inr fails) other = elim (failed_or old new ⊥ e other fails) [ inl failed ↦ failed | inr none ↦ absurd none ]

  stopped_as : (c : Compiled) → understood old.now.schema text ≡ Ok c → (time : ℕ) (stop : Option Error)
      → Does old.step_limit (mode_of old) (timed params c.formats time) old.now (text_of text c) c.returning c.command (Err stop) → IsStopped
  stopped_as c is time stop does =
      let w = as_written c is in
      let full : timed params c.formats time ≡ params = ap (λ f. timed params f time) w.timeless ∙ append-nil params in
      let bare = subst (λ p. Does old.step_limit (mode_of old) p old.now (text_of text c) c.returning c.command (Err stop)) full does in
      let plain = subst₂ (λ r k. Does old.step_limit (mode_of old) params old.now (text_of text c) r k (Err stop)) w.plain w.is bare in
      let same : text_of text c ≡ statement_of text (understood schema text) = ap (statement_of text) (sym (known ∙ is)) in
      (stop, subst (λ t. Does old.step_limit (mode_of old) params old.now t None command (Err stop)) same plain)

  run_stopped : (e : Error) (c : Compiled) (it : IsStatement old text params c) → e ≢ SqliteFailure code.OutOfMemory
      → RunsCommand old new text c (timed params c.formats it.now) (Err e) → HasFailed old new ⊎ IsStopped
  run_stopped e c it other (inl (inl misplaced, same)) = absurd (not_misplaced old c.command e (subst IsWrite (sym (as_written c it.is).is) writes) misplaced)
  run_stopped e c it other (inl (inr (may, does), same)) = inr (stopped_as c it.is it.now (Some e) does)
  run_stopped e c it other (inr fails) =
      elim (failed_or old new (Does old.step_limit (mode_of old) (timed params c.formats it.now) old.now (text_of text c) c.returning c.command (Err None)) e other fails) [
        | inl failed ↦ inl failed
        | inr does ↦ inr (stopped_as c it.is it.now None does)
      ]

  alone_stopped : (e : Error) (c : Compiled) (it : IsStatement old text params c) → e ≢ SqliteFailure code.OutOfMemory
      → RunsAlone false old new text c (timed params c.formats it.now) (Err e) → HasFailed old new ⊎ IsStopped
  alone_stopped e c it other h =
      let w = as_written c it.is in
      let silent : shows_rows false c ≡ false = silent_command c (subst IsWrite (sym w.is) writes) w.plain in
      run_stopped e c it other (rw silent at h)

  -- a statement that writes fails where the store does, or where a part of it stops
  pub fails_as : Failed text params old new → HasFailed old new ⊎ IsStopped
  unfolding ExecutesIn EndsScope
  fails_as (e, other, inl (inl idle, left)) = inl (write_not_run e idle other)
  fails_as (e, other, inl (inr (c, it, h), left)) = alone_stopped e c it other h
  fails_as (e, other, inr (ends, is, same)) = absurd (no_escape old ends.0.command (subst IsWrite (sym (as_written ends.0 ends.1.is).is) writes) ends.2)

-- ---- an edit that the rules let in

never : {A E : Type 0} {a : A} {e : E} → ¬ (◌≡◌ {A = Result A E} (Err e) (Ok a))
never h = absurd cc

-- where no foreign key acts, it isn't refused
pub stands : (schema : Schema) (db : Trees) (edit : Edit) (stop : Option Error) → works schema Enforced 0 edit.table.tree (taken_by db edit) edit.news ≡ [] → IsLetIn schema db edit
    → ¬ Edited schema Enforced db edit (Err stop)
stands schema db edit stop none lets it = refused it.0 it.1
  where
    settles : (why : Option Refusal) (next : Trees) (n : ℕ) → Leads schema Enforced n next [] (Err why) → ⊥
    settles why next zero h = never h.1
    settles why next (suc n) h = absurd (omega (arith, ap length h.2, length-append h.0 (h.1 ∷ [])))

    refused : (why : Option Refusal) → Writes schema Enforced db edit (Err why) → ⊥
    refused why (inl broken) = lets.refused broken.0 broken.1
    refused why (inr (inl big)) = lets.sized big.0 big.1 big.2
    refused why (inr (inr goes)) = settles why goes.0 goes.2.0 (rw none at goes.2.1)

-- a row that passes the rules can be stored
pub not_oversized : (schema : Schema) (db : Trees) (table : sql.Table) (left : List Row) (row it : Row) → Enters schema db table left row → it ≡ row → ¬ IsOversized schema table it
not_oversized schema db table left row it enters same (inl big) = big (subst (IsStorableRow (table_reals table)) (sym same) enters.storable)
not_oversized schema db table left row it enters same (inr (i, listed, here, big)) =
    big (subst (λ r. IsStorable (index_reals (table_reals table) i.columns) (entry_of i.columns r)) (sym same) (enters.entries i listed here))

-- the one row that it puts in passes the rules
pub entered : (schema : Schema) (db : Trees) (edit : Edit) (row : Row) → Enters schema db edit.table (left_by db edit) row → edit.news ≡ row ∷ [] → is_referred schema Enforced edit ≡ true
    → ((next : Trees) → Applies schema Enforced db edit next → Refers All schema next) → IsLetIn schema db edit
entered schema db edit row enters one referred parents = record {
  refused = refusal;
  sized = λ it listed. not_oversized schema db edit.table (left_by db edit) row it enters (is_row it (subst (λ l. Has l it) one listed));
  parents = parents;
}
  where
    one_passes : (p : Row → Bool) → p row ≡ true → list_all p edit.news ≡ false → ⊥
    one_passes p here h = let all : list_all p (row ∷ []) ≡ true = ap (λ b. b && true) here in true≢false (sym all ∙ ap (list_all p) (sym one) ∙ h)

    refusal : (why : Refusal) → ¬ IsRefused schema Enforced db edit why
    refusal (Violates Datatype) h = one_passes (passes Datatype schema db edit.table) enters.typed h
    refusal (Violates NotNull) h = one_passes (passes NotNull schema db edit.table) enters.present h
    refusal (Violates Check) h = one_passes (passes Check schema db edit.table) enters.checked h
    refusal (Violates PrimaryKey) h =
        let fresh : are_fresh (left_by db edit) (row ∷ []) ≡ true = ap (λ b. not b && true) enters.free in
        true≢false (sym fresh ∙ ap (are_fresh (left_by db edit)) (sym one) ∙ h)
    refusal (Violates Unique) h = h (subst (λ l. Keeps Unique schema (with_tree db edit.table.tree (put_all (left_by db edit) l))) (sym one) enters.unique)
    refusal (Violates ForeignKey) h = h
    refusal Mismatch h = one_passes (λ r. is_int (rowid r)) enters.keyed h
    refusal NoRowid h = one_passes (λ r. fits_i64 (id_in (rowid r))) enters.fits h
    refusal BadReference h = true≢false (sym referred ∙ h)
    refusal TooDeep h = h

    is_row : (it : Row) → Has (row ∷ []) it → it ≡ row
    is_row it (inl same) = same
    is_row it (inr none) = absurd none

-- it takes rows out only
pub cleared : (schema : Schema) (db : Trees) (edit : Edit) → edit.news ≡ [] → Keeps Unique schema (with_tree db edit.table.tree (left_by db edit)) → is_referred schema Enforced edit ≡ true
    → ((next : Trees) → Applies schema Enforced db edit next → Refers All schema next) → IsLetIn schema db edit
cleared schema db edit none unique referred parents = record {
  refused = refusal;
  sized = λ it listed. absurd (subst (λ l. Has l it) none listed);
  parents = parents;
}
  where
    none_passes : (p : Row → Bool) → list_all p edit.news ≡ false → ⊥
    none_passes p h = true≢false (ap (list_all p) (sym none) ∙ h)

    refusal : (why : Refusal) → ¬ IsRefused schema Enforced db edit why
    refusal (Violates Datatype) h = none_passes (passes Datatype schema db edit.table) h
    refusal (Violates NotNull) h = none_passes (passes NotNull schema db edit.table) h
    refusal (Violates Check) h = none_passes (passes Check schema db edit.table) h
    refusal (Violates PrimaryKey) h = true≢false (ap (are_fresh (left_by db edit)) (sym none) ∙ h)
    refusal (Violates Unique) h = h (subst (λ l. Keeps Unique schema (with_tree db edit.table.tree (put_all (left_by db edit) l))) (sym none) unique)
    refusal (Violates ForeignKey) h = h
    refusal Mismatch h = none_passes (λ r. is_int (rowid r)) h
    refusal NoRowid h = none_passes (λ r. fits_i64 (id_in (rowid r))) h
    refusal BadReference h = true≢false (sym referred ∙ h)
    refusal TooDeep h = h

-- ---- the parts before it and behind it

source_refused : (limit : Option ℕ) (db : Database) (params : Row) (terms : List Term) (width : ℕ) (rows : List Row) → IsSource db params (Values terms width) rows → (stop : Option Error)
    → Sourced limit db params (Values terms width) (Err stop) → IsSome limit
source_refused limit db params terms width rows sourced None h = absurd h
source_refused limit db params terms width rows sourced (Some e) (inl (error, untyped)) = absurd (true≢false (sym sourced.0 ∙ untyped))
source_refused limit db params terms width rows sourced (Some e) (inr (error, limited)) = limited

no_sum : (db : Trees) (tests shows : List Term) (tree : ℕ) (params : Row) → ¬ ProgramOverflows db params [] [] (whole tests shows tree)
no_sum db tests shows tree params over = elim over [ inl none ↦ none | inr some ↦ some.4 ]

abbrev pub program_of : List Term → List Term → ℕ → Program
program_of tests shows tree = record { lets = []; body = whole tests shows tree }

query_refused : (limit : Option ℕ) (db : Database) (tests shows : List Term) (tree : ℕ) (params : Row) → ¬ IsUntyped db.schema (program_of tests shows tree) params → (stop : Option Error)
    → Queried limit db (program_of tests shows tree) params (Err stop) → IsSome limit
query_refused limit db tests shows tree params typed None h = absurd h
query_refused limit db tests shows tree params typed (Some e) (inl (error, untyped)) = absurd (typed untyped)
query_refused limit db tests shows tree params typed (Some e) (inr (inl (error, over))) = absurd (no_sum db.trees tests shows tree params over)
query_refused limit db tests shows tree params typed (Some e) (inr (inr (error, limited))) = limited

no_counter : (task : Task) (db : Trees) (stop : Option Error) → task.table.is_counted ≡ false → ¬ Counter task db (Err stop)
no_counter task db stop uncounted h =
    never (subst (λ b. MatchBool b (CounterIn task db (sequence task.schema) (Err stop)) (◌≡◌ {A = Outcome (Option Row)} (Err stop) (Ok None))) uncounted h)

no_count : (task : Task) (mid : Trees) (counter : Option Row) (top : ℤ) (stop : Option Error) → task.table.is_counted ≡ false → ¬ Counts task mid counter top (Err stop)
no_count task mid counter top stop uncounted h =
    never (subst (λ b. MatchBool (if b then is_lt (int_cmp (count_of counter) top) else false) (CountsIn task mid counter top (sequence task.schema) (Err stop)) (Gives mid (Err stop))) uncounted h)

-- the rows of an INSERT are read from no database
abbrev pub no_rows : Database
no_rows = record { schema = record { tables = []; indexes = []; views = [] }; trees = λ _. [] }

-- ---- the statements

abbrev pub insert_all_edit : Trees → sql.Table → List Row → Edit
insert_all_edit db table sources = edit_of db table [] Chosen 0 sources

abbrev pub insert_edit : Trees → sql.Table → List Term → Row → Edit
insert_edit db table terms params = insert_all_edit db table (eval_all terms (params ∷ []) ∷ [])

abbrev pub update_edit : Trees → sql.Table → List Term → Row → Row → Edit
update_edit db table shows params row = edit_of db table (ids_of (eval_all shows (params ∷ row ∷ []) ∷ [])) Given 1 (eval_all shows (params ∷ row ∷ []) ∷ [])

abbrev pub delete_edit : Trees → sql.Table → List Term → Row → Row → Edit
delete_edit db table shows params row = edit_of db table (ids_of (eval_all shows (params ∷ row ∷ []) ∷ [])) Given 0 []

abbrev pub insert_row : Trees → sql.Table → List Term → Row → Row
insert_row db table terms params = with_rowid Chosen (db table.tree) (cast_row table (eval_all terms (params ∷ [])))

abbrev pub update_row : sql.Table → List Term → Row → Row → Row
update_row table shows params row = cast_row table (drop 1 (eval_all shows (params ∷ row ∷ [])))

abbrev pub update_left : Trees → sql.Table → List Term → Row → Row → List Row
update_left db table shows params row = without_rowid (id_in (rowid (eval_all shows (params ∷ row ∷ [])))) (db table.tree)

module _ (old : State) (table : sql.Table) (params : Row) where
  abbrev the_task : Task
  the_task = record { limit = old.step_limit; keys = Enforced; schema = old.now.schema; table = table; params = params }

  abbrev base : Database
  base = record { schema = old.now.schema; trees = old.now.trees }

  -- once the foreign keys hold, nothing stops it
  not_concluded : (w : Written) (stop : Option Error) → Refers All old.now.schema w.trees → ¬ Concludes the_task (mode_of old) None w (Err stop)
  not_concluded w stop refers (inl (why, broken, same)) = broken.0 refers
  not_concluded w stop refers (inr (doubt, tested, inl (why, returned, same))) = never returned
  not_concluded w stop refers (inr (doubt, tested, inr (rows, returned, gives))) = never gives

  module _ (terms : List Term) (width : ℕ) (sources : List Row) (uncounted : table.is_counted ≡ false) (timeless : stamped table params ≡ params)
      (sourced : IsSource base params (Values terms width) sources)
      (idle : works old.now.schema Enforced 0 table.tree [] (insert_all_edit old.now.trees table sources).news ≡ [])
      (lets : IsLetIn old.now.schema old.now.trees (insert_all_edit old.now.trees table sources)) where
    as_put : (rows : List Row) (counter : Option Row) → Sourced old.step_limit base (stamped table params) (Values terms width) (Ok rows)
        → edit_of old.now.trees table [] (rowids_for table (count_of counter)) 0 rows ≡ insert_all_edit old.now.trees table sources
    as_put rows counter given =
        ap (λ how. edit_of old.now.trees table [] how 0 rows) (chosen_for table (count_of counter) uncounted)
        ∙ ap (edit_of old.now.trees table [] Chosen 0) ((subst (λ p. IsSource base p (Values terms width) rows) timeless given).1 ∙ sym sourced.1)

    put_stands : (stop : Option Error) → ¬ Edited old.now.schema Enforced old.now.trees (insert_all_edit old.now.trees table sources) (Err stop)
    put_stands stop = stands old.now.schema old.now.trees (insert_all_edit old.now.trees table sources) stop idle lets

    put_stops : (stop : Option Error) → Inserts the_task (Values terms width) old.now.trees (Err stop) → IsSome old.step_limit
    put_stops stop (inl (why, refused, same)) =
        source_refused old.step_limit base params terms width sources sourced why (subst (λ p. Sourced old.step_limit base p (Values terms width) (Err why)) timeless refused)
    put_stops stop (inr (rows, given, inl (why, counts, same))) = absurd (no_counter the_task old.now.trees why uncounted counts)
    put_stops stop (inr (rows, given, inr (counter, counts, inl (why, edits, same)))) =
        absurd (put_stands why (subst (λ e. Edited old.now.schema Enforced old.now.trees e (Err why)) (as_put rows counter given) edits))
    put_stops stop (inr (rows, given, inr (counter, counts, inr (mid, edits, inl (why, tops, same))))) =
        absurd (no_count the_task mid counter (fold higher (count_of counter) (edit_of old.now.trees table [] (rowids_for table (count_of counter)) 0 rows).news) why uncounted tops)
    put_stops stop (inr (rows, given, inr (counter, counts, inr (mid, edits, inr (next, tops, gives))))) = absurd (never gives)

    put_applies : (w : Written) → Inserts the_task (Values terms width) old.now.trees (Ok w) → Applies old.now.schema Enforced old.now.trees (insert_all_edit old.now.trees table sources) w.trees
    put_applies w h =
        let edit = insert_all_edit old.now.trees table sources in
        let given = went h in
        let counted = went given.2 in
        let written = went counted.2 in
        let last = went written.2 in
        let kept : last.0 ≡ written.0 = settled the_task written.0 last.0 counted.0 (fold higher (count_of counted.0) (edit_of old.now.trees table [] (rowids_for table (count_of counted.0)) 0 given.0).news) uncounted last.1 in
        let trees : w.trees ≡ written.0 = ap (λ (it : Written). it.trees) (same_value last.2) ∙ kept in
        let went_in : Writes old.now.schema Enforced old.now.trees edit (Ok written.0) = subst (λ e. Writes old.now.schema Enforced old.now.trees e (Ok written.0)) (as_put given.0 counted.0 given.1) written.1 in
        subst (Applies old.now.schema Enforced old.now.trees edit) (sym trees) (one_step old.now.schema Enforced old.now.trees written.0 edit idle went_in)

    put_refused : (place : ℕ) (stop : Option Error) → OnRows the_task (mode_of old) None (Insert place (Values terms width)) old.now.trees (Err stop) → IsSome old.step_limit
    put_refused place stop (inl (why, wrote, same)) = put_stops why wrote
    put_refused place stop (inr (w, wrote, ends)) = absurd (not_concluded w stop (lets.parents w.trees (put_applies w wrote)) ends)

  module _ (tests shows : List Term) (plain : given_at [] table.tree ≡ None) (typed : ¬ IsUntyped old.now.schema (program_of tests shows table.tree) params)
      (row : Row) (one : filter (λ r. list_all (holds (params ∷ r ∷ [])) tests) (old.now.trees table.tree) ≡ row ∷ []) where
    is_found : (rows : List Row) → Queried old.step_limit base (program_of tests shows table.tree) params (Ok rows) → rows ≡ eval_all shows (params ∷ row ∷ []) ∷ []
    is_found rows given = one_answer tests shows table.tree old.now.trees params rows row plain (given.answer Null) one

    module _ (idle : (olds : List Row) (it : Row) → works old.now.schema Enforced 0 table.tree olds (it ∷ []) ≡ [])
        (lets : IsLetIn old.now.schema old.now.trees (update_edit old.now.trees table shows params row)) where
      anew_stops : (stop : Option Error) → Updates the_task (program_of tests shows table.tree) params old.now.trees (Err stop) → IsSome old.step_limit
      anew_stops stop (inl (why, refused, same)) = query_refused old.step_limit base tests shows table.tree params typed why refused
      anew_stops stop (inr (rows, given, inl (why, edits, same))) =
          absurd (stands old.now.schema old.now.trees (update_edit old.now.trees table shows params row) why
          (idle (taken_by old.now.trees (update_edit old.now.trees table shows params row)) (update_row table shows params row)) lets
          (subst (λ all. Edited old.now.schema Enforced old.now.trees (edit_of old.now.trees table (ids_of all) Given 1 all) (Err why)) (is_found rows given) edits))
      anew_stops stop (inr (rows, given, inr (next, edits, gives))) = absurd (never gives)

      anew_applies : (w : Written) → Updates the_task (program_of tests shows table.tree) params old.now.trees (Ok w)
          → Applies old.now.schema Enforced old.now.trees (update_edit old.now.trees table shows params row) w.trees
      anew_applies w h =
          let edit = update_edit old.now.trees table shows params row in
          let given = went h in
          let written = went given.2 in
          let trees : w.trees ≡ written.0 = ap (λ (it : Written). it.trees) (same_value written.2) in
          let went_in : Writes old.now.schema Enforced old.now.trees edit (Ok written.0) =
          subst (λ all. Writes old.now.schema Enforced old.now.trees (edit_of old.now.trees table (ids_of all) Given 1 all) (Ok written.0)) (is_found given.0 given.1) written.1 in
          subst (Applies old.now.schema Enforced old.now.trees edit) (sym trees)
          (one_step old.now.schema Enforced old.now.trees written.0 edit (idle (taken_by old.now.trees edit) (update_row table shows params row)) went_in)

      anew_refused : (place : ℕ) (stop : Option Error) → OnRows the_task (mode_of old) None (Update place (program_of tests shows table.tree)) old.now.trees (Err stop) → IsSome old.step_limit
      anew_refused place stop (inl (why, wrote, same)) = anew_stops why wrote
      anew_refused place stop (inr (w, wrote, ends)) = absurd (not_concluded w stop (lets.parents w.trees (anew_applies w wrote)) ends)

    module _ (idle : (olds : List Row) → works old.now.schema Enforced 0 table.tree olds [] ≡ [])
        (lets : IsLetIn old.now.schema old.now.trees (delete_edit old.now.trees table shows params row)) where
      gone_stops : (stop : Option Error) → Deletes the_task (program_of tests shows table.tree) old.now.trees (Err stop) → IsSome old.step_limit
      gone_stops stop (inl (why, refused, same)) = query_refused old.step_limit base tests shows table.tree params typed why refused
      gone_stops stop (inr (rows, given, inl (why, edits, same))) =
          absurd (stands old.now.schema old.now.trees (delete_edit old.now.trees table shows params row) why
          (idle (taken_by old.now.trees (delete_edit old.now.trees table shows params row))) lets
          (subst (λ all. Edited old.now.schema Enforced old.now.trees (edit_of old.now.trees table (ids_of all) Given 0 []) (Err why)) (is_found rows given) edits))
      gone_stops stop (inr (rows, given, inr (next, edits, gives))) = absurd (never gives)

      gone_applies : (w : Written) → Deletes the_task (program_of tests shows table.tree) old.now.trees (Ok w)
          → Applies old.now.schema Enforced old.now.trees (delete_edit old.now.trees table shows params row) w.trees
      gone_applies w h =
          let edit = delete_edit old.now.trees table shows params row in
          let given = went h in
          let written = went given.2 in
          let trees : w.trees ≡ written.0 = ap (λ (it : Written). it.trees) (same_value written.2) in
          let went_in : Writes old.now.schema Enforced old.now.trees edit (Ok written.0) =
          subst (λ all. Writes old.now.schema Enforced old.now.trees (edit_of old.now.trees table (ids_of all) Given 0 []) (Ok written.0)) (is_found given.0 given.1) written.1 in
          subst (Applies old.now.schema Enforced old.now.trees edit) (sym trees)
          (one_step old.now.schema Enforced old.now.trees written.0 edit (idle (taken_by old.now.trees edit)) went_in)

      gone_refused : (place : ℕ) (stop : Option Error) → OnRows the_task (mode_of old) None (Delete place (program_of tests shows table.tree)) old.now.trees (Err stop) → IsSome old.step_limit
      gone_refused place stop (inl (why, wrote, same)) = gone_stops why wrote
      gone_refused place stop (inr (w, wrote, ends)) = absurd (not_concluded w stop (lets.parents w.trees (gone_applies w wrote)) ends)

module _ (schema : Schema) (place : ℕ) (table : sql.Table) (found : slice_get schema.tables place ≡ Some table) where
  on_rows : (command : Command) (params : Row) (old : State) (stop : Option Error) → old.now.schema ≡ schema
      → AtPlace (λ t. OnRows (record { limit = old.step_limit; keys = (mode_of old).keys; schema = old.now.schema; table = t; params = params }) (mode_of old) None command old.now.trees) (slice_get old.now.schema.tables place) (Err stop)
      → OnRows (the_task old table params) (mode_of old) None command old.now.trees (Err stop)
  on_rows command params old stop has h =
      subst (λ o. AtPlace (λ t. OnRows (record { limit = old.step_limit; keys = (mode_of old).keys; schema = old.now.schema; table = t; params = params }) (mode_of old) None command old.now.trees) o (Err stop))
      (ap (λ (s : Schema). slice_get s.tables place) has ∙ found) h

  -- an INSERT of rows that the rules let in
  pub insert_refused : (terms : List Term) (width : ℕ) (sources : List Row) (text : List ℕ) (params : Row) → table.is_counted ≡ false → stamped table params ≡ params → IsSource no_rows params (Values terms width) sources
      → (old : State) → works schema Enforced 0 table.tree [] (insert_all_edit old.now.trees table sources).news ≡ []
      → old.now.schema ≡ schema → IsLetIn schema old.now.trees (insert_all_edit old.now.trees table sources)
      → (stop : Option Error) → Does old.step_limit (mode_of old) params old.now text None (Insert place (Values terms width)) (Err stop) → IsSome old.step_limit
  insert_refused terms width sources text params uncounted timeless sourced old idle has lets stop does =
      put_refused old table params terms width sources uncounted timeless sourced (subst (λ s. works s Enforced 0 table.tree [] (insert_all_edit old.now.trees table sources).news ≡ []) (sym has) idle)
      (subst (λ s. IsLetIn s old.now.trees (insert_all_edit old.now.trees table sources)) (sym has) lets) place stop
      (on_rows (Insert place (Values terms width)) params old stop has does)

  -- an UPDATE of the one row that passes
  pub update_refused : (tests shows : List Term) (text : List ℕ) (params : Row) → given_at [] table.tree ≡ None → ¬ IsUntyped schema (program_of tests shows table.tree) params
      → ((olds : List Row) (it : Row) → works schema Enforced 0 table.tree olds (it ∷ []) ≡ [])
      → (old : State) → old.now.schema ≡ schema → (row : Row) → filter (λ r. list_all (holds (params ∷ r ∷ [])) tests) (old.now.trees table.tree) ≡ row ∷ []
      → IsLetIn schema old.now.trees (update_edit old.now.trees table shows params row)
      → (stop : Option Error) → Does old.step_limit (mode_of old) params old.now text None (Update place (record { lets = []; body = whole tests shows table.tree })) (Err stop) → IsSome old.step_limit
  update_refused tests shows text params plain typed idle old has row one lets stop does =
      anew_refused old table params tests shows plain (subst (λ s. ¬ IsUntyped s (program_of tests shows table.tree) params) (sym has) typed) row one
      (subst (λ s. (olds : List Row) (it : Row) → works s Enforced 0 table.tree olds (it ∷ []) ≡ []) (sym has) idle)
      (subst (λ s. IsLetIn s old.now.trees (update_edit old.now.trees table shows params row)) (sym has) lets) place stop
      (on_rows (Update place (program_of tests shows table.tree)) params old stop has does)

  -- a DELETE of it
  pub delete_refused : (tests shows : List Term) (text : List ℕ) (params : Row) → given_at [] table.tree ≡ None → ¬ IsUntyped schema (program_of tests shows table.tree) params
      → ((olds : List Row) → works schema Enforced 0 table.tree olds [] ≡ [])
      → (old : State) → old.now.schema ≡ schema → (row : Row) → filter (λ r. list_all (holds (params ∷ r ∷ [])) tests) (old.now.trees table.tree) ≡ row ∷ []
      → IsLetIn schema old.now.trees (delete_edit old.now.trees table shows params row)
      → (stop : Option Error) → Does old.step_limit (mode_of old) params old.now text None (Delete place (record { lets = []; body = whole tests shows table.tree })) (Err stop) → IsSome old.step_limit
  delete_refused tests shows text params plain typed idle old has row one lets stop does =
      gone_refused old table params tests shows plain (subst (λ s. ¬ IsUntyped s (program_of tests shows table.tree) params) (sym has) typed) row one
      (subst (λ s. (olds : List Row) → works s Enforced 0 table.tree olds [] ≡ []) (sym has) idle)
      (subst (λ s. IsLetIn s old.now.trees (delete_edit old.now.trees table shows params row)) (sym has) lets) place stop
      (on_rows (Delete place (program_of tests shows table.tree)) params old stop has does)

  -- ---- and so it fails only where the store does, or where its query may take so many steps only
  pub insert_all_lets : (terms : List Term) (width : ℕ) (sources : List Row) (text : List ℕ) (params : Row) → IsWrittenAs schema text params (Insert place (Values terms width)) (understood schema text)
      → table.is_counted ≡ false → stamped table params ≡ params → IsSource no_rows params (Values terms width) sources
      → (old new : State) → works schema Enforced 0 table.tree [] (insert_all_edit old.now.trees table sources).news ≡ []
      → old.now.schema ≡ schema → Failed text params old new → IsLetIn schema old.now.trees (insert_all_edit old.now.trees table sources) → HasFailed old new
  insert_all_lets terms width sources text params written uncounted timeless sourced old new idle has failed lets =
      elim (fails_as schema text params (Insert place (Values terms width)) tt written old new has failed) [
        | inl fault ↦ fault
        | inr stopped ↦ inr (inr (insert_refused terms width sources (statement_of text (understood schema text)) params uncounted timeless sourced old idle has lets stopped.0 stopped.1))
      ]

  pub insert_lets : (terms : List Term) (width : ℕ) (text : List ℕ) (params : Row) → IsWrittenAs schema text params (Insert place (Values terms width)) (understood schema text)
      → table.is_counted ≡ false → stamped table params ≡ params → IsSource no_rows params (Values terms width) (eval_all terms (params ∷ []) ∷ [])
      → ((new : Row) → works schema Enforced 0 table.tree [] (new ∷ []) ≡ []) → references_fit schema table true false ≡ true
      → (old new : State) → old.now.schema ≡ schema → Failed text params old new
      → Enters schema old.now.trees table (old.now.trees table.tree) (insert_row old.now.trees table terms params)
      → ((next : Trees) → Applies schema Enforced old.now.trees (insert_edit old.now.trees table terms params) next → Refers All schema next) → HasFailed old new
  insert_lets terms width text params written uncounted timeless sourced idle fit old new has failed enters parents =
      insert_all_lets terms width (eval_all terms (params ∷ []) ∷ []) text params written uncounted timeless sourced old new (idle (insert_row old.now.trees table terms params)) has failed
      (entered schema old.now.trees (insert_edit old.now.trees table terms params) (insert_row old.now.trees table terms params) enters refl fit parents)

  pub update_lets : (tests shows : List Term) (text : List ℕ) (params : Row) → IsWrittenAs schema text params (Update place (record { lets = []; body = whole tests shows table.tree })) (understood schema text)
      → given_at [] table.tree ≡ None → ¬ IsUntyped schema (program_of tests shows table.tree) params
      → ((olds : List Row) (it : Row) → works schema Enforced 0 table.tree olds (it ∷ []) ≡ []) → references_fit schema table true true ≡ true
      → (old new : State) → old.now.schema ≡ schema → Failed text params old new
      → (row : Row) → filter (λ r. list_all (holds (params ∷ r ∷ [])) tests) (old.now.trees table.tree) ≡ row ∷ []
      → Enters schema old.now.trees table (update_left old.now.trees table shows params row) (update_row table shows params row)
      → ((next : Trees) → Applies schema Enforced old.now.trees (update_edit old.now.trees table shows params row) next → Refers All schema next) → HasFailed old new
  update_lets tests shows text params written plain typed idle fit old new has failed row one enters parents =
      let edit = update_edit old.now.trees table shows params row in
      let lets = entered schema old.now.trees edit (update_row table shows params row) enters refl fit parents in
      elim (fails_as schema text params (Update place (program_of tests shows table.tree)) tt written old new has failed) [
        | inl fault ↦ fault
        | inr stopped ↦ inr (inr (update_refused tests shows (statement_of text (understood schema text)) params plain typed idle old has row one lets stopped.0 stopped.1))
      ]

  pub delete_lets : (tests shows : List Term) (text : List ℕ) (params : Row) → IsWrittenAs schema text params (Delete place (record { lets = []; body = whole tests shows table.tree })) (understood schema text)
      → given_at [] table.tree ≡ None → ¬ IsUntyped schema (program_of tests shows table.tree) params
      → ((olds : List Row) → works schema Enforced 0 table.tree olds [] ≡ []) → references_fit schema table false true ≡ true
      → (old new : State) → old.now.schema ≡ schema → Failed text params old new
      → (row : Row) → filter (λ r. list_all (holds (params ∷ r ∷ [])) tests) (old.now.trees table.tree) ≡ row ∷ []
      → Keeps Unique schema (with_tree old.now.trees table.tree (update_left old.now.trees table shows params row))
      → ((next : Trees) → Applies schema Enforced old.now.trees (delete_edit old.now.trees table shows params row) next → Refers All schema next) → HasFailed old new
  delete_lets tests shows text params written plain typed idle fit old new has failed row one unique parents =
      let edit = delete_edit old.now.trees table shows params row in
      let lets = cleared schema old.now.trees edit refl unique fit parents in
      elim (fails_as schema text params (Delete place (program_of tests shows table.tree)) tt written old new has failed) [
        | inl fault ↦ fault
        | inr stopped ↦ inr (inr (delete_refused tests shows (statement_of text (understood schema text)) params plain typed idle old has row one lets stopped.0 stopped.1))
      ]
