-- What a write of rows makes of the tables, for any table whose rows are not counted and refer to nothing that acts.
use Rattle.std.proofs.Common.{◌≡◌, ◌≢◌, ◌⊎◌, inl, inr, ℕ, ◌/◌, List, [], ◌∷◌, length, drop, slice_get, true, false, Option, Some, None, Ok, Err, Result, sym, ap, subst, ◌∙◌}
use Rattle.std.specs.List.{AllByRecursion}
use Rattle.std.specs.Ordering.{is_lt, int_cmp}
use Rattle.std.specs.Prelude.{MatchBool, if◌then◌else◌, ℤ, fold}
use Rattle.sqlite.specs.Order.{Row}
use Rattle.sqlite.specs.Term.{Term, eval_all}
use Rattle.sqlite.specs.Table.{Table}
use Rattle.sqlite.specs.Schema.{Schema}
use Rattle.sqlite.specs.Source.TheVariants.{Values}
use Rattle.sqlite.specs.Command.{Command}
use Rattle.sqlite.specs.Command.TheVariants.{Insert, Update, Delete}
use Rattle.sqlite.specs.Edit.{edit_of, edited}
use Rattle.sqlite.specs.Tree.{Trees}
use Rattle.sqlite.specs.Rowids.TheVariants.{Chosen, Above, Given}
use Rattle.sqlite.specs.Does.{Tally, OnRows, Concludes, AtPlace}
use Rattle.sqlite.specs.Rows.{Written, Task, stamped, rowids_for, count_of, Counts, CountsIn, Gives, sequence, higher}
use Rattle.sqlite.specs.Effect.{Database}
use Rattle.sqlite.specs.declared.run.Mode.{Mode}
use Rattle.sqlite.specs.State.{State, mode_of, Writes}
use Rattle.sqlite_rules.specs.Edit.{taken_by, are_fresh, left_by}
use Rattle.sqlite_rules.specs.Action.{works}
use Rattle.sqlite_schema.specs.declared.schema.Keys.TheVariants.{Enforced}
use Rattle.sqlite_trees.specs.Tree.{put_row}
use Rattle.sqlite_rules.specs.Edit.{with_rowid}
use Rattle.sqlite_rules.specs.Cast.{cast_row}
use Rattle.sqlite.specs.Effect.{value_rows}
use Rattle.std.proofs.Common.{filter}
use Rattle.sqlite_schema.specs.declared.program.Program.{Program}
use Rattle.std.specs.List.{list_all}
use Rattle.sqlite.specs.declared.types.Value.TheVariants.{Null}
use Rattle.sqlite.specs.Term.{holds}
use Rattle.sqlite.specs.Program.{given_at}
use Rattle.sqlite.specs.Tree.{rowid, without_rowid}
use Rattle.sqlite_rules.specs.Edit.{id_in}
use Rattle.sqlite_rules.specs.Calls.{ids_of}
use Rattle.ob_sql_rows.proofs.Queries.{whole}
use Rattle.ob_sql_rows.proofs.Answers.{one_answer}
use Rattle.sqlite.specs.Command.TheVariants.{CreateTable}
use Rattle.sqlite.specs.Compile.{table_defined_by}
use Rattle.sqlite.specs.Change.{created, next_tree, KeepsRows}
use Rattle.sqlite.specs.Does.{lacks_sequence, MakesTable, sequence_text}
use Rattle.sqlite.proofs.Callers.{one_step}

pub same_value : {B E : Type 0} {a b : B} → ◌≡◌ {A = Result B E} (Ok a) (Ok b) → a ≡ b
same_value e = cc

-- a part that gave a value did not stop on the way
pub went : {B E R : Type 0} {b : B} {Stops : E → Type 0} → ((stop : E) × Stops stop × (Ok b ≡ Err stop)) ⊎ R → R
went (inl stopped) = absurd (let e = stopped.2 in cc)
went (inr on) = on

-- what a statement on the rows of a table ends with
pub concluded : (task : Task) (mode : Mode) (w : Written) (tally : Tally) (after : Database) → Concludes task mode None w (Ok (tally, after)) → after ≡ record { schema = task.schema; trees = w.trees }
concluded task mode w tally after h = ap (λ (p : Tally × Database). p.1) (same_value (went (went h).2).2)

pub settled : (task : Task) (mid next : Trees) (counter : Option Row) (top : ℤ) → task.table.is_counted ≡ false → Counts task mid counter top (Ok next) → next ≡ mid
settled task mid next counter top uncounted h =
    same_value (subst (λ b. MatchBool (if b then is_lt (int_cmp (count_of counter) top) else false) (CountsIn task mid counter top (sequence task.schema) (Ok next)) (Gives mid (Ok next))) uncounted h)

pub chosen_for : (table : Table) (top : ℤ) → table.is_counted ≡ false → rowids_for table top ≡ Chosen
chosen_for table top uncounted = ap (λ b. if b then Above top else Chosen) uncounted

-- one tree has these rows, and each other table is as it was
pub record Rewrites (db after : Database) (tree : ℕ) (entries : List Row) : Type 0 where
  pub schema : after.schema ≡ db.schema
  pub row_list : after.trees tree ≡ entries
  pub others : AllByRecursion (λ t. t.tree ≢ tree → after.trees t.tree ≡ db.trees t.tree) db.schema.tables

module _ (schema : Schema) (at : ℕ) (table : Table) (found : slice_get schema.tables at ≡ Some table) where
  abbrev task_of : State → Row → Task
  task_of old params = record { limit = old.step_limit; keys = (mode_of old).keys; schema = old.now.schema; table = table; params = params }

  placed : (old new : State) (command : Command) (text : List ℕ) (params : Row) (count : ℕ) (tally : Tally) → old.now.schema ≡ schema
      → AtPlace (λ t. OnRows (record { limit = old.step_limit; keys = (mode_of old).keys; schema = old.now.schema; table = t; params = params }) (mode_of old) None command old.now.trees) (slice_get old.now.schema.tables at) (Ok (tally, new.now))
      → OnRows (task_of old params) (mode_of old) None command old.now.trees (Ok (tally, new.now))
  placed old new command text params count tally has h =
      subst (λ o. AtPlace (λ t. OnRows (record { limit = old.step_limit; keys = (mode_of old).keys; schema = old.now.schema; table = t; params = params }) (mode_of old) None command old.now.trees) o (Ok (tally, new.now)))
      (ap (λ (s : Schema). slice_get s.tables at) has ∙ found) h

  -- the rows of an INSERT are put in, numbered one after another
  pub inserted_all : (terms : List Term) (width : ℕ) (sources : List Row) (old new : State) (text : List ℕ) (params : Row) (count : ℕ)
      → table.is_counted ≡ false → stamped table params ≡ params → value_rows params width (length terms / width) terms ≡ sources
      → works schema Enforced 0 table.tree [] (edit_of old.now.trees table [] Chosen 0 sources).news ≡ []
      → old.now.schema ≡ schema → Writes old new None (Insert at (Values terms width)) text params count
      → Rewrites old.now new.now table.tree (edited old.now.trees (edit_of old.now.trees table [] Chosen 0 sources))
      × (are_fresh (old.now.trees table.tree) (edit_of old.now.trees table [] Chosen 0 sources).news ≡ true)
  inserted_all terms width sources old new text params count uncounted timeless all idle has w =
      let db = old.now.trees in
      let done = went (placed old new (Insert at (Values terms width)) text params count w.tally has w.changed) in
      let ended = concluded (task_of old params) (mode_of old) done.0 w.tally new.now done.2 in
      let given = went done.1 in
      let counted = went given.2 in
      let written = went counted.2 in
      let last = went written.2 in
      let kept : last.0 ≡ written.0 = settled (task_of old params) written.0 last.0 counted.0 (fold higher (count_of counted.0) (edit_of db table [] (rowids_for table (count_of counted.0)) 0 given.0).news) uncounted last.1 in
      let trees : done.0.trees ≡ written.0 = ap (λ (it : Written). it.trees) (same_value last.2) ∙ kept in
      let now : new.now.trees ≡ written.0 = ap (λ (d : Database). d.trees) ended ∙ trees in
      let edit = edit_of db table [] (rowids_for table (count_of counted.0)) 0 given.0 in
      let rows : given.0 ≡ sources = given.1.1 ∙ ap (λ p. value_rows p width (length terms / width) terms) timeless ∙ all in
      let chosen : rowids_for table (count_of counted.0) ≡ Chosen = chosen_for table (count_of counted.0) uncounted in
      let same : edit.news ≡ (edit_of db table [] Chosen 0 sources).news =
      ap (λ how. (edit_of db table [] how 0 given.0).news) chosen ∙ ap (λ all. (edit_of db table [] Chosen 0 all).news) rows in
      let applied = one_step old.now.schema Enforced db written.0 edit (ap (λ s. works s Enforced 0 table.tree [] edit.news) has ∙ ap (λ all. works schema Enforced 0 table.tree [] all) same ∙ idle) written.1 in
      let put : edited db edit ≡ edited db (edit_of db table [] Chosen 0 sources) =
      ap (λ how. edited db (edit_of db table [] how 0 given.0)) chosen ∙ ap (λ all. edited db (edit_of db table [] Chosen 0 all)) rows in (
        record {
          schema = ap (λ (d : Database). d.schema) ended;
          row_list = ap (λ (t : Trees). t table.tree) now ∙ applied.rows ∙ put;
          others = subst (λ (t : Trees). AllByRecursion (λ it. it.tree ≢ table.tree → t it.tree ≡ db it.tree) old.now.schema.tables) (sym now) applied.tables;
        },
        sym (ap (are_fresh (db table.tree)) same) ∙ applied.fresh,
      )

  -- one row is put in
  pub inserted : (terms : List Term) (width : ℕ) (old new : State) (text : List ℕ) (params : Row) (count : ℕ)
      → table.is_counted ≡ false → stamped table params ≡ params → value_rows params width (length terms / width) terms ≡ eval_all terms (params ∷ []) ∷ []
      → ((new : Row) → works schema Enforced 0 table.tree [] (new ∷ []) ≡ [])
      → old.now.schema ≡ schema → Writes old new None (Insert at (Values terms width)) text params count
      → Rewrites old.now new.now table.tree (put_row (with_rowid Chosen (old.now.trees table.tree) (cast_row table (eval_all terms (params ∷ [])))) (old.now.trees table.tree))
      × (are_fresh (old.now.trees table.tree) (with_rowid Chosen (old.now.trees table.tree) (cast_row table (eval_all terms (params ∷ []))) ∷ []) ≡ true)
  inserted terms width old new text params count uncounted timeless single idle has w =
      inserted_all terms width (eval_all terms (params ∷ []) ∷ []) old new text params count uncounted timeless single
      (idle (with_rowid Chosen (old.now.trees table.tree) (cast_row table (eval_all terms (params ∷ []))))) has w

module _ (schema : Schema) (at : ℕ) (table : Table) (found : slice_get schema.tables at ≡ Some table) where
  -- the one row that passes is put anew
  pub updated : (tests shows : List Term) (old new : State) (text : List ℕ) (params : Row) (count : ℕ) (row : Row) → given_at [] table.tree ≡ None
      → ((olds : List Row) (it : Row) → works schema Enforced 0 table.tree olds (it ∷ []) ≡ [])
      → filter (λ r. list_all (holds (params ∷ r ∷ [])) tests) (old.now.trees table.tree) ≡ row ∷ []
      → old.now.schema ≡ schema → Writes old new None (Update at (record { lets = []; body = whole tests shows table.tree })) text params count
      → Rewrites old.now new.now table.tree (put_row (cast_row table (drop 1 (eval_all shows (params ∷ row ∷ [])))) (without_rowid (id_in (rowid (eval_all shows (params ∷ row ∷ [])))) (old.now.trees table.tree)))
      × (are_fresh (without_rowid (id_in (rowid (eval_all shows (params ∷ row ∷ [])))) (old.now.trees table.tree)) (cast_row table (drop 1 (eval_all shows (params ∷ row ∷ []))) ∷ []) ≡ true)
  updated tests shows old new text params count row plain idle one has w =
      let db = old.now.trees in
      let q : Program = record { lets = []; body = whole tests shows table.tree } in
      let done = went (placed schema at table found old new (Update at q) text params count w.tally has w.changed) in
      let ended = concluded (task_of schema at table found old params) (mode_of old) done.0 w.tally new.now done.2 in
      let given = went done.1 in
      let written = went given.2 in
      let trees : done.0.trees ≡ written.0 = ap (λ (it : Written). it.trees) (same_value written.2) in
      let now : new.now.trees ≡ written.0 = ap (λ (d : Database). d.trees) ended ∙ trees in
      let rows : given.0 ≡ eval_all shows (params ∷ row ∷ []) ∷ [] = one_answer tests shows table.tree db params given.0 row plain (given.1.answer Null) one in
      let edit = edit_of db table (ids_of given.0) Given 1 given.0 in
      let it = cast_row table (drop 1 (eval_all shows (params ∷ row ∷ []))) in
      let same : edit.news ≡ it ∷ [] = ap (λ all. (edit_of db table (ids_of all) Given 1 all).news) rows in
      let applied = one_step old.now.schema Enforced db written.0 edit
      (ap (λ s. works s Enforced 0 table.tree (taken_by db edit) edit.news) has ∙ ap (λ all. works schema Enforced 0 table.tree (taken_by db edit) all) same ∙ idle (taken_by db edit) it) written.1 in (
        record {
          schema = ap (λ (d : Database). d.schema) ended;
          row_list = ap (λ (t : Trees). t table.tree) now ∙ applied.rows ∙ ap (λ all. edited db (edit_of db table (ids_of all) Given 1 all)) rows;
          others = subst (λ (t : Trees). AllByRecursion (λ it. it.tree ≢ table.tree → t it.tree ≡ db it.tree) old.now.schema.tables) (sym now) applied.tables;
        },
        subst (λ all. are_fresh (left_by db (edit_of db table (ids_of all) Given 1 all)) (edit_of db table (ids_of all) Given 1 all).news ≡ true) rows applied.fresh,
      )

module _ (schema : Schema) (at : ℕ) (table : Table) (found : slice_get schema.tables at ≡ Some table) where
  -- the one row that passes is taken out
  pub deleted : (tests shows : List Term) (old new : State) (text : List ℕ) (params : Row) (count : ℕ) (row : Row) → given_at [] table.tree ≡ None
      → ((olds : List Row) → works schema Enforced 0 table.tree olds [] ≡ [])
      → filter (λ r. list_all (holds (params ∷ r ∷ [])) tests) (old.now.trees table.tree) ≡ row ∷ []
      → old.now.schema ≡ schema → Writes old new None (Delete at (record { lets = []; body = whole tests shows table.tree })) text params count
      → Rewrites old.now new.now table.tree (without_rowid (id_in (rowid (eval_all shows (params ∷ row ∷ [])))) (old.now.trees table.tree))
  deleted tests shows old new text params count row plain idle one has w =
      let db = old.now.trees in
      let q : Program = record { lets = []; body = whole tests shows table.tree } in
      let done = went (placed schema at table found old new (Delete at q) text params count w.tally has w.changed) in
      let ended = concluded (task_of schema at table found old params) (mode_of old) done.0 w.tally new.now done.2 in
      let given = went done.1 in
      let written = went given.2 in
      let trees : done.0.trees ≡ written.0 = ap (λ (it : Written). it.trees) (same_value written.2) in
      let now : new.now.trees ≡ written.0 = ap (λ (d : Database). d.trees) ended ∙ trees in
      let rows : given.0 ≡ eval_all shows (params ∷ row ∷ []) ∷ [] = one_answer tests shows table.tree db params given.0 row plain (given.1.answer Null) one in
      let edit = edit_of db table (ids_of given.0) Given 0 [] in
      let applied = one_step old.now.schema Enforced db written.0 edit (ap (λ s. works s Enforced 0 table.tree (taken_by db edit) []) has ∙ idle (taken_by db edit)) written.1 in
      record {
        schema = ap (λ (d : Database). d.schema) ended;
        row_list = ap (λ (t : Trees). t table.tree) now ∙ applied.rows ∙ ap (λ all. edited db (edit_of db table (ids_of all) Given 0 [])) rows;
        others = subst (λ (t : Trees). AllByRecursion (λ it. it.tree ≢ table.tree → t it.tree ≡ db it.tree) old.now.schema.tables) (sym now) applied.tables;
      }

module _ (schema : Schema) (at : ℕ) (table : Table) (found : slice_get schema.tables at ≡ Some table) where
  -- an UPDATE leaves the schema, whatever rows pass
  pub updated_schema : (q : Program) (old new : State) (text : List ℕ) (params : Row) (count : ℕ) → old.now.schema ≡ schema → Writes old new None (Update at q) text params count → new.now.schema ≡ old.now.schema
  updated_schema q old new text params count has w =
      let done = went (placed schema at table found old new (Update at q) text params count w.tally has w.changed) in
      ap (λ (d : Database). d.schema) (concluded (task_of schema at table found old params) (mode_of old) done.0 w.tally new.now done.2)

  -- and so does a DELETE
  pub deleted_schema : (q : Program) (old new : State) (text : List ℕ) (params : Row) (count : ℕ) → old.now.schema ≡ schema → Writes old new None (Delete at q) text params count → new.now.schema ≡ old.now.schema
  deleted_schema q old new text params count has w =
      let done = went (placed schema at table found old new (Delete at q) text params count w.tally has w.changed) in
      ap (λ (d : Database). d.schema) (concluded (task_of schema at table found old params) (mode_of old) done.0 w.tally new.now done.2)

-- a table is made, empty, and the others are as they were
pub made_table : (schema : Schema) (table : Table) (text : List ℕ) (old new : State) (params : Row) (count : ℕ) → table_defined_by text ≡ Ok table → lacks_sequence (created schema table) ≡ false
    → old.now.schema ≡ schema → Writes old new None CreateTable text params count
    → (new.now.schema ≡ created schema table) × (new.now.trees (next_tree schema) ≡ []) × KeepsRows schema.tables old.now.trees new.now.trees
made_table schema table text old new params count defined plain has w =
    let all = went w.changed in
    let first = went all.1 in
    let made = first.1 in
    let both : Ok made.table ≡ Ok table = sym made.defined ∙ defined in
    let same : made.table ≡ table = same_value both in
    let after : first.0.schema ≡ created schema table = made.is ∙ ap (λ s. created s made.table) has ∙ ap (created schema) same in
    let now : new.now ≡ first.0 = ap (λ (p : Tally × Database). p.1) (same_value all.2) ∙ same_value (subst (λ b. MatchBool b (MakesTable sequence_text first.0 (Ok all.0)) (Gives first.0 (Ok all.0))) (ap lacks_sequence after ∙ plain) first.2) in
    let empty : first.0.trees (next_tree schema) ≡ [] = subst (λ s. first.0.trees (next_tree s) ≡ []) has made.empty in
    let kept : KeepsRows schema.tables old.now.trees first.0.trees = subst (λ (s : Schema). KeepsRows s.tables old.now.trees first.0.trees) has made.others in
    (ap (λ (d : Database). d.schema) now ∙ after, ap (λ (d : Database). d.trees (next_tree schema)) now ∙ empty, subst (λ (d : Database). KeepsRows schema.tables old.now.trees d.trees) (sym now) kept)
