-- What a CREATE TABLE makes.
use Rattle.std.proofs.Common.{◌≡◌, ℕ, ◌+◌, List, [], ◌∷◌, ◌++◌, map, Result, Ok, Err, IsErrAnd, IsTrue, true, false, refl, sym, ap, subst, ◌∙◌, arith}
use Rattle.std.specs.List.{AllByRecursion}
use Rattle.std.specs.List.Sorted.{IsPermutation}
use Rattle.std.specs.Borrow.{MutBor}
use Rattle.std.proofs.lemmas.List.Sorted.{IsPermutation-refl}
use Rattle.sqlite_trees.specs.declared.store.Store.{Ghosts}
use Rattle.sqlite.specs.Tree.{Trees}
use Rattle.sqlite.specs.Table as sql
use Rattle.sqlite.specs.Schema.{Schema}
use Rattle.sqlite.specs.Command.TheVariants.{CreateTable}
use Rattle.sqlite.specs.Compile.{table_defined_by}
use Rattle.sqlite.specs.Listing.{understood}
use Rattle.sqlite.specs.Change.{created, next_tree}
use Rattle.sqlite.specs.Does.{lacks_sequence}
use Rattle.sqlite.specs.Held.{Held, state}
use Rattle.sqlite.specs.State.{State, HasCleanDisk}
use Rattle.sqlite_tied.specs.Compute.{everything}
use Rattle.sqlite.proofs.Callers.{IsPlain, command_of, statement_of, runs_as}
use Rattle.ob_sql_rows.specs.Schema.{meta_table, cause_table, node_table, device_table, customer_table, entry_table, mark_table, command_table, moved_table, posting_table, life_table}
use Rattle.ob_sql_rows.specs.Creation.{create_text, before, schema_of_first, old_schema, LetsBook, LetsTable, MakesUpTo, MakesBook, Creates}
use Rattle.ob_sql_rows.specs.Rows.{Tables, tree_of, shown, AreApart}
use Rattle.ob_sql_rows.specs.Rules.{IsNumbered, AreNumbered}
use Rattle.ob_base.specs.declared.stop.Stop.{Stop}
use Rattle.ob_base.specs.declared.stop.Stop.TheVariants.{Fault}
use Rattle.ob_base.specs.declared.stop.Fault.TheVariants.{Store}
use Rattle.ob_sql_rows.specs.Steps.{Ran, Silent, IsStoreFault, HasFailed}
use Rattle.ob_sql_rows.specs.Versions.{HoldsOld, MakesLife, without_lives}
use Rattle.ob_sql_rows.specs.declared.table.Table.{Table}
use Rattle.ob_sql_rows.specs.declared.table.Table.TheVariants.{Meta, Cause, Node, Device, Life, Customer, Entry, Mark, Command, Moved, Posting}
use Rattle.ob_sql_rows.proofs.Statements.{made_table}

still_empty : (old new : Trees) (tables : List sql.Table) → AllByRecursion (λ t. new t.tree ≡ old t.tree) tables → AllByRecursion (λ t. old t.tree ≡ []) tables → AllByRecursion (λ t. new t.tree ≡ []) tables
still_empty old new [] kept empty = tt
still_empty old new (t ∷ tables) kept empty = (kept.0 ∙ empty.0, still_empty old new tables kept.1 empty.1)

one_more : (P : sql.Table → Type 0) (tables : List sql.Table) (table : sql.Table) → AllByRecursion P tables → P table → AllByRecursion P (tables ++ table ∷ [])
one_more P [] table all last = (last, tt)
one_more P (t ∷ tables) table all last = (all.0, one_more P tables table all.1 last)

-- what holds of a text that makes a table after the first n
pub record MakesAfter (n : ℕ) (text : List ℕ) (table : sql.Table) : Type 0 where
  pub next : schema_of_first (n + 1) ≡ created (schema_of_first n) table
  pub defines : table_defined_by text ≡ Ok table
  pub is : command_of (understood (schema_of_first n) text) ≡ CreateTable
  pub plain : IsPlain (understood (schema_of_first n) text)
  pub whole : statement_of text (understood (schema_of_first n) text) ≡ text
  pub uncounted : lacks_sequence (created (schema_of_first n) table) ≡ false

makes_after : (n : ℕ) (text : List ℕ) (table : sql.Table) → MakesAfter n text table → (old new : State) → Ran text [] old new → MakesUpTo n (n + 1) old new
makes_after n text table it old new ran = record {
  live = λ _. ran.2.was_open;
  stays = λ _. ran.2.is_open;
  inside = ran.2.mode;
  sound = λ _ has. (runs_as text [] old new (schema_of_first n) has.schema CreateTable it.is it.plain ran.0 ran.1).sound;
  made = λ has.
      let w = runs_as text [] old new (schema_of_first n) has.schema CreateTable it.is it.plain ran.0 ran.1 in
      let made = made_table (schema_of_first n) table _ old new [] ran.0 (ap table_defined_by it.whole ∙ it.defines) it.uncounted has.schema w in
      record {
        schema = made.0 ∙ sym it.next;
        empty = subst (λ (s : Schema). AllByRecursion (λ t. new.now.trees t.tree ≡ []) s.tables) (sym it.next)
            (one_more (λ t. new.now.trees t.tree ≡ []) (schema_of_first n).tables (record table { tree = next_tree (schema_of_first n) })
            (still_empty old.now.trees new.now.trees (schema_of_first n).tables made.2 has.empty) made.1);
      };
}

pub meta_after : MakesAfter 0 (create_text Meta) meta_table
unfolding understood everything
meta_after = record { next = refl; defines = refl; is = refl; plain = (refl, refl); whole = refl; uncounted = refl }

pub cause_after : MakesAfter 1 (create_text Cause) cause_table
unfolding understood everything
cause_after = record { next = refl; defines = refl; is = refl; plain = (refl, refl); whole = refl; uncounted = refl }

pub node_after : MakesAfter 2 (create_text Node) node_table
unfolding understood everything
node_after = record { next = refl; defines = refl; is = refl; plain = (refl, refl); whole = refl; uncounted = refl }

pub device_after : MakesAfter 3 (create_text Device) device_table
unfolding understood everything
device_after = record { next = refl; defines = refl; is = refl; plain = (refl, refl); whole = refl; uncounted = refl }

pub customer_after : MakesAfter 4 (create_text Customer) customer_table
unfolding understood everything
customer_after = record { next = refl; defines = refl; is = refl; plain = (refl, refl); whole = refl; uncounted = refl }

pub entry_after : MakesAfter 5 (create_text Entry) entry_table
unfolding understood everything
entry_after = record { next = refl; defines = refl; is = refl; plain = (refl, refl); whole = refl; uncounted = refl }

pub mark_after : MakesAfter 6 (create_text Mark) mark_table
unfolding understood everything
mark_after = record { next = refl; defines = refl; is = refl; plain = (refl, refl); whole = refl; uncounted = refl }

pub command_after : MakesAfter 7 (create_text Command) command_table
unfolding understood everything
command_after = record { next = refl; defines = refl; is = refl; plain = (refl, refl); whole = refl; uncounted = refl }

pub moved_after : MakesAfter 8 (create_text Moved) moved_table
unfolding understood everything
moved_after = record { next = refl; defines = refl; is = refl; plain = (refl, refl); whole = refl; uncounted = refl }

pub posting_after : MakesAfter 9 (create_text Posting) posting_table
unfolding understood everything
posting_after = record { next = refl; defines = refl; is = refl; plain = (refl, refl); whole = refl; uncounted = refl }

pub life_after : MakesAfter 10 (create_text Life) life_table
unfolding understood everything
life_after = record { next = refl; defines = refl; is = refl; plain = (refl, refl); whole = refl; uncounted = refl }

pub makes_table : (table : Table) (old new : State) → Ran (create_text table) [] old new → MakesUpTo (before table) (before table + 1) old new
makes_table Meta = makes_after 0 (create_text Meta) meta_table meta_after
makes_table Cause = makes_after 1 (create_text Cause) cause_table cause_after
makes_table Node = makes_after 2 (create_text Node) node_table node_after
makes_table Device = makes_after 3 (create_text Device) device_table device_after
makes_table Customer = makes_after 4 (create_text Customer) customer_table customer_after
makes_table Entry = makes_after 5 (create_text Entry) entry_table entry_after
makes_table Mark = makes_after 6 (create_text Mark) mark_table mark_after
makes_table Command = makes_after 7 (create_text Command) command_table command_after
makes_table Moved = makes_after 8 (create_text Moved) moved_table moved_after
makes_table Posting = makes_after 9 (create_text Posting) posting_table posting_after
makes_table Life = makes_after 10 (create_text Life) life_table life_after

no_row : (trees : Trees) → AllByRecursion (λ t. trees t.tree ≡ []) (schema_of_first 11).tables → (table : Table) → trees (tree_of table) ≡ []
no_row trees h Meta = h.0
no_row trees h Cause = h.1.0
no_row trees h Node = h.1.1.0
no_row trees h Device = h.1.1.1.0
no_row trees h Customer = h.1.1.1.1.0
no_row trees h Entry = h.1.1.1.1.1.0
no_row trees h Mark = h.1.1.1.1.1.1.0
no_row trees h Command = h.1.1.1.1.1.1.1.0
no_row trees h Moved = h.1.1.1.1.1.1.1.1.0
no_row trees h Posting = h.1.1.1.1.1.1.1.1.1.0
no_row trees h Life = h.1.1.1.1.1.1.1.1.1.1.0

apart_none : AreApart []
apart_none = record { numbers = tt; apart = λ id. omega arith }

-- without rows there is no row number
none_numbered : (trees : Trees) → trees 12 ≡ [] → trees 14 ≡ [] → AreNumbered trees
none_numbered trees moved amounts = record { moved = subst IsNumbered (sym moved) refl; amounts = subst IsNumbered (sym amounts) refl }

-- eleven tables without rows are those of a book
pub makes_book : (old new : State) → MakesUpTo 0 11 old new → MakesBook old new
makes_book old new it = record {
  live = it.live (it.stays (omega arith));
  stays = it.stays (omega arith);
  inside = it.inside;
  schema = λ has. (it.made (record { schema = has; empty = tt })).schema;
  sound = λ has. it.sound (omega arith) (record { schema = has; empty = tt });
  holds = λ has.
      let all = (it.made (record { schema = has; empty = tt })).empty in
      record {
        rows = λ table. subst (λ rows. IsPermutation (map (shown table) rows) []) (sym (no_row new.now.trees all table)) (IsPermutation-refl []);
        apart = subst AreApart (sym (no_row new.now.trees all Posting)) apart_none;
      };
  numbered = λ has.
      let all = (it.made (record { schema = has; empty = tt })).empty in none_numbered new.now.trees (no_row new.now.trees all Moved) (no_row new.now.trees all Posting);
}

pub up_to_same : (a : State) → a.in_transaction ≡ true → MakesUpTo 0 0 a a
up_to_same a inside = record { live = λ live. live; stays = λ low. absurd (omega (arith, low)); inside = inside; made = λ has. has; sound = λ low. absurd (omega (arith, low)) }

pub up_to_then : (a b c : State) (n m : ℕ) → m ≡ n → MakesUpTo 0 n a b → MakesUpTo m (m + 1) b c → MakesUpTo 0 (n + 1) a c
up_to_then a b c n m same one two =
    let step = subst (λ k. MakesUpTo k (k + 1) b c) same two in
    record {
      live = λ live. one.live (step.live live);
      stays = λ low. step.stays (omega arith);
      inside = step.inside;
      made = λ has. step.made (one.made has);
      sound = λ low has. step.sound (omega arith) (one.made has);
    }

-- over none of the tables the first is let in, and over those that were made the next
pub lets_first : (a : State) → LetsBook a → LetsTable 0 a
lets_first a lets = (record { schema = lets.0; empty = tt }, lets.1)

pub lets_next : (b c : State) (n m : ℕ) → m ≡ n → MakesUpTo m (m + 1) b c → LetsTable n b → LetsTable (n + 1) c
lets_next b c n m same made lets = let step = subst (λ k. MakesUpTo k (k + 1) b c) same made in (step.made lets.0, step.sound (omega arith) lets.0)

-- where making one of them failed, making all failed of the same
pub creates_none : {S X : Type 0} (g : Ghosts S) (old new : MutBor (Held S)) (result : Result X Stop) (stop : Stop) (Lets : State → Type 0) (Made : State → State → Type 0)
    → IsErrAnd result (λ s. s ≡ stop) → new.ghost_name ≡ old.ghost_name → Silent (state g old.now) (state g new.now) → IsStoreFault stop
    → (HasCleanDisk (state g new.now) → stop ≡ Fault Store → IsTrue (state g old.now).in_transaction → Lets (state g old.now) → HasFailed (state g old.now) (state g new.now))
    → Creates g old new result Lets Made
creates_none g old new (Ok x) stop Lets Made is same silent fault cause = absurd is
creates_none g old new (Err s) stop Lets Made is same silent fault cause = record {
  same_reference = same;
  silent = silent;
  faults = subst IsStoreFault (sym is) fault;
  creates = λ clean. tt;
  cause = λ clean store. cause clean (sym is ∙ store);
}

-- the table of lives, over those of version 1
pub makes_life : (old new : State) → Ran (create_text Life) [] old new → MakesLife old new
makes_life old new ran =
    let w = λ (has : old.now.schema ≡ old_schema). runs_as (create_text Life) [] old new old_schema has CreateTable life_after.is life_after.plain ran.0 ran.1 in
    let made = λ (has : old.now.schema ≡ old_schema). made_table old_schema life_table _ old new [] ran.0 (ap table_defined_by life_after.whole ∙ life_after.defines) life_after.uncounted has (w has) in
    record {
      live = ran.2.was_open;
      stays = ran.2.is_open;
      inside = ran.2.mode;
      schema = λ has. (made has).0 ∙ sym life_after.next;
      sound = λ has _. (w has).sound;
      holds = λ has t held. record {
        rows = lived old.now.trees new.now.trees t (made has).1 (made has).2 held;
        apart = subst AreApart (sym (made has).2.1.1.1.1.1.1.1.1.1.0) held.apart;
      };
      numbered = λ has were. record {
        moved = subst IsNumbered (sym (made has).2.1.1.1.1.1.1.1.1.0) were.moved;
        amounts = subst IsNumbered (sym (made has).2.1.1.1.1.1.1.1.1.1.0) were.amounts;
      };
    }
  where
    lived : (f g : Trees) (t : Tables) → g 16 ≡ [] → AllByRecursion (λ it. g it.tree ≡ f it.tree) old_schema.tables → HoldsOld f t → (table : Table) → IsPermutation (map (shown table) (g (tree_of table))) (without_lives t table)
    lived f g t none kept held Meta = subst (λ rows. IsPermutation (map (shown Meta) rows) (t Meta)) (sym kept.0) (held.rows Meta tt)
    lived f g t none kept held Cause = subst (λ rows. IsPermutation (map (shown Cause) rows) (t Cause)) (sym kept.1.0) (held.rows Cause tt)
    lived f g t none kept held Node = subst (λ rows. IsPermutation (map (shown Node) rows) (t Node)) (sym kept.1.1.0) (held.rows Node tt)
    lived f g t none kept held Device = subst (λ rows. IsPermutation (map (shown Device) rows) (t Device)) (sym kept.1.1.1.0) (held.rows Device tt)
    lived f g t none kept held Customer = subst (λ rows. IsPermutation (map (shown Customer) rows) (t Customer)) (sym kept.1.1.1.1.0) (held.rows Customer tt)
    lived f g t none kept held Entry = subst (λ rows. IsPermutation (map (shown Entry) rows) (t Entry)) (sym kept.1.1.1.1.1.0) (held.rows Entry tt)
    lived f g t none kept held Mark = subst (λ rows. IsPermutation (map (shown Mark) rows) (t Mark)) (sym kept.1.1.1.1.1.1.0) (held.rows Mark tt)
    lived f g t none kept held Command = subst (λ rows. IsPermutation (map (shown Command) rows) (t Command)) (sym kept.1.1.1.1.1.1.1.0) (held.rows Command tt)
    lived f g t none kept held Moved = subst (λ rows. IsPermutation (map (shown Moved) rows) (t Moved)) (sym kept.1.1.1.1.1.1.1.1.0) (held.rows Moved tt)
    lived f g t none kept held Posting = subst (λ rows. IsPermutation (map (shown Posting) rows) (t Posting)) (sym kept.1.1.1.1.1.1.1.1.1.0) (held.rows Posting tt)
    lived f g t none kept held Life = subst (λ rows. IsPermutation (map (shown Life) rows) []) (sym none) (IsPermutation-refl [])
