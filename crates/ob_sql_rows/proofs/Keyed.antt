-- The one row of a key is written anew or taken out.
use Rattle.std.proofs.Common.{◌≡◌, ◌≢◌, ℕ, ◌==◌, pos, ℤ, List, [], ◌∷◌, ◌++◌, map, filter, drop, codes, Bool, true, false, cond, not, ◌&&◌, Option, Some, None, refl, sym, ap, subst, ◌∙◌, arith, slice_get, inl, inr}
use Rattle.std.specs.Prelude.{if◌then◌else◌}
use Rattle.std.specs.List.{AllByRecursion, list_all}
use Rattle.std.specs.List.Sorted.{IsPermutation}
use Rattle.std.specs.Ordering.{is_eq, int_cmp}
use Rattle.std.proofs.lemmas.Bool.{cases_Bool}
use Rattle.std.proofs.lemmas.Bool.Decides.{nat_tests}
use Rattle.std.proofs.lemmas.List.Sorted.{IsPermutation-refl, IsPermutation-map, IsPermutation-trans, IsPermutation-sym, IsPermutation-cons, IsPermutation-middle}
use Rattle.sqlite_trees.proofs.ListLemmas.{IsPermutation-filter, filter-map}
use Rattle.sqlite_value.specs.Order.{value_cmp}
use Rattle.sqlite_value.proofs.OrderLemmas.{value_cmp-Int}
use Rattle.sqlite_schema.specs.Rules.{equal}
use Rattle.sqlite_sql.specs.Ops.{from_truth}
use Rattle.sqlite.specs.Ops.{is_true, binary}
use Rattle.sqlite.specs.Order.{Row, column}
use Rattle.sqlite.specs.declared.types.Value.{Value}
use Rattle.sqlite.specs.declared.types.Value.TheVariants.{Null, Int, Text, Real, Blob}
use Rattle.sqlite.specs.Tree.{put_row, rowid, has_rowid, without_rowid}
use Rattle.sqlite.specs.Table as sql
use Rattle.sqlite.specs.Schema.{Schema}
use Rattle.sqlite.specs.State.{State}
use Rattle.sqlite.specs.Term.{Term, lit, col, op2, eval_all, holds}
use Rattle.sqlite.specs.Command.TheVariants.{Update, Delete}
use Rattle.sqlite.specs.Collation.TheVariants.{Binary}
use Rattle.sqlite.specs.Program.{given_at}
use Rattle.sqlite.specs.Listing.{understood}
use Rattle.sqlite_sql.specs.declared.ops.BinaryOp.TheVariants.{Compare}
use Rattle.sqlite_sql.specs.declared.ops.CompareOp.TheVariants.{Eq}
use Rattle.sqlite_schema.specs.declared.schema.Keys.TheVariants.{Enforced}
use Rattle.sqlite_rules.specs.Action.{works}
use Rattle.sqlite_rules.specs.Lists.{Has}
use Rattle.sqlite_rules.proofs.ListLemmas.{has_filtered}
use Rattle.sqlite_rules.specs.Edit.{are_fresh, id_in}
use Rattle.sqlite_rules.specs.Cast.{cast_row}
use Rattle.sqlite_tied.specs.Compute.{everything}
use Rattle.sqlite.proofs.Callers.{IsPlain, command_of, runs_as}
use Rattle.ob_base.specs.declared.life.Life.{Life as ALife}
use Rattle.ob_sheet.specs.declared.Entry.{Entry as SheetEntry}
use Rattle.ob_cust.specs.declared.Customer.{Customer as RollCustomer}
use Rattle.ob_sql_rows.specs.Schema.{book_schema, meta_table, customer_table, entry_table, mark_table, command_table, life_table}
use Rattle.ob_sql_rows.specs.Rows.{Columns, Tables, tree_of, shown, AreApart, number, number_or_null, position_number, bit, is_key, change_where, with_change, without_key, meta_row, customer_row, life_row, entry_row, mark_row, command_row, serve, relive, rebody, reversion, correct, withdraw, HasRow, HasCustomer, HasLife, HasCommand, HasHeading, HasEntry, HasMark}
use Rattle.ob_sql_rows.specs.Steps.{Ran, Makes}
use Rattle.ob_sql_rows.specs.declared.table.Table.{Table}
use Rattle.ob_sql_rows.specs.declared.table.Table.TheVariants.{Meta, Life, Customer, Entry, Mark, Command, Posting}
use Rattle.ob_sql_rows.proofs.Adding.{life_params}
use Rattle.ob_sql_rows.proofs.Queries.{whole}
use Rattle.ob_sql_rows.proofs.Statements.{updated, updated_schema, deleted, deleted_schema}
use Rattle.ob_sql_rows.proofs.Posting.{single}
use Rattle.ob_sql_rows.proofs.Put.{put_fresh}
use Rattle.ob_sql_rows.proofs.Trees.{OthersStay, stays, changes, free_of}
use Rattle.ob_sql_rows.proofs.Casts.{cast_int, cast_optional}
use Rattle.ob_sql_rows.proofs.Numbering.{numbered_beside}

pub truth_is : (b : Bool) → is_true (from_truth (Some b)) ≡ b
truth_is true = refl
truth_is false = refl

-- SQL's = on a number is the order's tie
pub same_test : (v : Value) (n : ℤ) → equal Binary v (Int n) ≡ is_eq (value_cmp v (Int n))
unfolding binary value_cmp
same_test Null n = refl
same_test (Int m) n = truth_is _
same_test (Real x) n = truth_is _
same_test (Text t) n = truth_is _
same_test (Blob b) n = truth_is _

pub and_true : (b : Bool) → (b && true) ≡ b
and_true true = refl
and_true false = refl

pub filter_alike : {X : Type 0} (p q : X → Bool) → ((x : X) → p x ≡ q x) → (xs : List X) → filter p xs ≡ filter q xs
filter_alike p q same [] = refl
filter_alike p q same (x ∷ xs) =
    ap (λ b. cond b (x ∷ filter p xs) (filter p xs)) (same x) ∙ ap (λ l. cond (q x) (x ∷ l) l) (filter_alike p q same xs)

-- the rows that pass, changed, and the others
pub change_parts : {X : Type 0} (p : X → Bool) (f : X → X) (xs : List X) → IsPermutation (map (λ x. if p x then f x else x) xs) (map f (filter p xs) ++ filter (λ x. not (p x)) xs)
change_parts p f [] = IsPermutation-refl _
change_parts p f (x ∷ xs) = elim (cases_Bool (p x)) [
  | inl passes ↦ rw passes (IsPermutation-cons (f x) _ _ (change_parts p f xs))
  | inr fails ↦ rw fails (IsPermutation-trans _ _ _ (IsPermutation-cons x _ _ (change_parts p f xs)) (IsPermutation-sym _ _ (IsPermutation-middle (map f (filter p xs)) x (filter (λ y. not (p y)) xs))))
]

-- the table has one row of the key
pub record HasOne (table : Table) (key : ℕ) (tables : Tables) (was : Columns) : Type 0 where
  pub one : filter (is_key key) (tables table) ≡ was ∷ []
  pub keyed : column was 0 ≡ number key

same_pos : (m n : ℕ) → is_eq (int_cmp (pos m) (pos n)) ≡ (m == n)
same_pos m n = grind (arith, nat_tests)

-- the one row of a key begins with it
pub key_of : (table : Table) (key n : ℕ) (row : Columns) (tables : Tables) → HasRow table key row tables → column row 0 ≡ number n → n ≡ key
key_of table key n row tables one first =
    let had = has_filtered (is_key key) (tables table) row (subst (λ l. Has l row) (sym one) (inl refl)) in
    let tests : is_key key row ≡ (n == key) =
    ap (λ v. equal Binary v (number key) && true) first ∙ and_true (equal Binary (number n) (number key)) ∙ same_test (number n) (pos key) ∙ ap is_eq (value_cmp-Int (pos n) (pos key)) ∙ same_pos n key in
    let same : (n == key) ≡ true = sym tests ∙ had.1 in
    grind (arith, nat_tests)

pub has_one : (table : Table) (key n : ℕ) (row : Columns) (tables : Tables) → HasRow table key row tables → column row 0 ≡ number n → HasOne table key tables row
has_one table key n row tables one first = record { one = one; keyed = first ∙ ap number (key_of table key n row tables one first) }

module _ (table : Table) (fronted : (r : Row) → column (shown table r) 0 ≡ rowid r) (key : ℕ) where
  abbrev pub passes : Row → Bool
  passes r = is_key key (shown table r)

  pub has_key : (r : Row) → has_rowid (pos key) r ≡ passes r
  has_key r = sym (same_test (rowid r) (pos key)) ∙ ap (λ v. equal Binary v (number key)) (sym (fronted r)) ∙ sym (and_true (equal Binary (column (shown table r) 0) (number key)))

  -- what is shown of the rows without the key
  pub left_shows : (rows : List Row) (ts : List Columns) → IsPermutation (map (shown table) rows) ts → IsPermutation (map (shown table) (without_rowid (pos key) rows)) (filter (λ r. not (is_key key r)) ts)
  left_shows rows ts held =
      let left : without_rowid (pos key) rows ≡ filter (λ r. not (passes r)) rows = filter_alike (λ r. not (has_rowid (pos key) r)) (λ r. not (passes r)) (λ r. ap not (has_key r)) rows in
      let shows : filter (λ r. not (is_key key r)) (map (shown table) rows) ≡ map (shown table) (without_rowid (pos key) rows) = filter-map (λ r. not (is_key key r)) (shown table) rows ∙ ap (map (shown table)) (sym left) in
      subst (λ l. IsPermutation l (filter (λ r. not (is_key key r)) ts)) shows (IsPermutation-filter (λ r. not (is_key key r)) _ _ held)

  -- the stored row of the key
  pub stored_one : (rows : List Row) (ts : List Columns) (was : Columns) → IsPermutation (map (shown table) rows) ts → filter (is_key key) ts ≡ was ∷ [] → (r : Row) × (filter passes rows ≡ r ∷ []) × (shown table r ≡ was)
  stored_one rows ts was held one = single (shown table) (filter passes rows) was
      (subst (λ l. IsPermutation l (was ∷ [])) (filter-map (is_key key) (shown table) rows) (subst (IsPermutation (filter (is_key key) (map (shown table) rows))) one (IsPermutation-filter (is_key key) _ _ held)))

  -- the rows that are left and the new one are the rows as they should be
  pub shows_anew : (rows : List Row) (ts : List Columns) (was : Columns) (change : Columns → Columns) (anew : Row) → IsPermutation (map (shown table) rows) ts → filter (is_key key) ts ≡ was ∷ [] → shown table anew ≡ change was
      → IsPermutation (map (shown table) (anew ∷ without_rowid (pos key) rows)) (change_where (is_key key) change ts)
  shows_anew rows ts was change anew held one is =
      let parts : IsPermutation (change_where (is_key key) change ts) (change was ∷ filter (λ r. not (is_key key r)) ts) =
      subst (λ l. IsPermutation (change_where (is_key key) change ts) (map change l ++ filter (λ r. not (is_key key r)) ts)) one (change_parts (is_key key) change ts) in
      let left : IsPermutation (change was ∷ map (shown table) (without_rowid (pos key) rows)) (change was ∷ filter (λ r. not (is_key key r)) ts) = IsPermutation-cons (change was) _ _ (left_shows rows ts held) in
      subst (λ c. IsPermutation (c ∷ map (shown table) (without_rowid (pos key) rows)) (change_where (is_key key) change ts)) (sym is) (IsPermutation-trans _ _ _ left (IsPermutation-sym _ _ parts))

module _ (table : Table) (at : ℕ) (base : sql.Table) (tests shows : List Term) (text : List ℕ) (params : Row) (key : ℕ) (needs : Tables → Type 0)
    (found : slice_get book_schema.tables at ≡ Some (record base { tree = tree_of table })) (plain : IsPlain (understood book_schema text)) (fronted : (r : Row) → column (shown table r) 0 ≡ rowid r)
    (tested : ◌≡◌ {A = Row → Bool} (λ r. is_key key (shown table r)) (λ r. list_all (holds (params ∷ r ∷ [])) tests)) (same_id : (r : Row) → rowid (eval_all shows (params ∷ r ∷ [])) ≡ rowid r) (beside : 12 ≢ tree_of table) (other : 14 ≢ tree_of table) (given : given_at [] (tree_of table) ≡ None) where
  abbrev pub it : sql.Table
  it = record base { tree = tree_of table }

  abbrev pub anew : Row → Row
  anew r = cast_row it (drop 1 (eval_all shows (params ∷ r ∷ [])))

  -- the stored row of the key, which alone passes
  passing_one : (rows : List Row) (ts : List Columns) (was : Columns) → IsPermutation (map (shown table) rows) ts → filter (is_key key) ts ≡ was ∷ []
      → (r : Row) × (filter (λ x. list_all (holds (params ∷ x ∷ [])) tests) rows ≡ r ∷ []) × (shown table r ≡ was)
  passing_one rows ts was held one =
      let stored = stored_one table fronted key rows ts was held one in
      (stored.0, subst (λ p. filter p rows ≡ stored.0 ∷ []) tested stored.1, stored.2)

  -- an UPDATE of the row of a key leaves the other tables
  change_spares : command_of (understood book_schema text) ≡ Update at (record { lets = []; body = whole tests shows (tree_of table) })
      → ((olds : List Row) (new : Row) → works book_schema Enforced 0 (tree_of table) olds (new ∷ []) ≡ [])
      → (old new : State) (r : Row) → Ran text params old new → old.now.schema ≡ book_schema → filter (λ x. list_all (holds (params ∷ x ∷ [])) tests) (old.now.trees (tree_of table)) ≡ r ∷ []
      → OthersStay (tree_of table) new.now.trees old.now.trees
  change_spares is idle old new r ran has passing =
      let w = runs_as text params old new book_schema has (Update at (record { lets = []; body = whole tests shows (tree_of table) })) is plain ran.0 ran.1 in
      let made = updated book_schema at it found tests shows old new _ params ran.0 r given idle passing has w in
      subst (λ (s : Schema). AllByRecursion (λ x. x.tree ≢ tree_of table → new.now.trees x.tree ≡ old.now.trees x.tree) s.tables) has made.0.others

  -- and so does a DELETE
  removal_spares : command_of (understood book_schema text) ≡ Delete at (record { lets = []; body = whole tests shows (tree_of table) })
      → ((olds : List Row) → works book_schema Enforced 0 (tree_of table) olds [] ≡ [])
      → (old new : State) (r : Row) → Ran text params old new → old.now.schema ≡ book_schema → filter (λ x. list_all (holds (params ∷ x ∷ [])) tests) (old.now.trees (tree_of table)) ≡ r ∷ []
      → OthersStay (tree_of table) new.now.trees old.now.trees
  removal_spares is idle old new r ran has passing =
      let w = runs_as text params old new book_schema has (Delete at (record { lets = []; body = whole tests shows (tree_of table) })) is plain ran.0 ran.1 in
      let made = deleted book_schema at it found tests shows old new _ params ran.0 r given idle passing has w in
      subst (λ (s : Schema). AllByRecursion (λ x. x.tree ≢ tree_of table → new.now.trees x.tree ≡ old.now.trees x.tree) s.tables) has made.others

  -- an UPDATE of the row of a key
  makes_change : (change : Columns → Columns) → command_of (understood book_schema text) ≡ Update at (record { lets = []; body = whole tests shows (tree_of table) })
      → ((olds : List Row) (new : Row) → works book_schema Enforced 0 (tree_of table) olds (new ∷ []) ≡ [])
      → ((tables : Tables) → needs tables → (was : Columns) × HasOne table key tables was × ((r : Row) → shown table r ≡ was → shown table (anew r) ≡ change was))
      → (old new : State) → Ran text params old new → Makes old new needs (with_change table key change)
  makes_change change is idle one_of old new ran =
      let rows = old.now.trees (tree_of table) in
      let w = λ (has : old.now.schema ≡ book_schema). runs_as text params old new book_schema has (Update at (record { lets = []; body = whole tests shows (tree_of table) })) is plain ran.0 ran.1 in
      record {
        live = ran.2.was_open;
        stays = ran.2.is_open;
        inside = ran.2.mode;
        schema = λ has. updated_schema book_schema at it found _ old new _ params ran.0 has (w has) ∙ has;
        sound = λ has _. (w has).sound;
        holds = λ has t held need.
            let one = one_of t need in
            let stored = passing_one rows (t table) one.0 (held.rows table) one.1.one in
            let r = stored.0 in
            let made = updated book_schema at it found tests shows old new _ params ran.0 r given idle stored.1 has (w has) in
            let id : id_in (rowid (eval_all shows (params ∷ r ∷ []))) ≡ pos key = ap id_in (same_id r ∙ sym (fronted r) ∙ ap (λ (c : Columns). column c 0) stored.2 ∙ one.1.keyed) in
            let others = change_spares is idle old new r ran has stored.1 in
            let put : new.now.trees (tree_of table) ≡ put_row (anew r) (without_rowid (pos key) rows) = made.0.row_list ∙ ap (λ n. put_row (anew r) (without_rowid n rows)) id in
            let fresh : are_fresh (without_rowid (pos key) rows) (anew r ∷ []) ≡ true = subst (λ n. are_fresh (without_rowid n rows) (anew r ∷ []) ≡ true) id made.1 in
            let moved : IsPermutation (new.now.trees (tree_of table)) (anew r ∷ without_rowid (pos key) rows) = subst (λ l. IsPermutation l (anew r ∷ without_rowid (pos key) rows)) (sym put) (put_fresh (anew r) (without_rowid (pos key) rows) (free_of (without_rowid (pos key) rows) (anew r) fresh)) in
            changes table old.now.trees new.now.trees (change_where (is_key key) change) t others
            (IsPermutation-trans _ _ _ (IsPermutation-map (shown table) _ _ moved) (shows_anew table fronted key rows (t table) one.0 change (anew r) (held.rows table) one.1.one (one.2 r stored.2)))
            (subst AreApart (sym (stays new.now.trees old.now.trees (tree_of table) Posting others other)) held.apart) held;
        numbered = λ has t held need are.
            let one = one_of t need in
            let stored = passing_one rows (t table) one.0 (held.rows table) one.1.one in
            numbered_beside table old.now.trees new.now.trees (change_spares is idle old new stored.0 ran has stored.1) beside other are;
      }

  -- a DELETE of the row of a key
  makes_without : command_of (understood book_schema text) ≡ Delete at (record { lets = []; body = whole tests shows (tree_of table) })
      → ((olds : List Row) → works book_schema Enforced 0 (tree_of table) olds [] ≡ [])
      → ((tables : Tables) → needs tables → (was : Columns) × HasOne table key tables was)
      → (old new : State) → Ran text params old new → Makes old new needs (without_key table key)
  makes_without is idle one_of old new ran =
      let rows = old.now.trees (tree_of table) in
      let w = λ (has : old.now.schema ≡ book_schema). runs_as text params old new book_schema has (Delete at (record { lets = []; body = whole tests shows (tree_of table) })) is plain ran.0 ran.1 in
      record {
        live = ran.2.was_open;
        stays = ran.2.is_open;
        inside = ran.2.mode;
        schema = λ has. deleted_schema book_schema at it found _ old new _ params ran.0 has (w has) ∙ has;
        sound = λ has _. (w has).sound;
        holds = λ has t held need.
            let one = one_of t need in
            let stored = passing_one rows (t table) one.0 (held.rows table) one.1.one in
            let r = stored.0 in
            let made = deleted book_schema at it found tests shows old new _ params ran.0 r given idle stored.1 has (w has) in
            let id : id_in (rowid (eval_all shows (params ∷ r ∷ []))) ≡ pos key = ap id_in (same_id r ∙ sym (fronted r) ∙ ap (λ (c : Columns). column c 0) stored.2 ∙ one.1.keyed) in
            let others = removal_spares is idle old new r ran has stored.1 in
            let left : new.now.trees (tree_of table) ≡ without_rowid (pos key) rows = made.row_list ∙ ap (λ n. without_rowid n rows) id in
            changes table old.now.trees new.now.trees (filter (λ r. not (is_key key r))) t others
            (subst (λ l. IsPermutation (map (shown table) l) (filter (λ r. not (is_key key r)) (t table))) (sym left) (left_shows table fronted key rows (t table) (held.rows table)))
            (subst AreApart (sym (stays new.now.trees old.now.trees (tree_of table) Posting others other)) held.apart) held;
        numbered = λ has t held need are.
            let one = one_of t need in
            let stored = passing_one rows (t table) one.0 (held.rows table) one.1.one in
            numbered_beside table old.now.trees new.now.trees (removal_spares is idle old new stored.0 ran has stored.1) beside other are;
      }

abbrev pub by_key : List Term
by_key = op2 (Compare Eq Binary) (col 1 0) (col 0 0) ∷ []

abbrev pub service_update : List ℕ
service_update = codes "UPDATE customer SET since = ?2, until = ?3 WHERE id = ?1"

abbrev pub service_shows : List Term
service_shows = col 1 0 ∷ col 1 0 ∷ lit Null ∷ col 1 2 ∷ col 0 1 ∷ col 0 2 ∷ []

pub service_update_is : command_of (understood book_schema service_update) ≡ Update 4 (record { lets = []; body = whole by_key service_shows 7 })
unfolding understood everything
service_update_is = refl

pub service_update_plain : IsPlain (understood book_schema service_update)
unfolding understood everything
service_update_plain = (refl, refl)

abbrev pub customer_anew : Value → Value → ℕ → Option ℕ → Row
customer_anew id section since until = cast_row (record customer_table { tree = 7 }) (id ∷ Null ∷ section ∷ Int (pos since) ∷ number_or_null until ∷ [])

pub customer_served : (id section since : ℕ) (until : Option ℕ) → shown Customer (customer_anew (Int (pos id)) (Int (pos section)) since until) ≡ Int (pos id) ∷ Int (pos section) ∷ Int (pos since) ∷ number_or_null until ∷ []
customer_served id section since until = rw (cast_int (pos id), cast_int (pos section), cast_int (pos since), cast_optional until)

abbrev pub service_params : RollCustomer → Row
service_params c = Int (pos c.no) ∷ Int (pos c.since) ∷ number_or_null c.until ∷ []

pub sets_service : (old new : State) (c : RollCustomer) → Ran service_update (service_params c) old new → Makes old new (HasCustomer c.no) (with_change Customer c.no (serve c))
sets_service old new c ran =
    makes_change Customer 4 customer_table by_key service_shows service_update (service_params c) c.no (HasCustomer c.no) refl service_update_plain (λ r. refl) refl (λ r. refl) (λ e. omega (arith, e)) (λ e. omega (arith, e)) refl (serve c) service_update_is (λ olds it. refl)
    (λ t need. (
      customer_row need.customer,
      has_one Customer c.no need.customer.no (customer_row need.customer) t need.row refl,
      λ r is.
          ap (λ (x : Columns). shown Customer (customer_anew (column x 0) (column x 1) c.since c.until)) is ∙ customer_served need.customer.no need.customer.section c.since c.until,
    ))
    old new ran

abbrev pub correct_update : List ℕ
correct_update = codes "UPDATE entry SET rev = ?2, pos = ?3, second = ?4, cause = ?5, crew = ?6 WHERE id = ?1"

abbrev pub correct_shows : List Term
correct_shows = col 1 0 ∷ col 1 0 ∷ lit Null ∷ col 0 1 ∷ col 1 3 ∷ col 0 2 ∷ col 0 3 ∷ col 0 4 ∷ col 0 5 ∷ col 1 8 ∷ []

pub correct_update_is : command_of (understood book_schema correct_update) ≡ Update 5 (record { lets = []; body = whole by_key correct_shows 8 })
unfolding understood everything
correct_update_is = refl

pub correct_update_plain : IsPlain (understood book_schema correct_update)
unfolding understood everything
correct_update_plain = (refl, refl)

abbrev pub entry_anew : Value → Value → Value → Value → Value → Value → Value → Value → Row
entry_anew id revision device position second cause crew kept = cast_row (record entry_table { tree = 8 }) (id ∷ Null ∷ revision ∷ device ∷ position ∷ second ∷ cause ∷ crew ∷ kept ∷ [])

pub entry_stored : (id revision device position second cause : ℕ) (crew : List ℕ) (kept : ℕ)
    → shown Entry (entry_anew (Int (pos id)) (Int (pos revision)) (Int (pos device)) (Int (pos position)) (Int (pos second)) (Int (pos cause)) (Text crew) (Int (pos kept)))
    ≡ Int (pos id) ∷ Int (pos revision) ∷ Int (pos device) ∷ Int (pos position) ∷ Int (pos second) ∷ Int (pos cause) ∷ Text crew ∷ Int (pos kept) ∷ []
entry_stored id revision device position second cause crew kept =
    rw (cast_int (pos id), cast_int (pos revision), cast_int (pos device), cast_int (pos position), cast_int (pos second), cast_int (pos cause), cast_int (pos kept))

abbrev pub correct_params : SheetEntry → Row
correct_params e = Int (pos e.no) ∷ Int (pos e.rev) ∷ Int (pos (position_number e.pos)) ∷ Int (pos e.second) ∷ Int (pos e.cause) ∷ Text e.crew ∷ []

pub corrects_entry : (old new : State) (e : SheetEntry) → Ran correct_update (correct_params e) old new → Makes old new (HasEntry e.no) (with_change Entry e.no (correct e))
corrects_entry old new e ran =
    makes_change Entry 5 entry_table by_key correct_shows correct_update (correct_params e) e.no (HasEntry e.no) refl correct_update_plain (λ r. refl) refl (λ r. refl) (λ e. omega (arith, e)) (λ e. omega (arith, e)) refl (correct e) correct_update_is (λ olds it. refl)
    (λ t need. (
      entry_row need.entry,
      has_one Entry e.no need.entry.no (entry_row need.entry) t need.row refl,
      λ r is.
          ap (λ (c : Columns). shown Entry (entry_anew (column c 0) (Int (pos e.rev)) (column c 2) (Int (pos (position_number e.pos))) (Int (pos e.second)) (Int (pos e.cause)) (Text e.crew) (column c 7))) is
          ∙ entry_stored need.entry.no e.rev need.entry.device (position_number e.pos) e.second e.cause e.crew (bit need.entry.kept),
    ))
    old new ran

abbrev pub withdraw_update : List ℕ
withdraw_update = codes "UPDATE entry SET rev = ?2, kept = 0 WHERE id = ?1"

abbrev pub withdraw_shows : List Term
withdraw_shows = col 1 0 ∷ col 1 0 ∷ lit Null ∷ col 0 1 ∷ col 1 3 ∷ col 1 4 ∷ col 1 5 ∷ col 1 6 ∷ col 1 7 ∷ lit (Int (pos 0)) ∷ []

pub withdraw_update_is : command_of (understood book_schema withdraw_update) ≡ Update 5 (record { lets = []; body = whole by_key withdraw_shows 8 })
unfolding understood everything
withdraw_update_is = refl

pub withdraw_update_plain : IsPlain (understood book_schema withdraw_update)
unfolding understood everything
withdraw_update_plain = (refl, refl)

pub withdraws_entry : (old new : State) (id revision : ℕ) → Ran withdraw_update (Int (pos id) ∷ Int (pos revision) ∷ []) old new → Makes old new (HasEntry id) (with_change Entry id (withdraw revision))
withdraws_entry old new id revision ran =
    makes_change Entry 5 entry_table by_key withdraw_shows withdraw_update _ id (HasEntry id) refl withdraw_update_plain (λ r. refl) refl (λ r. refl) (λ e. omega (arith, e)) (λ e. omega (arith, e)) refl (withdraw revision) withdraw_update_is (λ olds it. refl)
    (λ t need. (
      entry_row need.entry,
      has_one Entry id need.entry.no (entry_row need.entry) t need.row refl,
      λ r is.
          ap (λ (c : Columns). shown Entry (entry_anew (column c 0) (Int (pos revision)) (column c 2) (column c 3) (column c 4) (column c 5) (column c 6) (Int (pos 0)))) is
          ∙ entry_stored need.entry.no revision need.entry.device (position_number need.entry.pos) need.entry.second need.entry.cause need.entry.crew 0,
    ))
    old new ran

abbrev pub mark_delete : List ℕ
mark_delete = codes "DELETE FROM mark WHERE day = ?1"

pub mark_delete_is : command_of (understood book_schema mark_delete) ≡ Delete 6 (record { lets = []; body = whole by_key (col 1 0 ∷ []) 9 })
unfolding understood everything
mark_delete_is = refl

pub mark_delete_plain : IsPlain (understood book_schema mark_delete)
unfolding understood everything
mark_delete_plain = (refl, refl)

pub drops_mark : (old new : State) (day : ℕ) → Ran mark_delete (Int (pos day) ∷ []) old new → Makes old new (HasMark day) (without_key Mark day)
drops_mark old new day ran =
    makes_without Mark 6 mark_table by_key (col 1 0 ∷ []) mark_delete _ day (HasMark day) refl mark_delete_plain (λ r. refl) refl (λ r. refl) (λ e. omega (arith, e)) (λ e. omega (arith, e)) refl mark_delete_is (λ olds. refl)
    (λ t need. (mark_row day need.0, record { one = need.1; keyed = refl })) old new ran

abbrev pub life_update : List ℕ
life_update = codes "UPDATE life SET since = ?2, until = ?3 WHERE device = ?1"

abbrev pub life_shows : List Term
life_shows = col 1 0 ∷ col 1 0 ∷ lit Null ∷ col 0 1 ∷ col 0 2 ∷ []

pub life_update_is : command_of (understood book_schema life_update) ≡ Update 10 (record { lets = []; body = whole by_key life_shows 16 })
unfolding understood everything
life_update_is = refl

pub life_update_plain : IsPlain (understood book_schema life_update)
unfolding understood everything
life_update_plain = (refl, refl)

abbrev pub life_anew : Value → ℕ → Option ℕ → Row
life_anew device since until = cast_row (record life_table { tree = 16 }) (device ∷ Null ∷ Int (pos since) ∷ number_or_null until ∷ [])

pub life_relived : (device since : ℕ) (until : Option ℕ) → shown Life (life_anew (Int (pos device)) since until) ≡ Int (pos device) ∷ Int (pos since) ∷ number_or_null until ∷ []
life_relived device since until = rw (cast_int (pos device), cast_int (pos since), cast_optional until)

pub relives : (old new : State) (device : ℕ) (life : ALife) → Ran life_update (life_params device life) old new → Makes old new (HasLife device) (with_change Life device (relive life))
relives old new device life ran =
    makes_change Life 10 life_table by_key life_shows life_update (life_params device life) device (HasLife device) refl life_update_plain (λ r. refl) refl (λ r. refl) (λ e. omega (arith, e)) (λ e. omega (arith, e)) refl (relive life) life_update_is (λ olds it. refl)
    (λ t need. (
      life_row device need.life,
      record { one = need.row; keyed = refl },
      λ r is. ap (λ (c : Columns). shown Life (life_anew (column c 0) life.since life.until)) is ∙ life_relived device life.since life.until,
    ))
    old new ran

abbrev pub body_update : List ℕ
body_update = codes "UPDATE cmd SET body = ?2 WHERE id = ?1"

abbrev pub body_shows : List Term
body_shows = col 1 0 ∷ col 1 0 ∷ lit Null ∷ col 1 2 ∷ col 0 1 ∷ []

pub body_update_is : command_of (understood book_schema body_update) ≡ Update 7 (record { lets = []; body = whole by_key body_shows 10 })
unfolding understood everything
body_update_is = refl

pub body_update_plain : IsPlain (understood book_schema body_update)
unfolding understood everything
body_update_plain = (refl, refl)

abbrev pub command_anew : Value → Value → List ℕ → Row
command_anew id reference body = cast_row (record command_table { tree = 10 }) (id ∷ Null ∷ reference ∷ Text body ∷ [])

pub command_rebodied : (id : ℕ) (reference body : List ℕ) → shown Command (command_anew (Int (pos id)) (Text reference) body) ≡ Int (pos id) ∷ Text reference ∷ Text body ∷ []
command_rebodied id reference body = rw (cast_int (pos id))

pub rebodies : (old new : State) (id : ℕ) (body : List ℕ) → Ran body_update (Int (pos id) ∷ Text body ∷ []) old new → Makes old new (HasCommand id) (with_change Command id (rebody body))
rebodies old new id body ran =
    makes_change Command 7 command_table by_key body_shows body_update _ id (HasCommand id) refl body_update_plain (λ r. refl) refl (λ r. refl) (λ e. omega (arith, e)) (λ e. omega (arith, e)) refl (rebody body) body_update_is (λ olds it. refl)
    (λ t need. (
      command_row id need.reference need.body,
      record { one = need.row; keyed = refl },
      λ r is. ap (λ (c : Columns). shown Command (command_anew (column c 0) (column c 1) body)) is ∙ command_rebodied id need.reference body,
    ))
    old new ran

abbrev pub version_update : List ℕ
version_update = codes "UPDATE meta SET version = ?2 WHERE id = ?1"

abbrev pub version_shows : List Term
version_shows = col 1 0 ∷ col 1 0 ∷ lit Null ∷ col 0 1 ∷ col 1 3 ∷ col 1 4 ∷ col 1 5 ∷ []

pub version_update_is : command_of (understood book_schema version_update) ≡ Update 0 (record { lets = []; body = whole by_key version_shows 0 })
unfolding understood everything
version_update_is = refl

pub version_update_plain : IsPlain (understood book_schema version_update)
unfolding understood everything
version_update_plain = (refl, refl)

abbrev pub meta_anew : Value → ℕ → Value → Value → Value → Row
meta_anew id version first_day days zone = cast_row (record meta_table { tree = 0 }) (id ∷ Null ∷ Int (pos version) ∷ first_day ∷ days ∷ zone ∷ [])

pub meta_reversioned : (version : ℕ) (first_day : List ℕ) (days : ℕ) (zone : List ℕ) → shown Meta (meta_anew (Int (pos 1)) version (Text first_day) (Int (pos days)) (Text zone)) ≡ Int (pos 1) ∷ Int (pos version) ∷ Text first_day ∷ Int (pos days) ∷ Text zone ∷ []
meta_reversioned version first_day days zone = rw (cast_int (pos 1), cast_int (pos version), cast_int (pos days))

pub reversions : (old new : State) (version : ℕ) → Ran version_update (Int (pos 1) ∷ Int (pos version) ∷ []) old new → Makes old new HasHeading (with_change Meta 1 (reversion version))
reversions old new version ran =
    makes_change Meta 0 meta_table by_key version_shows version_update _ 1 HasHeading refl version_update_plain (λ r. refl) refl (λ r. refl) (λ e. omega (arith, e)) (λ e. omega (arith, e)) refl (reversion version) version_update_is (λ olds it. refl)
    (λ t need. (
      meta_row need.version need.first_day need.days need.zone,
      record { one = need.row; keyed = refl },
      λ r is. ap (λ (c : Columns). shown Meta (meta_anew (column c 0) version (column c 2) (column c 3) (column c 4))) is ∙ meta_reversioned version need.first_day need.days need.zone,
    ))
    old new ran
