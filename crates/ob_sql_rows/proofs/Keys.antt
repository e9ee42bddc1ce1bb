-- What the rules of the tables ask of a row that is put in: a free key, a name that no other row has, a size that fits.
use Rattle.std.proofs.Common.{◌≡◌, ◌≢◌, inl, inr, ℕ, ◌+◌, ◌^◌, ◌<◌, ◌≤◌, pos, negsuc, ℤ, List, [], ◌∷◌, map, length, Bool, true, false, not, ◌&&◌, ◌||◌, Some, refl, sym, ap, subst, subst₂, ◌∙◌, arith, slice_get, eqb, lt-ltb, eq-eqb, ne_eqb}
use Rattle.std.specs.Prelude.{⊤}
use Rattle.std.specs.List.{AllByRecursion, list_any, list_all}
use Rattle.std.specs.List.Sorted.{IsPermutation}
use Rattle.std.specs.Ordering.{is_eq}
use Rattle.std.specs.Float.{NotNan}
use Rattle.std.specs.Float.Ieee
use Rattle.std.proofs.lemmas.Bool.{cases_eq, and_parts, and_from, and_cases, both_ways, not-true, not_from_false, false_from_ne_true}
use Rattle.std.proofs.lemmas.Cmp.{tied_itself}
use Rattle.std.proofs.lemmas.List.Elements.{All-from_recursion}
use Rattle.std.proofs.lemmas.List.Sums.{sum_by-le}
use Rattle.std.proofs.lemmas.List.Sorted.{list_any-IsPermutation}
use Rattle.sqlite_value.specs.Order.{value_cmp, number, bytes}
use Rattle.sqlite_value.specs.Keys.{plain}
use Rattle.sqlite_value.specs.declared.keys.Order.{Order}
use Rattle.sqlite_value.proofs.OrderLemmas.{value_cmp_total}
use Rattle.sqlite_value.proofs.KeyLemmas.{first_key-plain}
use Rattle.sqlite.specs.Order.{Row, column}
use Rattle.sqlite.specs.declared.types.Value.{Value}
use Rattle.sqlite.specs.declared.types.Value.TheVariants.{Null, Int, Text, Real, Blob}
use Rattle.sqlite.specs.Collation.TheVariants.{Binary}
use Rattle.sqlite.specs.Ops.{binary}
use Rattle.sqlite.specs.Tree.{Trees, put_row, rowid, has_rowid, without_rowid}
use Rattle.sqlite.specs.Table as sql
use Rattle.sqlite.specs.Schema.{Schema}
use Rattle.sqlite.specs.Effect.{Database, IsDatabase}
use Rattle.sqlite_trees.specs.Tree.{with_tree, IsAscending}
use Rattle.sqlite_trees.specs.View.{is_int, IsStorable, IsStorableRow}
use Rattle.sqlite_trees.proofs.ListLemmas.{all_weaker}
use Rattle.sqlite_sql.specs.Ops.{fits_i64}
use Rattle.sqlite_sql.specs.Catalog.{entry_of}
use Rattle.sqlite_schema.specs.declared.schema.Constraint.TheVariants.{Datatype, NotNull, Check, Unique}
use Rattle.sqlite_schema.specs.declared.schema.Index.{Index}
use Rattle.sqlite_schema.specs.Rules.{equal, differ, agree, clashes, guards, passes, Keeps, Obeys, table_reals, index_reals}
use Rattle.sqlite_catalog.specs.Listing.{IsSound}
use Rattle.sqlite_rules.specs.Lists.{Has}
use Rattle.sqlite_rules.specs.Edit.{id_in, is_taken}
use Rattle.sqlite_rules.proofs.ListLemmas.{all_has, all_from, test_has, test_from, some_has, some_from, has_filtered, has_got}
use Rattle.sqlite_rules.proofs.KeyLemmas.{agree_back, differ_back}
use Rattle.sqlite_rules.proofs.TableLemmas.{put_has}
use Rattle.sqlite_rules.proofs.RuleLemmas.{same_table, keeps_at, keeps_from}
use Rattle.ob_sql_rows.specs.Schema.{book_schema}
use Rattle.ob_sql_rows.specs.Rows.{Columns, Tables, Holds, shown, tree_of, is_key}
use Rattle.ob_sql_rows.specs.Rules.{HasKey, LacksKey, IsShort}
use Rattle.ob_sql_rows.specs.declared.table.Table.{Table}
use Rattle.ob_sql_rows.proofs.Entering.{Enters}
use Rattle.ob_sql_rows.proofs.Keyed.{and_true, same_test}

-- ---- lists
any_map : {X Y : Type 0} (p : Y → Bool) (f : X → Y) (xs : List X) → list_any p (map f xs) ≡ list_any (λ x. p (f x)) xs
any_map p f [] = refl
any_map p f (x ∷ xs) = ap (λ b. p (f x) || b) (any_map p f xs)

pub any_alike : {X : Type 0} (p q : X → Bool) → ((x : X) → p x ≡ q x) → (xs : List X) → list_any p xs ≡ list_any q xs
any_alike p q same [] = refl
any_alike p q same (x ∷ xs) = ap (λ b. b || list_any p xs) (same x) ∙ ap (λ b. q x || b) (any_alike p q same xs)

-- where what passes the one test passes the other, and none passes the other
pub any_fewer : {X : Type 0} (p q : X → Bool) → ((x : X) → p x ≡ true → q x ≡ true) → (xs : List X) → list_any q xs ≡ false → list_any p xs ≡ false
any_fewer p q implies xs none = false_from_ne_true _ (λ some. let found = some_has p xs some in both_ways _ none (some_from q xs found.0 found.1 (implies found.0 found.2)))

-- the stored rows pass a test of what they show as the rows of the table do, whatever the order
pub any_shown : (table : Table) (p : Columns → Bool) (rows : List Row) (ts : List Columns) → IsPermutation (map (shown table) rows) ts → list_any (λ r. p (shown table r)) rows ≡ list_any p ts
any_shown table p rows ts held = sym (any_map p (shown table) rows) ∙ list_any-IsPermutation p (map (shown table) rows) ts held

-- ---- keys
module _ (table : Table) (fronted : (r : Row) → column (shown table r) 0 ≡ rowid r) (id : ℕ) where
  key_is : (r : Row) → is_key id (shown table r) ≡ equal Binary (rowid r) (Int (pos id))
  key_is r = and_true (equal Binary (column (shown table r) 0) (Int (pos id))) ∙ ap (λ v. equal Binary v (Int (pos id))) (fronted r)

  -- whether a row has the key
  pub any_key : (db : Trees) (t : Tables) → Holds db t → list_any (λ r. equal Binary (rowid r) (Int (pos id))) (db (tree_of table)) ≡ list_any (is_key id) (t table)
  any_key db t held =
      any_alike (λ r. equal Binary (rowid r) (Int (pos id))) (λ r. is_key id (shown table r)) (λ r. sym (key_is r)) (db (tree_of table))
      ∙ any_shown table (is_key id) (db (tree_of table)) (t table) (held.rows table)

  pub any_rowid : (db : Trees) (t : Tables) → Holds db t → list_any (has_rowid (pos id)) (db (tree_of table)) ≡ list_any (is_key id) (t table)
  any_rowid db t held = any_alike (has_rowid (pos id)) (λ r. equal Binary (rowid r) (Int (pos id))) (λ r. sym (same_test (rowid r) (pos id))) (db (tree_of table)) ∙ any_key db t held

  -- a stored row has the key
  pub key_there : (db : Trees) (t : Tables) → Holds db t → HasKey table id t → (r : Row) × Has (db (tree_of table)) r × (equal Binary (rowid r) (Int (pos id)) ≡ true)
  key_there db t held has = some_has (λ r. equal Binary (rowid r) (Int (pos id))) (db (tree_of table)) (any_key db t held ∙ has)

  -- a row of the key may be put in
  pub key_free : (db : Trees) (t : Tables) → Holds db t → LacksKey table id t → (row : Row) → rowid row ≡ Int (pos id) → is_taken (db (tree_of table)) row ≡ false
  key_free db t held none row keyed = ap (λ v. list_any (λ r. is_eq (value_cmp (rowid r) v)) (db (tree_of table))) keyed ∙ any_rowid db t held ∙ none

-- a row may be put in anew once it was taken out
pub left_free : (id : ℤ) (rows : List Row) (row : Row) → rowid row ≡ Int id → is_taken (without_rowid id rows) row ≡ false
left_free id rows row keyed = ap (λ v. list_any (λ r. is_eq (value_cmp (rowid r) v)) (without_rowid id rows)) keyed ∙ none
  where
    none : list_any (has_rowid id) (without_rowid id rows) ≡ false
    none = false_from_ne_true _ (λ some.
        let found = some_has (has_rowid id) (without_rowid id rows) some in
        both_ways _ (not-true _ (has_filtered (λ r. not (has_rowid id r)) rows found.0 found.1).1) found.2)

-- the rows that are left were there before
pub left_was : (id : ℤ) (rows : List Row) (r : Row) → Has (without_rowid id rows) r → Has rows r
left_was id rows r there = (has_filtered (λ x. not (has_rowid id x)) rows r there).0

-- ---- unique columns
differ_self : (v : Value) → differ v v ≡ false
unfolding binary
differ_self Null = refl
differ_self (Int n) = rw (tied_itself value_cmp_total (Int n))
differ_self (Real x) = rw (tied_itself value_cmp_total (Real x))
differ_self (Text t) = rw (tied_itself value_cmp_total (Text t))
differ_self (Blob b) = rw (tied_itself value_cmp_total (Blob b))

-- under the plain order two rows agree where they are equal at each place
pub agree_plain : (places : List ℕ) (a b : Row) → agree plain places a places b ≡ list_all (λ p. equal Binary (column a p) (column b p)) places
agree_plain [] a b = refl
agree_plain (p ∷ places) a b = rw first_key-plain (ap (λ t. equal Binary (column a p) (column b p) && t) (agree_plain places a b))

-- where no row of the table is as the row is at these places, none clashes with it. Of tables and rows that are written out `λ r h. h` shows `implied`
pub clash_free : (table : Table) (p : Columns → Bool) (places : List ℕ) (row : Row) → ((r : Row) → list_all (λ q. equal Binary (column r q) (column row q)) places ≡ true → p (shown table r) ≡ true)
    → (db : Trees) (t : Tables) → Holds db t → list_any p (t table) ≡ false → clashes plain places (db (tree_of table)) row ≡ false
clash_free table p places row implied db t held none =
    any_fewer (λ other. agree plain places other places row && differ (rowid other) (rowid row)) (λ r. p (shown table r))
    (λ r both. implied r (sym (agree_plain places r row) ∙ (and_parts _ _ both).0)) (db (tree_of table)) (any_shown table p (db (tree_of table)) (t table) (held.rows table) ∙ none)

-- where a row keeps its rowid and its unique columns, it clashes with none of those that are left
pub clash_kept : (o : Order) (places : List ℕ) (rows : List Row) (id : ℤ) (was anew : Row) → ((other : Row) → agree o places other places anew ≡ agree o places other places was) → rowid anew ≡ rowid was
    → clashes o places rows was ≡ false → clashes o places (without_rowid id rows) anew ≡ false
clash_kept o places rows id was anew same keyed none = false_from_ne_true _ (λ some.
    let found = some_has (λ other. agree o places other places anew && differ (rowid other) (rowid anew)) (without_rowid id rows) some in
    let parts = and_parts _ _ found.2 in
    both_ways _ none (some_from (λ other. agree o places other places was && differ (rowid other) (rowid was)) rows found.0 (left_was id rows found.0 found.1)
    (and_from _ _ (sym (same found.0) ∙ parts.0) (subst (λ v. differ (rowid found.0) v ≡ true) keyed parts.1))))

-- the row clashes with none of these under a unique index of its table
abbrev pub is_new : Schema → sql.Table → List Row → Row → Bool
is_new schema table rows row = list_all (λ i. not (guards i table && clashes i.order i.columns rows row)) schema.indexes

pub new_at : (schema : Schema) (table : sql.Table) (rows : List Row) (row : Row) → is_new schema table rows row ≡ true → (i : Index) → Has schema.indexes i → guards i table ≡ true → clashes i.order i.columns rows row ≡ false
new_at schema table rows row fresh i known on =
    elim (and_cases (guards i table) (clashes i.order i.columns rows row) (not-true _ (test_has (λ x. not (guards x table && clashes x.order x.columns rows row)) schema.indexes i fresh known))) [
      | inl off ↦ absurd (both_ways _ off on)
      | inr none ↦ none
    ]

module _ (schema : Schema) (db next : Trees) (table : sql.Table) (left : List Row) (row : Row) (apart : IsAscending (λ a b. a.tree ≡ b.tree → ⊥) schema.tables) (listed : Has schema.tables table)
    (was : (r : Row) → Has left r → Has (db table.tree) r) (keeps : Keeps Unique schema db) (fresh : is_new schema table left row ≡ true)
    (here : next table.tree ≡ put_row row left) (others : (t : sql.Table) → Has schema.tables t → t.tree ≢ table.tree → next t.tree ≡ db t.tree) where
  no_clash : (i : Index) → Has schema.indexes i → guards i table ≡ true → (r : Row) → Has (put_row row left) r → clashes i.order i.columns (put_row row left) r ≡ true → ⊥
  no_clash i known on r there clash =
      let none = new_at schema table left row fresh i known on in
      let other = some_has (λ o. agree i.order i.columns o i.columns r && differ (rowid o) (rowid r)) (put_row row left) clash in
      let parts = and_parts _ _ other.2 in
      let back = and_from _ _ (agree_back i.order i.columns i.columns other.0 r parts.0) (differ_back (rowid other.0) (rowid r) parts.1) in
      elim (put_has row left other.0 other.1) [
        | inl new ↦ elim (put_has row left r there) [
          | inl same ↦ both_ways _ (differ_self (rowid row)) (subst₂ (λ x y. differ (rowid x) (rowid y) ≡ true) new same parts.1)
          | inr kept ↦ both_ways _ none (some_from (λ o. agree i.order i.columns o i.columns row && differ (rowid o) (rowid row)) left r kept
              (subst (λ x. (agree i.order i.columns r i.columns x && differ (rowid r) (rowid x)) ≡ true) new back))
        ]
        | inr before ↦ elim (put_has row left r there) [
          | inl same ↦ both_ways _ none (some_from (λ o. agree i.order i.columns o i.columns row && differ (rowid o) (rowid row)) left other.0 before
              (subst (λ x. (agree i.order i.columns other.0 i.columns x && differ (rowid other.0) (rowid x)) ≡ true) same other.2))
          | inr kept ↦ both_ways _ (new_at schema table (db table.tree) r (keeps_at Unique schema db table r keeps listed (was r kept)) i known on)
              (some_from (λ o. agree i.order i.columns o i.columns r && differ (rowid o) (rowid r)) (db table.tree) other.0 (was other.0 before) other.2)
        ]
      ]

  passes_here : (r : Row) → Has (put_row row left) r → is_new schema table (next table.tree) r ≡ true
  passes_here r there = test_from (λ i. not (guards i table && clashes i.order i.columns (next table.tree) r)) schema.indexes (λ i known. not_from_false _ (false_from_ne_true _ (λ both.
      let parts = and_parts _ _ both in no_clash i known parts.0 r there (subst (λ l. clashes i.order i.columns l r ≡ true) here parts.1))))

  -- no two rows have one name once the row was put in
  pub unique_put : Keeps Unique schema next
  unique_put = keeps_from Unique schema next (λ t r known there. elim (cases_eq t.tree table.tree) [
    | inl same ↦
        let is : t ≡ table = same_table schema.tables t table apart known listed same in
        subst (λ (x : sql.Table). is_new schema x (next x.tree) r ≡ true) (sym is) (passes_here r (subst (λ l. Has l r) (ap next same ∙ here) there))
    | inr other ↦
        let e : next t.tree ≡ db t.tree = others t known other in
        subst (λ l. is_new schema t l r ≡ true) (sym e) (keeps_at Unique schema db t r keeps known (subst (λ l. Has l r) e there))
  ])

abbrev are_apart : List sql.Table → Bool
are_apart [] = true
are_apart (t ∷ tables) = list_all (λ u. not (eqb t.tree u.tree)) tables && are_apart tables

apart_from : (tables : List sql.Table) → are_apart tables ≡ true → IsAscending (λ a b. a.tree ≡ b.tree → ⊥) tables
apart_from [] h = tt
apart_from (t ∷ tables) h =
    let parts = and_parts _ _ h in (
      all_from (λ (u : sql.Table). t.tree ≡ u.tree → ⊥) tables (λ u there same. both_ways _ (not-true _ (test_has (λ (x : sql.Table). not (eqb t.tree x.tree)) tables u parts.0 there)) (eq-eqb t.tree u.tree same)),
      apart_from tables parts.1,
    )

pub trees_apart : IsAscending (λ a b. a.tree ≡ b.tree → ⊥) book_schema.tables
trees_apart = apart_from book_schema.tables refl

-- the tables of a book with a row put among those that are left
pub put_unique : (db : Trees) (table : sql.Table) (left : List Row) (row : Row) → Has book_schema.tables table → ((r : Row) → Has left r → Has (db table.tree) r) → Keeps Unique book_schema db
    → is_new book_schema table left row ≡ true → Keeps Unique book_schema (with_tree db table.tree (put_row row left))
put_unique db table left row listed was keeps fresh =
    unique_put book_schema db (with_tree db table.tree (put_row row left)) table left row trees_apart listed was keeps fresh
    (rw (eq-eqb table.tree table.tree refl)) (λ t known other. rw (ne_eqb t.tree table.tree other))

-- ---- sizes
-- NULL, a number or a short text
abbrev pub IsSmall : Value → Type 0
IsSmall Null = ⊤
IsSmall (Int n) = ⊤
IsSmall (Real x) = ⊥
IsSmall (Text t) = IsShort t
IsSmall (Blob b) = ⊥

no_float : (v : Value) → IsSmall v → NotNan (number v)
unfolding Ieee.is_nan
no_float Null h = tt
no_float (Int (pos n)) h = tt
no_float (Int (negsuc n)) h = tt
no_float (Real x) h = absurd h
no_float (Text t) h = tt
no_float (Blob b) h = absurd h

small_size : (v : Value) → IsSmall v → 18 + length (bytes v) ≤ 100000018
small_size Null h = omega arith
small_size (Int n) h = omega arith
small_size (Real x) h = absurd h
small_size (Text t) h = omega (arith, h)
small_size (Blob b) h = absurd h

-- a few of them can be stored, in a row or in an index
pub storable : (row : Row) → 0 < length row → length row ≤ 9 → AllByRecursion IsSmall row → IsStorable 0 row
storable row some few small =
    let sized = sum_by-le (λ v. 18 + length (bytes v)) 100000018 row (All-from_recursion (λ v. 18 + length (bytes v) ≤ 100000018) row (all_weaker IsSmall (λ v. 18 + length (bytes v) ≤ 100000018) small_size row small)) in
    record {
      typed = λ c h. absurd (grind arith);
      columns = (some, omega (arith, few));
      numbers = All-from_recursion (λ v. NotNan (number v)) row (all_weaker IsSmall (λ v. NotNan (number v)) no_float row small);
      short = omega (arith, few, sized);
    }

pub storable_row : (row : Row) → 1 < length row → length row ≤ 9 → AllByRecursion IsSmall row → IsStorableRow 0 row
storable_row row some few small = (storable row (omega (arith, some)) few small, some)

-- ---- what is whole
pub obeyed : (now : Database) → now.schema ≡ book_schema → IsDatabase now → Obeys book_schema now.trees
obeyed now has sound = (subst (λ s. IsSound s now.trees) has sound).obeys

-- the entries of the indexes, as they are listed
abbrev pub HasEntries : sql.Table → Row → Type 0
HasEntries table row = AllByRecursion (λ i. i.table ≡ table.tree → IsStorable (index_reals (table_reals table) i.columns) (entry_of i.columns row)) book_schema.indexes

-- a row of a number enters its table among the rows that are left there
pub enters : (table : sql.Table) (at : ℕ) (db : Trees) (left : List Row) (row : Row) (id : ℕ) → slice_get book_schema.tables at ≡ Some table → ((r : Row) → Has left r → Has (db table.tree) r) → Keeps Unique book_schema db
    → rowid row ≡ Int (pos id) → id < 2 ^ 63 → is_taken left row ≡ false → is_new book_schema table left row ≡ true
    → passes Datatype book_schema db table row ≡ true → passes NotNull book_schema db table row ≡ true → passes Check book_schema db table row ≡ true
    → IsStorableRow (table_reals table) row → HasEntries table row → Enters book_schema db table left row
enters table at db left row id found was keeps keyed small free fresh typed present checked whole entries = record {
  keyed = ap is_int keyed;
  fits = ap (λ v. fits_i64 (id_in v)) keyed ∙ lt-ltb id (2 ^ 63) small;
  typed = typed;
  present = present;
  checked = checked;
  free = free;
  unique = put_unique db table left row (has_got book_schema.tables at table found) was keeps fresh;
  storable = whole;
  entries = λ i known. all_has (λ (x : Index). x.table ≡ table.tree → IsStorable (index_reals (table_reals table) x.columns) (entry_of x.columns row)) book_schema.indexes i entries known;
}
