-- One table is changed, and the others are as they were.
use Rattle.std.proofs.Common.{◌≡◌, ◌≢◌, ℕ, ◌==◌, Bool, true, false, not, ◌&&◌, List, [], ◌∷◌, ◌++◌, map, refl, sym, ap, subst, ◌∙◌, arith, true≢false}
use Rattle.std.specs.Prelude.{if◌then◌else◌}
use Rattle.std.specs.List.{AllByRecursion}
use Rattle.std.specs.List.Sorted.{IsPermutation}
use Rattle.std.proofs.lemmas.Bool.Decides.{nat_tests}
use Rattle.std.proofs.lemmas.List.Sorted.{IsPermutation-map, IsPermutation-trans, IsPermutation-sym, IsPermutation-cons, IsPermutation-to_front}
use Rattle.sqlite.specs.Order.{Row}
use Rattle.sqlite.specs.Tree.{Trees, put_row}
use Rattle.sqlite_rules.specs.Edit.{is_taken, are_fresh}
use Rattle.ob_sql_rows.specs.Schema.{book_schema}
use Rattle.ob_sql_rows.specs.Rows.{Columns, Tables, tree_of, shown, AreApart, Holds, with_table, with_row}
use Rattle.ob_sql_rows.specs.declared.table.Table.{Table}
use Rattle.ob_sql_rows.specs.declared.table.Table.TheVariants.{Meta, Cause, Node, Device, Life, Customer, Entry, Mark, Command, Moved, Posting}
use Rattle.ob_sql_rows.proofs.Put.{put_fresh}

abbrev pub OthersStay : ℕ → Trees → Trees → Type 0
OthersStay tree f g = AllByRecursion (λ it. it.tree ≢ tree → f it.tree ≡ g it.tree) book_schema.tables

pub stays : (f g : Trees) (tree : ℕ) (other : Table) → OthersStay tree f g → tree_of other ≢ tree → f (tree_of other) ≡ g (tree_of other)
stays f g tree Meta h apart = h.0 apart
stays f g tree Cause h apart = h.1.0 apart
stays f g tree Node h apart = h.1.1.0 apart
stays f g tree Device h apart = h.1.1.1.0 apart
stays f g tree Customer h apart = h.1.1.1.1.0 apart
stays f g tree Entry h apart = h.1.1.1.1.1.0 apart
stays f g tree Mark h apart = h.1.1.1.1.1.1.0 apart
stays f g tree Command h apart = h.1.1.1.1.1.1.1.0 apart
stays f g tree Moved h apart = h.1.1.1.1.1.1.1.1.0 apart
stays f g tree Posting h apart = h.1.1.1.1.1.1.1.1.1.0 apart
stays f g tree Life h apart = h.1.1.1.1.1.1.1.1.1.1.0 apart

-- the table that a tree holds
abbrev table_at : ℕ → Table
table_at n =
    if n == 0 then Meta else if n == 1 then Cause else if n == 3 then Node else if n == 5 then Device else if n == 7 then Customer else
    if n == 8 then Entry else if n == 9 then Mark else if n == 10 then Command else if n == 12 then Moved else if n == 16 then Life else Posting

found_at : (a : Table) → table_at (tree_of a) ≡ a
found_at Meta = refl
found_at Cause = refl
found_at Node = refl
found_at Device = refl
found_at Customer = refl
found_at Entry = refl
found_at Mark = refl
found_at Command = refl
found_at Moved = refl
found_at Posting = refl
found_at Life = refl

-- the tables after one of them was changed
pub changes : (table : Table) (old new : Trees) (change : List Columns → List Columns) (t : Tables) → OthersStay (tree_of table) new old
    → IsPermutation (map (shown table) (new (tree_of table))) (change (t table)) → AreApart (new 14) → Holds old t → Holds new (with_table table change t)
changes table old new change t others here apart holds = record { rows = λ other. each other (tree_of table == tree_of other) refl; apart = apart }
  where
    each : (other : Table) (same : Bool) → (tree_of table == tree_of other) ≡ same → IsPermutation (map (shown other) (new (tree_of other))) (if same then change (t other) else t other)
    each other true is =
        let e : tree_of table ≡ tree_of other = grind (arith, nat_tests) in
        let one : table ≡ other = sym (found_at table) ∙ ap table_at e ∙ found_at other in
        subst (λ o. IsPermutation (map (shown o) (new (tree_of o))) (change (t o))) one here
    each other false is =
        let e : tree_of other ≢ tree_of table = grind (arith, nat_tests) in
        subst (λ rows. IsPermutation (map (shown other) rows) (t other)) (sym (stays new old (tree_of table) other others e)) (holds.rows other)

pub free_of : (rows : List Row) (row : Row) → are_fresh rows (row ∷ []) ≡ true → is_taken rows row ≡ false
free_of rows row fresh = elim (is_taken rows row) as (λ b. (not b && true) ≡ true → b ≡ false) [ true ↦ λ e. absurd (true≢false (sym e)) | false ↦ λ e. refl ] fresh

-- one row is put in
pub adds : (table : Table) (old new : Trees) (row : Row) (t : Tables) → OthersStay (tree_of table) new old → new (tree_of table) ≡ put_row row (old (tree_of table))
    → are_fresh (old (tree_of table)) (row ∷ []) ≡ true → AreApart (new 14) → Holds old t → Holds new (with_row table (shown table row) t)
adds table old new row t others put fresh apart holds =
    let rows = old (tree_of table) in
    let more : IsPermutation (map (shown table) (put_row row rows)) (shown table row ∷ map (shown table) rows) = IsPermutation-map (shown table) _ _ (put_fresh row rows (free_of rows row fresh)) in
    let held : IsPermutation (shown table row ∷ map (shown table) rows) (shown table row ∷ t table) = IsPermutation-cons (shown table row) _ _ (holds.rows table) in
    let last : IsPermutation (shown table row ∷ t table) (t table ++ shown table row ∷ []) = IsPermutation-sym _ _ (IsPermutation-to_front (t table) (shown table row)) in
    changes table old new (λ rows. rows ++ shown table row ∷ []) t others
    (subst (λ rows. IsPermutation (map (shown table) rows) (t table ++ shown table row ∷ [])) (sym put) (IsPermutation-trans _ _ _ more (IsPermutation-trans _ _ _ held last))) apart holds
