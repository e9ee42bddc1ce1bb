-- Several rows of moved amounts that are put in together: what they make of the tables, and that the rules let them in.
use Rattle.std.proofs.Common.{◌≡◌, ◌≢◌, inl, inr, ℕ, ◌+◌, pos, List, [], ◌∷◌, map, drop, length, codes, true, false, not, ◌&&◌, refl, sym, ap, ap₂, subst, ◌∙◌, arith, true≢false}
use Rattle.std.specs.List.{AllByRecursion, list_all}
use Rattle.std.specs.List.Sorted.{IsPermutation}
use Rattle.std.proofs.lemmas.Bool.{and_from, and_parts, cases_eq, not-true}
use Rattle.sqlite_value.specs.Keys.{joined}
use Rattle.sqlite.specs.Order.{Row, column}
use Rattle.sqlite.specs.declared.types.Value.TheVariants.{Null, Int}
use Rattle.sqlite.specs.Term.{Term, lit, col}
use Rattle.sqlite.specs.Tree.{Trees, rowid, put_row}
use Rattle.sqlite.specs.Table as sql
use Rattle.sqlite.specs.Schema.{Schema}
use Rattle.sqlite.specs.Rowids.TheVariants.{Chosen}
use Rattle.sqlite.specs.Source.TheVariants.{Values}
use Rattle.sqlite.specs.Command.TheVariants.{Insert}
use Rattle.sqlite.specs.Listing.{understood}
use Rattle.sqlite.specs.Effect.{IsSource}
use Rattle.sqlite.specs.Rows.{stamped}
use Rattle.sqlite.specs.State.{State}
use Rattle.sqlite.proofs.Callers.{IsPlain, command_of, runs_as}
use Rattle.sqlite_tied.specs.Compute.{everything}
use Rattle.sqlite_trees.specs.Tree.{with_tree}
use Rattle.sqlite_sql.specs.Ops.{fits_i64}
use Rattle.sqlite_schema.specs.Names.{same_name}
use Rattle.sqlite_schema.specs.declared.schema.Constraint.TheVariants.{Datatype, NotNull, Check, PrimaryKey, Unique, ForeignKey}
use Rattle.sqlite_schema.specs.declared.schema.Keys.TheVariants.{Enforced}
use Rattle.sqlite_schema.specs.declared.schema.Reference.{Reference}
use Rattle.sqlite_schema.specs.Rules.{passes, Keeps, has_parent}
use Rattle.sqlite_rules.specs.declared.error.Refusal.{Refusal}
use Rattle.sqlite_rules.specs.declared.error.Refusal.TheVariants.{Violates, Mismatch, NoRowid, BadReference, TooDeep}
use Rattle.sqlite_rules.specs.Lists.{Has}
use Rattle.sqlite_rules.specs.Edit.{Edit, id_in, is_taken, next_rowid, numbered, put_all, are_fresh, have_rowids, is_referred, IsRefused, IsOversized, Applies}
use Rattle.sqlite_rules.specs.Action.{works}
use Rattle.sqlite_rules.specs.Cast.{cast_row}
use Rattle.sqlite_rules.proofs.ListLemmas.{all_has, has_got}
use Rattle.sqlite_rules.proofs.RuleLemmas.{keeps_at, keeps_from}
use Rattle.ob_sql_rows.specs.Schema.{book_schema}
use Rattle.ob_sql_rows.specs.Rows.{Tables, Holds, AreApart, Always, number, shown, tree_of, with_row, moved_row}
use Rattle.ob_sql_rows.specs.Rules.{AreNumbered, IsNumbered, HasKey}
use Rattle.ob_sql_rows.specs.Block.{with_moved_rows, LetsMovedRows, block_params}
use Rattle.ob_sql_rows.specs.Steps.{Ran, Makes, Failed, HasFailed, LetsIn}
use Rattle.ob_sql_rows.specs.declared.block.MovedAmount.{MovedAmount}
use Rattle.ob_sql_rows.specs.declared.table.Table.TheVariants.{Command, Moved, Posting}
use Rattle.ob_sql_rows.proofs.Casts.{cast_int, cast_null}
use Rattle.ob_sql_rows.proofs.Eight.{of_eight}
use Rattle.ob_sql_rows.proofs.Entering.{IsLetIn, Enters}
use Rattle.ob_sql_rows.proofs.Hiding.{a_moved, moved_at, moved_enters}
use Rattle.ob_sql_rows.proofs.Keys.{is_new, obeyed}
use Rattle.ob_sql_rows.proofs.Numbering.{next_number, numbered_moved}
use Rattle.ob_sql_rows.proofs.Parents.{finds_command, inserted_all_refers, sound_book}
use Rattle.ob_sql_rows.proofs.Refusing.{IsWrittenAs, no_rows, insert_all_edit, insert_all_lets, not_oversized}
use Rattle.ob_sql_rows.proofs.Statements.{inserted_all}
use Rattle.ob_sql_rows.proofs.Trees.{OthersStay, stays, adds}

-- what the INSERT is given for an amount
abbrev moved_source : ℕ → MovedAmount → Row
moved_source id m = Null ∷ Int (pos id) ∷ Int (pos m.dim) ∷ Int (pos m.key) ∷ Int m.delta ∷ []

abbrev sources : ℕ → List MovedAmount → List Row
sources id amounts = map (moved_source id) amounts

-- the rows that are stored behind these
abbrev news_of : ℕ → List MovedAmount → List Row → List Row
news_of id amounts rows = numbered Chosen rows (sources id amounts)

abbrev next_row : ℕ → MovedAmount → List Row → Row
next_row id m rows = moved_at (next_rowid rows) id m.dim m.key m.delta

cast_one : (id : ℕ) (m : MovedAmount) → cast_row a_moved (moved_source id m) ≡ moved_source id m
cast_one id m = rw (cast_null, cast_int (pos id), cast_int (pos m.dim), cast_int (pos m.key), cast_int m.delta) refl

casts : (id : ℕ) (amounts : List MovedAmount) → map (λ s. cast_row a_moved (drop 0 s)) (sources id amounts) ≡ sources id amounts
casts id [] = refl
casts id (m ∷ amounts) = ap₂ ◌∷◌ (cast_one id m) (casts id amounts)

-- so these rows are those of the edit
news_are : (id : ℕ) (amounts : List MovedAmount) (db : Trees) → (insert_all_edit db a_moved (sources id amounts)).news ≡ news_of id amounts (db 12)
news_are id amounts db = ap (numbered Chosen (db 12)) (casts id amounts)

-- ---- one row after another
abbrev with_next : Trees → Row → Trees
with_next db row = with_tree db 12 (put_row row (db 12))

others_stay : (db : Trees) (rows : List Row) → OthersStay 12 (with_tree db 12 rows) db
others_stay db rows =
    (λ _. refl, (λ _. refl, (λ _. refl, (λ _. refl, (λ _. refl, (λ _. refl, (λ _. refl, (λ _. refl, (λ e. absurd (e refl), (λ _. refl, (λ _. refl, tt)))))))))))

others_after : (new db : Trees) (row : Row) → OthersStay 12 new db → OthersStay 12 new (with_next db row)
others_after new db row h = (
  h.0,
  (
    h.1.0,
    (
      h.1.1.0,
      (
        h.1.1.1.0,
        (
          h.1.1.1.1.0,
          (
            h.1.1.1.1.1.0,
            (
              h.1.1.1.1.1.1.0,
              (h.1.1.1.1.1.1.1.0, (λ e. absurd (e refl), (h.1.1.1.1.1.1.1.1.1.0, (h.1.1.1.1.1.1.1.1.1.1.0, tt)))),
            ),
          ),
        ),
      ),
    ),
  ),
)

-- trees whose tables are the same hold the same, and have the same numbers
same_holds : (new old : Trees) (t : Tables) → OthersStay 12 new old → new 12 ≡ old 12 → Holds old t → Holds new t
same_holds new old t others same holds = record {
  rows = λ table. elim (cases_eq (tree_of table) 12) [
    | inl here ↦
        let e : new (tree_of table) ≡ old (tree_of table) = ap new here ∙ same ∙ ap old (sym here) in
        subst (λ rows. IsPermutation (map (shown table) rows) (t table)) (sym e) (holds.rows table)
    | inr other ↦ subst (λ rows. IsPermutation (map (shown table) rows) (t table)) (sym (stays new old 12 table others other)) (holds.rows table)
  ];
  apart = subst AreApart (sym (stays new old 12 Posting others (λ e. omega (arith, e)))) holds.apart;
}

same_numbers : (new old : Trees) → OthersStay 12 new old → new 12 ≡ old 12 → AreNumbered old → AreNumbered new
same_numbers new old others same are = record {
  moved = subst IsNumbered (sym same) are.moved;
  amounts = subst IsNumbered (sym (stays new old 12 Posting others (λ e. omega (arith, e)))) are.amounts;
}

-- the first row is added
first_added : (id : ℕ) (m : MovedAmount) (old : Trees) (t : Tables) → is_taken (old 12) (next_row id m (old 12)) ≡ false → Holds old t
    → Holds (with_next old (next_row id m (old 12))) (with_row Moved (moved_row id m.dim m.key m.delta) t)
first_added id m old t free holds =
    let row = next_row id m (old 12) in
    adds Moved old (with_next old row) row t (others_stay old (put_row row (old 12))) refl (ap (λ b. not b && true) free) holds.apart holds

first_numbered : (id : ℕ) (m : MovedAmount) (old : Trees) → AreNumbered old → AreNumbered (with_next old (next_row id m (old 12)))
first_numbered id m old are = let row = next_row id m (old 12) in numbered_moved old (with_next old row) row (others_stay old (put_row row (old 12))) refl refl are

-- and so are all of them
rows_added : (id : ℕ) (amounts : List MovedAmount) (old new : Trees) (t : Tables) → OthersStay 12 new old → new 12 ≡ put_all (old 12) (news_of id amounts (old 12))
    → are_fresh (old 12) (news_of id amounts (old 12)) ≡ true → Holds old t → Holds new (with_moved_rows id amounts t)
rows_added id [] old new t others put fresh holds = same_holds new old t others put holds
rows_added id (m ∷ amounts) old new t others put fresh holds =
    let row = next_row id m (old 12) in
    let parts = and_parts _ _ fresh in
    rows_added id amounts (with_next old row) new (with_row Moved (moved_row id m.dim m.key m.delta) t) (others_after new old row others) put parts.1
    (first_added id m old t (not-true _ parts.0) holds)

rows_numbered : (id : ℕ) (amounts : List MovedAmount) (old new : Trees) → OthersStay 12 new old → new 12 ≡ put_all (old 12) (news_of id amounts (old 12)) → AreNumbered old → AreNumbered new
rows_numbered id [] old new others put are = same_numbers new old others put are
rows_numbered id (m ∷ amounts) old new others put are =
    let row = next_row id m (old 12) in
    rows_numbered id amounts (with_next old row) new (others_after new old row others) put (first_numbered id m old are)

-- ---- the text of eight
abbrev pub block_insert : List ℕ
block_insert =
    codes "INSERT INTO moved (cmd, dim, k, delta) VALUES (?1, ?2, ?3, ?4), (?1, ?5, ?6, ?7), (?1, ?8, ?9, ?10), (?1, ?11, ?12, ?13), (?1, ?14, ?15, ?16), (?1, ?17, ?18, ?19), (?1, ?20, ?21, ?22), (?1, ?23, ?24, ?25)"

abbrev then_terms : ℕ → List Term → List Term
then_terms at rest = lit Null ∷ col 0 0 ∷ col 0 at ∷ col 0 (at + 1) ∷ col 0 (at + 2) ∷ rest

abbrev block_terms : List Term
block_terms = then_terms 1 (then_terms 4 (then_terms 7 (then_terms 10 (then_terms 13 (then_terms 16 (then_terms 19 (then_terms 22 [])))))))

block_insert_is : command_of (understood book_schema block_insert) ≡ Insert 8 (Values block_terms 5)
unfolding understood everything
block_insert_is = refl

block_insert_plain : IsPlain (understood book_schema block_insert)
unfolding understood everything
block_insert_plain = (refl, refl)

abbrev IsBlockSource : ℕ → List MovedAmount → Type 0
IsBlockSource id amounts = IsSource no_rows (block_params id amounts) (Values block_terms 5) (sources id amounts)

block_source : (id : ℕ) (amounts : List MovedAmount) → length amounts ≡ 8 → IsBlockSource id amounts
block_source id = of_eight (IsBlockSource id) (λ a b c d e f g h. (refl, refl))

block_timeless : (id : ℕ) (amounts : List MovedAmount) → length amounts ≡ 8 → stamped a_moved (block_params id amounts) ≡ block_params id amounts
block_timeless id = of_eight (λ all. stamped a_moved (block_params id all) ≡ block_params id all) (λ a b c d e f g h. refl)

-- no foreign key acts
none_act : (id : ℕ) (amounts : List MovedAmount) (db : Trees) → length amounts ≡ 8 → works book_schema Enforced 0 12 [] (insert_all_edit db a_moved (sources id amounts)).news ≡ []
none_act id amounts db =
    of_eight (λ all. works book_schema Enforced 0 12 [] (insert_all_edit db a_moved (sources id all)).news ≡ []) (λ a b c d e f g h. refl) amounts

-- an INSERT of eight adds them all
pub adds_block : (old new : State) (id : ℕ) (amounts : List MovedAmount) → length amounts ≡ 8 → Ran block_insert (block_params id amounts) old new → Makes old new Always (with_moved_rows id amounts)
adds_block old new id amounts long ran =
    let w = λ (has : old.now.schema ≡ book_schema). runs_as block_insert (block_params id amounts) old new book_schema has (Insert 8 (Values block_terms 5)) block_insert_is block_insert_plain ran.0 ran.1 in
    let made = λ (has : old.now.schema ≡ book_schema).
    inserted_all book_schema 8 a_moved refl block_terms 5 (sources id amounts) old new _ (block_params id amounts) ran.0 refl (block_timeless id amounts long) (sym (block_source id amounts long).1)
    (none_act id amounts old.now.trees long) has (w has) in
    let put = λ (has : old.now.schema ≡ book_schema).
    let it : new.now.trees 12 ≡ put_all (old.now.trees 12) (news_of id amounts (old.now.trees 12)) = (made has).0.row_list ∙ ap (put_all (old.now.trees 12)) (news_are id amounts old.now.trees) in it in
    let spared = λ (has : old.now.schema ≡ book_schema).
    let others : OthersStay 12 new.now.trees old.now.trees = subst (λ (s : Schema). AllByRecursion (λ x. x.tree ≢ 12 → new.now.trees x.tree ≡ old.now.trees x.tree) s.tables) has (made has).0.others in others in
    record {
      live = ran.2.was_open;
      stays = ran.2.is_open;
      inside = ran.2.mode;
      schema = λ has. (made has).0.schema ∙ has;
      sound = λ has _. (w has).sound;
      holds = λ has t holds _. rows_added id amounts old.now.trees new.now.trees t (spared has) (put has) (ap (are_fresh (old.now.trees 12)) (sym (news_are id amounts old.now.trees)) ∙ (made has).1) holds;
      numbered = λ has t holds _ are. rows_numbered id amounts old.now.trees new.now.trees (spared has) (put has) are;
    }

-- ---- they are let in
-- no two of them have one key, where the trees of the tables are those
same_unique : (new old : Trees) → OthersStay 12 new old → new 12 ≡ old 12 → Keeps Unique book_schema old → Keeps Unique book_schema new
same_unique new old others same keeps = keeps_from Unique book_schema new (λ t row known there.
    let is : new t.tree ≡ old t.tree = elim (cases_eq t.tree 12) [
      | inl here ↦ ap new here ∙ same ∙ ap old (sym here)
      | inr other ↦ all_has (λ (u : sql.Table). u.tree ≢ 12 → new u.tree ≡ old u.tree) book_schema.tables t others known other
    ] in
    subst (λ l. is_new book_schema t l row ≡ true) (sym is) (keeps_at Unique book_schema old t row keeps known (subst (λ l. Has l row) is there)))

-- the rows pass each rule but the foreign keys, among those that are there
record EnterAll (db : Trees) (id : ℕ) (news : List Row) : Type 0 where
  keyed : have_rowids news ≡ true
  fit : list_all (λ r. fits_i64 (id_in (rowid r))) news ≡ true
  typed : (base : Trees) → list_all (passes Datatype book_schema base a_moved) news ≡ true
  present : (base : Trees) → list_all (passes NotNull book_schema base a_moved) news ≡ true
  checked : (base : Trees) → list_all (passes Check book_schema base a_moved) news ≡ true
  fresh : are_fresh (db 12) news ≡ true
  unique : (next : Trees) → next 12 ≡ put_all (db 12) news → OthersStay 12 next db → Keeps Unique book_schema next
  sized : (row : Row) → Has news row → ¬ IsOversized book_schema a_moved row
  named : (row : Row) → Has news row → column row 1 ≡ number id

enter_all : (id : ℕ) (amounts : List MovedAmount) (db : Trees) (t : Tables) → Holds db t → AreNumbered db → Keeps Unique book_schema db → LetsMovedRows id amounts t → EnterAll db id (news_of id amounts (db 12))
enter_all id [] db t holds are keeps lets = record {
  keyed = refl;
  fit = refl;
  typed = λ base. refl;
  present = λ base. refl;
  checked = λ base. refl;
  fresh = refl;
  unique = λ next put others. same_unique next db others put keeps;
  sized = λ row none. absurd none;
  named = λ row none. absurd none;
}
enter_all id (m ∷ amounts) db t holds are keeps lets =
    let row = next_row id m (db 12) in
    let mid = with_next db row in
    let one : Enters book_schema db a_moved (db 12) row =
    subst (λ n. Enters book_schema db a_moved (db 12) (moved_at n id m.dim m.key m.delta)) (sym (next_number (db 12) are.moved)) (moved_enters db t id m.dim m.key m.delta holds are.moved keeps lets.0) in
    let more = enter_all id amounts mid (with_row Moved (moved_row id m.dim m.key m.delta) t) (first_added id m db t one.free holds) (first_numbered id m db are) one.unique lets.1 in
    record {
      keyed = and_from _ _ one.keyed more.keyed;
      fit = and_from _ _ one.fits more.fit;
      typed = λ base. and_from _ _ one.typed (more.typed base);
      present = λ base. and_from _ _ one.present (more.present base);
      checked = λ base. and_from _ _ one.checked (more.checked base);
      fresh = and_from _ _ (ap not one.free) more.fresh;
      unique = λ next put others. more.unique next put (others_after next db row others);
      sized = λ it listed. elim listed [ inl same ↦ not_oversized book_schema db a_moved (db 12) row it one same | inr later ↦ more.sized it later ];
      named = λ it listed. elim listed [ inl same ↦ ap (λ r. column r 1) same | inr later ↦ more.named it later ];
    }

-- of the edit's rows
enter_edit : (id : ℕ) (amounts : List MovedAmount) (s : State) → LetsIn s Always (LetsMovedRows id amounts) → EnterAll s.now.trees id (insert_all_edit s.now.trees a_moved (sources id amounts)).news
enter_edit id amounts s lets =
    subst (EnterAll s.now.trees id) (sym (news_are id amounts s.now.trees))
    (enter_all id amounts s.now.trees lets.tables lets.holds lets.numbered ((obeyed s.now lets.schema lets.sound).rules Unique) lets.allowed)

block_fits : (id : ℕ) (amounts : List MovedAmount) (db : Trees) → length amounts ≡ 8 → is_referred book_schema Enforced (insert_all_edit db a_moved (sources id amounts)) ≡ true
unfolding same_name joined
block_fits id amounts db = of_eight (λ all. is_referred book_schema Enforced (insert_all_edit db a_moved (sources id all)) ≡ true) (λ a b c d e f g h. refl) amounts

has_command : (id : ℕ) (amounts : List MovedAmount) (t : Tables) → length amounts ≡ 8 → LetsMovedRows id amounts t → HasKey Command id t
has_command id amounts t long = of_eight (λ all. LetsMovedRows id all t → HasKey Command id t) (λ a b c d e f g h lets. lets.0.0) amounts long

module _ (id : ℕ) (amounts : List MovedAmount) (long : length amounts ≡ 8) (s : State) (lets : LetsIn s Always (LetsMovedRows id amounts)) where
  abbrev the_edit : Edit
  the_edit = insert_all_edit s.now.trees a_moved (sources id amounts)

  all_enter : EnterAll s.now.trees id the_edit.news
  all_enter = enter_edit id amounts s lets

  refusal : (why : Refusal) → ¬ IsRefused book_schema Enforced s.now.trees the_edit why
  refusal (Violates Datatype) h = true≢false (sym (all_enter.typed s.now.trees) ∙ h)
  refusal (Violates NotNull) h = true≢false (sym (all_enter.present s.now.trees) ∙ h)
  refusal (Violates Check) h = true≢false (sym (all_enter.checked s.now.trees) ∙ h)
  refusal (Violates PrimaryKey) h = true≢false (sym all_enter.fresh ∙ h)
  refusal (Violates Unique) h = h (all_enter.unique (with_tree s.now.trees 12 (put_all (s.now.trees 12) the_edit.news)) refl (others_stay s.now.trees (put_all (s.now.trees 12) the_edit.news)))
  refusal (Violates ForeignKey) h = h
  refusal Mismatch h = true≢false (sym all_enter.keyed ∙ h)
  refusal NoRowid h = true≢false (sym all_enter.fit ∙ h)
  refusal BadReference h = true≢false (sym (block_fits id amounts s.now.trees long) ∙ h)
  refusal TooDeep h = h

  own_parent : (next : Trees) → Applies book_schema Enforced s.now.trees the_edit next → (row : Row) (ref : Reference) → Has the_edit.news row → Has a_moved.references ref → has_parent book_schema.tables next row ref ≡ true
  own_parent next done row ref fresh (inl same) =
      subst (λ q. has_parent book_schema.tables next row q ≡ true) (sym same)
      (finds_command s.now.trees next the_edit done lets.tables id 1 row (λ e. omega (arith, e)) lets.holds (has_command id amounts lets.tables long lets.allowed) (all_enter.named row fresh))
  own_parent next done row ref fresh (inr none) = absurd none

  block_let_in : IsLetIn book_schema s.now.trees the_edit
  block_let_in = record {
    refused = refusal;
    sized = all_enter.sized;
    parents = inserted_all_refers s.now.trees the_edit (has_got book_schema.tables 8 a_moved refl) (sound_book s lets.schema lets.sound) refl own_parent;
  }

block_written : (id : ℕ) (amounts : List MovedAmount) → length amounts ≡ 8 → IsWrittenAs book_schema block_insert (block_params id amounts) (Insert 8 (Values block_terms 5)) (understood book_schema block_insert)
unfolding understood everything
block_written id =
    of_eight (λ all. IsWrittenAs book_schema block_insert (block_params id all) (Insert 8 (Values block_terms 5)) (understood book_schema block_insert))
    (λ a b c d e f g h. record { whole = omega arith; given = refl; timeless = refl; plain = refl; is = refl })

-- and so the INSERT fails only where the store does
pub lets_block : (old new : State) (id : ℕ) (amounts : List MovedAmount) → length amounts ≡ 8 → Failed block_insert (block_params id amounts) old new → LetsIn old Always (LetsMovedRows id amounts) → HasFailed old new
lets_block old new id amounts long failed lets =
    insert_all_lets book_schema 8 a_moved refl block_terms 5 (sources id amounts) block_insert (block_params id amounts) (block_written id amounts long) refl (block_timeless id amounts long)
    (block_source id amounts long) old new (none_act id amounts old.now.trees long) lets.schema failed (block_let_in id amounts long old lets)
