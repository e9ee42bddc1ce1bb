-- An update of the one row of a key, or a delete of it, fails only where the store does.
use Rattle.std.proofs.Common.{◌≡◌, ◌⊎◌, ◌<◌, ◌^◌, ℕ, pos, List, [], ◌∷◌, filter, Bool, true, false, not, ◌&&◌, Option, Some, None, refl, sym, ap, subst, ◌∙◌, arith, slice_get, inl, inr, true≢false, eqb, eq-eqb}
use Rattle.std.specs.List.{AllByRecursion, list_all}
use Rattle.std.specs.Float.Ieee
use Rattle.std.proofs.lemmas.Bool.{both_ways, not-true}
use Rattle.sqlite_value.specs.Order.{value_cmp}
use Rattle.sqlite_value.specs.Keys.{plain, first_key}
use Rattle.sqlite_trees.specs.Tree.{with_tree}
use Rattle.sqlite_trees.specs.View.{IsStorable, IsStorableRow}
use Rattle.sqlite_sql.specs.Catalog.{entry_of}
use Rattle.sqlite_trees.proofs.ListLemmas.{all_of}
use Rattle.sqlite_schema.specs.declared.schema.Constraint.TheVariants.{Datatype, NotNull, Check, Unique}
use Rattle.sqlite_schema.specs.declared.schema.Index.{Index}
use Rattle.sqlite_schema.specs.declared.schema.Reference.{Reference}
use Rattle.sqlite_schema.specs.declared.schema.Keys.TheVariants.{Enforced}
use Rattle.sqlite_schema.specs.declared.schema.Among.TheVariants.{All}
use Rattle.sqlite_schema.specs.Rules.{clashes, equal, has_parent, passes, passes_checks, Keeps, Refers, table_reals, index_reals}
use Rattle.sqlite_rules.specs.Lists.{Has}
use Rattle.sqlite_rules.specs.InPlace.{AgreeAt}
use Rattle.sqlite_rules.specs.Edit.{id_in, Applies}
use Rattle.sqlite_rules.proofs.ListLemmas.{all_has, all_from, test_has, has_got, has_filtered}
use Rattle.sqlite_rules.proofs.RuleLemmas.{keeps_at}
use Rattle.sqlite_catalog.specs.Listing.{IsSound}
use Rattle.sqlite.specs.Ops.{binary}
use Rattle.sqlite.specs.Order.{Row, column}
use Rattle.sqlite.specs.Table as sql
use Rattle.sqlite.specs.Term.{Term, col, eval_all, holds}
use Rattle.sqlite.specs.Tree.{Trees, rowid, has_rowid, without_rowid}
use Rattle.sqlite.specs.declared.types.Value.TheVariants.{Null, Int, Text}
use Rattle.sqlite.specs.State.{State}
use Rattle.ob_base.specs.declared.Pos.{Pos}
use Rattle.ob_base.specs.declared.Pos.TheVariants.{Opened, Closed}
use Rattle.ob_base.specs.declared.life.Life.{Life as ALife}
use Rattle.ob_sheet.specs.declared.Entry.{Entry as SheetEntry}
use Rattle.ob_cust.specs.declared.Customer.{Customer as RollCustomer}
use Rattle.ob_sql_rows.specs.Schema.{book_schema, meta_table, customer_table, entry_table, mark_table, command_table, life_table}
use Rattle.ob_sql_rows.specs.Rows.{Columns, Tables, Holds, Always, tree_of, shown, number_or_null, position_number, bit, is_key, meta_row, customer_row, life_row, entry_row, mark_row, command_row, HasCustomer, HasLife, HasCommand, HasHeading, HasEntry, HasMark}
use Rattle.ob_sql_rows.specs.Rules.{IsShort, IsShortValue, HasShort, LetsBody, LetsVersion, LetsCorrected, LetsWithdrawn}
use Rattle.ob_sql_rows.specs.Steps.{Failed, HasFailed, LetsIn}
use Rattle.ob_sql_rows.specs.declared.table.Table.{Table}
use Rattle.ob_sql_rows.specs.declared.table.Table.TheVariants.{Meta, Life, Customer, Entry, Mark, Command}
use Rattle.ob_sql_rows.proofs.Adding.{life_params}
use Rattle.ob_sql_rows.proofs.Casts.{cast_int, cast_null, cast_optional}
use Rattle.ob_sql_rows.proofs.Entering.{Enters}
use Rattle.ob_sql_rows.proofs.Keyed.{filter_alike, HasOne, has_key, has_one, stored_one, by_key, service_update, service_params, service_shows, customer_anew, correct_update, correct_params, correct_shows, entry_anew, withdraw_update, withdraw_shows, mark_delete, life_update, life_shows, life_anew, body_update, body_shows, command_anew, version_update, version_shows, meta_anew}
use Rattle.ob_sql_rows.proofs.Keys.{enters, is_new, left_was, left_free, clash_kept, storable, storable_row, HasEntries}
use Rattle.ob_sql_rows.proofs.Parents.{updated_refers, deleted_refers, finds_cause, sound_book}
use Rattle.ob_sql_rows.proofs.Refusing.{update_edit, update_row, update_left, delete_edit}
use Rattle.ob_sql_rows.proofs.Texts.{service_fails, corrected_fails, withdrawn_fails, life_set_fails, body_fails, version_fails, unmarked_fails}

-- the row has this rowid, and passes each rule that speaks of no other row
record Suits (it : sql.Table) (key : ℕ) (row : Row) : Type 0 where
  pub keyed : rowid row ≡ Int (pos key)
  pub typed : (db : Trees) → passes Datatype book_schema db it row ≡ true
  pub present : (db : Trees) → passes NotNull book_schema db it row ≡ true
  pub checked : (db : Trees) → passes Check book_schema db it row ≡ true
  pub storable : IsStorableRow (table_reals it) row
  pub entries : HasEntries it row

-- where no index is the table's
unindexed : (it : sql.Table) (row : Row) → list_all (λ (i : Index). not (eqb i.table it.tree)) book_schema.indexes ≡ true → HasEntries it row
unindexed it row none = all_from (λ (i : Index). i.table ≡ it.tree → IsStorable (index_reals (table_reals it) i.columns) (entry_of i.columns row)) book_schema.indexes
    (λ i known is. absurd (both_ways _ (not-true _ (test_has (λ (x : Index). not (eqb x.table it.tree)) book_schema.indexes i none known)) (eq-eqb i.table it.tree is)))

-- ---- the row of a key

-- what the one row of the key shows is short where each such row is
short_of : (table : Table) (key : ℕ) (t : Tables) (was : Columns) → HasOne table key t was → HasShort table key t → AllByRecursion IsShortValue was
short_of table key t was one short =
    let had = has_filtered (is_key key) (t table) was (subst (λ l. Has l was) (sym one.one) (inl refl)) in
    all_has (λ row. is_key key row ≡ true → AllByRecursion IsShortValue row) (t table) was short had.0 had.1

module _ (table : Table) (base : sql.Table) (tests shows : List Term) (params : Row) (key : ℕ) (fronted : (r : Row) → column (shown table r) 0 ≡ rowid r)
    (tested : ◌≡◌ {A = Row → Bool} (λ r. is_key key (shown table r)) (λ r. list_all (holds (params ∷ r ∷ [])) tests)) (same_id : (r : Row) → rowid (eval_all shows (params ∷ r ∷ [])) ≡ rowid r) where
  abbrev it : sql.Table
  it = record base { tree = tree_of table }

  -- the one row that passes shows this, and is the one with the key for its rowid
  record Passing (db : Trees) (was : Columns) : Type 0 where
    pub row : Row
    pub passing : filter (λ x. list_all (holds (params ∷ x ∷ [])) tests) (db (tree_of table)) ≡ row ∷ []
    pub shows_it : shown table row ≡ was
    pub numbered : rowid row ≡ Int (pos key)
    pub alone : filter (has_rowid (pos key)) (db (tree_of table)) ≡ row ∷ []
    pub there : Has (db (tree_of table)) row

  one_passes : (db : Trees) (t : Tables) (was : Columns) → Holds db t → HasOne table key t was → Passing db was
  one_passes db t was held one =
      let rows = db (tree_of table) in
      let stored = stored_one table fronted key rows (t table) was (held.rows table) one.one in
      let r = stored.0 in
      record {
        row = r;
        passing = subst (λ p. filter p rows ≡ r ∷ []) tested stored.1;
        shows_it = stored.2;
        numbered = sym (fronted r) ∙ ap (λ (c : Columns). column c 0) stored.2 ∙ one.keyed;
        alone = filter_alike (has_rowid (pos key)) (λ x. is_key key (shown table x)) (has_key table fronted key) rows ∙ stored.1;
        there = (has_filtered (λ x. is_key key (shown table x)) rows r (subst (λ l. Has l r) (sym stored.1) (inl refl))).0;
      }

  -- the one row that passes, and what is written in its place, which is let in
  record CanPut (db : Trees) : Type 0 where
    pub row : Row
    pub passing : filter (λ x. list_all (holds (params ∷ x ∷ [])) tests) (db (tree_of table)) ≡ row ∷ []
    pub entering : Enters book_schema db it (update_left db it shows params row) (update_row it shows params row)
    pub parents : (next : Trees) → Applies book_schema Enforced db (update_edit db it shows params row) next → Refers All book_schema next

  can_put : (at : ℕ) → slice_get book_schema.tables at ≡ Some it → (db : Trees) (t : Tables) (was : Columns) (fresh : Row) → key < 2 ^ 32 → IsSound book_schema db → Holds db t → HasOne table key t was → Suits it key fresh
      → ((r : Row) → shown table r ≡ was → update_row it shows params r ≡ fresh)
      → ((r : Row) → Has (db (tree_of table)) r → shown table r ≡ was → rowid r ≡ Int (pos key) → is_new book_schema it (without_rowid (pos key) (db (tree_of table))) fresh ≡ true)
      → ((r : Row) → shown table r ≡ was → (next : Trees) → Applies book_schema Enforced db (update_edit db it shows params r) next
      → AllByRecursion (λ (ref : Reference). AgreeAt ref.columns r fresh ⊎ (has_parent book_schema.tables next fresh ref ≡ true)) base.references)
      → CanPut db
  can_put at found db t was fresh small sound held one suits is unique kept =
      let rows = db (tree_of table) in
      let left = without_rowid (pos key) rows in
      let one_row = one_passes db t was held one in
      let r = one_row.row in
      let id : id_in (rowid (eval_all shows (params ∷ r ∷ []))) ≡ pos key = ap id_in (same_id r ∙ one_row.numbered) in
      let same : update_row it shows params r ≡ fresh = is r one_row.shows_it in
      let puts : Enters book_schema db it left fresh =
      enters it at db left fresh key found (left_was (pos key) rows) (sound.obeys.rules Unique) suits.keyed (omega (arith, small)) (left_free (pos key) rows fresh suits.keyed)
      (unique r one_row.there one_row.shows_it one_row.numbered) (suits.typed db) (suits.present db) (suits.checked db) suits.storable suits.entries in
      let anew : Enters book_schema db it left (update_row it shows params r) = subst (Enters book_schema db it left) (sym same) puts in
      record {
        row = r;
        passing = one_row.passing;
        entering = subst (λ n. Enters book_schema db it (without_rowid n rows) (update_row it shows params r)) (sym id) anew;
        parents = updated_refers db (update_edit db it shows params r) (has_got book_schema.tables at it found) sound (pos key) r fresh (ap (λ n. n ∷ []) id) (ap (λ x. x ∷ []) same) one_row.alone (suits.keyed ∙ sym one_row.numbered) (kept r one_row.shows_it);
      }

-- ---- a customer's service
abbrev customer_it : sql.Table
customer_it = record customer_table { tree = 7 }

abbrev customer_stored : ℕ → ℕ → ℕ → Option ℕ → Row
customer_stored id section since until = Int (pos id) ∷ Null ∷ Int (pos section) ∷ Int (pos since) ∷ number_or_null until ∷ []

customer_cast : (id section since : ℕ) (until : Option ℕ) → customer_anew (Int (pos id)) (Int (pos section)) since until ≡ customer_stored id section since until
customer_cast id section since until = rw (cast_int (pos id), cast_null, cast_int (pos section), cast_int (pos since), cast_optional until)

customer_suits : (id section since : ℕ) (until : Option ℕ) → Suits customer_it id (customer_stored id section since until)
customer_suits id section since None = record {
  keyed = refl;
  typed = λ db. refl;
  present = λ db. refl;
  checked = λ db. refl;
  storable = storable_row (customer_stored id section since None) (omega arith) (omega arith) (tt, (tt, (tt, (tt, (tt, tt)))));
  entries = unindexed customer_it (customer_stored id section since None) refl;
}
customer_suits id section since (Some end) = record {
  keyed = refl;
  typed = λ db. refl;
  present = λ db. refl;
  checked = λ db. refl;
  storable = storable_row (customer_stored id section since (Some end)) (omega arith) (omega arith) (tt, (tt, (tt, (tt, (tt, tt)))));
  entries = unindexed customer_it (customer_stored id section since (Some end)) refl;
}

pub lets_service : (old new : State) (c : RollCustomer) → c.no < 2 ^ 32 → Failed service_update (service_params c) old new → LetsIn old (HasCustomer c.no) Always → HasFailed old new
lets_service old new c small fails lets =
    let db = old.now.trees in
    let sound = sound_book old lets.schema lets.sound in
    let was = lets.needed.customer in
    let one = has_one Customer c.no was.no (customer_row was) lets.tables lets.needed.row refl in
    let put = can_put Customer customer_table by_key service_shows (service_params c) c.no (λ r. refl) refl (λ r. refl)
    4 refl db lets.tables (customer_row was) (customer_stored c.no was.section c.since c.until) small sound lets.holds one
    (customer_suits c.no was.section c.since c.until)
    (λ r is.
    ap (λ (x : Columns). customer_anew (column x 0) (column x 1) c.since c.until) is ∙ ap (λ v. customer_anew v (Int (pos was.section)) c.since c.until) one.keyed
    ∙ customer_cast c.no was.section c.since c.until)
    (λ r there is numbered. refl)
    (λ r is next done. (inl (ap (λ (x : Columns). column x 1) is, tt), tt)) in
    service_fails old new c lets.schema fails put.row put.passing put.entering put.parents

-- ---- a device's life
abbrev life_it : sql.Table
life_it = record life_table { tree = 16 }

abbrev life_stored : ℕ → ℕ → Option ℕ → Row
life_stored device since until = Int (pos device) ∷ Null ∷ Int (pos since) ∷ number_or_null until ∷ []

life_cast : (device since : ℕ) (until : Option ℕ) → life_anew (Int (pos device)) since until ≡ life_stored device since until
life_cast device since until = rw (cast_int (pos device), cast_null, cast_int (pos since), cast_optional until)

life_suits : (device since : ℕ) (until : Option ℕ) → Suits life_it device (life_stored device since until)
life_suits device since None = record {
  keyed = refl;
  typed = λ db. refl;
  present = λ db. refl;
  checked = λ db. refl;
  storable = storable_row (life_stored device since None) (omega arith) (omega arith) (tt, (tt, (tt, (tt, tt))));
  entries = unindexed life_it (life_stored device since None) refl;
}
life_suits device since (Some end) = record {
  keyed = refl;
  typed = λ db. refl;
  present = λ db. refl;
  checked = λ db. refl;
  storable = storable_row (life_stored device since (Some end)) (omega arith) (omega arith) (tt, (tt, (tt, (tt, tt))));
  entries = unindexed life_it (life_stored device since (Some end)) refl;
}

pub lets_life_ends : (old new : State) (device : ℕ) (life : ALife) → device < 2 ^ 32 → Failed life_update (life_params device life) old new → LetsIn old (HasLife device) Always → HasFailed old new
lets_life_ends old new device life small fails lets =
    let db = old.now.trees in
    let sound = sound_book old lets.schema lets.sound in
    let need = lets.needed in
    let put = can_put Life life_table by_key life_shows (life_params device life) device (λ r. refl) refl (λ r. refl)
    10 refl db lets.tables (life_row device need.life) (life_stored device life.since life.until) small sound lets.holds (record { one = need.row; keyed = refl })
    (life_suits device life.since life.until)
    (λ r is. ap (λ (c : Columns). life_anew (column c 0) life.since life.until) is ∙ life_cast device life.since life.until)
    (λ r there is numbered. refl)
    (λ r is next done. (inl (ap (λ (c : Columns). column c 0) is, tt), tt)) in
    life_set_fails old new device life lets.schema fails put.row put.passing put.entering put.parents

-- ---- a command's body
abbrev command_it : sql.Table
command_it = record command_table { tree = 10 }

abbrev command_stored : ℕ → List ℕ → List ℕ → Row
command_stored id reference body = Int (pos id) ∷ Null ∷ Text reference ∷ Text body ∷ []

command_cast : (id : ℕ) (reference body : List ℕ) → command_anew (Int (pos id)) (Text reference) body ≡ command_stored id reference body
command_cast id reference body = rw (cast_int (pos id), cast_null)

command_suits : (id : ℕ) (reference body : List ℕ) → IsShort reference → IsShort body → Suits command_it id (command_stored id reference body)
command_suits id reference body short short_body = record {
  keyed = refl;
  typed = λ db. refl;
  present = λ db. refl;
  checked = λ db. refl;
  storable = storable_row (command_stored id reference body) (omega arith) (omega arith) (tt, (tt, (short, (short_body, tt))));
  entries = (
    λ e. absurd (omega (arith, e)),
    (
      λ e. absurd (omega (arith, e)),
      (
        λ e. absurd (omega (arith, e)),
        (
          λ e. storable (Text reference ∷ Int (pos id) ∷ []) (omega arith) (omega arith) (short, (tt, tt)),
          (λ e. absurd (omega (arith, e)), (λ e. absurd (omega (arith, e)), tt)),
        ),
      ),
    ),
  );
}

quiet : (c : Bool) → (not c && true) ≡ true → c ≡ false
quiet true h = absurd (true≢false (sym h))
quiet false h = refl

-- with its reference, it has no other command's
body_free : (db : Trees) (id : ℕ) (reference body : List ℕ) (r : Row) → Keeps Unique book_schema db → Has (db 10) r → column r 2 ≡ Text reference → rowid r ≡ Int (pos id)
    → clashes plain (2 ∷ []) (without_rowid (pos id) (db 10)) (command_stored id reference body) ≡ false
body_free db id reference body r keeps there named numbered =
    clash_kept plain (2 ∷ []) (db 10) (pos id) r (command_stored id reference body) (λ other. ap (λ v. equal (first_key plain).collation (column other 2) v && true) (sym named)) (sym numbered)
    (quiet (clashes plain (2 ∷ []) (db 10) r) (keeps_at Unique book_schema db command_it r keeps (has_got book_schema.tables 7 command_it refl) there))

pub lets_body : (old new : State) (id : ℕ) (body : List ℕ) → id < 2 ^ 32 → Failed body_update (Int (pos id) ∷ Text body ∷ []) old new → LetsIn old (HasCommand id) (LetsBody id body) → HasFailed old new
lets_body old new id body small fails lets =
    let db = old.now.trees in
    let sound = sound_book old lets.schema lets.sound in
    let need = lets.needed in
    let was = command_row id need.reference need.body in
    let one : HasOne Command id lets.tables was = record { one = need.row; keyed = refl } in
    let shorts = short_of Command id lets.tables was one lets.allowed.0 in
    let fresh = command_stored id need.reference body in
    let put = can_put Command command_table by_key body_shows (Int (pos id) ∷ Text body ∷ []) id (λ r. refl) refl (λ r. refl)
    7 refl db lets.tables was fresh small sound lets.holds one
    (command_suits id need.reference body shorts.1.0 lets.allowed.1)
    (λ r is. ap (λ (c : Columns). command_anew (column c 0) (column c 1) body) is ∙ command_cast id need.reference body)
    (λ r there is numbered. ap (λ b. not b && true) (body_free db id need.reference body r (sound.obeys.rules Unique) there (ap (λ (c : Columns). column c 1) is) numbered))
    (λ r is next done. tt) in
    body_fails old new id body lets.schema fails put.row put.passing put.entering put.parents

-- ---- the heading's version
abbrev meta_it : sql.Table
meta_it = record meta_table { tree = 0 }

abbrev meta_stored : ℕ → List ℕ → ℕ → List ℕ → Row
meta_stored version first_day days zone = Int (pos 1) ∷ Null ∷ Int (pos version) ∷ Text first_day ∷ Int (pos days) ∷ Text zone ∷ []

meta_cast : (version : ℕ) (first_day : List ℕ) (days : ℕ) (zone : List ℕ) → meta_anew (Int (pos 1)) version (Text first_day) (Int (pos days)) (Text zone) ≡ meta_stored version first_day days zone
meta_cast version first_day days zone = rw (cast_int (pos 1), cast_null, cast_int (pos version), cast_int (pos days))

meta_checked : (version : ℕ) (first_day : List ℕ) (days : ℕ) (zone : List ℕ) → passes_checks meta_it (meta_stored version first_day days zone) ≡ true
unfolding binary value_cmp Ieee.lt Ieee.is_nan
meta_checked version first_day days zone = refl

meta_suits : (version : ℕ) (first_day : List ℕ) (days : ℕ) (zone : List ℕ) → IsShort first_day → IsShort zone → Suits meta_it 1 (meta_stored version first_day days zone)
meta_suits version first_day days zone short_day short_zone = record {
  keyed = refl;
  typed = λ db. refl;
  present = λ db. refl;
  checked = λ db. meta_checked version first_day days zone;
  storable = storable_row (meta_stored version first_day days zone) (omega arith) (omega arith) (tt, (tt, (tt, (short_day, (tt, (short_zone, tt))))));
  entries = unindexed meta_it (meta_stored version first_day days zone) refl;
}

pub lets_version : (old new : State) (version : ℕ) → Failed version_update (Int (pos 1) ∷ Int (pos version) ∷ []) old new → LetsIn old HasHeading LetsVersion → HasFailed old new
lets_version old new version fails lets =
    let db = old.now.trees in
    let sound = sound_book old lets.schema lets.sound in
    let need = lets.needed in
    let was = meta_row need.version need.first_day need.days need.zone in
    let one : HasOne Meta 1 lets.tables was = record { one = need.row; keyed = refl } in
    let shorts = short_of Meta 1 lets.tables was one lets.allowed in
    let fresh = meta_stored version need.first_day need.days need.zone in
    let put = can_put Meta meta_table by_key version_shows (Int (pos 1) ∷ Int (pos version) ∷ []) 1 (λ r. refl) refl (λ r. refl)
    0 refl db lets.tables was fresh (omega arith) sound lets.holds one
    (meta_suits version need.first_day need.days need.zone shorts.1.1.0 shorts.1.1.1.1.0)
    (λ r is. ap (λ (c : Columns). meta_anew (column c 0) version (column c 2) (column c 3) (column c 4)) is ∙ meta_cast version need.first_day need.days need.zone)
    (λ r there is numbered. refl)
    (λ r is next done. tt) in
    version_fails old new version lets.schema fails put.row put.passing put.entering put.parents

-- ---- an entry that is corrected or withdrawn
abbrev entry_it : sql.Table
entry_it = record entry_table { tree = 8 }

abbrev entry_stored_row : SheetEntry → Row
entry_stored_row e =
    Int (pos e.no) ∷ Null ∷ Int (pos e.rev) ∷ Int (pos e.device) ∷ Int (pos (position_number e.pos)) ∷ Int (pos e.second) ∷ Int (pos e.cause) ∷ Text e.crew ∷ Int (pos (bit e.kept)) ∷ []

entry_cast : (id revision device position second cause : ℕ) (crew : List ℕ) (kept : ℕ)
    → entry_anew (Int (pos id)) (Int (pos revision)) (Int (pos device)) (Int (pos position)) (Int (pos second)) (Int (pos cause)) (Text crew) (Int (pos kept))
    ≡ Int (pos id) ∷ Null ∷ Int (pos revision) ∷ Int (pos device) ∷ Int (pos position) ∷ Int (pos second) ∷ Int (pos cause) ∷ Text crew ∷ Int (pos kept) ∷ []
entry_cast id revision device position second cause crew kept =
    rw (cast_int (pos id), cast_null, cast_int (pos revision), cast_int (pos device), cast_int (pos position), cast_int (pos second), cast_int (pos cause), cast_int (pos kept))

entry_checks : (id revision device : ℕ) (position : Pos) (second cause : ℕ) (crew : List ℕ) (kept : Bool)
    → passes_checks entry_it (Int (pos id) ∷ Null ∷ Int (pos revision) ∷ Int (pos device) ∷ Int (pos (position_number position)) ∷ Int (pos second) ∷ Int (pos cause) ∷ Text crew ∷ Int (pos (bit kept)) ∷ []) ≡ true
unfolding binary value_cmp Ieee.lt Ieee.is_nan
entry_checks id revision device Opened second cause crew false = refl
entry_checks id revision device Opened second cause crew true = refl
entry_checks id revision device Closed second cause crew false = refl
entry_checks id revision device Closed second cause crew true = refl

entry_checked : (e : SheetEntry) → passes_checks entry_it (entry_stored_row e) ≡ true
entry_checked e = entry_checks e.no e.rev e.device e.pos e.second e.cause e.crew e.kept

entry_suits : (e : SheetEntry) → IsShort e.crew → Suits entry_it e.no (entry_stored_row e)
entry_suits e short =
    let fresh = entry_stored_row e in
    record {
      keyed = refl;
      typed = λ db. refl;
      present = λ db. refl;
      checked = λ db. entry_checked e;
      storable = storable_row fresh (omega arith) (omega arith) (tt, (tt, (tt, (tt, (tt, (tt, (tt, (short, (tt, tt)))))))));
      entries = unindexed entry_it fresh refl;
    }

pub lets_corrected : (old new : State) (e : SheetEntry) → e.no < 2 ^ 32 → IsShort e.crew → Failed correct_update (correct_params e) old new → LetsIn old (HasEntry e.no) (LetsCorrected e.cause) → HasFailed old new
lets_corrected old new e small short fails lets =
    let db = old.now.trees in
    let sound = sound_book old lets.schema lets.sound in
    let was = lets.needed.entry in
    let one = has_one Entry e.no was.no (entry_row was) lets.tables lets.needed.row refl in
    let anew = record e { device = was.device; kept = was.kept } in
    let put = can_put Entry entry_table by_key correct_shows (correct_params e) e.no (λ r. refl) refl (λ r. refl)
    5 refl db lets.tables (entry_row was) (entry_stored_row anew) small sound lets.holds one
    (entry_suits anew short)
    (λ r is.
    ap (λ (c : Columns). entry_anew (column c 0) (Int (pos e.rev)) (column c 2) (Int (pos (position_number e.pos))) (Int (pos e.second)) (Int (pos e.cause)) (Text e.crew) (column c 7)) is
    ∙ ap (λ v. entry_anew v (Int (pos e.rev)) (Int (pos was.device)) (Int (pos (position_number e.pos))) (Int (pos e.second)) (Int (pos e.cause)) (Text e.crew) (Int (pos (bit was.kept)))) one.keyed
    ∙ entry_cast e.no e.rev was.device (position_number e.pos) e.second e.cause e.crew (bit was.kept))
    (λ r there is numbered. refl)
    (λ r is next done. (
      inl (ap (λ (c : Columns). column c 2) is, tt),
      (inr (finds_cause db next (update_edit db entry_it correct_shows (correct_params e) r) done lets.tables e.cause 6 (entry_stored_row anew) (λ e. omega (arith, e)) lets.holds lets.allowed refl), tt),
    )) in
    corrected_fails old new e lets.schema fails put.row put.passing put.entering put.parents

pub lets_withdrawn : (old new : State) (id revision : ℕ) → id < 2 ^ 32 → Failed withdraw_update (Int (pos id) ∷ Int (pos revision) ∷ []) old new → LetsIn old (HasEntry id) (LetsWithdrawn id) → HasFailed old new
lets_withdrawn old new id revision small fails lets =
    let db = old.now.trees in
    let sound = sound_book old lets.schema lets.sound in
    let was = lets.needed.entry in
    let one = has_one Entry id was.no (entry_row was) lets.tables lets.needed.row refl in
    let shorts = short_of Entry id lets.tables (entry_row was) one lets.allowed in
    let anew = record was { no = id; rev = revision; kept = false } in
    let put = can_put Entry entry_table by_key withdraw_shows (Int (pos id) ∷ Int (pos revision) ∷ []) id (λ r. refl) refl (λ r. refl)
    5 refl db lets.tables (entry_row was) (entry_stored_row anew) small sound lets.holds one
    (entry_suits anew shorts.1.1.1.1.1.1.0)
    (λ r is.
    ap (λ (c : Columns). entry_anew (column c 0) (Int (pos revision)) (column c 2) (column c 3) (column c 4) (column c 5) (column c 6) (Int (pos 0))) is
    ∙ ap (λ v. entry_anew v (Int (pos revision)) (Int (pos was.device)) (Int (pos (position_number was.pos))) (Int (pos was.second)) (Int (pos was.cause)) (Text was.crew) (Int (pos 0))) one.keyed
    ∙ entry_cast id revision was.device (position_number was.pos) was.second was.cause was.crew 0)
    (λ r there is numbered. refl)
    (λ r is next done. (inl (ap (λ (c : Columns). column c 2) is, tt), (inl (ap (λ (c : Columns). column c 5) is, tt), tt))) in
    withdrawn_fails old new id revision lets.schema fails put.row put.passing put.entering put.parents

-- ---- the mark of a day, which is taken off
abbrev mark_it : sql.Table
mark_it = record mark_table { tree = 9 }

-- rows may be taken out
keeps_marks : (db : Trees) (es : List Row) → Keeps Unique book_schema db → Keeps Unique book_schema (with_tree db 9 es)
keeps_marks db es u =
    (u.0, (u.1.0, (u.1.1.0, (u.1.1.1.0, (u.1.1.1.1.0, (u.1.1.1.1.1.0, (all_of (λ (row : Row). ◌≡◌ {A = Bool} true true) (λ row. refl) es, u.1.1.1.1.1.1.1)))))))

pub lets_unmarked : (old new : State) (day : ℕ) → Failed mark_delete (Int (pos day) ∷ []) old new → LetsIn old (HasMark day) Always → HasFailed old new
lets_unmarked old new day fails lets =
    let db = old.now.trees in
    let sound = sound_book old lets.schema lets.sound in
    let params = Int (pos day) ∷ [] in
    let shows = col 1 0 ∷ [] in
    let at = one_passes Mark mark_table by_key shows params day (λ r. refl) refl (λ r. refl) db lets.tables (mark_row day lets.needed.0) lets.holds (record { one = lets.needed.1; keyed = refl }) in
    unmarked_fails old new day lets.schema fails at.row at.passing (keeps_marks db (update_left db mark_it shows params at.row) (sound.obeys.rules Unique))
    (deleted_refers db (delete_edit db mark_it shows params at.row) (has_got book_schema.tables 6 mark_it refl) sound refl refl)
