-- What an INSERT makes of the tables.
use Rattle.std.proofs.Common.{◌≡◌, ◌≢◌, ℕ, inl, inr, ◌/◌, ◌≤◌, pos, ℤ, List, [], ◌∷◌, filter, length, codes, Bool, true, false, Some, Ordering, Less, Equal, Greater, true≢false, refl, sym, ap, subst, ◌∙◌, arith, slice_get}
use Rattle.std.specs.Prelude.{IsTrue, unwrap_or}
use Rattle.std.specs.List.{AllByRecursion, list_any}
use Rattle.std.specs.Ordering.{is_eq}
use Rattle.std.proofs.lemmas.Bool.{cases_Bool, or_parts}
use Rattle.std.proofs.lemmas.Cmp.{alike_right}
use Rattle.std.proofs.lemmas.List.Sorted.{IsPermutation-sym, length_permutation}
use Rattle.sqlite_trees.proofs.ListLemmas.{IsPermutation-filter, all-permutation}
use Rattle.sqlite_trees.specs.View.{is_int}
use Rattle.sqlite_value.proofs.OrderLemmas.{value_cmp_total}
use Rattle.sqlite_value.specs.Order.{value_cmp}
use Rattle.sqlite.specs.Order.{Row}
use Rattle.sqlite.specs.declared.types.Value.TheVariants.{Null, Int, Text}
use Rattle.sqlite.specs.Term.{Term, lit, col, eval_all}
use Rattle.sqlite.specs.Table as sql
use Rattle.sqlite.specs.Schema.{Schema}
use Rattle.sqlite.specs.Source.TheVariants.{Values}
use Rattle.sqlite.specs.Command.TheVariants.{Insert}
use Rattle.sqlite.specs.Listing.{understood}
use Rattle.sqlite.specs.Effect.{value_rows}
use Rattle.sqlite.specs.Tree.{Trees, put_row, rowid, has_rowid}
use Rattle.sqlite.specs.Rows.{stamped}
use Rattle.sqlite.specs.State.{State}
use Rattle.sqlite_tied.specs.Compute.{everything}
use Rattle.sqlite_rules.specs.Edit.{with_rowid, next_rowid, are_fresh}
use Rattle.sqlite_rules.specs.Cast.{cast_row}
use Rattle.sqlite_rules.specs.Action.{works}
use Rattle.sqlite_schema.specs.declared.schema.Keys.TheVariants.{Enforced}
use Rattle.sqlite.specs.Rowids.TheVariants.{Chosen}
use Rattle.sqlite.proofs.Callers.{IsPlain, command_of, runs_as}
use Rattle.ob_base.specs.declared.life.Life.{Life as ALife}
use Rattle.ob_net.specs.declared.net.Node.{Node as NetNode}
use Rattle.ob_net.specs.declared.net.Device.{Device as NetDevice}
use Rattle.ob_sheet.specs.declared.Entry.{Entry as SheetEntry}
use Rattle.ob_cust.specs.declared.Customer.{Customer as RollCustomer}
use Rattle.ob_sql_rows.specs.Schema.{book_schema, meta_table, cause_table, node_table, device_table, customer_table, entry_table, mark_table, command_table, moved_table, posting_table, life_table}
use Rattle.ob_sql_rows.specs.Rows.{Columns, tree_of, shown, AreApart, Holds, with_row, Always, number_or_null, position_number, bit, node_kind, meta_row, cause_row, node_row, device_row, life_row, customer_row, entry_row, mark_row, command_row, moved_row, posting_row}
use Rattle.ob_sql_rows.specs.Rules.{AreNumbered}
use Rattle.ob_sql_rows.specs.Steps.{Ran, Makes}
use Rattle.ob_sql_rows.specs.declared.table.Table.{Table}
use Rattle.ob_sql_rows.specs.declared.table.Table.TheVariants.{Meta, Cause, Node, Device, Life, Customer, Entry, Mark, Command, Moved, Posting}
use Rattle.ob_sql_rows.proofs.Statements.{inserted, Rewrites}
use Rattle.ob_sql_rows.proofs.Trees.{OthersStay, stays, adds, free_of}
use Rattle.ob_sql_rows.proofs.Put.{put_fresh}
use Rattle.ob_sql_rows.proofs.Casts.{cast_int, cast_null, cast_optional}
use Rattle.ob_sql_rows.proofs.Numbering.{numbered_beside, numbered_moved, numbered_posting}

-- an INSERT of one row adds the row to its table, where the rowids of `posting` stay apart and the hidden numbers go on
makes_row_so : (table : Table) (at : ℕ) (it : sql.Table) (terms : List Term) (width : ℕ) (text : List ℕ) (params : Row) (columns : Columns)
    → slice_get book_schema.tables at ≡ Some it → it.tree ≡ tree_of table → command_of (understood book_schema text) ≡ Insert at (Values terms width) → IsPlain (understood book_schema text)
    → it.is_counted ≡ false → stamped it params ≡ params → value_rows params width (length terms / width) terms ≡ eval_all terms (params ∷ []) ∷ []
    → ((new : Row) → works book_schema Enforced 0 it.tree [] (new ∷ []) ≡ []) → ((rows : List Row) → shown table (with_rowid Chosen rows (cast_row it (eval_all terms (params ∷ [])))) ≡ columns)
    → ((old new : Trees) (row : Row) → row ≡ with_rowid Chosen (old (tree_of table)) (cast_row it (eval_all terms (params ∷ []))) → OthersStay (tree_of table) new old
    → new (tree_of table) ≡ put_row row (old (tree_of table)) → are_fresh (old (tree_of table)) (row ∷ []) ≡ true → AreApart (old 14) → AreApart (new 14))
    → ((old new : Trees) (row : Row) → row ≡ with_rowid Chosen (old (tree_of table)) (cast_row it (eval_all terms (params ∷ []))) → OthersStay (tree_of table) new old
    → new (tree_of table) ≡ put_row row (old (tree_of table)) → AreNumbered old → AreNumbered new)
    → (old new : State) → Ran text params old new → Makes old new Always (with_row table columns)
makes_row_so table at it terms width text params columns found tree is plain uncounted timeless single idle stored stays_apart goes_on old new ran =
    let row = λ (rows : List Row). with_rowid Chosen rows (cast_row it (eval_all terms (params ∷ []))) in
    let made = λ (has : old.now.schema ≡ book_schema).
    let w = runs_as text params old new book_schema has (Insert at (Values terms width)) is plain ran.0 ran.1 in
    let all = inserted book_schema at it found terms width old new _ params ran.0 uncounted timeless single idle has w in
    let here : Rewrites old.now new.now (tree_of table) (put_row (row (old.now.trees (tree_of table))) (old.now.trees (tree_of table))) = subst (λ n. Rewrites old.now new.now n (put_row (row (old.now.trees n)) (old.now.trees n))) tree all.0 in
    let fresh : are_fresh (old.now.trees (tree_of table)) (row (old.now.trees (tree_of table)) ∷ []) ≡ true = subst (λ n. are_fresh (old.now.trees n) (row (old.now.trees n) ∷ []) ≡ true) tree all.1 in
    let pair : (Rewrites old.now new.now (tree_of table) (put_row (row (old.now.trees (tree_of table))) (old.now.trees (tree_of table)))) × (are_fresh (old.now.trees (tree_of table)) (row (old.now.trees (tree_of table)) ∷ []) ≡ true) = (here, fresh) in
    pair in
    let spared = λ (has : old.now.schema ≡ book_schema).
    let others : OthersStay (tree_of table) new.now.trees old.now.trees =
    subst (λ (s : Schema). AllByRecursion (λ x. x.tree ≢ tree_of table → new.now.trees x.tree ≡ old.now.trees x.tree) s.tables) has (made has).0.others in
    others in
    record {
      live = ran.2.was_open;
      stays = ran.2.is_open;
      inside = ran.2.mode;
      schema = λ has. (made has).0.schema ∙ has;
      sound = λ has _. (runs_as text params old new book_schema has (Insert at (Values terms width)) is plain ran.0 ran.1).sound;
      holds = λ has t holds _.
          let it = made has in
          let others = spared has in
          let apart = stays_apart old.now.trees new.now.trees (row (old.now.trees (tree_of table))) refl others it.0.row_list it.1 holds.apart in
          subst (λ c. Holds new.now.trees (with_row table c t)) (stored (old.now.trees (tree_of table)))
          (adds table old.now.trees new.now.trees (row (old.now.trees (tree_of table))) t others it.0.row_list it.1 apart holds);
      numbered = λ has t holds _ are. goes_on old.now.trees new.now.trees (row (old.now.trees (tree_of table))) refl (spared has) (made has).0.row_list are;
    }

-- the same for a table other than `moved` and `posting`
pub makes_row : (table : Table) (at : ℕ) (it : sql.Table) (terms : List Term) (width : ℕ) (text : List ℕ) (params : Row) (columns : Columns)
    → slice_get book_schema.tables at ≡ Some it → it.tree ≡ tree_of table → command_of (understood book_schema text) ≡ Insert at (Values terms width) → IsPlain (understood book_schema text)
    → it.is_counted ≡ false → stamped it params ≡ params → value_rows params width (length terms / width) terms ≡ eval_all terms (params ∷ []) ∷ []
    → ((new : Row) → works book_schema Enforced 0 it.tree [] (new ∷ []) ≡ []) → ((rows : List Row) → shown table (with_rowid Chosen rows (cast_row it (eval_all terms (params ∷ [])))) ≡ columns)
    → 12 ≢ tree_of table → 14 ≢ tree_of table
    → (old new : State) → Ran text params old new → Makes old new Always (with_row table columns)
makes_row table at it terms width text params columns found tree is plain uncounted timeless single idle stored beside_moved beside_amounts =
    makes_row_so table at it terms width text params columns found tree is plain uncounted timeless single idle stored
    (λ old new row row_is others put fresh apart. subst AreApart (sym (stays new old (tree_of table) Posting others beside_amounts)) apart)
    (λ old new row row_is others put are. numbered_beside table old new others beside_moved beside_amounts are)

abbrev pub meta_insert : List ℕ
meta_insert = codes "INSERT INTO meta (id, version, day0, days, zone) VALUES (?1, ?2, ?3, ?4, ?5)"

abbrev pub meta_terms : List Term
meta_terms = col 0 0 ∷ lit Null ∷ col 0 1 ∷ col 0 2 ∷ col 0 3 ∷ col 0 4 ∷ []

pub meta_insert_is : command_of (understood book_schema meta_insert) ≡ Insert 0 (Values meta_terms 6)
unfolding understood everything
meta_insert_is = refl

pub meta_insert_plain : IsPlain (understood book_schema meta_insert)
unfolding understood everything
meta_insert_plain = (refl, refl)

pub stored_meta : (first_day : List ℕ) (days : ℕ) (zone : List ℕ) (rows : List Row)
    → shown Meta (with_rowid Chosen rows (cast_row (record meta_table { tree = 0 }) (eval_all meta_terms (meta_row 2 first_day days zone ∷ [])))) ≡ meta_row 2 first_day days zone
stored_meta first_day days zone rows = rw (cast_int (pos 1), cast_int (pos 2), cast_int (pos days))

pub adds_meta : (old new : State) (first_day : List ℕ) (days : ℕ) (zone : List ℕ) → Ran meta_insert (meta_row 2 first_day days zone) old new → Makes old new Always (with_row Meta (meta_row 2 first_day days zone))
adds_meta old new first_day days zone ran =
    makes_row Meta 0 (record meta_table { tree = 0 }) meta_terms 6 meta_insert _ (meta_row 2 first_day days zone) refl refl meta_insert_is meta_insert_plain refl refl refl (λ new. refl)
    (stored_meta first_day days zone) (λ e. omega (arith, e)) (λ e. omega (arith, e)) old new ran

abbrev pub cause_insert : List ℕ
cause_insert = codes "INSERT INTO cause (code, name) VALUES (?1, ?2)"

abbrev pub cause_terms : List Term
cause_terms = col 0 0 ∷ lit Null ∷ col 0 1 ∷ []

pub cause_insert_is : command_of (understood book_schema cause_insert) ≡ Insert 1 (Values cause_terms 3)
unfolding understood everything
cause_insert_is = refl

pub cause_insert_plain : IsPlain (understood book_schema cause_insert)
unfolding understood everything
cause_insert_plain = (refl, refl)

pub stored_cause : (code : ℕ) (name : List ℕ) (rows : List Row)
    → shown Cause (with_rowid Chosen rows (cast_row (record cause_table { tree = 1 }) (eval_all cause_terms ((Int (pos code) ∷ Text name ∷ []) ∷ [])))) ≡ cause_row code name
stored_cause code name rows = rw (cast_int (pos code))

pub adds_cause : (old new : State) (code : ℕ) (name : List ℕ) → Ran cause_insert (Int (pos code) ∷ Text name ∷ []) old new → Makes old new Always (with_row Cause (cause_row code name))
adds_cause old new code name ran =
    makes_row Cause 1 (record cause_table { tree = 1 }) cause_terms 3 cause_insert _ (cause_row code name) refl refl cause_insert_is cause_insert_plain refl refl refl (λ new. refl)
    (stored_cause code name) (λ e. omega (arith, e)) (λ e. omega (arith, e)) old new ran

abbrev pub node_insert : List ℕ
node_insert = codes "INSERT INTO node (id, name, kind, feeder) VALUES (?1, ?2, ?3, ?4)"

abbrev pub node_terms : List Term
node_terms = col 0 0 ∷ lit Null ∷ col 0 1 ∷ col 0 2 ∷ col 0 3 ∷ []

pub node_insert_is : command_of (understood book_schema node_insert) ≡ Insert 2 (Values node_terms 5)
unfolding understood everything
node_insert_is = refl

pub node_insert_plain : IsPlain (understood book_schema node_insert)
unfolding understood everything
node_insert_plain = (refl, refl)

abbrev pub node_params : ℕ → NetNode → Row
node_params id node = Int (pos id) ∷ Text node.name ∷ Int (pos (node_kind id node)) ∷ Int (pos (unwrap_or node.feeder 0)) ∷ []

pub stored_node : (id : ℕ) (name : List ℕ) (kind : ℕ) (feeder : ℕ) (rows : List Row)
    → shown Node (with_rowid Chosen rows (cast_row (record node_table { tree = 3 }) (eval_all node_terms ((Int (pos id) ∷ Text name ∷ Int (pos kind) ∷ Int (pos feeder) ∷ []) ∷ []))))
    ≡ Int (pos id) ∷ Text name ∷ Int (pos kind) ∷ Int (pos feeder) ∷ []
stored_node id name kind feeder rows = rw (cast_int (pos id), cast_int (pos kind), cast_int (pos feeder))

pub adds_node : (old new : State) (id : ℕ) (node : NetNode) → Ran node_insert (node_params id node) old new → Makes old new Always (with_row Node (node_row id node))
adds_node old new id node ran =
    makes_row Node 2 (record node_table { tree = 3 }) node_terms 5 node_insert (node_params id node) (node_row id node) refl refl node_insert_is node_insert_plain refl refl refl (λ new. refl)
    (stored_node id node.name (node_kind id node) (unwrap_or node.feeder 0)) (λ e. omega (arith, e)) (λ e. omega (arith, e)) old new ran

abbrev pub device_insert : List ℕ
device_insert = codes "INSERT INTO device (id, name, a, b, normal) VALUES (?1, ?2, ?3, ?4, ?5)"

abbrev pub device_terms : List Term
device_terms = col 0 0 ∷ lit Null ∷ col 0 1 ∷ col 0 2 ∷ col 0 3 ∷ col 0 4 ∷ []

pub device_insert_is : command_of (understood book_schema device_insert) ≡ Insert 3 (Values device_terms 6)
unfolding understood everything
device_insert_is = refl

pub device_insert_plain : IsPlain (understood book_schema device_insert)
unfolding understood everything
device_insert_plain = (refl, refl)

abbrev pub device_params : ℕ → NetDevice → Row
device_params id d = Int (pos id) ∷ Text d.name ∷ Int (pos d.a) ∷ Int (pos d.b) ∷ Int (pos (position_number d.normal)) ∷ []

pub stored_device : (id : ℕ) (d : NetDevice) (rows : List Row)
    → shown Device (with_rowid Chosen rows (cast_row (record device_table { tree = 5 }) (eval_all device_terms (device_params id d ∷ [])))) ≡ device_row id d
stored_device id d rows = rw (cast_int (pos id), cast_int (pos d.a), cast_int (pos d.b), cast_int (pos (position_number d.normal)))

pub adds_device : (old new : State) (id : ℕ) (d : NetDevice) → Ran device_insert (device_params id d) old new → Makes old new Always (with_row Device (device_row id d))
adds_device old new id d ran =
    makes_row Device 3 (record device_table { tree = 5 }) device_terms 6 device_insert (device_params id d) (device_row id d) refl refl device_insert_is device_insert_plain refl refl refl (λ new. refl)
    (stored_device id d) (λ e. omega (arith, e)) (λ e. omega (arith, e)) old new ran

abbrev pub customer_insert : List ℕ
customer_insert = codes "INSERT INTO customer (id, section, since, until) VALUES (?1, ?2, ?3, ?4)"

abbrev pub customer_terms : List Term
customer_terms = col 0 0 ∷ lit Null ∷ col 0 1 ∷ col 0 2 ∷ col 0 3 ∷ []

pub customer_insert_is : command_of (understood book_schema customer_insert) ≡ Insert 4 (Values customer_terms 5)
unfolding understood everything
customer_insert_is = refl

pub customer_insert_plain : IsPlain (understood book_schema customer_insert)
unfolding understood everything
customer_insert_plain = (refl, refl)

abbrev pub customer_params : RollCustomer → Row
customer_params c = Int (pos c.no) ∷ Int (pos c.section) ∷ Int (pos c.since) ∷ number_or_null c.until ∷ []

pub stored_customer : (c : RollCustomer) (rows : List Row)
    → shown Customer (with_rowid Chosen rows (cast_row (record customer_table { tree = 7 }) (eval_all customer_terms (customer_params c ∷ [])))) ≡ customer_row c
stored_customer c rows = rw (cast_int (pos c.no), cast_int (pos c.section), cast_int (pos c.since), cast_optional c.until)

pub adds_customer : (old new : State) (c : RollCustomer) → Ran customer_insert (customer_params c) old new → Makes old new Always (with_row Customer (customer_row c))
adds_customer old new c ran =
    makes_row Customer 4 (record customer_table { tree = 7 }) customer_terms 5 customer_insert (customer_params c) (customer_row c) refl refl customer_insert_is customer_insert_plain refl refl refl (λ new. refl)
    (stored_customer c) (λ e. omega (arith, e)) (λ e. omega (arith, e)) old new ran

abbrev pub life_insert : List ℕ
life_insert = codes "INSERT INTO life (device, since, until) VALUES (?1, ?2, ?3)"

abbrev pub life_terms : List Term
life_terms = col 0 0 ∷ lit Null ∷ col 0 1 ∷ col 0 2 ∷ []

pub life_insert_is : command_of (understood book_schema life_insert) ≡ Insert 10 (Values life_terms 4)
unfolding understood everything
life_insert_is = refl

pub life_insert_plain : IsPlain (understood book_schema life_insert)
unfolding understood everything
life_insert_plain = (refl, refl)

abbrev pub life_params : ℕ → ALife → Row
life_params device life = Int (pos device) ∷ Int (pos life.since) ∷ number_or_null life.until ∷ []

pub stored_life : (device : ℕ) (life : ALife) (rows : List Row)
    → shown Life (with_rowid Chosen rows (cast_row (record life_table { tree = 16 }) (eval_all life_terms (life_params device life ∷ [])))) ≡ life_row device life
stored_life device life rows = rw (cast_int (pos device), cast_int (pos life.since), cast_optional life.until)

pub adds_life : (old new : State) (device : ℕ) (life : ALife) → Ran life_insert (life_params device life) old new → Makes old new Always (with_row Life (life_row device life))
adds_life old new device life ran =
    makes_row Life 10 (record life_table { tree = 16 }) life_terms 4 life_insert (life_params device life) (life_row device life) refl refl life_insert_is life_insert_plain refl refl refl (λ new. refl)
    (stored_life device life) (λ e. omega (arith, e)) (λ e. omega (arith, e)) old new ran

abbrev pub entry_insert : List ℕ
entry_insert = codes "INSERT INTO entry (id, rev, device, pos, second, cause, crew, kept) VALUES (?1, ?2, ?3, ?4, ?5, ?6, ?7, ?8)"

abbrev pub entry_terms : List Term
entry_terms = col 0 0 ∷ lit Null ∷ col 0 1 ∷ col 0 2 ∷ col 0 3 ∷ col 0 4 ∷ col 0 5 ∷ col 0 6 ∷ col 0 7 ∷ []

pub entry_insert_is : command_of (understood book_schema entry_insert) ≡ Insert 5 (Values entry_terms 9)
unfolding understood everything
entry_insert_is = refl

pub entry_insert_plain : IsPlain (understood book_schema entry_insert)
unfolding understood everything
entry_insert_plain = (refl, refl)

abbrev pub entry_params : SheetEntry → Row
entry_params e =
    Int (pos e.no) ∷ Int (pos e.rev) ∷ Int (pos e.device) ∷ Int (pos (position_number e.pos)) ∷ Int (pos e.second) ∷ Int (pos e.cause) ∷ Text e.crew ∷ Int (pos (bit e.kept)) ∷ []

pub stored_entry : (e : SheetEntry) (rows : List Row)
    → shown Entry (with_rowid Chosen rows (cast_row (record entry_table { tree = 8 }) (eval_all entry_terms (entry_params e ∷ [])))) ≡ entry_row e
stored_entry e rows =
    rw (cast_int (pos e.no), cast_int (pos e.rev), cast_int (pos e.device), cast_int (pos (position_number e.pos)), cast_int (pos e.second), cast_int (pos e.cause), cast_int (pos (bit e.kept)))

pub adds_entry : (old new : State) (e : SheetEntry) → Ran entry_insert (entry_params e) old new → Makes old new Always (with_row Entry (entry_row e))
adds_entry old new e ran =
    makes_row Entry 5 (record entry_table { tree = 8 }) entry_terms 9 entry_insert (entry_params e) (entry_row e) refl refl entry_insert_is entry_insert_plain refl refl refl (λ new. refl)
    (stored_entry e) (λ e. omega (arith, e)) (λ e. omega (arith, e)) old new ran

abbrev pub mark_insert : List ℕ
mark_insert = codes "INSERT INTO mark (day, engineer) VALUES (?1, ?2)"

abbrev pub mark_terms : List Term
mark_terms = col 0 0 ∷ lit Null ∷ col 0 1 ∷ []

pub mark_insert_is : command_of (understood book_schema mark_insert) ≡ Insert 6 (Values mark_terms 3)
unfolding understood everything
mark_insert_is = refl

pub mark_insert_plain : IsPlain (understood book_schema mark_insert)
unfolding understood everything
mark_insert_plain = (refl, refl)

pub stored_mark : (day : ℕ) (engineer : List ℕ) (rows : List Row)
    → shown Mark (with_rowid Chosen rows (cast_row (record mark_table { tree = 9 }) (eval_all mark_terms ((Int (pos day) ∷ Text engineer ∷ []) ∷ [])))) ≡ mark_row day engineer
stored_mark day engineer rows = rw (cast_int (pos day))

pub adds_mark : (old new : State) (day : ℕ) (engineer : List ℕ) → Ran mark_insert (Int (pos day) ∷ Text engineer ∷ []) old new → Makes old new Always (with_row Mark (mark_row day engineer))
adds_mark old new day engineer ran =
    makes_row Mark 6 (record mark_table { tree = 9 }) mark_terms 3 mark_insert _ (mark_row day engineer) refl refl mark_insert_is mark_insert_plain refl refl refl (λ new. refl)
    (stored_mark day engineer) (λ e. omega (arith, e)) (λ e. omega (arith, e)) old new ran

abbrev pub command_insert : List ℕ
command_insert = codes "INSERT INTO cmd (id, ref, body) VALUES (?1, ?2, ?3)"

abbrev pub command_terms : List Term
command_terms = col 0 0 ∷ lit Null ∷ col 0 1 ∷ col 0 2 ∷ []

pub command_insert_is : command_of (understood book_schema command_insert) ≡ Insert 7 (Values command_terms 4)
unfolding understood everything
command_insert_is = refl

pub command_insert_plain : IsPlain (understood book_schema command_insert)
unfolding understood everything
command_insert_plain = (refl, refl)

pub stored_command : (id : ℕ) (reference body : List ℕ) (rows : List Row)
    → shown Command (with_rowid Chosen rows (cast_row (record command_table { tree = 10 }) (eval_all command_terms ((Int (pos id) ∷ Text reference ∷ Text body ∷ []) ∷ [])))) ≡ command_row id reference body
stored_command id reference body rows = rw (cast_int (pos id))

pub adds_command : (old new : State) (id : ℕ) (reference body : List ℕ) → Ran command_insert (Int (pos id) ∷ Text reference ∷ Text body ∷ []) old new → Makes old new Always (with_row Command (command_row id reference body))
adds_command old new id reference body ran =
    makes_row Command 7 (record command_table { tree = 10 }) command_terms 4 command_insert _ (command_row id reference body) refl refl command_insert_is command_insert_plain refl refl refl (λ new. refl)
    (stored_command id reference body) (λ e. omega (arith, e)) (λ e. omega (arith, e)) old new ran

abbrev pub moved_insert : List ℕ
moved_insert = codes "INSERT INTO moved (cmd, dim, k, delta) VALUES (?1, ?2, ?3, ?4)"

abbrev pub moved_terms : List Term
moved_terms = lit Null ∷ col 0 0 ∷ col 0 1 ∷ col 0 2 ∷ col 0 3 ∷ []

pub moved_insert_is : command_of (understood book_schema moved_insert) ≡ Insert 8 (Values moved_terms 5)
unfolding understood everything
moved_insert_is = refl

pub moved_insert_plain : IsPlain (understood book_schema moved_insert)
unfolding understood everything
moved_insert_plain = (refl, refl)

abbrev pub chosen_moved : ℕ → ℕ → ℕ → ℤ → List Row → Row
chosen_moved id dim key delta rows = with_rowid Chosen rows (cast_row (record moved_table { tree = 12 }) (eval_all moved_terms ((Int (pos id) ∷ Int (pos dim) ∷ Int (pos key) ∷ Int delta ∷ []) ∷ [])))

pub stored_moved : (id dim key : ℕ) (delta : ℤ) (rows : List Row) → shown Moved (chosen_moved id dim key delta rows) ≡ moved_row id dim key delta
stored_moved id dim key delta rows = rw (cast_null, cast_int (pos id), cast_int (pos dim), cast_int (pos key), cast_int delta)

moved_numbered : (id dim key : ℕ) (delta : ℤ) (rows : List Row) → rowid (chosen_moved id dim key delta rows) ≡ Int (next_rowid rows)
moved_numbered id dim key delta rows = rw cast_null

pub adds_moved : (old new : State) (id dim key : ℕ) (delta : ℤ) → Ran moved_insert (Int (pos id) ∷ Int (pos dim) ∷ Int (pos key) ∷ Int delta ∷ []) old new → Makes old new Always (with_row Moved (moved_row id dim key delta))
adds_moved old new id dim key delta ran =
    makes_row_so Moved 8 (record moved_table { tree = 12 }) moved_terms 5 moved_insert _ (moved_row id dim key delta) refl refl moved_insert_is moved_insert_plain refl refl refl (λ new. refl)
    (stored_moved id dim key delta)
    (λ old new row row_is others put fresh apart. subst AreApart (sym (stays new old 12 Posting others (λ e. omega (arith, e)))) apart)
    (λ old new row row_is others put are. numbered_moved old new row others put (ap rowid row_is ∙ moved_numbered id dim key delta (old 12)) are) old new ran

pub equal_of : (o : Ordering) → is_eq o ≡ true → o ≡ Equal
equal_of Less is = absurd (true≢false (sym is))
equal_of Equal is = refl
equal_of Greater is = absurd (true≢false (sym is))

pub any_same : {X : Type 0} (p q : X → Bool) → ((x : X) → p x ≡ q x) → (xs : List X) → list_any p xs ≡ false → list_any q xs ≡ false
any_same p q same [] none = refl
any_same p q same (x ∷ xs) none =
    let parts = or_parts (p x) (list_any p xs) none in
    let first : q x ≡ false = sym (same x) ∙ parts.0 in
    let rest : list_any q xs ≡ false = any_same p q same xs parts.1 in
    rw (first, rest)

pub none_passing : {X : Type 0} (p : X → Bool) (xs : List X) → list_any p xs ≡ false → filter p xs ≡ []
none_passing p [] none = refl
none_passing p (x ∷ xs) none =
    let parts = or_parts (p x) (list_any p xs) none in
    let rest : filter p xs ≡ [] = none_passing p xs parts.1 in
    let first : p x ≡ false = parts.0 in
    rw (first, rest)

abbrev pub posting_insert : List ℕ
posting_insert = codes "INSERT INTO posting (dim, k, amount) VALUES (?1, ?2, ?3)"

abbrev pub posting_terms : List Term
posting_terms = lit Null ∷ col 0 0 ∷ col 0 1 ∷ col 0 2 ∷ []

pub posting_insert_is : command_of (understood book_schema posting_insert) ≡ Insert 9 (Values posting_terms 4)
unfolding understood everything
posting_insert_is = refl

pub posting_insert_plain : IsPlain (understood book_schema posting_insert)
unfolding understood everything
posting_insert_plain = (refl, refl)

abbrev pub chosen_posting : ℕ → ℕ → List Row → Row
chosen_posting dim key rows = with_rowid Chosen rows (cast_row (record posting_table { tree = 14 }) (eval_all posting_terms (posting_row dim key 0 ∷ [])))

pub stored_posting : (dim key : ℕ) (rows : List Row) → shown Posting (chosen_posting dim key rows) ≡ posting_row dim key 0
stored_posting dim key rows = rw (cast_null, cast_int (pos dim), cast_int (pos key), cast_int (pos 0))

pub posting_numbered : (dim key : ℕ) (rows : List Row) → rowid (chosen_posting dim key rows) ≡ Int (next_rowid rows)
posting_numbered dim key rows = rw cast_null

-- the row that is put at a free rowid keeps the rowids apart
pub apart_more : (rows : List Row) (row : Row) (id : ℤ) → rowid row ≡ Int id → are_fresh rows (row ∷ []) ≡ true → AreApart rows → AreApart (put_row row rows)
apart_more rows row id numbered fresh apart =
    let free = free_of rows row fresh in
    let put = put_fresh row rows free in
    record {
      numbers = all-permutation (λ r. IsTrue (is_int (rowid r))) _ _ (IsPermutation-sym _ _ put) (subst (λ v. IsTrue (is_int v)) (sym numbered) refl, apart.numbers);
      apart = λ other. omega (arith, length_permutation _ _ (IsPermutation-filter (has_rowid other) _ _ put), few other);
    }
  where
    few : (other : ℤ) → length (filter (has_rowid other) (row ∷ rows)) ≤ 1
    few other = elim (cases_Bool (has_rowid other row)) [
      | inl here ↦
          let tie : value_cmp (rowid row) (Int other) ≡ Equal = equal_of _ here in
          let none : list_any (has_rowid other) rows ≡ false = any_same _ _ (λ r. ap is_eq (alike_right value_cmp_total (rowid row) (Int other) (rowid r) tie)) rows (free_of rows row fresh) in
          rw (here, none_passing (has_rowid other) rows none) (omega arith)
      | inr apart_from ↦ rw apart_from (apart.apart other)
    ]

pub adds_posting : (old new : State) (dim key : ℕ) → Ran posting_insert (posting_row dim key 0) old new → Makes old new Always (with_row Posting (posting_row dim key 0))
adds_posting old new dim key ran =
    makes_row_so Posting 9 (record posting_table { tree = 14 }) posting_terms 4 posting_insert _ (posting_row dim key 0) refl refl posting_insert_is posting_insert_plain refl refl refl (λ new. refl)
    (stored_posting dim key)
    (λ old new row row_is others put fresh apart. subst AreApart (sym put) (apart_more (old 14) row (next_rowid (old 14)) (ap rowid row_is ∙ posting_numbered dim key (old 14)) fresh apart))
    (λ old new row row_is others put are. numbered_posting old new row others put (ap rowid row_is ∙ posting_numbered dim key (old 14)) are) old new ran
