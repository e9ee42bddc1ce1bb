-- An INSERT of a row that refers to others fails only where the store does, where the rules of the tables let the row in.
use Rattle.std.proofs.Common.{◌≡◌, ℕ, zero, suc, ◌^◌, ◌<◌, ◌≤◌, pos, List, [], ◌∷◌, Bool, true, false, not, ◌&&◌, Option, Some, None, refl, sym, ap, subst, ◌∙◌, arith}
use Rattle.std.specs.Float.Ieee
use Rattle.std.proofs.lemmas.Bool.{and_from}
use Rattle.sqlite_value.specs.Order.{value_cmp}
use Rattle.sqlite_value.specs.Keys.{plain}
use Rattle.sqlite.specs.Order.{Row, column}
use Rattle.sqlite.specs.declared.types.Value.TheVariants.{Null, Int, Text}
use Rattle.sqlite.specs.Collation.TheVariants.{Binary}
use Rattle.sqlite_sql.specs.declared.ops.BinaryOp.TheVariants.{Compare, And}
use Rattle.sqlite_sql.specs.declared.ops.CompareOp.TheVariants.{Ge, Le}
use Rattle.sqlite.specs.Ops.{binary, is_false}
use Rattle.sqlite.specs.Term.{eval, eval_all}
use Rattle.sqlite.specs.Tree.{Trees}
use Rattle.sqlite.specs.Table as sql
use Rattle.sqlite.specs.State.{State}
use Rattle.sqlite.specs.Rowids.TheVariants.{Chosen}
use Rattle.sqlite_schema.specs.declared.schema.Constraint.TheVariants.{Datatype, Check, Unique}
use Rattle.sqlite_schema.specs.Rules.{passes, clashes}
use Rattle.sqlite_rules.specs.Edit.{with_rowid}
use Rattle.sqlite_rules.specs.Cast.{cast_row}
use Rattle.sqlite_rules.proofs.ListLemmas.{has_got}
use Rattle.ob_base.specs.declared.Pos.{Pos}
use Rattle.ob_base.specs.declared.Pos.TheVariants.{Opened, Closed}
use Rattle.ob_base.specs.declared.life.Life.{Life as ALife}
use Rattle.ob_net.specs.declared.net.Device.{Device as NetDevice}
use Rattle.ob_sheet.specs.declared.Entry.{Entry as SheetEntry}
use Rattle.ob_cust.specs.declared.Customer.{Customer as RollCustomer}
use Rattle.ob_sql_rows.specs.Schema.{book_schema, is_bit, device_table, customer_table, entry_table, life_table}
use Rattle.ob_sql_rows.specs.Rows.{Always, number_or_null, position_number, bit, is_reference}
use Rattle.ob_sql_rows.specs.Rules.{IsShort, LetsDevice, LetsLife, LetsCustomer, LetsEntry}
use Rattle.ob_sql_rows.specs.Steps.{Failed, HasFailed, LetsIn}
use Rattle.ob_sql_rows.specs.declared.table.Table.TheVariants.{Device, Life, Customer, Entry}
use Rattle.ob_sql_rows.proofs.Adding.{device_insert, device_params, device_terms, customer_insert, customer_params, customer_terms, entry_insert, entry_params, entry_terms, life_insert, life_params, life_terms}
use Rattle.ob_sql_rows.proofs.Casts.{cast_int, cast_null, cast_optional}
use Rattle.ob_sql_rows.proofs.Entering.{Enters}
use Rattle.ob_sql_rows.proofs.Keys.{IsSmall, key_free, clash_free, obeyed, enters, storable, storable_row}
use Rattle.ob_sql_rows.proofs.Parents.{sound_book, inserted_refers, finds_node, finds_device, finds_cause}
use Rattle.ob_sql_rows.proofs.Refusing.{insert_edit}
use Rattle.ob_sql_rows.proofs.Texts.{device_fails, customer_fails, entry_fails, life_fails}

-- a number or NULL is small
small_optional : (n : Option ℕ) → IsSmall (number_or_null n)
small_optional None = tt
small_optional (Some n) = tt

-- a column of 0 or 1 passes its CHECK
bit_checked : (n : ℕ) → n ≤ 1 → not (is_false (binary And (binary (Compare Ge Binary) (Int (pos n)) (Int (pos 0))) (binary (Compare Le Binary) (Int (pos n)) (Int (pos 1))))) ≡ true
unfolding binary value_cmp Ieee.lt Ieee.is_nan
bit_checked zero low = refl
bit_checked (suc zero) low = refl
bit_checked (suc (suc n)) low = absurd (omega (arith, low))

bit_passes : (place : ℕ) (row : Row) (n : ℕ) → column row place ≡ Int (pos n) → n ≤ 1 → not (is_false (eval (is_bit place) ([] ∷ row ∷ []))) ≡ true
bit_passes place row n is low = ap (λ v. not (is_false (binary And (binary (Compare Ge Binary) v (Int (pos 0))) (binary (Compare Le Binary) v (Int (pos 1)))))) is ∙ bit_checked n low

position_low : (position : Pos) → position_number position ≤ 1
position_low Opened = omega arith
position_low Closed = omega arith

bit_low : (b : Bool) → bit b ≤ 1
bit_low false = omega arith
bit_low true = omega arith

-- ---- a customer
abbrev a_customer : sql.Table
a_customer = record customer_table { tree = 7 }

abbrev customer_at : ℕ → ℕ → ℕ → Option ℕ → Row
customer_at id section since until = Int (pos id) ∷ Null ∷ Int (pos section) ∷ Int (pos since) ∷ number_or_null until ∷ []

customer_put : (id section since : ℕ) (until : Option ℕ) (rows : List Row)
    → with_rowid Chosen rows (cast_row a_customer (eval_all customer_terms ((Int (pos id) ∷ Int (pos section) ∷ Int (pos since) ∷ number_or_null until ∷ []) ∷ []))) ≡ customer_at id section since until
customer_put id section since until rows = rw (cast_int (pos id), cast_null, cast_int (pos section), cast_int (pos since), cast_optional until)

customer_typed : (db : Trees) (id section since : ℕ) (until : Option ℕ) → passes Datatype book_schema db a_customer (customer_at id section since until) ≡ true
customer_typed db id section since None = refl
customer_typed db id section since (Some n) = refl

customer_enters : (s : State) (id section since : ℕ) (until : Option ℕ) → id < 2 ^ 32 → LetsIn s Always (LetsCustomer id section)
    → Enters book_schema s.now.trees a_customer (s.now.trees 7) (customer_at id section since until)
customer_enters s id section since until small lets =
    let db = s.now.trees in
    let row = customer_at id section since until in
    enters a_customer 4 db (db 7) row id refl (λ r there. there) ((obeyed s.now lets.schema lets.sound).rules Unique) refl (omega (arith, small))
    (key_free Customer (λ r. refl) id db lets.tables lets.holds lets.allowed.0 row refl) refl (customer_typed db id section since until) refl refl
    (storable_row row (omega arith) (omega arith) (tt, (tt, (tt, (tt, (small_optional until, tt)))))) (
      λ e. absurd (omega (arith, e)),
      (λ e. absurd (omega (arith, e)), (λ e. absurd (omega (arith, e)), (λ e. absurd (omega (arith, e)), (λ e. absurd (omega (arith, e)), (λ e. absurd (omega (arith, e)), tt))))),
    )

pub lets_customer : (old new : State) (c : RollCustomer) → c.no < 2 ^ 32 → Failed customer_insert (customer_params c) old new → LetsIn old Always (LetsCustomer c.no c.section) → HasFailed old new
lets_customer old new c small failed lets =
    let db = old.now.trees in
    let row = customer_at c.no c.section c.since c.until in
    let put = customer_put c.no c.section c.since c.until (db 7) in
    let edit = insert_edit db a_customer customer_terms (customer_params c) in
    customer_fails old new c lets.schema failed (subst (Enters book_schema db a_customer (db 7)) (sym put) (customer_enters old c.no c.section c.since c.until small lets))
    (inserted_refers db edit (has_got book_schema.tables 4 a_customer refl) (sound_book old lets.schema lets.sound) refl row (ap (λ r. r ∷ []) put)
    (λ next done. (finds_node db next edit done lets.tables c.section 2 row (λ e. omega (arith, e)) lets.holds lets.allowed.1 refl, tt)))

-- ---- the life of a device
abbrev a_life : sql.Table
a_life = record life_table { tree = 16 }

abbrev life_at : ℕ → ℕ → Option ℕ → Row
life_at device since until = Int (pos device) ∷ Null ∷ Int (pos since) ∷ number_or_null until ∷ []

life_put : (device since : ℕ) (until : Option ℕ) (rows : List Row)
    → with_rowid Chosen rows (cast_row a_life (eval_all life_terms ((Int (pos device) ∷ Int (pos since) ∷ number_or_null until ∷ []) ∷ []))) ≡ life_at device since until
life_put device since until rows = rw (cast_int (pos device), cast_null, cast_int (pos since), cast_optional until)

life_typed : (db : Trees) (device since : ℕ) (until : Option ℕ) → passes Datatype book_schema db a_life (life_at device since until) ≡ true
life_typed db device since None = refl
life_typed db device since (Some n) = refl

life_enters : (s : State) (device since : ℕ) (until : Option ℕ) → device < 2 ^ 32 → LetsIn s Always (LetsLife device) → Enters book_schema s.now.trees a_life (s.now.trees 16) (life_at device since until)
life_enters s device since until small lets =
    let db = s.now.trees in
    let row = life_at device since until in
    enters a_life 10 db (db 16) row device refl (λ r there. there) ((obeyed s.now lets.schema lets.sound).rules Unique) refl (omega (arith, small))
    (key_free Life (λ r. refl) device db lets.tables lets.holds lets.allowed.0 row refl) refl (life_typed db device since until) refl refl
    (storable_row row (omega arith) (omega arith) (tt, (tt, (tt, (small_optional until, tt))))) (
      λ e. absurd (omega (arith, e)),
      (λ e. absurd (omega (arith, e)), (λ e. absurd (omega (arith, e)), (λ e. absurd (omega (arith, e)), (λ e. absurd (omega (arith, e)), (λ e. absurd (omega (arith, e)), tt))))),
    )

pub lets_life : (old new : State) (device : ℕ) (life : ALife) → device < 2 ^ 32 → Failed life_insert (life_params device life) old new → LetsIn old Always (LetsLife device) → HasFailed old new
lets_life old new device life small failed lets =
    let db = old.now.trees in
    let row = life_at device life.since life.until in
    let put = life_put device life.since life.until (db 16) in
    let edit = insert_edit db a_life life_terms (life_params device life) in
    life_fails old new device life lets.schema failed (subst (Enters book_schema db a_life (db 16)) (sym put) (life_enters old device life.since life.until small lets))
    (inserted_refers db edit (has_got book_schema.tables 10 a_life refl) (sound_book old lets.schema lets.sound) refl row (ap (λ r. r ∷ []) put)
    (λ next done. (finds_device db next edit done lets.tables device 0 row (λ e. omega (arith, e)) lets.holds lets.allowed.1 refl, tt)))

-- ---- a device
abbrev a_device : sql.Table
a_device = record device_table { tree = 5 }

abbrev device_at : ℕ → NetDevice → Row
device_at id d = Int (pos id) ∷ Null ∷ Text d.name ∷ Int (pos d.a) ∷ Int (pos d.b) ∷ Int (pos (position_number d.normal)) ∷ []

device_put : (id : ℕ) (d : NetDevice) (rows : List Row) → with_rowid Chosen rows (cast_row a_device (eval_all device_terms (device_params id d ∷ []))) ≡ device_at id d
device_put id d rows = rw (cast_int (pos id), cast_null, cast_int (pos d.a), cast_int (pos d.b), cast_int (pos (position_number d.normal)))

device_enters : (s : State) (id : ℕ) (d : NetDevice) → id < 2 ^ 32 → IsShort d.name → LetsIn s Always (LetsDevice id d.name d.a d.b) → Enters book_schema s.now.trees a_device (s.now.trees 5) (device_at id d)
device_enters s id d small short lets =
    let db = s.now.trees in
    let row = device_at id d in
    let new : clashes plain (2 ∷ []) (db 5) row ≡ false = clash_free Device (is_reference d.name) (2 ∷ []) row (λ r h. h) db lets.tables lets.holds lets.allowed.1 in
    let named = storable (Text d.name ∷ Int (pos id) ∷ []) (omega arith) (omega arith) (short, (tt, tt)) in
    let checked : passes Check book_schema db a_device row ≡ true = and_from _ _ (bit_passes 5 row (position_number d.normal) refl (position_low d.normal)) refl in
    enters a_device 3 db (db 5) row id refl (λ r there. there) ((obeyed s.now lets.schema lets.sound).rules Unique) refl (omega (arith, small))
    (key_free Device (λ r. refl) id db lets.tables lets.holds lets.allowed.0 row refl) (ap (λ b. not b && true) new) refl refl checked
    (storable_row row (omega arith) (omega arith) (tt, (tt, (short, (tt, (tt, (tt, tt)))))))
    (λ e. absurd (omega (arith, e)), (λ e. absurd (omega (arith, e)), (λ _. named, (λ e. absurd (omega (arith, e)), (λ e. absurd (omega (arith, e)), (λ e. absurd (omega (arith, e)), tt))))))

pub lets_device : (old new : State) (id : ℕ) (d : NetDevice) → id < 2 ^ 32 → IsShort d.name → Failed device_insert (device_params id d) old new → LetsIn old Always (LetsDevice id d.name d.a d.b) → HasFailed old new
lets_device old new id d small short failed lets =
    let db = old.now.trees in
    let row = device_at id d in
    let put = device_put id d (db 5) in
    let edit = insert_edit db a_device device_terms (device_params id d) in
    device_fails old new id d lets.schema failed (subst (Enters book_schema db a_device (db 5)) (sym put) (device_enters old id d small short lets))
    (inserted_refers db edit (has_got book_schema.tables 3 a_device refl) (sound_book old lets.schema lets.sound) refl row (ap (λ r. r ∷ []) put)
    (λ next done. (
      finds_node db next edit done lets.tables d.a 3 row (λ e. omega (arith, e)) lets.holds lets.allowed.2 refl,
      (finds_node db next edit done lets.tables d.b 4 row (λ e. omega (arith, e)) lets.holds lets.allowed.3 refl, tt),
    )))

-- ---- an entry
abbrev an_entry : sql.Table
an_entry = record entry_table { tree = 8 }

abbrev entry_at : SheetEntry → Row
entry_at e =
    Int (pos e.no) ∷ Null ∷ Int (pos e.rev) ∷ Int (pos e.device) ∷ Int (pos (position_number e.pos)) ∷ Int (pos e.second) ∷ Int (pos e.cause) ∷ Text e.crew ∷ Int (pos (bit e.kept)) ∷ []

entry_put : (e : SheetEntry) (rows : List Row) → with_rowid Chosen rows (cast_row an_entry (eval_all entry_terms (entry_params e ∷ []))) ≡ entry_at e
entry_put e rows =
    rw (cast_int (pos e.no), cast_null, cast_int (pos e.rev), cast_int (pos e.device), cast_int (pos (position_number e.pos)), cast_int (pos e.second), cast_int (pos e.cause), cast_int (pos (bit e.kept)))

entry_enters : (s : State) (e : SheetEntry) → e.no < 2 ^ 32 → IsShort e.crew → LetsIn s Always (LetsEntry e.no e.device e.cause) → Enters book_schema s.now.trees an_entry (s.now.trees 8) (entry_at e)
entry_enters s e small short lets =
    let db = s.now.trees in
    let row = entry_at e in
    let checked : passes Check book_schema db an_entry row ≡ true =
    and_from _ _ (bit_passes 4 row (position_number e.pos) refl (position_low e.pos)) (and_from _ _ (bit_passes 8 row (bit e.kept) refl (bit_low e.kept)) refl) in
    enters an_entry 5 db (db 8) row e.no refl (λ r there. there) ((obeyed s.now lets.schema lets.sound).rules Unique) refl (omega (arith, small))
    (key_free Entry (λ r. refl) e.no db lets.tables lets.holds lets.allowed.0 row refl) refl refl refl checked
    (storable_row row (omega arith) (omega arith) (tt, (tt, (tt, (tt, (tt, (tt, (tt, (short, (tt, tt)))))))))) (
      λ e. absurd (omega (arith, e)),
      (λ e. absurd (omega (arith, e)), (λ e. absurd (omega (arith, e)), (λ e. absurd (omega (arith, e)), (λ e. absurd (omega (arith, e)), (λ e. absurd (omega (arith, e)), tt))))),
    )

pub lets_entry : (old new : State) (e : SheetEntry) → e.no < 2 ^ 32 → IsShort e.crew → Failed entry_insert (entry_params e) old new → LetsIn old Always (LetsEntry e.no e.device e.cause) → HasFailed old new
lets_entry old new e small short failed lets =
    let db = old.now.trees in
    let row = entry_at e in
    let put = entry_put e (db 8) in
    let edit = insert_edit db an_entry entry_terms (entry_params e) in
    entry_fails old new e lets.schema failed (subst (Enters book_schema db an_entry (db 8)) (sym put) (entry_enters old e small short lets))
    (inserted_refers db edit (has_got book_schema.tables 5 an_entry refl) (sound_book old lets.schema lets.sound) refl row (ap (λ r. r ∷ []) put)
    (λ next done. (
      finds_device db next edit done lets.tables e.device 3 row (λ e. omega (arith, e)) lets.holds lets.allowed.1 refl,
      (finds_cause db next edit done lets.tables e.cause 6 row (λ e. omega (arith, e)) lets.holds lets.allowed.2 refl, tt),
    )))
