-- Of each statement: its text is one, which a database of the tables refuses only where a rule does.
use Rattle.std.proofs.Common.{◌≡◌, ℕ, ℤ, pos, List, [], ◌∷◌, filter, Option, Some, None, true, false, refl, arith, true≢false}
use Rattle.std.specs.List.{list_all}
use Rattle.sqlite_trees.specs.Tree.{Trees, with_tree}
use Rattle.sqlite_value.specs.Keys.{joined}
use Rattle.sqlite_schema.specs.Names.{same_name}
use Rattle.sqlite_schema.specs.Rules.{Keeps, Refers, references_fit}
use Rattle.sqlite_schema.specs.declared.schema.Constraint.TheVariants.{Unique}
use Rattle.sqlite_schema.specs.declared.schema.Keys.TheVariants.{Enforced}
use Rattle.sqlite_schema.specs.declared.schema.Among.TheVariants.{All}
use Rattle.sqlite_rules.specs.Edit.{Applies}
use Rattle.sqlite_tied.specs.Compute.{everything}
use Rattle.sqlite.specs.Order.{Row}
use Rattle.sqlite.specs.Table as sql
use Rattle.sqlite.specs.Term.{Term, col, holds, eval_all}
use Rattle.sqlite.specs.Effect.{IsSource}
use Rattle.sqlite.specs.Source.TheVariants.{Values}
use Rattle.sqlite.specs.Command.TheVariants.{Insert, Update, Delete}
use Rattle.sqlite.specs.Listing.{understood}
use Rattle.sqlite.specs.State.{State}
use Rattle.sqlite.specs.declared.types.Value.TheVariants.{Int, Text}
use Rattle.ob_base.specs.declared.life.Life.{Life as ALife}
use Rattle.ob_net.specs.declared.net.Node.{Node as NetNode}
use Rattle.ob_net.specs.declared.net.Device.{Device as NetDevice}
use Rattle.ob_sheet.specs.declared.Entry.{Entry as SheetEntry}
use Rattle.ob_cust.specs.declared.Customer.{Customer as RollCustomer}
use Rattle.ob_sql_rows.specs.Schema.{book_schema, meta_table, cause_table, node_table, device_table, customer_table, entry_table, mark_table, command_table, moved_table, posting_table, life_table}
use Rattle.ob_sql_rows.specs.Rows.{number_or_null, meta_row, posting_row}
use Rattle.ob_sql_rows.specs.Steps.{Failed, HasFailed}
use Rattle.ob_sql_rows.proofs.Queries.{whole}
use Rattle.ob_sql_rows.proofs.Entering.{Enters}
use Rattle.ob_sql_rows.proofs.Failing.{IsUntyped}
use Rattle.ob_sql_rows.proofs.Refusing.{IsWrittenAs, no_rows, program_of, insert_edit, update_edit, delete_edit, insert_row, update_row, update_left, insert_lets, update_lets, delete_lets}
use Rattle.ob_sql_rows.proofs.Adding.{meta_insert, meta_terms, cause_insert, cause_terms, node_insert, node_params, node_terms, device_insert, device_params, device_terms, customer_insert, customer_params, customer_terms, entry_insert, entry_params, entry_terms, mark_insert, mark_terms, command_insert, command_terms, moved_insert, moved_terms, posting_insert, posting_terms, life_insert, life_params, life_terms}
use Rattle.ob_sql_rows.proofs.Keyed.{by_key, service_update, service_params, service_shows, correct_update, correct_params, correct_shows, withdraw_update, withdraw_shows, life_update, life_shows, body_update, body_shows, version_update, version_shows, mark_delete}
use Rattle.ob_sql_rows.proofs.Posting.{posting_update, posting_tests, posting_shows}

-- an INSERT that fails has a cause, where its row passes the rules
abbrev pub InsertFails : sql.Table → List Term → List ℕ → Row → State → State → Type 0
InsertFails table terms text params old new =
    old.now.schema ≡ book_schema → Failed text params old new → Enters book_schema old.now.trees table (old.now.trees table.tree) (insert_row old.now.trees table terms params)
    → ((next : Trees) → Applies book_schema Enforced old.now.trees (insert_edit old.now.trees table terms params) next → Refers All book_schema next) → HasFailed old new

-- and so has an UPDATE of the one row that passes
abbrev pub UpdateFails : sql.Table → List Term → List Term → List ℕ → Row → State → State → Type 0
UpdateFails table tests shows text params old new =
    old.now.schema ≡ book_schema → Failed text params old new
    → (row : Row) → filter (λ r. list_all (holds (params ∷ r ∷ [])) tests) (old.now.trees table.tree) ≡ row ∷ []
    → Enters book_schema old.now.trees table (update_left old.now.trees table shows params row) (update_row table shows params row)
    → ((next : Trees) → Applies book_schema Enforced old.now.trees (update_edit old.now.trees table shows params row) next → Refers All book_schema next) → HasFailed old new

-- and a DELETE of it
abbrev pub DeleteFails : sql.Table → List Term → List Term → List ℕ → Row → State → State → Type 0
DeleteFails table tests shows text params old new =
    old.now.schema ≡ book_schema → Failed text params old new
    → (row : Row) → filter (λ r. list_all (holds (params ∷ r ∷ [])) tests) (old.now.trees table.tree) ≡ row ∷ []
    → Keeps Unique book_schema (with_tree old.now.trees table.tree (update_left old.now.trees table shows params row))
    → ((next : Trees) → Applies book_schema Enforced old.now.trees (delete_edit old.now.trees table shows params row) next → Refers All book_schema next) → HasFailed old new

-- ---- meta
pub meta_written : (first_day : List ℕ) (days : ℕ) (zone : List ℕ) → IsWrittenAs book_schema meta_insert (meta_row 2 first_day days zone) (Insert 0 (Values meta_terms 6)) (understood book_schema meta_insert)
unfolding understood everything
meta_written first_day days zone = record { whole = omega arith; given = refl; timeless = refl; plain = refl; is = refl }

meta_fits : references_fit book_schema (record meta_table { tree = 0 }) true false ≡ true
unfolding same_name joined
meta_fits = refl

pub meta_fails : (old new : State) (first_day : List ℕ) (days : ℕ) (zone : List ℕ) → InsertFails (record meta_table { tree = 0 }) meta_terms meta_insert (meta_row 2 first_day days zone) old new
meta_fails old new first_day days zone =
    insert_lets book_schema 0 (record meta_table { tree = 0 }) refl meta_terms 6 meta_insert (meta_row 2 first_day days zone) (meta_written first_day days zone) refl refl (refl, refl) (λ it. refl) meta_fits old new

-- ---- cause
pub cause_written : (code : ℕ) (name : List ℕ) → IsWrittenAs book_schema cause_insert (Int (pos code) ∷ Text name ∷ []) (Insert 1 (Values cause_terms 3)) (understood book_schema cause_insert)
unfolding understood everything
cause_written code name = record { whole = omega arith; given = refl; timeless = refl; plain = refl; is = refl }

cause_fits : references_fit book_schema (record cause_table { tree = 1 }) true false ≡ true
unfolding same_name joined
cause_fits = refl

pub cause_fails : (old new : State) (code : ℕ) (name : List ℕ) → InsertFails (record cause_table { tree = 1 }) cause_terms cause_insert (Int (pos code) ∷ Text name ∷ []) old new
cause_fails old new code name =
    insert_lets book_schema 1 (record cause_table { tree = 1 }) refl cause_terms 3 cause_insert (Int (pos code) ∷ Text name ∷ []) (cause_written code name) refl refl (refl, refl) (λ it. refl) cause_fits old new

-- ---- node
pub node_written : (id : ℕ) (node : NetNode) → IsWrittenAs book_schema node_insert (node_params id node) (Insert 2 (Values node_terms 5)) (understood book_schema node_insert)
unfolding understood everything
node_written id node = record { whole = omega arith; given = refl; timeless = refl; plain = refl; is = refl }

node_fits : references_fit book_schema (record node_table { tree = 3 }) true false ≡ true
unfolding same_name joined
node_fits = refl

pub node_fails : (old new : State) (id : ℕ) (node : NetNode) → InsertFails (record node_table { tree = 3 }) node_terms node_insert (node_params id node) old new
node_fails old new id node =
    insert_lets book_schema 2 (record node_table { tree = 3 }) refl node_terms 5 node_insert (node_params id node) (node_written id node) refl refl (refl, refl) (λ it. refl) node_fits old new

-- ---- device
pub device_written : (id : ℕ) (d : NetDevice) → IsWrittenAs book_schema device_insert (device_params id d) (Insert 3 (Values device_terms 6)) (understood book_schema device_insert)
unfolding understood everything
device_written id d = record { whole = omega arith; given = refl; timeless = refl; plain = refl; is = refl }

device_fits : references_fit book_schema (record device_table { tree = 5 }) true false ≡ true
unfolding same_name joined
device_fits = refl

pub device_fails : (old new : State) (id : ℕ) (d : NetDevice) → InsertFails (record device_table { tree = 5 }) device_terms device_insert (device_params id d) old new
device_fails old new id d =
    insert_lets book_schema 3 (record device_table { tree = 5 }) refl device_terms 6 device_insert (device_params id d) (device_written id d) refl refl (refl, refl) (λ it. refl) device_fits old new

-- ---- customer
pub customer_written : (c : RollCustomer) → IsWrittenAs book_schema customer_insert (customer_params c) (Insert 4 (Values customer_terms 5)) (understood book_schema customer_insert)
unfolding understood everything
customer_written c = record { whole = omega arith; given = refl; timeless = refl; plain = refl; is = refl }

customer_fits : references_fit book_schema (record customer_table { tree = 7 }) true false ≡ true
unfolding same_name joined
customer_fits = refl

customer_typed : (id section since : ℕ) (until : Option ℕ) → IsSource no_rows (Int (pos id) ∷ Int (pos section) ∷ Int (pos since) ∷ number_or_null until ∷ []) (Values customer_terms 5) (eval_all customer_terms ((Int (pos id) ∷ Int (pos section) ∷ Int (pos since) ∷ number_or_null until ∷ []) ∷ []) ∷ [])
customer_typed id section since None = (refl, refl)
customer_typed id section since (Some n) = (refl, refl)

pub customer_fails : (old new : State) (c : RollCustomer) → InsertFails (record customer_table { tree = 7 }) customer_terms customer_insert (customer_params c) old new
customer_fails old new c =
    insert_lets book_schema 4 (record customer_table { tree = 7 }) refl customer_terms 5 customer_insert (customer_params c) (customer_written c) refl refl (customer_typed c.no c.section c.since c.until) (λ it. refl) customer_fits old new

-- ---- entry
pub entry_written : (e : SheetEntry) → IsWrittenAs book_schema entry_insert (entry_params e) (Insert 5 (Values entry_terms 9)) (understood book_schema entry_insert)
unfolding understood everything
entry_written e = record { whole = omega arith; given = refl; timeless = refl; plain = refl; is = refl }

entry_fits : references_fit book_schema (record entry_table { tree = 8 }) true false ≡ true
unfolding same_name joined
entry_fits = refl

pub entry_fails : (old new : State) (e : SheetEntry) → InsertFails (record entry_table { tree = 8 }) entry_terms entry_insert (entry_params e) old new
entry_fails old new e =
    insert_lets book_schema 5 (record entry_table { tree = 8 }) refl entry_terms 9 entry_insert (entry_params e) (entry_written e) refl refl (refl, refl) (λ it. refl) entry_fits old new

-- ---- mark
pub mark_written : (day : ℕ) (engineer : List ℕ) → IsWrittenAs book_schema mark_insert (Int (pos day) ∷ Text engineer ∷ []) (Insert 6 (Values mark_terms 3)) (understood book_schema mark_insert)
unfolding understood everything
mark_written day engineer = record { whole = omega arith; given = refl; timeless = refl; plain = refl; is = refl }

mark_fits : references_fit book_schema (record mark_table { tree = 9 }) true false ≡ true
unfolding same_name joined
mark_fits = refl

pub mark_fails : (old new : State) (day : ℕ) (engineer : List ℕ) → InsertFails (record mark_table { tree = 9 }) mark_terms mark_insert (Int (pos day) ∷ Text engineer ∷ []) old new
mark_fails old new day engineer =
    insert_lets book_schema 6 (record mark_table { tree = 9 }) refl mark_terms 3 mark_insert (Int (pos day) ∷ Text engineer ∷ []) (mark_written day engineer) refl refl (refl, refl) (λ it. refl) mark_fits old new

-- ---- command
pub command_written : (id : ℕ) (reference body : List ℕ) → IsWrittenAs book_schema command_insert (Int (pos id) ∷ Text reference ∷ Text body ∷ []) (Insert 7 (Values command_terms 4)) (understood book_schema command_insert)
unfolding understood everything
command_written id reference body = record { whole = omega arith; given = refl; timeless = refl; plain = refl; is = refl }

command_fits : references_fit book_schema (record command_table { tree = 10 }) true false ≡ true
unfolding same_name joined
command_fits = refl

pub command_fails : (old new : State) (id : ℕ) (reference body : List ℕ) → InsertFails (record command_table { tree = 10 }) command_terms command_insert (Int (pos id) ∷ Text reference ∷ Text body ∷ []) old new
command_fails old new id reference body =
    insert_lets book_schema 7 (record command_table { tree = 10 }) refl command_terms 4 command_insert (Int (pos id) ∷ Text reference ∷ Text body ∷ []) (command_written id reference body) refl refl (refl, refl) (λ it. refl) command_fits old new

-- ---- moved
pub moved_written : (id dim key : ℕ) (delta : ℤ) → IsWrittenAs book_schema moved_insert (Int (pos id) ∷ Int (pos dim) ∷ Int (pos key) ∷ Int delta ∷ []) (Insert 8 (Values moved_terms 5)) (understood book_schema moved_insert)
unfolding understood everything
moved_written id dim key delta = record { whole = omega arith; given = refl; timeless = refl; plain = refl; is = refl }

moved_fits : references_fit book_schema (record moved_table { tree = 12 }) true false ≡ true
unfolding same_name joined
moved_fits = refl

pub moved_fails : (old new : State) (id dim key : ℕ) (delta : ℤ) → InsertFails (record moved_table { tree = 12 }) moved_terms moved_insert (Int (pos id) ∷ Int (pos dim) ∷ Int (pos key) ∷ Int delta ∷ []) old new
moved_fails old new id dim key delta =
    insert_lets book_schema 8 (record moved_table { tree = 12 }) refl moved_terms 5 moved_insert (Int (pos id) ∷ Int (pos dim) ∷ Int (pos key) ∷ Int delta ∷ []) (moved_written id dim key delta) refl refl (refl, refl) (λ it. refl) moved_fits old new

-- ---- posting
pub posting_written : (dim key : ℕ) → IsWrittenAs book_schema posting_insert (posting_row dim key 0) (Insert 9 (Values posting_terms 4)) (understood book_schema posting_insert)
unfolding understood everything
posting_written dim key = record { whole = omega arith; given = refl; timeless = refl; plain = refl; is = refl }

posting_fits : references_fit book_schema (record posting_table { tree = 14 }) true false ≡ true
unfolding same_name joined
posting_fits = refl

pub posting_fails : (old new : State) (dim key : ℕ) → InsertFails (record posting_table { tree = 14 }) posting_terms posting_insert (posting_row dim key 0) old new
posting_fails old new dim key =
    insert_lets book_schema 9 (record posting_table { tree = 14 }) refl posting_terms 4 posting_insert (posting_row dim key 0) (posting_written dim key) refl refl (refl, refl) (λ it. refl) posting_fits old new

-- ---- life
pub life_written : (device : ℕ) (life : ALife) → IsWrittenAs book_schema life_insert (life_params device life) (Insert 10 (Values life_terms 4)) (understood book_schema life_insert)
unfolding understood everything
life_written device life = record { whole = omega arith; given = refl; timeless = refl; plain = refl; is = refl }

life_fits : references_fit book_schema (record life_table { tree = 16 }) true false ≡ true
unfolding same_name joined
life_fits = refl

life_typed : (device since : ℕ) (until : Option ℕ) → IsSource no_rows (Int (pos device) ∷ Int (pos since) ∷ number_or_null until ∷ []) (Values life_terms 4) (eval_all life_terms ((Int (pos device) ∷ Int (pos since) ∷ number_or_null until ∷ []) ∷ []) ∷ [])
life_typed device since None = (refl, refl)
life_typed device since (Some n) = (refl, refl)

pub life_fails : (old new : State) (device : ℕ) (life : ALife) → InsertFails (record life_table { tree = 16 }) life_terms life_insert (life_params device life) old new
life_fails old new device life =
    insert_lets book_schema 10 (record life_table { tree = 16 }) refl life_terms 4 life_insert (life_params device life) (life_written device life) refl refl (life_typed device life.since life.until) (λ it. refl) life_fits old new

-- ---- service
pub service_written : (c : RollCustomer) → IsWrittenAs book_schema service_update (service_params c) (Update 4 (record { lets = []; body = whole by_key service_shows 7 })) (understood book_schema service_update)
unfolding understood everything
service_written c = record { whole = omega arith; given = refl; timeless = refl; plain = refl; is = refl }

service_fits : references_fit book_schema (record customer_table { tree = 7 }) true true ≡ true
unfolding same_name joined
service_fits = refl

service_typed : (id since : ℕ) (until : Option ℕ) → ¬ IsUntyped book_schema (program_of by_key service_shows 7) (Int (pos id) ∷ Int (pos since) ∷ number_or_null until ∷ [])
service_typed id since None = true≢false
service_typed id since (Some n) = true≢false

pub service_fails : (old new : State) (c : RollCustomer) → UpdateFails (record customer_table { tree = 7 }) by_key service_shows service_update (service_params c) old new
service_fails old new c =
    update_lets book_schema 4 (record customer_table { tree = 7 }) refl by_key service_shows service_update (service_params c) (service_written c) refl (service_typed c.no c.since c.until) (λ olds it. refl) service_fits old new

-- ---- corrected
pub corrected_written : (e : SheetEntry) → IsWrittenAs book_schema correct_update (correct_params e) (Update 5 (record { lets = []; body = whole by_key correct_shows 8 })) (understood book_schema correct_update)
unfolding understood everything
corrected_written e = record { whole = omega arith; given = refl; timeless = refl; plain = refl; is = refl }

corrected_fits : references_fit book_schema (record entry_table { tree = 8 }) true true ≡ true
unfolding same_name joined
corrected_fits = refl

pub corrected_fails : (old new : State) (e : SheetEntry) → UpdateFails (record entry_table { tree = 8 }) by_key correct_shows correct_update (correct_params e) old new
corrected_fails old new e =
    update_lets book_schema 5 (record entry_table { tree = 8 }) refl by_key correct_shows correct_update (correct_params e) (corrected_written e) refl true≢false (λ olds it. refl) corrected_fits old new

-- ---- withdrawn
pub withdrawn_written : (id revision : ℕ) → IsWrittenAs book_schema withdraw_update (Int (pos id) ∷ Int (pos revision) ∷ []) (Update 5 (record { lets = []; body = whole by_key withdraw_shows 8 })) (understood book_schema withdraw_update)
unfolding understood everything
withdrawn_written id revision = record { whole = omega arith; given = refl; timeless = refl; plain = refl; is = refl }

withdrawn_fits : references_fit book_schema (record entry_table { tree = 8 }) true true ≡ true
unfolding same_name joined
withdrawn_fits = refl

pub withdrawn_fails : (old new : State) (id revision : ℕ) → UpdateFails (record entry_table { tree = 8 }) by_key withdraw_shows withdraw_update (Int (pos id) ∷ Int (pos revision) ∷ []) old new
withdrawn_fails old new id revision =
    update_lets book_schema 5 (record entry_table { tree = 8 }) refl by_key withdraw_shows withdraw_update (Int (pos id) ∷ Int (pos revision) ∷ []) (withdrawn_written id revision) refl true≢false (λ olds it. refl) withdrawn_fits old new

-- ---- life_set
pub life_set_written : (device : ℕ) (life : ALife) → IsWrittenAs book_schema life_update (life_params device life) (Update 10 (record { lets = []; body = whole by_key life_shows 16 })) (understood book_schema life_update)
unfolding understood everything
life_set_written device life = record { whole = omega arith; given = refl; timeless = refl; plain = refl; is = refl }

life_set_fits : references_fit book_schema (record life_table { tree = 16 }) true true ≡ true
unfolding same_name joined
life_set_fits = refl

life_set_typed : (device since : ℕ) (until : Option ℕ) → ¬ IsUntyped book_schema (program_of by_key life_shows 16) (Int (pos device) ∷ Int (pos since) ∷ number_or_null until ∷ [])
life_set_typed device since None = true≢false
life_set_typed device since (Some n) = true≢false

pub life_set_fails : (old new : State) (device : ℕ) (life : ALife) → UpdateFails (record life_table { tree = 16 }) by_key life_shows life_update (life_params device life) old new
life_set_fails old new device life =
    update_lets book_schema 10 (record life_table { tree = 16 }) refl by_key life_shows life_update (life_params device life) (life_set_written device life) refl (life_set_typed device life.since life.until) (λ olds it. refl) life_set_fits old new

-- ---- body
pub body_written : (id : ℕ) (body : List ℕ) → IsWrittenAs book_schema body_update (Int (pos id) ∷ Text body ∷ []) (Update 7 (record { lets = []; body = whole by_key body_shows 10 })) (understood book_schema body_update)
unfolding understood everything
body_written id body = record { whole = omega arith; given = refl; timeless = refl; plain = refl; is = refl }

body_fits : references_fit book_schema (record command_table { tree = 10 }) true true ≡ true
unfolding same_name joined
body_fits = refl

pub body_fails : (old new : State) (id : ℕ) (body : List ℕ) → UpdateFails (record command_table { tree = 10 }) by_key body_shows body_update (Int (pos id) ∷ Text body ∷ []) old new
body_fails old new id body =
    update_lets book_schema 7 (record command_table { tree = 10 }) refl by_key body_shows body_update (Int (pos id) ∷ Text body ∷ []) (body_written id body) refl true≢false (λ olds it. refl) body_fits old new

-- ---- version
pub version_written : (version : ℕ) → IsWrittenAs book_schema version_update (Int (pos 1) ∷ Int (pos version) ∷ []) (Update 0 (record { lets = []; body = whole by_key version_shows 0 })) (understood book_schema version_update)
unfolding understood everything
version_written version = record { whole = omega arith; given = refl; timeless = refl; plain = refl; is = refl }

version_fits : references_fit book_schema (record meta_table { tree = 0 }) true true ≡ true
unfolding same_name joined
version_fits = refl

pub version_fails : (old new : State) (version : ℕ) → UpdateFails (record meta_table { tree = 0 }) by_key version_shows version_update (Int (pos 1) ∷ Int (pos version) ∷ []) old new
version_fails old new version =
    update_lets book_schema 0 (record meta_table { tree = 0 }) refl by_key version_shows version_update (Int (pos 1) ∷ Int (pos version) ∷ []) (version_written version) refl true≢false (λ olds it. refl) version_fits old new

-- ---- amount
pub amount_written : (dim key amount : ℕ) → IsWrittenAs book_schema posting_update (Int (pos dim) ∷ Int (pos key) ∷ Int (pos amount) ∷ []) (Update 9 (record { lets = []; body = whole posting_tests posting_shows 14 })) (understood book_schema posting_update)
unfolding understood everything
amount_written dim key amount = record { whole = omega arith; given = refl; timeless = refl; plain = refl; is = refl }

amount_fits : references_fit book_schema (record posting_table { tree = 14 }) true true ≡ true
unfolding same_name joined
amount_fits = refl

pub amount_fails : (old new : State) (dim key amount : ℕ) → UpdateFails (record posting_table { tree = 14 }) posting_tests posting_shows posting_update (Int (pos dim) ∷ Int (pos key) ∷ Int (pos amount) ∷ []) old new
amount_fails old new dim key amount =
    update_lets book_schema 9 (record posting_table { tree = 14 }) refl posting_tests posting_shows posting_update (Int (pos dim) ∷ Int (pos key) ∷ Int (pos amount) ∷ []) (amount_written dim key amount) refl true≢false (λ olds it. refl) amount_fits old new

-- ---- unmarked
pub unmarked_written : (day : ℕ) → IsWrittenAs book_schema mark_delete (Int (pos day) ∷ []) (Delete 6 (record { lets = []; body = whole by_key (col 1 0 ∷ []) 9 })) (understood book_schema mark_delete)
unfolding understood everything
unmarked_written day = record { whole = omega arith; given = refl; timeless = refl; plain = refl; is = refl }

unmarked_fits : references_fit book_schema (record mark_table { tree = 9 }) false true ≡ true
unfolding same_name joined
unmarked_fits = refl

pub unmarked_fails : (old new : State) (day : ℕ) → DeleteFails (record mark_table { tree = 9 }) by_key (col 1 0 ∷ []) mark_delete (Int (pos day) ∷ []) old new
unmarked_fails old new day =
    delete_lets book_schema 6 (record mark_table { tree = 9 }) refl by_key (col 1 0 ∷ []) mark_delete (Int (pos day) ∷ []) (unmarked_written day) refl true≢false (λ olds. refl) unmarked_fits old new
