-- An INSERT into a table that refers to no other fails only where the store does, where the rules of the tables let the row in.
use Rattle.std.proofs.Common.{◌≡◌, ℕ, ◌^◌, ◌<◌, pos, List, [], ◌∷◌, true, false, not, ◌&&◌, refl, sym, ap, subst, arith}
use Rattle.std.specs.Prelude.{unwrap_or}
use Rattle.std.proofs.lemmas.Cmp.{tied_itself}
use Rattle.sqlite_value.proofs.OrderLemmas.{value_cmp_total}
use Rattle.sqlite_value.specs.Keys.{plain}
use Rattle.sqlite.specs.Order.{Row}
use Rattle.sqlite.specs.declared.types.Value.TheVariants.{Null, Int, Text}
use Rattle.sqlite.specs.Ops.{binary}
use Rattle.sqlite.specs.Term.{Term, eval_all}
use Rattle.sqlite.specs.Tree.{Trees}
use Rattle.sqlite.specs.Table as sql
use Rattle.sqlite.specs.State.{State}
use Rattle.sqlite.specs.Rowids.TheVariants.{Chosen}
use Rattle.sqlite_schema.specs.declared.schema.Constraint.TheVariants.{Unique}
use Rattle.sqlite_schema.specs.declared.schema.Keys.TheVariants.{Enforced}
use Rattle.sqlite_schema.specs.declared.schema.Among.TheVariants.{All}
use Rattle.sqlite_schema.specs.Rules.{passes_checks, clashes, Refers}
use Rattle.sqlite_catalog.specs.Listing.{IsSound}
use Rattle.sqlite_rules.specs.Lists.{Has}
use Rattle.sqlite_rules.specs.Edit.{with_rowid, Applies}
use Rattle.sqlite_rules.specs.Cast.{cast_row}
use Rattle.sqlite_rules.proofs.ListLemmas.{has_got}
use Rattle.ob_net.specs.declared.net.Node.{Node as NetNode}
use Rattle.ob_sql_rows.specs.Schema.{book_schema, meta_table, cause_table, node_table, mark_table, command_table}
use Rattle.ob_sql_rows.specs.Rows.{Always, is_reference, node_kind, meta_row}
use Rattle.ob_sql_rows.specs.Rules.{IsShort, LetsMeta, LetsCause, LetsNode, LetsMark, LetsCommand}
use Rattle.ob_sql_rows.specs.Steps.{Failed, HasFailed, LetsIn}
use Rattle.ob_sql_rows.specs.declared.table.Table.TheVariants.{Meta, Cause, Node, Mark, Command}
use Rattle.ob_sql_rows.proofs.Adding.{meta_insert, meta_terms, cause_insert, cause_terms, node_insert, node_params, node_terms, mark_insert, mark_terms, command_insert, command_terms}
use Rattle.ob_sql_rows.proofs.Casts.{cast_int, cast_null}
use Rattle.ob_sql_rows.proofs.Entering.{Enters}
use Rattle.ob_sql_rows.proofs.Keys.{key_free, clash_free, obeyed, enters, storable, storable_row}
use Rattle.ob_sql_rows.proofs.Parents.{sound_book, inserted_refers}
use Rattle.ob_sql_rows.proofs.Refusing.{insert_edit, insert_row}
use Rattle.ob_sql_rows.proofs.Texts.{meta_fails, cause_fails, node_fails, mark_fails, command_fails}

-- a row of a table without references keeps each row's parents
stands_alone : (db : Trees) (table : sql.Table) (terms : List Term) (params : Row) → IsSound book_schema db → Has book_schema.tables table → table.references ≡ []
    → (next : Trees) → Applies book_schema Enforced db (insert_edit db table terms params) next → Refers All book_schema next
stands_alone db table terms params sound listed alone =
    inserted_refers db (insert_edit db table terms params) listed sound refl (insert_row db table terms params) refl (λ next done. rw alone tt)

-- ---- a cause
abbrev a_cause : sql.Table
a_cause = record cause_table { tree = 1 }

abbrev cause_at : ℕ → List ℕ → Row
cause_at code name = Int (pos code) ∷ Null ∷ Text name ∷ []

cause_put : (code : ℕ) (name : List ℕ) (rows : List Row) → with_rowid Chosen rows (cast_row a_cause (eval_all cause_terms ((Int (pos code) ∷ Text name ∷ []) ∷ []))) ≡ cause_at code name
cause_put code name rows = rw (cast_int (pos code), cast_null)

cause_enters : (s : State) (code : ℕ) (name : List ℕ) → code < 2 ^ 32 → IsShort name → LetsIn s Always (LetsCause code name) → Enters book_schema s.now.trees a_cause (s.now.trees 1) (cause_at code name)
cause_enters s code name small short lets =
    let db = s.now.trees in
    let new : clashes plain (2 ∷ []) (db 1) (cause_at code name) ≡ false = clash_free Cause (is_reference name) (2 ∷ []) (cause_at code name) (λ r h. h) db lets.tables lets.holds lets.allowed.1 in
    enters a_cause 1 db (db 1) (cause_at code name) code refl (λ r there. there) ((obeyed s.now lets.schema lets.sound).rules Unique) refl (omega (arith, small))
    (key_free Cause (λ r. refl) code db lets.tables lets.holds lets.allowed.0 (cause_at code name) refl) (ap (λ b. not b && true) new) refl refl refl
    (storable_row (cause_at code name) (omega arith) (omega arith) (tt, (tt, (short, tt)))) (
      λ _. storable (Text name ∷ Int (pos code) ∷ []) (omega arith) (omega arith) (short, (tt, tt)),
      (λ e. absurd (omega (arith, e)), (λ e. absurd (omega (arith, e)), (λ e. absurd (omega (arith, e)), (λ e. absurd (omega (arith, e)), (λ e. absurd (omega (arith, e)), tt))))),
    )

pub lets_cause : (old new : State) (code : ℕ) (name : List ℕ) → code < 2 ^ 32 → IsShort name → Failed cause_insert (Int (pos code) ∷ Text name ∷ []) old new → LetsIn old Always (LetsCause code name) → HasFailed old new
lets_cause old new code name small short failed lets =
    cause_fails old new code name lets.schema failed
    (subst (Enters book_schema old.now.trees a_cause (old.now.trees 1)) (sym (cause_put code name (old.now.trees 1))) (cause_enters old code name small short lets))
    (stands_alone old.now.trees a_cause cause_terms (Int (pos code) ∷ Text name ∷ []) (sound_book old lets.schema lets.sound) (has_got book_schema.tables 1 a_cause refl) refl)

-- ---- the heading
abbrev a_meta : sql.Table
a_meta = record meta_table { tree = 0 }

abbrev meta_at : List ℕ → ℕ → List ℕ → Row
meta_at first_day days zone = Int (pos 1) ∷ Null ∷ Int (pos 2) ∷ Text first_day ∷ Int (pos days) ∷ Text zone ∷ []

meta_put : (first_day : List ℕ) (days : ℕ) (zone : List ℕ) (rows : List Row)
    → with_rowid Chosen rows (cast_row a_meta (eval_all meta_terms (meta_row 2 first_day days zone ∷ []))) ≡ meta_at first_day days zone
meta_put first_day days zone rows = rw (cast_int (pos 1), cast_null, cast_int (pos 2), cast_int (pos days))

-- its number is 1
meta_checked : (rest : Row) → passes_checks a_meta (Int (pos 1) ∷ rest) ≡ true
unfolding binary
meta_checked rest = rw (tied_itself value_cmp_total (Int (pos 1)))

meta_enters : (s : State) (first_day : List ℕ) (days : ℕ) (zone : List ℕ) → LetsIn s Always (LetsMeta first_day zone) → Enters book_schema s.now.trees a_meta (s.now.trees 0) (meta_at first_day days zone)
meta_enters s first_day days zone lets =
    let db = s.now.trees in
    enters a_meta 0 db (db 0) (meta_at first_day days zone) 1 refl (λ r there. there) ((obeyed s.now lets.schema lets.sound).rules Unique) refl (omega arith)
    (key_free Meta (λ r. refl) 1 db lets.tables lets.holds lets.allowed.0 (meta_at first_day days zone) refl) refl refl refl (meta_checked (Null ∷ Int (pos 2) ∷ Text first_day ∷ Int (pos days) ∷ Text zone ∷ []))
    (storable_row (meta_at first_day days zone) (omega arith) (omega arith) (tt, (tt, (tt, (lets.allowed.1, (tt, (lets.allowed.2, tt))))))) (
      λ e. absurd (omega (arith, e)),
      (λ e. absurd (omega (arith, e)), (λ e. absurd (omega (arith, e)), (λ e. absurd (omega (arith, e)), (λ e. absurd (omega (arith, e)), (λ e. absurd (omega (arith, e)), tt))))),
    )

pub lets_meta : (old new : State) (first_day : List ℕ) (days : ℕ) (zone : List ℕ) → Failed meta_insert (meta_row 2 first_day days zone) old new → LetsIn old Always (LetsMeta first_day zone) → HasFailed old new
lets_meta old new first_day days zone failed lets =
    meta_fails old new first_day days zone lets.schema failed
    (subst (Enters book_schema old.now.trees a_meta (old.now.trees 0)) (sym (meta_put first_day days zone (old.now.trees 0))) (meta_enters old first_day days zone lets))
    (stands_alone old.now.trees a_meta meta_terms (meta_row 2 first_day days zone) (sound_book old lets.schema lets.sound) (has_got book_schema.tables 0 a_meta refl) refl)

-- ---- a node
abbrev a_node : sql.Table
a_node = record node_table { tree = 3 }

abbrev node_at : ℕ → List ℕ → ℕ → ℕ → Row
node_at id name kind feeder = Int (pos id) ∷ Null ∷ Text name ∷ Int (pos kind) ∷ Int (pos feeder) ∷ []

node_put : (id : ℕ) (name : List ℕ) (kind feeder : ℕ) (rows : List Row)
    → with_rowid Chosen rows (cast_row a_node (eval_all node_terms ((Int (pos id) ∷ Text name ∷ Int (pos kind) ∷ Int (pos feeder) ∷ []) ∷ []))) ≡ node_at id name kind feeder
node_put id name kind feeder rows = rw (cast_int (pos id), cast_null, cast_int (pos kind), cast_int (pos feeder))

node_enters : (s : State) (id : ℕ) (name : List ℕ) (kind feeder : ℕ) → id < 2 ^ 32 → IsShort name → LetsIn s Always (LetsNode id name) → Enters book_schema s.now.trees a_node (s.now.trees 3) (node_at id name kind feeder)
node_enters s id name kind feeder small short lets =
    let db = s.now.trees in
    let new : clashes plain (2 ∷ []) (db 3) (node_at id name kind feeder) ≡ false = clash_free Node (is_reference name) (2 ∷ []) (node_at id name kind feeder) (λ r h. h) db lets.tables lets.holds lets.allowed.1 in
    enters a_node 2 db (db 3) (node_at id name kind feeder) id refl (λ r there. there) ((obeyed s.now lets.schema lets.sound).rules Unique) refl (omega (arith, small))
    (key_free Node (λ r. refl) id db lets.tables lets.holds lets.allowed.0 (node_at id name kind feeder) refl) (ap (λ b. not b && true) new) refl refl refl
    (storable_row (node_at id name kind feeder) (omega arith) (omega arith) (tt, (tt, (short, (tt, (tt, tt)))))) (
      λ e. absurd (omega (arith, e)),
      (
        λ _. storable (Text name ∷ Int (pos id) ∷ []) (omega arith) (omega arith) (short, (tt, tt)),
        (λ e. absurd (omega (arith, e)), (λ e. absurd (omega (arith, e)), (λ e. absurd (omega (arith, e)), (λ e. absurd (omega (arith, e)), tt)))),
      ),
    )

pub lets_node : (old new : State) (id : ℕ) (node : NetNode) → id < 2 ^ 32 → IsShort node.name → Failed node_insert (node_params id node) old new → LetsIn old Always (LetsNode id node.name) → HasFailed old new
lets_node old new id node small short failed lets =
    let kind = node_kind id node in
    let feeder = unwrap_or node.feeder 0 in
    node_fails old new id node lets.schema failed
    (subst (Enters book_schema old.now.trees a_node (old.now.trees 3)) (sym (node_put id node.name kind feeder (old.now.trees 3))) (node_enters old id node.name kind feeder small short lets))
    (stands_alone old.now.trees a_node node_terms (node_params id node) (sound_book old lets.schema lets.sound) (has_got book_schema.tables 2 a_node refl) refl)

-- ---- a mark
abbrev a_mark : sql.Table
a_mark = record mark_table { tree = 9 }

abbrev mark_at : ℕ → List ℕ → Row
mark_at day engineer = Int (pos day) ∷ Null ∷ Text engineer ∷ []

mark_put : (day : ℕ) (engineer : List ℕ) (rows : List Row) → with_rowid Chosen rows (cast_row a_mark (eval_all mark_terms ((Int (pos day) ∷ Text engineer ∷ []) ∷ []))) ≡ mark_at day engineer
mark_put day engineer rows = rw (cast_int (pos day), cast_null)

mark_enters : (s : State) (day : ℕ) (engineer : List ℕ) → day < 2 ^ 32 → IsShort engineer → LetsIn s Always (LetsMark day) → Enters book_schema s.now.trees a_mark (s.now.trees 9) (mark_at day engineer)
mark_enters s day engineer small short lets =
    let db = s.now.trees in
    enters a_mark 6 db (db 9) (mark_at day engineer) day refl (λ r there. there) ((obeyed s.now lets.schema lets.sound).rules Unique) refl (omega (arith, small))
    (key_free Mark (λ r. refl) day db lets.tables lets.holds lets.allowed (mark_at day engineer) refl) refl refl refl refl
    (storable_row (mark_at day engineer) (omega arith) (omega arith) (tt, (tt, (short, tt)))) (
      λ e. absurd (omega (arith, e)),
      (λ e. absurd (omega (arith, e)), (λ e. absurd (omega (arith, e)), (λ e. absurd (omega (arith, e)), (λ e. absurd (omega (arith, e)), (λ e. absurd (omega (arith, e)), tt))))),
    )

pub lets_mark : (old new : State) (day : ℕ) (engineer : List ℕ) → day < 2 ^ 32 → IsShort engineer → Failed mark_insert (Int (pos day) ∷ Text engineer ∷ []) old new → LetsIn old Always (LetsMark day) → HasFailed old new
lets_mark old new day engineer small short failed lets =
    mark_fails old new day engineer lets.schema failed
    (subst (Enters book_schema old.now.trees a_mark (old.now.trees 9)) (sym (mark_put day engineer (old.now.trees 9))) (mark_enters old day engineer small short lets))
    (stands_alone old.now.trees a_mark mark_terms (Int (pos day) ∷ Text engineer ∷ []) (sound_book old lets.schema lets.sound) (has_got book_schema.tables 6 a_mark refl) refl)

-- ---- a command
abbrev a_command : sql.Table
a_command = record command_table { tree = 10 }

abbrev command_at : ℕ → List ℕ → List ℕ → Row
command_at id reference body = Int (pos id) ∷ Null ∷ Text reference ∷ Text body ∷ []

command_put : (id : ℕ) (reference body : List ℕ) (rows : List Row)
    → with_rowid Chosen rows (cast_row a_command (eval_all command_terms ((Int (pos id) ∷ Text reference ∷ Text body ∷ []) ∷ []))) ≡ command_at id reference body
command_put id reference body rows = rw (cast_int (pos id), cast_null)

command_enters : (s : State) (id : ℕ) (reference body : List ℕ) → id < 2 ^ 32 → LetsIn s Always (LetsCommand id reference body) → Enters book_schema s.now.trees a_command (s.now.trees 10) (command_at id reference body)
command_enters s id reference body small lets =
    let db = s.now.trees in
    let new : clashes plain (2 ∷ []) (db 10) (command_at id reference body) ≡ false = clash_free Command (is_reference reference) (2 ∷ []) (command_at id reference body) (λ r h. h) db lets.tables lets.holds lets.allowed.1 in
    enters a_command 7 db (db 10) (command_at id reference body) id refl (λ r there. there) ((obeyed s.now lets.schema lets.sound).rules Unique) refl (omega (arith, small))
    (key_free Command (λ r. refl) id db lets.tables lets.holds lets.allowed.0 (command_at id reference body) refl) (ap (λ b. not b && true) new) refl refl refl
    (storable_row (command_at id reference body) (omega arith) (omega arith) (tt, (tt, (lets.allowed.2, (lets.allowed.3, tt))))) (
      λ e. absurd (omega (arith, e)),
      (
        λ e. absurd (omega (arith, e)),
        (
          λ e. absurd (omega (arith, e)),
          (
            λ _. storable (Text reference ∷ Int (pos id) ∷ []) (omega arith) (omega arith) (lets.allowed.2, (tt, tt)),
            (λ e. absurd (omega (arith, e)), (λ e. absurd (omega (arith, e)), tt)),
          ),
        ),
      ),
    )

pub lets_command : (old new : State) (id : ℕ) (reference body : List ℕ) → id < 2 ^ 32 → Failed command_insert (Int (pos id) ∷ Text reference ∷ Text body ∷ []) old new → LetsIn old Always (LetsCommand id reference body) → HasFailed old new
lets_command old new id reference body small failed lets =
    command_fails old new id reference body lets.schema failed
    (subst (Enters book_schema old.now.trees a_command (old.now.trees 10)) (sym (command_put id reference body (old.now.trees 10))) (command_enters old id reference body small lets))
    (stands_alone old.now.trees a_command command_terms (Int (pos id) ∷ Text reference ∷ Text body ∷ []) (sound_book old lets.schema lets.sound) (has_got book_schema.tables 7 a_command refl) refl)
