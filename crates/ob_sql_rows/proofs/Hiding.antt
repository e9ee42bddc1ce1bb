-- A statement that writes an amount, or what moved one, fails only where the store does, where the rules of the tables let it in. The rows have hidden numbers.
use Rattle.std.proofs.Common.{◌≡◌, ◌≢◌, inl, inr, ℕ, ◌+◌, ◌^◌, ◌<◌, ◌≤◌, pos, ℤ, ◌<ℤ◌, List, [], ◌∷◌, length, filter, Bool, true, false, not, ◌&&◌, Some, Ordering, Less, Equal, Greater, refl, sym, ap, subst, subst₂, ◌∙◌, arith}
use Rattle.std.specs.List.{list_any}
use Rattle.std.specs.Ordering.{is_ge, is_ne, int_cmp, MatchOrdering}
use Rattle.std.specs.Cmp.{int_ranked}
use Rattle.std.proofs.lemmas.Bool.{cases_Bool, or_from, and_parts}
use Rattle.std.proofs.lemmas.Bool.Decides.{nat_tests}
use Rattle.sqlite_value.specs.Keys.{plain}
use Rattle.sqlite_value.proofs.OrderLemmas.{value_cmp-Int}
use Rattle.sqlite_sql.specs.Ops.{is_false, from_truth}
use Rattle.sqlite.specs.Ops.{binary}
use Rattle.sqlite.specs.Order.{Row, column}
use Rattle.sqlite.specs.declared.types.Value.TheVariants.{Int}
use Rattle.sqlite.specs.Table as sql
use Rattle.sqlite.specs.State.{State}
use Rattle.sqlite.specs.Effect.{IsDatabase}
use Rattle.sqlite.specs.Tree.{Trees, rowid, without_rowid}
use Rattle.sqlite_schema.specs.declared.schema.Constraint.TheVariants.{Unique}
use Rattle.sqlite_schema.specs.Rules.{agree, clashes, differ, passes_checks, Keeps}
use Rattle.sqlite_rules.specs.Lists.{Has}
use Rattle.sqlite_rules.specs.Edit.{id_in, is_taken, next_rowid}
use Rattle.sqlite_rules.proofs.ListLemmas.{has_got}
use Rattle.ob_sql_rows.specs.Schema.{book_schema, moved_table, posting_table}
use Rattle.ob_sql_rows.specs.Rows.{Always, Tables, Holds, shown, is_posting, posting_row, HasPosting}
use Rattle.ob_sql_rows.specs.Rules.{LetsMoved, LetsPosting, HasRoom, is_moved, IsNumbered}
use Rattle.ob_sql_rows.specs.Steps.{Failed, HasFailed, LetsIn}
use Rattle.ob_sql_rows.specs.declared.table.Table.TheVariants.{Moved, Posting}
use Rattle.ob_sql_rows.proofs.Adding.{moved_insert, moved_terms, chosen_moved, posting_insert, posting_terms, chosen_posting}
use Rattle.ob_sql_rows.proofs.Casts.{cast_int, cast_null}
use Rattle.ob_sql_rows.proofs.Entering.{Enters}
use Rattle.ob_sql_rows.proofs.Keys.{any_fewer, agree_plain, clash_free, left_free, left_was, obeyed, enters, storable, storable_row}
use Rattle.ob_sql_rows.proofs.Numbering.{as_many, free_number, next_number, number_from}
use Rattle.ob_sql_rows.proofs.Parents.{inserted_refers, updated_refers, finds_command, sound_book}
use Rattle.ob_sql_rows.proofs.Posting.{posting_update, posting_shows, amount_row, amount_anew, stored_amount, alone, stands_there, no_other}
use Rattle.ob_sql_rows.proofs.Refusing.{insert_edit, update_edit, update_left, update_row}
use Rattle.ob_sql_rows.proofs.Texts.{moved_fails, posting_fails, amount_fails}

-- ---- what a command moved
abbrev pub a_moved : sql.Table
a_moved = record moved_table { tree = 12 }

abbrev pub moved_at : ℤ → ℕ → ℕ → ℕ → ℤ → Row
moved_at hidden id dim key delta = Int hidden ∷ Int (pos id) ∷ Int (pos dim) ∷ Int (pos key) ∷ Int delta ∷ []

moved_put : (id dim key : ℕ) (delta : ℤ) (rows : List Row) → chosen_moved id dim key delta rows ≡ moved_at (next_rowid rows) id dim key delta
moved_put id dim key delta rows = rw (cast_null, cast_int (pos id), cast_int (pos dim), cast_int (pos key), cast_int delta)

differs : (delta : ℤ) → delta ≢ pos 0 → is_ne (int_cmp delta (pos 0)) ≡ true
differs delta other = go (int_cmp delta (pos 0)) (int_ranked delta (pos 0) (int_cmp delta (pos 0)) refl)
  where
    go : (o : Ordering) → MatchOrdering o (delta <ℤ pos 0) (delta ≡ pos 0) (pos 0 <ℤ delta) → is_ne o ≡ true
    go Less h = refl
    go Equal h = absurd (other h)
    go Greater h = refl

-- what is moved isn't 0
moved_checked : (hidden : ℤ) (id dim key : ℕ) (delta : ℤ) → delta ≢ pos 0 → passes_checks a_moved (moved_at hidden id dim key delta) ≡ true
unfolding binary
moved_checked hidden id dim key delta other = ap (λ b. not (is_false (from_truth (Some b))) && true) (ap is_ne (value_cmp-Int delta (pos 0)) ∙ differs delta other)

-- the row of a free key enters its table under the next number
pub moved_enters : (db : Trees) (t : Tables) (id dim key : ℕ) (delta : ℤ) → Holds db t → IsNumbered (db 12) → Keeps Unique book_schema db → LetsMoved id dim key delta t
    → Enters book_schema db a_moved (db 12) (moved_at (pos (1 + length (db 12))) id dim key delta)
moved_enters db t id dim key delta holds numbered keeps lets =
    let rows = db 12 in
    let row = moved_at (pos (1 + length rows)) id dim key delta in
    let many = as_many Moved rows (t Moved) (holds.rows Moved) in
    let room : 1 + length rows < 2 ^ 63 = omega (arith, many, lets.3) in
    let new : clashes plain (1 ∷ 2 ∷ 3 ∷ []) rows row ≡ false = clash_free Moved (is_moved id dim key) (1 ∷ 2 ∷ 3 ∷ []) row (λ r h. h) db t holds lets.1 in
    let entry = storable (Int (pos id) ∷ Int (pos dim) ∷ Int (pos key) ∷ Int (pos (1 + length rows)) ∷ []) (omega arith) (omega arith) (tt, (tt, (tt, (tt, tt)))) in
    enters a_moved 8 db rows row (1 + length rows) refl (λ r there. there) keeps refl room
    (free_number rows row numbered refl) (ap (λ b. not b && true) new) refl refl (moved_checked (pos (1 + length rows)) id dim key delta lets.2)
    (storable_row row (omega arith) (omega arith) (tt, (tt, (tt, (tt, (tt, tt))))))
    (λ e. absurd (omega (arith, e)), (λ e. absurd (omega (arith, e)), (λ e. absurd (omega (arith, e)), (λ e. absurd (omega (arith, e)), (λ _. entry, (λ e. absurd (omega (arith, e)), tt))))))

pub lets_moved : (old new : State) (id dim key : ℕ) (delta : ℤ) → Failed moved_insert (Int (pos id) ∷ Int (pos dim) ∷ Int (pos key) ∷ Int delta ∷ []) old new
    → LetsIn old Always (LetsMoved id dim key delta) → HasFailed old new
lets_moved old new id dim key delta failed lets =
    let db = old.now.trees in
    let rows = db 12 in
    let params = Int (pos id) ∷ Int (pos dim) ∷ Int (pos key) ∷ Int delta ∷ [] in
    let put : chosen_moved id dim key delta rows ≡ moved_at (pos (1 + length rows)) id dim key delta =
    moved_put id dim key delta rows ∙ ap (λ n. moved_at n id dim key delta) (next_number rows lets.numbered.moved) in
    let edit = insert_edit db a_moved moved_terms params in
    moved_fails old new id dim key delta lets.schema failed
    (subst (Enters book_schema db a_moved rows) (sym put)
    (moved_enters db lets.tables id dim key delta lets.holds lets.numbered.moved ((obeyed old.now lets.schema lets.sound).rules Unique) lets.allowed))
    (inserted_refers db edit (has_got book_schema.tables 8 a_moved refl) (sound_book old lets.schema lets.sound) refl (chosen_moved id dim key delta rows) refl (λ next done. (
      finds_command db next edit done lets.tables id 1 (chosen_moved id dim key delta rows) (λ e. omega (arith, e)) lets.holds lets.allowed.0 (ap (λ r. column r 1) put),
      tt,
    )))

-- ---- an amount
abbrev a_posting : sql.Table
a_posting = record posting_table { tree = 14 }

posting_put : (dim key : ℕ) (rows : List Row) → chosen_posting dim key rows ≡ amount_row (next_rowid rows) dim key 0
posting_put dim key rows = rw (cast_null, cast_int (pos dim), cast_int (pos key), cast_int (pos 0))

not_below : (amount : ℕ) → is_ge (int_cmp (pos amount) (pos 0)) ≡ true
not_below amount = grind (arith, nat_tests)

-- it isn't below 0
amount_checked : (hidden : ℤ) (dim key amount : ℕ) → passes_checks a_posting (amount_row hidden dim key amount) ≡ true
unfolding binary
amount_checked hidden dim key amount = ap (λ b. not (is_false (from_truth (Some b))) && true) (ap is_ge (value_cmp-Int (pos amount) (pos 0)) ∙ not_below amount)

-- an amount enters its table where its number and its key are free
amount_enters : (s : State) (left : List Row) (hidden dim key amount : ℕ) → s.now.schema ≡ book_schema → IsDatabase s.now → ((r : Row) → Has left r → Has (s.now.trees 14) r) → hidden < 2 ^ 63
    → is_taken left (amount_row (pos hidden) dim key amount) ≡ false → clashes plain (1 ∷ 2 ∷ []) left (amount_row (pos hidden) dim key amount) ≡ false
    → Enters book_schema s.now.trees a_posting left (amount_row (pos hidden) dim key amount)
amount_enters s left hidden dim key amount has sound was room free new =
    let row = amount_row (pos hidden) dim key amount in
    let entry = storable (Int (pos dim) ∷ Int (pos key) ∷ Int (pos hidden) ∷ []) (omega arith) (omega arith) (tt, (tt, (tt, tt))) in
    enters a_posting 9 s.now.trees left row hidden refl was ((obeyed s.now has sound).rules Unique) refl room free (ap (λ b. not b && true) new) refl refl (amount_checked (pos hidden) dim key amount)
    (storable_row row (omega arith) (omega arith) (tt, (tt, (tt, (tt, tt)))))
    (λ e. absurd (omega (arith, e)), (λ e. absurd (omega (arith, e)), (λ e. absurd (omega (arith, e)), (λ e. absurd (omega (arith, e)), (λ e. absurd (omega (arith, e)), (λ _. entry, tt))))))

pub lets_posting : (old new : State) (dim key : ℕ) → Failed posting_insert (posting_row dim key 0) old new → LetsIn old Always (LetsPosting dim key) → HasFailed old new
lets_posting old new dim key failed lets =
    let db = old.now.trees in
    let rows = db 14 in
    let row = amount_row (pos (1 + length rows)) dim key 0 in
    let put : chosen_posting dim key rows ≡ row = posting_put dim key rows ∙ ap (λ n. amount_row n dim key 0) (next_number rows lets.numbered.amounts) in
    let many = as_many Posting rows (lets.tables Posting) (lets.holds.rows Posting) in
    let room : 1 + length rows < 2 ^ 63 = omega (arith, many, lets.allowed.1) in
    let new_key : clashes plain (1 ∷ 2 ∷ []) rows row ≡ false = clash_free Posting (is_posting dim key) (1 ∷ 2 ∷ []) row (λ r h. h) db lets.tables lets.holds lets.allowed.0 in
    posting_fails old new dim key lets.schema failed
    (subst (Enters book_schema db a_posting rows) (sym put)
    (amount_enters old rows (1 + length rows) dim key 0 lets.schema lets.sound (λ r there. there) room (free_number rows row lets.numbered.amounts refl) new_key))
    (inserted_refers db (insert_edit db a_posting posting_terms (posting_row dim key 0)) (has_got book_schema.tables 9 a_posting refl) (sound_book old lets.schema lets.sound) refl
    (chosen_posting dim key rows) refl (λ next done. tt))

none_in : {X : Type 0} (p : X → Bool) (xs : List X) → length (filter p xs) ≤ 0 → list_any p xs ≡ false
none_in p [] few = refl
none_in p (x ∷ xs) few = elim (cases_Bool (p x)) [
  | inl passes ↦ absurd (omega (arith, (rw passes at few)))
  | inr fails ↦ or_from _ _ fails (none_in p xs (rw fails at few))
]

-- the amount of a key is written anew under its own number
pub lets_amount : (old new : State) (dim key amount : ℕ) → Failed posting_update (Int (pos dim) ∷ Int (pos key) ∷ Int (pos amount) ∷ []) old new
    → LetsIn old (HasPosting dim key) (HasRoom Posting) → HasFailed old new
lets_amount old new dim key amount failed lets =
    let db = old.now.trees in
    let rows = db 14 in
    let params = Int (pos dim) ∷ Int (pos key) ∷ Int (pos amount) ∷ [] in
    let ts = lets.tables Posting in
    let apart = lets.holds.apart in
    let held = lets.holds.rows Posting in
    let was = lets.needed.0 in
    let at = stored_amount rows ts dim key was apart held lets.needed.1 in
    let r = at.0 in
    let here = stands_there rows apart ts held dim key amount was r at.1 at.2 at.3 at.4 in
    let it = number_from 1 rows r lets.numbered.amounts here.0 in
    let id = it.0 in
    let left = without_rowid (pos id) rows in
    let anew = amount_row (pos id) dim key amount in
    let room : id < 2 ^ 63 = omega (arith, as_many Posting rows ts held, it.3, lets.allowed) in
    let others : list_any (λ x. is_posting dim key (shown Posting x)) left ≡ false =
    none_in (λ x. is_posting dim key (shown Posting x)) left (no_other rows apart ts held dim key amount was r at.1 at.2 (pos id) it.1) in
    let new_key : clashes plain (1 ∷ 2 ∷ []) left anew ≡ false =
    any_fewer (λ o. agree plain (1 ∷ 2 ∷ []) o (1 ∷ 2 ∷ []) anew && differ (rowid o) (rowid anew)) (λ x. is_posting dim key (shown Posting x))
    (λ o both. sym (agree_plain (1 ∷ 2 ∷ []) o anew) ∙ (and_parts _ _ both).0) left others in
    let left_is : update_left db a_posting posting_shows params r ≡ left = ap (λ v. without_rowid (id_in v) rows) it.1 in
    let row_is : update_row a_posting posting_shows params r ≡ anew = amount_anew r (pos id) dim key amount was at.2 it.1 in
    amount_fails old new dim key amount lets.schema failed r at.1
    (subst₂ (λ l row. Enters book_schema db a_posting l row) (sym left_is) (sym row_is)
    (amount_enters old left id dim key amount lets.schema lets.sound (left_was (pos id) rows) room (left_free (pos id) rows anew refl) new_key))
    (updated_refers db (update_edit db a_posting posting_shows params r) (has_got book_schema.tables 9 a_posting refl) (sound_book old lets.schema lets.sound) (pos id) r
    (update_row a_posting posting_shows params r) (ap (λ v. id_in v ∷ []) it.1) refl (alone rows apart ts held dim key amount was r at.1 at.2 (pos id) it.1)
    (ap rowid row_is ∙ sym it.1) (λ next done. tt))
