-- The rows of what a command moves, and then the amounts: what they make together, and that the rules let each in.
use Rattle.std.proofs.Common.{◌≡◌, ◌∙◌, ap, refl, sym, subst, ℕ, suc, ◌+◌, ◌-◌, ◌<◌, ◌≤◌, ◌==◌, false, filter, List, [], ◌∷◌, ◌++◌, length, map, take, drop, get_or, slice_range, arith, inl, inr}
use Rattle.std.specs.Prelude.{Bool, Result, if◌then◌else◌}
use Rattle.std.specs.Int.RustNames.{unsigned_abs}
use Rattle.std.specs.List.{All, list_any}
use Rattle.std.specs.List.Sorted.{IsPermutation}
use Rattle.std.proofs.lemmas.Bool.{and_left, and_right, or_from}
use Rattle.std.proofs.lemmas.List.{append-nil, append_assoc, get_or-take, length-append, length-drop, length-map, length-take-le, take-append-drop, take_all, take_more}
use Rattle.std.proofs.Math.Seq.{take-add}
use Rattle.std.proofs.lemmas.List.Elements.{All-from_get_or, All-map}
use Rattle.std.proofs.lemmas.List.Folds.{drop_split, list_any-append, list_any_none}
use Rattle.std.specs.Borrow.{MutBor}
use Rattle.sqlite_trees.specs.declared.store.Store.{Ghosts}
use Rattle.sqlite.specs.Held.{Held, state}
use Rattle.sqlite.specs.State.{State}
use Rattle.sqlite.specs.Tree.{Trees}
use Rattle.ob_base.specs.declared.stop.Stop.{Stop}
use Rattle.ob_post.specs.Keys.{dim_number}
use Rattle.ob_post.specs.Moved.{IsBefore}
use Rattle.ob_post.specs.Postings.{PostedAmounts}
use Rattle.ob_post.specs.declared.Moved.{Moved}
use Rattle.ob_sql_rows.specs.Rows.{Always, Columns, Holds, HasPosting, Tables, is_key, is_posting, tree_of, with_amount, with_row, with_table}
use Rattle.ob_sql_rows.specs.Rules.{HasKey, HasRoom, LetsMoved, is_moved}
use Rattle.ob_sql_rows.specs.Steps.{Makes}
use Rattle.ob_sql_rows.specs.declared.table.Table.{Table}
use Rattle.ob_sql_rows.specs.declared.table.Table.TheVariants.{Meta, Cause, Node, Device, Life, Customer, Entry, Mark, Command, Moved as Moves, Posting}
use Rattle.ob_sql_rows.proofs.Eight.{of_eight}
use Rattle.ob_sql_write.specs.Keeps.{ChangesOpen}
use Rattle.ob_sql_write.specs.Moves.{HasAmounts, HasRows, LetsMoves, LetsRows, moved_amount, moved_to, with_amount_of, with_amounts, with_move, with_moves, with_rows}
use Rattle.ob_sql_write.specs.Stored.{row_of, rows_of}
use Rattle.ob_sql_write.proofs.Steps.{makes_then, on_ok}
use Rattle.ob_sql_write.proofs.Tests.{no_front, none_of_fewer, other_number}

-- ---- the same rows, table by table
abbrev pub Same : Tables → Tables → Type 0
Same t u = (table : Table) → t table ≡ u table

held_alike : (trees : Trees) (t u : Tables) → Same t u → Holds trees t → Holds trees u
held_alike trees t u same holds = record { rows = λ table. subst (IsPermutation _) (same table) (holds.rows table); apart = holds.apart }

-- two changes that make the same of any tables
pub makes_alike : (a b : State) (needs : Tables → Type 0) (f h : Tables → Tables) → ((t : Tables) → Same (f t) (h t)) → Makes a b needs f → Makes a b needs h
makes_alike a b needs f h same it = record {
  live = it.live;
  stays = it.stays;
  inside = it.inside;
  schema = it.schema;
  sound = it.sound;
  holds = λ has t held need. held_alike b.now.trees (f t) (h t) (same t) (it.holds has t held need);
  numbered = it.numbered;
}

pub open_alike : {S X : Type 0} (g : Ghosts S) (old new : MutBor (Held S)) (r : Result X Stop) (needs lets : Tables → Type 0) (f h : Tables → Tables) → ((t : Tables) → Same (f t) (h t)) → ChangesOpen g old new r needs lets f
    → ChangesOpen g old new r needs lets h
open_alike g old new r needs lets f h same it = record {
  same_reference = it.same_reference;
  silent = it.silent;
  faults = it.faults;
  makes = λ clean. on_ok r (it.makes clean) (λ made live inside. makes_alike (state g old.now) (state g new.now) needs f h same (made live inside));
  cause = it.cause;
}

table_alike : (table : Table) (f : List Columns → List Columns) (t u : Tables) → Same t u → Same (with_table table f t) (with_table table f u)
table_alike table f t u same other = ap (λ rows. if tree_of table == tree_of other then f rows else rows) (same other)

rows_alike : (id : ℕ) (ms : List Moved) (t u : Tables) → Same t u → Same (with_rows id ms t) (with_rows id ms u)
rows_alike id [] t u same = same
rows_alike id (m ∷ ms) t u same = rows_alike id ms (with_row Moves (row_of id m) t) (with_row Moves (row_of id m) u) (table_alike Moves (λ rows. rows ++ row_of id m ∷ []) t u same)

amounts_alike : (p : PostedAmounts) (ms : List Moved) (t u : Tables) → Same t u → Same (with_amounts p ms t) (with_amounts p ms u)
amounts_alike p [] t u same = same
amounts_alike p (m ∷ ms) t u same =
    amounts_alike p ms (with_amount_of p m t) (with_amount_of p m u) (table_alike Posting (with_amount (dim_number m.dim) m.key (unsigned_abs (moved_to p m))) t u same)

-- a row and an amount are written in either order
either_order : (id : ℕ) (p : PostedAmounts) (l m : Moved) (t : Tables) → Same (with_amount_of p m (with_row Moves (row_of id l) t)) (with_row Moves (row_of id l) (with_amount_of p m t))
either_order id p l m t Meta = refl
either_order id p l m t Cause = refl
either_order id p l m t Node = refl
either_order id p l m t Device = refl
either_order id p l m t Life = refl
either_order id p l m t Customer = refl
either_order id p l m t Entry = refl
either_order id p l m t Mark = refl
either_order id p l m t Command = refl
either_order id p l m t Moves = refl
either_order id p l m t Posting = refl

amount_last : (id : ℕ) (p : PostedAmounts) (ms : List Moved) (m : Moved) (t : Tables) → Same (with_amount_of p m (with_rows id ms t)) (with_rows id ms (with_amount_of p m t))
amount_last id p [] m t table = refl
amount_last id p (l ∷ ms) m t table =
    amount_last id p ms m (with_row Moves (row_of id l) t) table
    ∙ rows_alike id ms (with_amount_of p m (with_row Moves (row_of id l) t)) (with_row Moves (row_of id l) (with_amount_of p m t)) (either_order id p l m t) table

-- the rows and then the amounts are the moves
pub both_are_moves : (id : ℕ) (p : PostedAmounts) (ms : List Moved) (t : Tables) → Same (with_amounts p ms (with_rows id ms t)) (with_moves id p ms t)
both_are_moves id p [] t table = refl
both_are_moves id p (m ∷ ms) t table =
    let row = with_row Moves (row_of id m) t in
    amounts_alike p ms (with_amount_of p m (with_rows id ms row)) (with_rows id ms (with_amount_of p m row)) (amount_last id p ms m row) table ∙ both_are_moves id p ms (with_move id p m t) table

-- ---- the rows
pub amounts_left : (id : ℕ) (ms : List Moved) (t : Tables) → with_rows id ms t Posting ≡ t Posting
amounts_left id [] t = refl
amounts_left id (m ∷ ms) t = amounts_left id ms (with_row Moves (row_of id m) t)

rows_so_far : (id : ℕ) (ms : List Moved) (t : Tables) → with_rows id ms t Moves ≡ t Moves ++ rows_of id ms
rows_so_far id [] t = sym (append-nil (t Moves))
rows_so_far id (m ∷ ms) t = rows_so_far id ms (with_row Moves (row_of id m) t) ∙ append_assoc (t Moves) (row_of id m ∷ []) (rows_of id ms)

commands_stay : (id : ℕ) (ms : List Moved) (t : Tables) → with_rows id ms t Command ≡ t Command
commands_stay id [] t = refl
commands_stay id (m ∷ ms) t = commands_stay id ms (with_row Moves (row_of id m) t)

rows_in_parts : (id : ℕ) (xs ys : List Moved) (t : Tables) → with_rows id (xs ++ ys) t ≡ with_rows id ys (with_rows id xs t)
rows_in_parts id [] ys t = refl
rows_in_parts id (x ∷ xs) ys t = rows_in_parts id xs ys (with_row Moves (row_of id x) t)

-- the first rows and those that follow
pub more_rows : (old mid new : State) (id : ℕ) (xs ys : List Moved) → Makes old mid Always (with_rows id xs) → Makes mid new Always (with_rows id ys) → Makes old new Always (with_rows id (xs ++ ys))
more_rows old mid new id xs ys one two =
    makes_alike old new Always (λ t. with_rows id ys (with_rows id xs t)) (with_rows id (xs ++ ys)) (λ t table. ap (λ (u : Tables). u table) (sym (rows_in_parts id xs ys t)))
    (makes_then old mid new Always Always Always (with_rows id xs) (with_rows id ys) (λ t _. (tt, tt)) one two)

-- those that follow are let in once the first are there
pub lets_later : (id : ℕ) (xs ys : List Moved) (t : Tables) → LetsRows id (xs ++ ys) t → LetsRows id ys (with_rows id xs t)
lets_later id [] ys t lets = lets
lets_later id (x ∷ xs) ys t lets = lets_later id xs ys (with_row Moves (row_of id x) t) lets.1

pub lets_first : (id : ℕ) (xs ys : List Moved) (t : Tables) → LetsRows id (xs ++ ys) t → LetsRows id xs t
lets_first id [] ys t lets = tt
lets_first id (x ∷ xs) ys t lets = (lets.0, lets_first id xs ys (with_row Moves (row_of id x) t) lets.1)

-- the row of a move is none of a later one
not_moved : (id : ℕ) (l m : Moved) → IsBefore l m → is_moved id (dim_number m.dim) m.key (row_of id l) ≡ false
not_moved id l m (inl less) = and_right _ _ (and_left _ _ (other_number (dim_number l.dim) (dim_number m.dim) (λ e. omega (arith, e, less))))
not_moved id l m (inr both) = and_right _ _ (and_right _ _ (and_left _ _ (other_number l.key m.key (λ e. omega (arith, e, both.1)))))

-- a row is let in once those before it are written
lets_row : (id : ℕ) (ms : List Moved) (at : ℕ) (d : Moved) (t : Tables) → at < length ms → HasKey Command id t → LetsMoves id ms t
    → LetsMoved id (dim_number (get_or ms at d).dim) (get_or ms at d).key (get_or ms at d).delta (with_rows id (take at ms) t)
lets_row id ms at d t low has lets =
    let m = get_or ms at d in
    let before = take at ms in
    let long : length before ≡ at = length-take-le at ms (omega (arith, low)) in
    let test : Columns → Bool = is_moved id (dim_number m.dim) m.key in
    let fresh : list_any test (t Moves) ≡ false = none_of_fewer (is_key id) test (λ r. no_front _ _) (t Moves) lets.fresh in
    let apart : All (λ l. test (row_of id l) ≡ false) before =
    All-from_get_or (λ l. test (row_of id l) ≡ false) before d (λ i under.
    let first : i < at = omega (arith, under, long) in
    not_moved id (get_or before i d) m (subst (λ (l : Moved). IsBefore l m) (sym (get_or-take at ms i d first)) (lets.in_order i at d first low))) in
    let written : list_any test (rows_of id before) ≡ false = list_any_none test (rows_of id before) (All-map (λ r. test r ≡ false) (row_of id) before apart) in
    let rows = rows_so_far id before t in
    let count : length (with_rows id before t Moves) ≡ length (t Moves) + at = ap length rows ∙ length-append (t Moves) (rows_of id before) ∙ ap (λ n. length (t Moves) + n) (length-map before (row_of id) ∙ long) in
    let key : HasKey Command id (with_rows id before t) = ap (list_any (is_key id)) (commands_stay id before t) ∙ has in
    let free : list_any test (with_rows id before t Moves) ≡ false = ap (list_any test) rows ∙ list_any-append test (t Moves) (rows_of id before) ∙ or_from _ _ fresh written in
    let room : HasRoom Moves (with_rows id before t) = omega (arith, count, low, lets.room) in
    (key, free, lets.moving at d low, room)

each_lets : (id : ℕ) (ms : List Moved) (t : Tables)
    → ((at : ℕ) (d : Moved) → at < length ms → LetsMoved id (dim_number (get_or ms at d).dim) (get_or ms at d).key (get_or ms at d).delta (with_rows id (take at ms) t)) → LetsRows id ms t
each_lets id [] t each = tt
each_lets id (m ∷ ms) t each = (each 0 m (omega arith), each_lets id ms (with_row Moves (row_of id m) t) (λ at d low. each (suc at) d (omega (arith, low))))

-- so all rows are
pub lets_rows : (id : ℕ) (ms : List Moved) (t : Tables) → HasKey Command id t → LetsMoves id ms t → LetsRows id ms t
lets_rows id ms t has lets = each_lets id ms t (λ at d low. lets_row id ms at d t low has lets)

-- ---- the amounts
-- each has its row where the rows of the moves are written first
pub has_amounts : (id : ℕ) (p : PostedAmounts) (ms : List Moved) (t u : Tables) → u Posting ≡ t Posting → HasRows id p ms t → HasAmounts p ms u
has_amounts id p [] t u same has = tt
has_amounts id p (m ∷ ms) t u same has = (
  (has.0.0, ap (filter (is_posting (dim_number m.dim) m.key)) same ∙ has.0.1),
  has_amounts id p ms (with_move id p m t) (with_amount_of p m u) (ap (with_amount (dim_number m.dim) m.key (unsigned_abs (moved_to p m))) same) has.1,
)

pub as_many_amounts : (p : PostedAmounts) (ms : List Moved) (t : Tables) → length (with_amounts p ms t Posting) ≡ length (t Posting)
as_many_amounts p [] t = refl
as_many_amounts p (m ∷ ms) t = as_many_amounts p ms (with_amount_of p m t) ∙ length-map (t Posting) _

amounts_in_parts : (p : PostedAmounts) (xs ys : List Moved) (t : Tables) → with_amounts p (xs ++ ys) t ≡ with_amounts p ys (with_amounts p xs t)
amounts_in_parts p [] ys t = refl
amounts_in_parts p (x ∷ xs) ys t = amounts_in_parts p xs ys (with_amount_of p x t)

pub has_parts : (p : PostedAmounts) (xs ys : List Moved) (t : Tables) → HasAmounts p (xs ++ ys) t → HasAmounts p xs t × HasAmounts p ys (with_amounts p xs t)
has_parts p [] ys t has = (tt, has)
has_parts p (x ∷ xs) ys t has = let rest = has_parts p xs ys (with_amount_of p x t) has.1 in ((has.0, rest.0), rest.1)

-- the first amounts and one more
pub more_amounts : (old mid new : State) (p : PostedAmounts) (xs : List Moved) (m : Moved) → Makes old mid (HasAmounts p xs) (with_amounts p xs)
    → Makes mid new (HasPosting (dim_number m.dim) m.key) (with_amount_of p m) → Makes old new (HasAmounts p (xs ++ m ∷ [])) (with_amounts p (xs ++ m ∷ []))
more_amounts old mid new p xs m one two =
    makes_alike old new (HasAmounts p (xs ++ m ∷ [])) (λ t. with_amount_of p m (with_amounts p xs t)) (with_amounts p (xs ++ m ∷ [])) (λ t table. ap (λ (u : Tables). u table) (sym (amounts_in_parts p xs (m ∷ []) t)))
    (makes_then old mid new (HasAmounts p xs) (HasPosting (dim_number m.dim) m.key) (HasAmounts p (xs ++ m ∷ [])) (with_amounts p xs) (with_amount_of p m)
    (λ t has. let both = has_parts p xs (m ∷ []) t has in (both.0, both.1.0)) one two)

-- ---- lists in parts
-- the one at a place follows those before it
pub one_part : (ms : List Moved) (at : ℕ) (d : Moved) → at < length ms → ms ≡ take at ms ++ (get_or ms at d ∷ drop (at + 1) ms)
one_part ms at d low =
    let next : take (at + 1) ms ≡ take at ms ++ get_or ms at d ∷ [] = take_more ms at d low in
    sym (take-append-drop (at + 1) ms) ∙ ap (λ l. l ++ drop (at + 1) ms) next ∙ append_assoc (take at ms) (get_or ms at d ∷ []) (drop (at + 1) ms)

-- and so do those between two places
pub some_part : (ms : List Moved) (at end : ℕ) → at ≤ end → ms ≡ take at ms ++ (slice_range ms at end ++ drop end ms)
some_part ms at end rise = sym (take-append-drop at ms) ∙ ap (λ l. take at ms ++ l) (drop_split ms at end rise)

-- the first ones, with those between two places
pub next_part : (ms : List Moved) (at end : ℕ) → at ≤ end → take end ms ≡ take at ms ++ slice_range ms at end
next_part ms at end rise =
    let whole : end ≡ at + (end - at) = omega (arith, rise) in
    ap (λ n. take n ms) whole ∙ take-add at (end - at) ms

-- from a place to the end
pub last_part : (ms : List Moved) (at : ℕ) → slice_range ms at (length ms) ≡ drop at ms
last_part ms at = take_all (length ms - at) (drop at ms) (omega (arith, length-drop at ms))

-- the first ones and the others are all
pub both_parts : (id : ℕ) (ms : List Moved) (at : ℕ) (t : Tables) → Same (with_rows id (drop at ms) (with_rows id (take at ms) t)) (with_rows id ms t)
both_parts id ms at t table = ap (λ (u : Tables). u table) (sym (rows_in_parts id (take at ms) (drop at ms) t) ∙ ap (λ l. with_rows id l t) (take-append-drop at ms))

-- the others are let in once the first ones are there
pub lets_others : (id : ℕ) (ms : List Moved) (at : ℕ) (t : Tables) → LetsRows id ms t → LetsRows id (drop at ms) (with_rows id (take at ms) t)
lets_others id ms at t lets = lets_later id (take at ms) (drop at ms) t (subst (λ l. LetsRows id l t) (sym (take-append-drop at ms)) lets)

-- what eight rows hold, one by one
pub eight_amounts : (d : Moved) (ms : List Moved) → length ms ≡ 8
    → moved_amount (get_or ms 0 d) ∷ moved_amount (get_or ms 1 d) ∷ moved_amount (get_or ms 2 d) ∷ moved_amount (get_or ms 3 d) ∷ moved_amount (get_or ms 4 d) ∷ moved_amount (get_or ms 5 d)
    ∷ moved_amount (get_or ms 6 d) ∷ moved_amount (get_or ms 7 d) ∷ [] ≡ map moved_amount ms
eight_amounts d =
    of_eight
    (λ ms.
    moved_amount (get_or ms 0 d) ∷ moved_amount (get_or ms 1 d) ∷ moved_amount (get_or ms 2 d) ∷ moved_amount (get_or ms 3 d) ∷ moved_amount (get_or ms 4 d) ∷ moved_amount (get_or ms 5 d)
    ∷ moved_amount (get_or ms 6 d) ∷ moved_amount (get_or ms 7 d) ∷ [] ≡ map moved_amount ms)
    (λ a b c d e f g h. refl)
