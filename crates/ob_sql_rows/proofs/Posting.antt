-- The row of one amount is written anew.
use Rattle.std.proofs.Common.{◌≡◌, ◌≢◌, inl, inr, ℕ, ◌≤◌, pos, ℤ, List, [], ◌∷◌, ◌++◌, map, filter, length, codes, Bool, true, false, cond, not, refl, sym, ap, subst, ◌∙◌, arith, true≢false}
use Rattle.std.specs.Prelude.{IsTrue, if◌then◌else◌}
use Rattle.std.specs.List.{AllByRecursion}
use Rattle.std.specs.List.Sorted.{IsPermutation}
use Rattle.std.proofs.lemmas.Bool.{cases_Bool}
use Rattle.std.proofs.lemmas.Cmp.{tied_itself}
use Rattle.std.proofs.lemmas.Simd.{map-map}
use Rattle.std.proofs.lemmas.List.Sorted.{IsPermutation-map, IsPermutation-trans, IsPermutation-sym, IsPermutation-filter_both, length_permutation}
use Rattle.sqlite_trees.proofs.ListLemmas.{IsPermutation-filter, filter-map, all-filter, all-permutation}
use Rattle.sqlite_value.proofs.OrderLemmas.{value_cmp_total}
use Rattle.sqlite_trees.specs.View.{is_int}
use Rattle.sqlite.specs.Order.{Row, column}
use Rattle.sqlite.specs.declared.types.Value.{Value}
use Rattle.sqlite.specs.declared.types.Value.TheVariants.{Null, Int, Text, Real, Blob}
use Rattle.sqlite.specs.Tree.{put_row, rowid, has_rowid, without_rowid}
use Rattle.sqlite_rules.specs.Lists.{Has}
use Rattle.sqlite_rules.proofs.ListLemmas.{has_filtered}
use Rattle.sqlite_rules.specs.Edit.{are_fresh, id_in}
use Rattle.sqlite_rules.specs.Cast.{cast_row}
use Rattle.sqlite.proofs.Callers.{IsPlain, command_of, runs_as, one_permutation}
use Rattle.sqlite.specs.Term.{Term, col, op2}
use Rattle.sqlite.specs.Command.{Command}
use Rattle.sqlite.specs.Command.TheVariants.{Update}
use Rattle.sqlite.specs.Collation.TheVariants.{Binary}
use Rattle.sqlite_sql.specs.declared.ops.BinaryOp.TheVariants.{Compare}
use Rattle.sqlite_sql.specs.declared.ops.CompareOp.TheVariants.{Eq}
use Rattle.sqlite.specs.Listing.{understood}
use Rattle.sqlite_tied.specs.Compute.{everything}
use Rattle.sqlite.specs.Schema.{Schema}
use Rattle.sqlite.specs.State.{State}
use Rattle.ob_sql_rows.specs.Schema.{book_schema, posting_table}
use Rattle.ob_sql_rows.specs.Rows.{Columns, Tables, Holds, shown, AreApart, with_posting, with_amount, posting_row, is_posting, HasPosting}
use Rattle.ob_sql_rows.specs.Steps.{Ran, Makes}
use Rattle.ob_sql_rows.specs.declared.table.Table.TheVariants.{Posting}
use Rattle.ob_sql_rows.proofs.Queries.{whole}
use Rattle.ob_sql_rows.proofs.Statements.{updated, updated_schema}
use Rattle.ob_sql_rows.proofs.Put.{put_fresh}
use Rattle.ob_sql_rows.proofs.Trees.{OthersStay, changes, free_of}
use Rattle.ob_sql_rows.proofs.Casts.{cast_int}
use Rattle.ob_sql_rows.proofs.Numbering.{numbered_anew}

has_passes : {X : Type 0} (p : X → Bool) (xs : List X) (x : X) → Has xs x → p x ≡ true → Has (filter p xs) x
has_passes p [] x h is = absurd h
has_passes p (y ∷ xs) x (inl here) is = let passes : p y ≡ true = rw (← here, is) in subst (λ b. Has (cond b (y ∷ filter p xs) (filter p xs)) x) (sym passes) (inl here)
has_passes p (y ∷ xs) x (inr there) is = elim (p y) as (λ b. Has (cond b (y ∷ filter p xs) (filter p xs)) x) [ true ↦ inr (has_passes p xs x there is) | false ↦ has_passes p xs x there is ]

only : {X : Type 0} (xs : List X) (x : X) → length xs ≤ 1 → Has xs x → xs ≡ x ∷ []
only [] x few h = absurd h
only (y ∷ []) x few (inl here) = rw here
only (y ∷ []) x few (inr there) = absurd there
only (y ∷ z ∷ xs) x few h = absurd (omega (arith, few))

same_head : {Y : Type 0} (a b : Y) → ◌≡◌ {A = List Y} (a ∷ []) (b ∷ []) → b ≡ a
same_head a b e = cc

pub single : {X Y : Type 0} (f : X → Y) (xs : List X) (y : Y) → IsPermutation (map f xs) (y ∷ []) → (x : X) × (xs ≡ x ∷ []) × (f x ≡ y)
single f [] y h = absurd (omega (arith, length_permutation _ _ h))
single f (x ∷ []) y h = (x, refl, same_head y (f x) (one_permutation (f x) (y ∷ []) h))
single f (x ∷ z ∷ xs) y h = absurd (omega (arith, length_permutation _ _ h))

-- where none passes, two maps that agree on those that don't pass are one
none_passes : {X Y : Type 0} (p : X → Bool) (h g : X → Y) (agree : (x : X) → p x ≡ false → h x ≡ g x) (xs : List X) → length (filter p xs) ≤ 0 → map h xs ≡ map g xs
none_passes p h g agree [] few = refl
none_passes p h g agree (x ∷ xs) few = elim (cases_Bool (p x)) [
  | inl passes ↦ absurd (omega (arith, (rw passes at few)))
  | inr fails ↦ rw (agree x fails, none_passes p h g agree xs (rw fails at few))
]

pub int_of : (v : Value) → IsTrue (is_int v) → (n : ℤ) × (v ≡ Int n)
int_of Null h = absurd (true≢false (sym h))
int_of (Int n) h = (n, refl)
int_of (Real x) h = absurd (true≢false (sym h))
int_of (Text t) h = absurd (true≢false (sym h))
int_of (Blob b) h = absurd (true≢false (sym h))

same_length : {X : Type 0} (q : X → Bool) (x y : X) (xs : List X) → q x ≡ q y → length (filter q (x ∷ xs)) ≡ length (filter q (y ∷ xs))
same_length q x y xs same = subst (λ b. length (cond b (x ∷ filter q xs) (filter q xs)) ≡ length (cond (q y) (y ∷ filter q xs) (filter q xs))) (sym same)
    (elim (q y) as (λ b. length (cond b (x ∷ filter q xs) (filter q xs)) ≡ length (cond b (y ∷ filter q xs) (filter q xs))) [ true ↦ refl | false ↦ refl ])

module _ (rows : List Row) (rows_apart : AreApart rows) (ts : List Columns) (held : IsPermutation (map (shown Posting) rows) ts) (dim key amount was : ℕ) where
  abbrev passes : Row → Bool
  passes r = is_posting dim key (shown Posting r)

  abbrev stands_anew : Columns → Columns
  stands_anew r = if is_posting dim key r then posting_row dim key amount else r

  -- one stored row is that of the key
  pub one_found : filter (is_posting dim key) ts ≡ posting_row dim key was ∷ [] → (r : Row) × (filter passes rows ≡ r ∷ []) × (shown Posting r ≡ posting_row dim key was)
  one_found one = single (shown Posting) (filter passes rows) (posting_row dim key was)
      (subst (λ l. IsPermutation l (posting_row dim key was ∷ [])) (filter-map (is_posting dim key) (shown Posting) rows) (subst (IsPermutation (filter (is_posting dim key) (map (shown Posting) rows))) one (IsPermutation-filter (is_posting dim key) _ _ held)))

  module _ (r : Row) (found : filter passes rows ≡ r ∷ []) (shows : shown Posting r ≡ posting_row dim key was) (id : ℤ) (keyed : rowid r ≡ Int id) where
    abbrev others : List Row
    others = without_rowid id rows

    abbrev anew : Row
    anew = Int id ∷ Int (pos dim) ∷ Int (pos key) ∷ Int (pos amount) ∷ []

    pub stands_there : Has rows r × (passes r ≡ true)
    stands_there = has_filtered passes rows r (subst (λ l. Has l r) (sym found) (inl refl))

    has_id : has_rowid id r ≡ true
    has_id = rw (keyed, tied_itself value_cmp_total (Int id))

    -- no other row has its number
    pub alone : filter (has_rowid id) rows ≡ r ∷ []
    alone = only (filter (has_rowid id) rows) r (rows_apart.apart id) (has_passes (has_rowid id) rows r stands_there.0 has_id)

    parted : IsPermutation rows (r ∷ others)
    parted = subst (λ l. IsPermutation rows (l ++ others)) alone
        (IsPermutation-filter_both (has_rowid id) (λ x. not (has_rowid id x)) (λ x. refl) rows)

    -- and no other is that of the key
    pub no_other : length (filter passes others) ≤ 0
    no_other =
        let all = length_permutation _ _ (IsPermutation-filter passes rows (r ∷ others) parted) in
        let here : length (filter passes (r ∷ others)) ≡ length (r ∷ filter passes others) = rw stands_there.1 in
        let one : length (filter passes rows) ≡ 1 = ap length found in
        omega (arith, all, here, one)

    -- the rows that are left and the new one are the rows as they should be
    pub shows_anew : IsPermutation (map (shown Posting) (anew ∷ others)) (map stands_anew ts)
    shows_anew =
        let whole_list : IsPermutation (map (λ x. stands_anew (shown Posting x)) rows) (map stands_anew ts) = subst (λ l. IsPermutation l (map stands_anew ts)) (simp map-map) (IsPermutation-map stands_anew _ _ held) in
        let first : stands_anew (shown Posting r) ≡ posting_row dim key amount = rw stands_there.1 in
        let rest : map (λ x. stands_anew (shown Posting x)) others ≡ map (shown Posting) others =
        none_passes passes (λ x. stands_anew (shown Posting x)) (shown Posting) (λ x fails. rw fails) others no_other in
        let split : IsPermutation (map (λ x. stands_anew (shown Posting x)) (r ∷ others)) (map stands_anew ts) =
        IsPermutation-trans _ _ _ (IsPermutation-map (λ x. stands_anew (shown Posting x)) _ _ (IsPermutation-sym _ _ parted)) whole_list in
        subst (λ l. IsPermutation (posting_row dim key amount ∷ l) (map stands_anew ts)) rest (subst (λ c. IsPermutation (c ∷ map (λ x. stands_anew (shown Posting x)) others) (map stands_anew ts)) first split)

    -- rowids stay apart
    pub apart_anew : (now : List Row) → IsPermutation now (anew ∷ others) → AreApart now
    apart_anew now moved = record {
      numbers = all-permutation (λ x. IsTrue (is_int (rowid x))) _ _ (IsPermutation-sym _ _ moved) (refl, all-filter (λ x. IsTrue (is_int (rowid x))) (λ x. not (has_rowid id x)) rows rows_apart.numbers);
      apart = λ other.
          let q = has_rowid other in
          let same : q anew ≡ q r = rw keyed in
          omega (arith, length_permutation _ _ (IsPermutation-filter q _ _ moved), length_permutation _ _ (IsPermutation-filter q _ _ parted), same_length q anew r others same, rows_apart.apart other);
    }

abbrev pub posting_update : List ℕ
posting_update = codes "UPDATE posting SET amount = ?3 WHERE dim = ?1 AND k = ?2"

abbrev pub is_equal : Term → Term → Term
is_equal = op2 (Compare Eq Binary)

abbrev pub posting_tests : List Term
posting_tests = is_equal (col 1 1) (col 0 0) ∷ is_equal (col 1 2) (col 0 1) ∷ []

abbrev pub posting_shows : List Term
posting_shows = col 1 0 ∷ col 1 0 ∷ col 1 1 ∷ col 1 2 ∷ col 0 2 ∷ []

pub posting_update_is : command_of (understood book_schema posting_update) ≡ Update 9 (record { lets = []; body = whole posting_tests posting_shows 14 })
unfolding understood everything
posting_update_is = refl

pub posting_update_plain : IsPlain (understood book_schema posting_update)
unfolding understood everything
posting_update_plain = (refl, refl)

abbrev pub cast_posting : Value → Value → Value → ℕ → Row
cast_posting a b c amount = cast_row (record posting_table { tree = 14 }) (a ∷ b ∷ c ∷ Int (pos amount) ∷ [])

pub stored_posting : (id : ℤ) (dim key amount : ℕ) → cast_posting (Int id) (Int (pos dim)) (Int (pos key)) amount ≡ Int id ∷ Int (pos dim) ∷ Int (pos key) ∷ Int (pos amount) ∷ []
stored_posting id dim key amount = rw (cast_int id, cast_int (pos dim), cast_int (pos key), cast_int (pos amount))

-- the row that an amount is written anew in
abbrev pub amount_row : ℤ → ℕ → ℕ → ℕ → Row
amount_row id dim key amount = Int id ∷ Int (pos dim) ∷ Int (pos key) ∷ Int (pos amount) ∷ []

-- one stored row is that of the key, and it was written anew in place, with the other tables as they were
record Rewrote (dim key amount was : ℕ) (old new : State) : Type 0 where
  row : Row
  one : filter (λ x. is_posting dim key (shown Posting x)) (old.now.trees 14) ≡ row ∷ []
  shows : shown Posting row ≡ posting_row dim key was
  id : ℤ
  keyed : rowid row ≡ Int id
  put : new.now.trees 14 ≡ put_row (amount_row id dim key amount) (without_rowid id (old.now.trees 14))
  fresh : are_fresh (without_rowid id (old.now.trees 14)) (amount_row id dim key amount ∷ []) ≡ true
  others : OthersStay 14 new.now.trees old.now.trees

abbrev posting_command : Command
posting_command = Update 9 (record { lets = []; body = whole posting_tests posting_shows 14 })

-- the stored row of a key and its number
pub stored_amount : (rows : List Row) (ts : List Columns) (dim key was : ℕ) → AreApart rows → IsPermutation (map (shown Posting) rows) ts → filter (is_posting dim key) ts ≡ posting_row dim key was ∷ []
    → (r : Row) × (filter (λ x. is_posting dim key (shown Posting x)) rows ≡ r ∷ []) × (shown Posting r ≡ posting_row dim key was) × (id : ℤ) × (rowid r ≡ Int id)
stored_amount rows ts dim key was apart held one =
    let at = one_found rows apart ts held dim key 0 was one in
    let number = int_of (rowid at.0) (subst (AllByRecursion (λ x. IsTrue (is_int (rowid x)))) at.1 (all-filter (λ x. IsTrue (is_int (rowid x))) (λ x. is_posting dim key (shown Posting x)) rows apart.numbers)).0 in
    (at.0, at.1, at.2, number.0, number.1)

-- what the columns of the row become
pub amount_anew : (r : Row) (id : ℤ) (dim key amount was : ℕ) → shown Posting r ≡ posting_row dim key was → rowid r ≡ Int id → cast_posting (rowid r) (column r 1) (column r 2) amount ≡ amount_row id dim key amount
amount_anew r id dim key amount was shows keyed =
    ap (λ v. cast_posting v (column r 1) (column r 2) amount) keyed ∙ ap (λ (c : Columns). cast_posting (Int id) (column c 0) (column c 1) amount) shows ∙ stored_posting id dim key amount

rewrites_amount : (old new : State) (dim key amount was : ℕ) → Ran posting_update (Int (pos dim) ∷ Int (pos key) ∷ Int (pos amount) ∷ []) old new → old.now.schema ≡ book_schema → (t : Tables) → Holds old.now.trees t
    → filter (is_posting dim key) (t Posting) ≡ posting_row dim key was ∷ [] → Rewrote dim key amount was old new
rewrites_amount old new dim key amount was ran has t held needs =
    let params = Int (pos dim) ∷ Int (pos key) ∷ Int (pos amount) ∷ [] in
    let rows = old.now.trees 14 in
    let at = stored_amount rows (t Posting) dim key was held.apart (held.rows Posting) needs in
    let r = at.0 in
    let id = at.3 in
    let w = runs_as posting_update params old new book_schema has posting_command posting_update_is posting_update_plain ran.0 ran.1 in
    let made = updated book_schema 9 (record posting_table { tree = 14 }) refl posting_tests posting_shows old new _ params ran.0 r refl (λ olds it. refl) at.1 has w in
    let left : without_rowid (id_in (rowid r)) rows ≡ without_rowid id rows = ap (λ v. without_rowid (id_in v) rows) at.4 in
    let anew_row : cast_posting (rowid r) (column r 1) (column r 2) amount ≡ amount_row id dim key amount = amount_anew r id dim key amount was at.2 at.4 in
    record {
      row = r;
      one = at.1;
      shows = at.2;
      id = id;
      keyed = at.4;
      put = made.0.row_list ∙ ap (λ x. put_row x (without_rowid (id_in (rowid r)) rows)) anew_row ∙ ap (put_row (amount_row id dim key amount)) left;
      fresh = sym (ap (λ x. are_fresh (without_rowid (id_in (rowid r)) rows) (x ∷ [])) anew_row ∙ ap (λ l. are_fresh l (amount_row id dim key amount ∷ [])) left) ∙ made.1;
      others = subst (λ (s : Schema). AllByRecursion (λ x. x.tree ≢ 14 → new.now.trees x.tree ≡ old.now.trees x.tree) s.tables) has made.0.others;
    }

pub sets_posting : (old new : State) (dim key amount : ℕ) → Ran posting_update (Int (pos dim) ∷ Int (pos key) ∷ Int (pos amount) ∷ []) old new → Makes old new (HasPosting dim key) (with_posting dim key amount)
sets_posting old new dim key amount ran =
    let params = Int (pos dim) ∷ Int (pos key) ∷ Int (pos amount) ∷ [] in
    let rows = old.now.trees 14 in
    let w = λ (has : old.now.schema ≡ book_schema). runs_as posting_update params old new book_schema has posting_command posting_update_is posting_update_plain ran.0 ran.1 in
    record {
      live = ran.2.was_open;
      stays = ran.2.is_open;
      inside = ran.2.mode;
      schema = λ has. updated_schema book_schema 9 (record posting_table { tree = 14 }) refl _ old new _ params ran.0 has (w has) ∙ has;
      sound = λ has _. (w has).sound;
      holds = λ has t held needs.
          let it = rewrites_amount old new dim key amount needs.0 ran has t held needs.1 in
          let anew_row = amount_row it.id dim key amount in
          let left = without_rowid it.id rows in
          let moved : IsPermutation (new.now.trees 14) (anew_row ∷ left) = subst (λ l. IsPermutation l (anew_row ∷ left)) (sym it.put) (put_fresh anew_row left (free_of left anew_row it.fresh)) in
          changes Posting old.now.trees new.now.trees (with_amount dim key amount) t it.others
          (IsPermutation-trans _ _ _ (IsPermutation-map (shown Posting) _ _ moved) (shows_anew rows held.apart (t Posting) (held.rows Posting) dim key amount needs.0 it.row it.one it.shows it.id it.keyed))
          (apart_anew rows held.apart (t Posting) (held.rows Posting) dim key amount needs.0 it.row it.one it.shows it.id it.keyed (new.now.trees 14) moved) held;
      numbered = λ has t held needs are.
          let it = rewrites_amount old new dim key amount needs.0 ran has t held needs.1 in
          let here = stands_there rows held.apart (t Posting) (held.rows Posting) dim key amount needs.0 it.row it.one it.shows it.id it.keyed in
          numbered_anew old.now.trees new.now.trees it.row (amount_row it.id dim key amount) it.id it.others it.put here.0 it.keyed refl are;
    }
