-- The rows of what one command moved, among those of all.
use Rattle.std.proofs.Common.{◌≡◌, ℕ, ◌+◌, ◌<◌, ◌≤◌, ◌^◌, ◌==◌, Bool, true, false, List, [], ◌∷◌, ◌++◌, length, filter, fold, take, Some, refl, sym, ap, ap₂, ◌∙◌, arith, zero, suc, pos}
use Rattle.std.proofs.lemmas.Bool.Decides.{nat_tests}
use Rattle.std.specs.Ordering.{is_eq, int_cmp}
use Rattle.sqlite_value.proofs.OrderLemmas.{value_cmp-Int}
use Rattle.std.proofs.lemmas.List.Elements.{All-weaker, filter-append}
use Rattle.sqlite_sql.specs.Ops.{binary, is_true, from_truth}
use Rattle.sqlite_schema.specs.Rules.{equal}
use Rattle.sqlite.specs.Collation.TheVariants.{Binary}
use Rattle.ob_post.specs.Keys.{IsKey, dim_number}
use Rattle.ob_post.specs.Moved.{HaveKeys}
use Rattle.ob_post.specs.declared.Dim.{Dim}
use Rattle.ob_post.specs.declared.Dim.TheVariants.{Cause, Feeder, Day}
use Rattle.ob_post.specs.declared.Moved.{Moved}
use Rattle.ob_state.specs.State.{BookState, empty_book}
use Rattle.ob_state.specs.Next.{next}
use Rattle.ob_state.specs.Amounts.{moves}
use Rattle.ob_book.specs.Acts.{ActState, PeriodStays, Referenced, book_at, start, take_on}
use Rattle.ob_sql_rows.specs.Rows.{Columns, number, is_key}
use Rattle.ob_sql_rows.specs.declared.table.Table.TheVariants as tables
use Rattle.ob_sql_write.specs.Stored.{HaveSmallKeys}
use Rattle.ob_record.specs.Tables.{rows_of_moves, moved_rows, tables_of}

truth_is : (b : Bool) → is_true (from_truth (Some b)) ≡ b
truth_is true = refl
truth_is false = refl

same_pos : (m n : ℕ) → is_eq (int_cmp (pos m) (pos n)) ≡ (m == n)
same_pos m n = grind (arith, nat_tests)

equal_numbers : (m n : ℕ) → equal Binary (number m) (number n) ≡ (m == n)
unfolding binary
equal_numbers m n = truth_is _ ∙ ap is_eq (value_cmp-Int (pos m) (pos n)) ∙ same_pos m n

same_number : (n : ℕ) → (n == n) ≡ true
same_number n = grind (arith, nat_tests)

own_rows : (n : ℕ) (ms : List Moved) → filter (is_key n) (rows_of_moves n ms) ≡ rows_of_moves n ms
own_rows n [] = refl
own_rows n (m ∷ ms) = rw (equal_numbers n n, same_number n) (ap (λ rows. Rattle.ob_sql_rows.specs.Rows.moved_row n (dim_number m.dim) m.key m.delta ∷ rows) (own_rows n ms))

other_rows : (k n : ℕ) (ms : List Moved) → (n == k) ≡ false → filter (is_key k) (rows_of_moves n ms) ≡ []
other_rows k n [] other = refl
other_rows k n (m ∷ ms) other = rw (equal_numbers n k, other) (other_rows k n ms other)

later_rows : (k n : ℕ) (b : BookState) (list : List Referenced) → k < n → filter (is_key k) (moved_rows b n list) ≡ []
later_rows k n b [] low = refl
later_rows k n b (a ∷ list) low =
    let other : (n == k) ≡ false = grind (arith, nat_tests, low) in
    filter-append (is_key k) (rows_of_moves n (moves b (next b a.command))) (moved_rows (next b a.command) (n + 1) list)
    ∙ ap₂ (λ xs ys. xs ++ ys) (other_rows k n (moves b (next b a.command)) other) (later_rows k (n + 1) (next b a.command) list (omega (arith, low)))

abbrev state_after : BookState → List Referenced → BookState
state_after b list = fold (λ (s : BookState) (a : Referenced). next s a.command) b list

append_none : (rows : List Columns) → rows ++ [] ≡ rows
append_none [] = refl
append_none (r ∷ rows) = ap (λ x. r ∷ x) (append_none rows)

moved_at : (i n : ℕ) (b : BookState) (list : List Referenced) → i < length list
    → filter (is_key (n + i)) (moved_rows b n list) ≡ rows_of_moves (n + i) (moves (state_after b (take i list)) (state_after b (take (suc i) list)))
moved_at i n b [] low = absurd (omega (arith, low))
moved_at zero n b (a ∷ list) low =
    let e : n + 0 ≡ n = omega arith in
    let late : n < n + 1 = omega arith in
    let own = moves b (next b a.command) in
    let all : filter (is_key n) (rows_of_moves n own ++ moved_rows (next b a.command) (n + 1) list) ≡ rows_of_moves n own =
    filter-append (is_key n) (rows_of_moves n own) (moved_rows (next b a.command) (n + 1) list)
    ∙ ap₂ (λ xs ys. xs ++ ys) (own_rows n own) (later_rows n (n + 1) (next b a.command) list late) ∙ append_none (rows_of_moves n own) in
    rw e all
moved_at (suc i) n b (a ∷ list) low =
    let e : n + 1 + i ≡ n + suc i = omega arith in
    let other : (n == (n + suc i)) ≡ false = grind (arith, nat_tests) in
    let rest = moved_at i (n + 1) (next b a.command) list (omega (arith, low)) in
    filter-append (is_key (n + suc i)) (rows_of_moves n (moves b (next b a.command))) (moved_rows (next b a.command) (n + 1) list)
    ∙ ap₂ (λ xs ys. xs ++ ys) (other_rows (n + suc i) n (moves b (next b a.command)) other) (rw e at rest)

book_of : (s : ActState) (list : List Referenced) → (fold take_on s list).book ≡ state_after s.book list
book_of s [] = refl
book_of s (a ∷ list) = book_of (take_on s a) list

-- the rows of a command among the moved amounts are those of its reply
pub moves_of_reply : (b : ActState) (i : ℕ) → i < length b.accepted
    → filter (is_key (1 + i)) (tables_of b tables.Moved) ≡ rows_of_moves (1 + i) (moves (book_at b i) (book_at b (suc i)))
moves_of_reply b i low =
    moved_at i 1 (empty_book b.book.period) b.accepted low
    ∙ ap₂ (λ s t. rows_of_moves (1 + i) (moves s t)) (sym (book_of (start b.book.period) (take i b.accepted))) (sym (book_of (start b.book.period) (take (suc i) b.accepted)))

-- ---- what a command moved has keys of 16 bits
-- the period stays from state to state
period_after : PeriodStays → (s : ActState) (list : List Referenced) → (fold take_on s list).book.period ≡ s.book.period
period_after stays s [] = refl
period_after stays s (a ∷ list) = period_after stays (take_on s a) list ∙ stays s.book a.command

pub period_at : PeriodStays → (b : ActState) (i : ℕ) → (book_at b i).period ≡ b.book.period
period_at stays b i = period_after stays (start b.book.period) (take i b.accepted)

small_key : (days : ℕ) → days ≤ 366 → (dim : Dim) (key : ℕ) → IsKey days dim key → key < 2 ^ 16
small_key days few Cause key is = omega (arith, is)
small_key days few Feeder key is = omega (arith, is.1)
small_key days few Day key is = omega (arith, is, few)

pub small_keys : (days : ℕ) → days ≤ 366 → (moved : List Moved) → HaveKeys days moved → HaveSmallKeys moved
small_keys days few moved keys = All-weaker (λ (m : Moved). IsKey days m.dim m.key) (λ (m : Moved). m.key < 2 ^ 16) (λ m is. small_key days few m.dim m.key is) moved keys
