-- The row of a new command and those of what it moved: no such row stands yet, and there are few.
use Rattle.std.proofs.Common.{◌≡◌, ◌≢◌, ℕ, ℤ, pos, ◌+◌, ◌*◌, ◌<◌, ◌≤◌, ◌==◌, Bool, true, false, suc, List, [], ◌∷◌, ◌++◌, map, filter, length, None, refl, sym, ap, subst, ◌∙◌, arith, inl, inr, true≢false, length-append}
use Rattle.std.specs.List.{list_any}
use Rattle.std.specs.Str.{bytes_eq}
use Rattle.std.proofs.lemmas.Bool.{cases_Bool, or_from}
use Rattle.std.proofs.lemmas.Bool.Decides.{nat_tests}
use Rattle.std.proofs.lemmas.List.Elements.{All-weaker, filter_passes}
use Rattle.std.proofs.lemmas.List.FromFn.{length-range_with_len}
use Rattle.ob_time.specs.Calendar.{Calendar, day_count}
use Rattle.ob_post.specs.Keys.{dim_number, keys}
use Rattle.ob_post.specs.Moved.{HaveNoZero, changes_under, is_nonzero, moves_by}
use Rattle.ob_post.specs.MoveLaws.{change_from}
use Rattle.ob_post.specs.declared.Dim.{Dim}
use Rattle.ob_post.specs.declared.Dim.TheVariants.{Cause, Feeder, Day}
use Rattle.ob_post.specs.declared.Moved.{Moved}
use Rattle.ob_state.specs.State.{BookState}
use Rattle.ob_state.specs.Next.{next}
use Rattle.ob_state.specs.Amounts.{amount, moves}
use Rattle.ob_book.specs.Acts.{ActState, PeriodStays, Referenced, number_of}
use Rattle.ob_sql_rows.specs.Rows.{is_key, is_reference, moved_row}
use Rattle.ob_sql_write.specs.Amounts.{all_keys, amount_row, amount_rows}
use Rattle.ob_record.specs.Tables.{moved_rows, numbered, row_of_command, rows_of_moves}
use Rattle.ob_record.proofs.Free.{any_numbered, none_append, none_found, not_mapped, number_free}
use Rattle.ob_record.proofs.Keyed.{key_is, name_is}

-- ---- the command's row
pub number_is_free : (id : ℕ) (list : List Referenced) → id ≡ 1 + length list → list_any (is_key id) (numbered row_of_command 1 list) ≡ false
number_is_free id list last = number_free row_of_command id (λ n x. key_is id n (row_of_command n x) refl) 1 list (omega (arith, last))

pub reference_is_free : (b : ActState) (reference : List ℕ) → number_of b reference ≡ None → list_any (is_reference reference) (numbered row_of_command 1 b.accepted) ≡ false
reference_is_free b reference fresh =
    let has : Referenced → Bool = λ a. bytes_eq a.reference reference in
    any_numbered row_of_command (is_reference reference) has (λ n a. name_is reference a.reference (row_of_command n a) refl) 1 b.accepted
    ∙ none_found has b.accepted (not_mapped _ _ fresh)

-- ---- the rows of what it moved
none_under : (id n : ℕ) (ms : List Moved) → (n == id) ≡ false → list_any (is_key id) (rows_of_moves n ms) ≡ false
none_under id n [] other = refl
none_under id n (m ∷ ms) other =
    let row = moved_row n (dim_number m.dim) m.key m.delta in
    or_from (is_key id row) (list_any (is_key id) (rows_of_moves n ms)) (key_is id n row refl ∙ other) (none_under id n ms other)

pub moves_are_free : (id n : ℕ) (b : BookState) (list : List Referenced) → n + length list ≤ id → list_any (is_key id) (moved_rows b n list) ≡ false
moves_are_free id n b [] past = refl
moves_are_free id n b (a ∷ list) past =
    let low : n < id = omega (arith, past) in
    let other : (n == id) ≡ false = grind (arith, nat_tests) in
    none_append (is_key id) (rows_of_moves n (moves b (next b a.command))) (moved_rows (next b a.command) (n + 1) list)
    (none_under id n (moves b (next b a.command)) other)
    (moves_are_free id (n + 1) (next b a.command) list (omega (arith, past)))

-- no amount is moved by nothing
pub no_zero : (change : Dim → ℕ → ℤ) (days : ℕ) → HaveNoZero (moves_by change days)
no_zero change days =
    All-weaker (λ (m : Moved). is_nonzero m.delta ≡ true) (λ (m : Moved). m.delta ≢ pos 0) (λ m moved none. true≢false (sym moved ∙ ap is_nonzero none))
    (moves_by change days) (filter_passes (λ (m : Moved). is_nonzero m.delta) (changes_under change days Cause ++ changes_under change days Feeder ++ changes_under change days Day))

-- ---- how many they are
few_filtered : {X : Type 0} (p : X → Bool) (xs : List X) → length (filter p xs) ≤ length xs
few_filtered p [] = omega arith
few_filtered p (x ∷ xs) = elim (cases_Bool (p x)) [
  | inl t ↦ (let rest = few_filtered p xs in rw t (omega (arith, rest)))
  | inr f ↦ (let rest = few_filtered p xs in rw f (omega (arith, rest)))
]

long_map : {X Y : Type 0} (f : X → Y) (xs : List X) → length (map f xs) ≡ length xs
long_map f [] = refl
long_map f (x ∷ xs) = ap suc (long_map f xs)

-- with so many days, how many keys a dimension has
abbrev key_count : ℕ → Dim → ℕ
key_count days Cause = 64
key_count days Feeder = 255
key_count days Day = days

keys_count : (days : ℕ) (dim : Dim) → length (keys days dim) ≡ key_count days dim
unfolding keys
keys_count days Cause = length-range_with_len 0 64
keys_count days Feeder = length-range_with_len 1 255
keys_count days Day = length-range_with_len 0 days

long_three : (xs ys zs : List Moved) (n : ℕ) → length xs ≡ 64 → length ys ≡ 255 → length zs ≡ n → length (xs ++ ys ++ zs) ≤ 319 + n
long_three xs ys zs n x y z = omega (arith, x, y, z, length-append (xs ++ ys) zs, length-append xs ys)

few_moves : (change : Dim → ℕ → ℤ) (days : ℕ) → length (moves_by change days) ≤ 319 + days
few_moves change days =
    let under : Dim → List Moved = changes_under change days in
    let count : (dim : Dim) → length (under dim) ≡ key_count days dim = λ dim. long_map _ (keys days dim) ∙ keys_count days dim in
    let causes : length (under Cause) ≡ 64 = count Cause in
    let feeders : length (under Feeder) ≡ 255 = count Feeder in
    let each_day : length (under Day) ≡ days = count Day in
    let all : List Moved = under Cause ++ under Feeder ++ under Day in
    let whole : length all ≤ 319 + days = long_three (under Cause) (under Feeder) (under Day) days causes feeders each_day in
    let kept : length (moves_by change days) ≤ length all = few_filtered (λ (m : Moved). is_nonzero m.delta) all in
    omega (arith, kept, whole)

pub amounts_count : (days : ℕ) (f : Dim → ℕ → ℕ) → length (amount_rows days f) ≡ 319 + days
amounts_count days f =
    let under : Dim → List (Dim × ℕ) = λ dim. map (λ key. (dim, key)) (keys days dim) in
    let count : (dim : Dim) → length (under dim) ≡ key_count days dim = λ dim. long_map _ (keys days dim) ∙ keys_count days dim in
    let causes : length (under Cause) ≡ 64 = count Cause in
    let feeders : length (under Feeder) ≡ 255 = count Feeder in
    let each_day : length (under Day) ≡ days = count Day in
    let rows : length (amount_rows days f) ≡ length (all_keys days) = long_map (amount_row f) (all_keys days) in
    let some : length (under Feeder ++ under Day) ≡ length (under Feeder) + length (under Day) = length-append (under Feeder) (under Day) in
    let all : length (all_keys days) ≡ length (under Cause) + length (under Feeder ++ under Day) = length-append (under Cause) (under Feeder ++ under Day) in
    omega (arith, causes, feeders, each_day, rows, some, all)

-- a command moves no more amounts than there are in at most 366 days
pub few_moves_of : (b c : BookState) → day_count b.period ≤ 366 → length (moves b c) ≤ 685
few_moves_of b c few = let at = few_moves (change_from (amount b) (amount c)) (day_count b.period) in omega (arith, at, few)

pub few_moved : PeriodStays → (b : BookState) (n : ℕ) (list : List Referenced) → day_count b.period ≤ 366 → length (moved_rows b n list) ≤ 685 * length list
few_moved stays b n [] few = omega arith
few_moved stays b n (a ∷ list) few =
    let c = next b a.command in
    let ms = moves b c in
    let own : length ms ≤ 685 = few_moves_of b c few in
    let later : day_count c.period ≤ 366 = subst (λ (p : Calendar). day_count p ≤ 366) (sym (stays b a.command)) few in
    let rest : length (moved_rows c (n + 1) list) ≤ 685 * length list = few_moved stays c (n + 1) list later in
    let rows : length (rows_of_moves n ms) ≡ length ms = long_map _ ms in
    let whole : length (moved_rows b n (a ∷ list)) ≡ length (rows_of_moves n ms) + length (moved_rows c (n + 1) list) = length-append (rows_of_moves n ms) (moved_rows c (n + 1) list) in
    omega (arith, own, rest, rows, whole)
