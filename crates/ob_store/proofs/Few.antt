-- What the commands of a book moved is few, under small numbers and keys.
use Rattle.std.proofs.Common.{◌≡◌, ℕ, zero, suc, ◌+◌, ◌-◌, ◌*◌, ◌<◌, ◌≤◌, Bool, not, List, [], ◌∷◌, ◌++◌, filter, length, map, refl, sym, ap, subst, arith}
use Rattle.std.specs.List.{AllByRecursion, range_with_len, sum_by}
use Rattle.std.proofs.lemmas.List.{length-append}
use Rattle.std.proofs.lemmas.List.Concat.{length-flat_map}
use Rattle.std.proofs.lemmas.List.Elements.{recursion_from_All}
use Rattle.std.proofs.lemmas.List.Filters.{length-filter_both}
use Rattle.std.proofs.lemmas.List.FromFn.{length-range_with_len}
use Rattle.std.proofs.lemmas.List.Sums.{sum_by-le}
use Rattle.sqlite_trees.proofs.ListLemmas.{all-flat_map, all-map}
use Rattle.ob_time.specs.Calendar.{day_count}
use Rattle.ob_post.specs.Keys.{keys}
use Rattle.ob_post.specs.MoveLaws.{MovesHaveKeys, change_from}
use Rattle.ob_post.specs.Moved.{changes_under, is_nonzero}
use Rattle.ob_post.specs.declared.Dim.{Dim}
use Rattle.ob_post.specs.declared.Dim.TheVariants.{Cause, Feeder, Day}
use Rattle.ob_post.specs.declared.Moved.{Moved}
use Rattle.ob_state.specs.Amounts.{amount}
use Rattle.ob_book.specs.Acts.{ActState, PeriodStays, book_at, reply_of}
use Rattle.ob_sql_write.specs.Stored.{HaveSmallKeys}
use Rattle.ob_record.specs.Reached.{IsReached, ReachedAreFew}
use Rattle.ob_store.specs.MovingOut.{AreFewMoves, IsSmall, Numbered, all_moves, moves_of}
use Rattle.ob_store.proofs.Replying.{period_at, small_keys}

-- ---- lists
filter_short : {X : Type 0} (p : X → Bool) (xs : List X) → length (filter p xs) ≤ length xs
filter_short p xs = omega (arith, length-filter_both p (λ x. not (p x)) (λ x. refl) xs)

map_length : {X Y : Type 0} (f : X → Y) (xs : List X) → length (map f xs) ≡ length xs
map_length f [] = refl
map_length f (x ∷ xs) = ap suc (map_length f xs)

in_range : (P : ℕ → Type 0) (a n : ℕ) → ((k : ℕ) → a ≤ k → k < a + n → P k) → AllByRecursion P (range_with_len a n)
in_range P a zero each = tt
in_range P a (suc n) each = (each a (omega arith) (omega arith), in_range P (a + 1) n (λ k low high. each k (omega (arith, low)) (omega (arith, high))))

-- one of the elements
pub among : {X : Type 0} (P : X → Type 0) (front : List X) (x : X) (rest : List X) → AllByRecursion P (front ++ x ∷ rest) → P x
among P [] x rest all = all.0
among P (y ∷ front) x rest all = among P front x rest all.1

-- ---- what one command moved
under_few : (days : ℕ) (dim : Dim) → days ≤ 366 → length (keys days dim) ≤ 366
unfolding keys
under_few days Cause few = omega (arith, length-range_with_len 0 64)
under_few days Feeder few = omega (arith, length-range_with_len 1 255)
under_few days Day few = omega (arith, few, length-range_with_len 0 days)

module _ (stays : PeriodStays) (have_keys : MovesHaveKeys) (are_few : ReachedAreFew) (b : ActState) (reached : IsReached b) where
  days_at : (n : ℕ) → day_count (book_at b n).period ≤ 366
  days_at n = let same : day_count (book_at b n).period ≡ day_count b.book.period = ap day_count (period_at stays b n) in omega (arith, same, reached.period.period.days_in)

  own_keys : (n : ℕ) → HaveSmallKeys (reply_of b n).moved
  own_keys n =
      let old = book_at b (n - 1) in
      small_keys (day_count old.period) (days_at (n - 1)) (reply_of b n).moved (have_keys (change_from (amount old) (amount (book_at b n))) (day_count old.period))

  own_few : (n : ℕ) → length (moves_of b n) ≤ 1098
  own_few n =
      let old = book_at b (n - 1) in
      let days = day_count old.period in
      let change = change_from (amount old) (amount (book_at b n)) in
      let of_cause = changes_under change days Cause in
      let of_feeder = changes_under change days Feeder in
      let of_day = changes_under change days Day in
      let tested = filter_short (λ (m : Moved). is_nonzero m.delta) (of_cause ++ of_feeder ++ of_day) in
      let parts = length-append (of_cause ++ of_feeder) of_day in
      let first = length-append of_cause of_feeder in
      let cause : length of_cause ≤ 366 = subst (λ k. k ≤ 366) (sym (map_length _ (keys days Cause))) (under_few days Cause (days_at (n - 1))) in
      let feeder : length of_feeder ≤ 366 = subst (λ k. k ≤ 366) (sym (map_length _ (keys days Feeder))) (under_few days Feeder (days_at (n - 1))) in
      let day : length of_day ≤ 366 = subst (λ k. k ≤ 366) (sym (map_length _ (keys days Day))) (under_few days Day (days_at (n - 1))) in
      omega (arith, map_length {Y = Numbered} (λ (m : Moved). (n, m)) (reply_of b n).moved, tested, parts, first, cause, feeder, day)

  -- ---- what all of them moved
  abbrev numbers : List ℕ
  numbers = range_with_len 1 (length b.accepted)

  own_small : (n : ℕ) → n ≤ 1_000_000 → AllByRecursion IsSmall (moves_of b n)
  own_small n low =
      all-map IsSmall (λ (m : Moved). (n, m)) (reply_of b n).moved
      (recursion_from_All (λ (m : Moved). IsSmall (n, m)) (reply_of b n).moved (λ i d short. (omega (arith, low), own_keys n i d short)))

  all_small : AllByRecursion IsSmall (all_moves b)
  all_small =
      all-flat_map IsSmall (moves_of b) numbers
      (in_range (λ n. AllByRecursion IsSmall (moves_of b n)) 1 (length b.accepted) (λ n low high. own_small n (omega (arith, high, are_few b reached))))

  pub few_moves : AreFewMoves b
  few_moves = record {
    small = all_small;
    few =
        let sum = sum_by-le (λ n. length (moves_of b n)) 1098 numbers (λ i d short. own_few _) in
        let most : length (all_moves b) ≤ length b.accepted * 1098 = subst (λ k. k ≤ length b.accepted * 1098) (sym (length-flat_map (moves_of b) numbers)) (subst (λ k. sum_by (λ n. length (moves_of b n)) numbers ≤ k * 1098) (length-range_with_len 1 (length b.accepted)) sum) in
        omega (arith, most, are_few b reached);
  }
