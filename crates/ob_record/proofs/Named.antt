-- Lists of rows under their numbers: they have the same rows, in some order, only where they are one; and how many
-- commands a reached book has.
use Rattle.std.proofs.Common.{◌≡◌, ◌∙◌, ℕ, ◌+◌, ◌≤◌, ◌==◌, Bool, true, false, List, [], ◌∷◌, ◌++◌, length, Option, Some, None, is_none, if◌then◌else◌, refl, sym, ap₂, subst, inl, inr, arith}
use Rattle.std.specs.Prelude.{◌⊎◌, ◌&&◌}
use Rattle.std.specs.List.{AllByRecursion}
use Rattle.std.specs.List.Sorted.{IsPermutation}
use Rattle.std.proofs.lemmas.Bool.Decides.{nat_tests}
use Rattle.std.proofs.lemmas.List.Elements.{All-from_recursion, recursion_from_All}
use Rattle.std.proofs.lemmas.List.Sorted.{All-permutation, length_permutation}
use Rattle.sqlite.specs.Order.{column}
use Rattle.ob_base.specs.declared.stop.Refusal.{Refusal}
use Rattle.ob_base.specs.declared.stop.Refusal.TheVariants.{Full}
use Rattle.ob_sql_rows.specs.Rows.{Columns, number}
use Rattle.ob_command.specs.Commands.{BodiesDiffer, body_text}
use Rattle.ob_state.specs.Refusals.{first, if_full, refusal, refusals, refuse_if}
use Rattle.ob_book.specs.Acts.{ActState, Referenced, StateIsOfCommands, act, acts, is_accepted, number_of, start, take_on}
use Rattle.ob_record.specs.Tables.{numbered, row_of_command}
use Rattle.ob_record.specs.Reached.{ReachedAreFew}
use Rattle.ob_record.specs.Naming.{IsReferenced, RowsNameCommands}
use Rattle.ob_record.proofs.Starting.{reached_count}

-- ---- rows under their numbers
same_number : (m n : ℕ) → number m ≡ number n → m ≡ n
same_number m n h = cc

mapped : {X : Type 0} (P Q : X → Type 0) (f : (x : X) → P x → Q x) (xs : List X) → AllByRecursion P xs → AllByRecursion Q xs
mapped P Q f [] h = tt
mapped P Q f (x ∷ xs) h = (f x h.0, mapped P Q f xs h.1)

both : {X : Type 0} (P Q : X → Type 0) (xs : List X) → AllByRecursion P xs → AllByRecursion Q xs → AllByRecursion (λ x. P x × Q x) xs
both P Q [] h k = tt
both P Q (x ∷ xs) h k = ((h.0, k.0), both P Q xs h.1 k.1)

-- what holds of each row of a list holds of each of another
abbrev Keeps : List Columns → List Columns → Type 1
Keeps rows others = (P : Columns → Type 0) → AllByRecursion P rows → AllByRecursion P others

-- the row is under a number from n on
abbrev IsFrom : ℕ → Columns → Type 0
IsFrom n row = (m : ℕ) × (n ≤ m) × (column row 0 ≡ number m)

-- rows that begin with their numbers, and tell their elements
module _ {X : Type 0} (row : ℕ → X → Columns) (keyed : (n : ℕ) (x : X) → column (row n x) 0 ≡ number n)
    (Is : X → Type 0) (tells : (n : ℕ) (x y : X) → Is x → Is y → row n x ≡ row n y → x ≡ y) where
  all_from : (k n : ℕ) (xs : List X) → k ≤ n → AllByRecursion (IsFrom k) (numbered row n xs)
  all_from k n [] low = tt
  all_from k n (x ∷ xs) low = ((n, low, keyed n x), all_from k (n + 1) xs (omega (arith, low)))

  -- a row from n + 1 on isn't under n
  later : (n : ℕ) (r : Columns) → IsFrom (n + 1) r → column r 0 ≡ number n → ⊥
  later n r from at = let same = same_number from.0 n (sym from.2 ∙ at) in omega (arith, from.1, same)

  -- the row under the first number is the same
  first_row : (n : ℕ) (x y : X) (xs ys : List X) → Keeps (numbered row n (x ∷ xs)) (numbered row n (y ∷ ys)) → row n x ≡ row n y
  first_row n x y xs ys keeps =
      let P : Columns → Type 0 = λ r. column r 0 ≡ number n → row n x ≡ r in
      (keeps P (λ at. refl, mapped (IsFrom (n + 1)) P (λ r from at. absurd (later n r from at)) (numbered row (n + 1) xs) (all_from (n + 1) (n + 1) xs (omega arith)))).0 (keyed n y)

  -- and so are those behind it
  rest : (n : ℕ) (x y : X) (xs ys : List X) → Keeps (numbered row n (x ∷ xs)) (numbered row n (y ∷ ys)) → Keeps (numbered row (n + 1) xs) (numbered row (n + 1) ys)
  rest n x y xs ys keeps P all =
      let Q : Columns → Type 0 = λ r. (column r 0 ≡ number n) ⊎ P r in
      let here = (keeps Q (inl (keyed n x), mapped P Q (λ r p. inr p) (numbered row (n + 1) xs) all)).1 in
      mapped (λ r. Q r × IsFrom (n + 1) r) P (λ r h. elim h.0 [ inl at ↦ absurd (later n r h.1 at) | inr p ↦ p ]) (numbered row (n + 1) ys)
      (both Q (IsFrom (n + 1)) (numbered row (n + 1) ys) here (all_from (n + 1) (n + 1) ys (omega arith)))

  pub same_elements : (n : ℕ) (xs ys : List X) → length xs ≡ length ys → AllByRecursion Is xs → AllByRecursion Is ys → Keeps (numbered row n xs) (numbered row n ys) → xs ≡ ys
  same_elements n [] [] long p q keeps = refl
  same_elements n [] (y ∷ ys) long p q keeps = cc
  same_elements n (x ∷ xs) [] long p q keeps = cc
  same_elements n (x ∷ xs) (y ∷ ys) long p q keeps =
      ap₂ (λ a l. a ∷ l) (tells n x y p.0 q.0 (first_row n x y xs ys keeps))
      (same_elements (n + 1) xs ys (omega (arith, long)) p.1 q.1 (rest n x y xs ys keeps))

  length-numbered : (n : ℕ) (xs : List X) → length (numbered row n xs) ≡ length xs
  length-numbered n [] = refl
  length-numbered n (x ∷ xs) = omega (arith, length-numbered (n + 1) xs)

  pub same_if_permuted : (n : ℕ) (xs ys : List X) → AllByRecursion Is xs → AllByRecursion Is ys → IsPermutation (numbered row n xs) (numbered row n ys) → xs ≡ ys
  same_if_permuted n xs ys p q moved =
      let long = length_permutation (numbered row n xs) (numbered row n ys) moved in
      same_elements n xs ys (omega (arith, long, length-numbered n xs, length-numbered n ys)) p q
      (λ P all. recursion_from_All P (numbered row n ys) (All-permutation P _ _ moved (All-from_recursion P (numbered row n xs) all)))

-- ---- commands
command_told : BodiesDiffer → (n : ℕ) (a b : Referenced) → IsReferenced a → IsReferenced b → row_of_command n a ≡ row_of_command n b → a ≡ b
command_told law n a b p q h =
    let reference : a.reference ≡ b.reference = cc in
    let body : body_text a.command ≡ body_text b.command = cc in
    ap₂ (λ r c. record { reference = r; command = c }) reference (law a.command b.command p.1 q.1 body)

pub rows_name_commands : BodiesDiffer → RowsNameCommands
rows_name_commands law xs ys p q moved = same_if_permuted row_of_command (λ n a. refl) IsReferenced (command_told law) 1 xs ys p q moved

-- ---- how many they are
no_last : (rs : List (Option Refusal)) (r : Option Refusal) → first (rs ++ r ∷ []) ≡ None → r ≡ None
no_last [] None h = refl
no_last [] (Some r) h = h
no_last (None ∷ rs) r h = no_last rs r h
no_last (Some x ∷ rs) r h = cc

test_fails : (test : Bool) (r : Refusal) → refuse_if test r ≡ None → test ≡ false
test_fails true r h = cc
test_fails false r h = refl

both_true : (t u : Bool) → (t && u) ≡ true → u ≡ true
both_true true u h = h
both_true false u h = cc

none_is : {X : Type 0} (o : Option X) → is_none o ≡ true → o ≡ None
none_is None h = refl
none_is (Some x) h = cc

-- a book that accepts a command has room for it
has_room : (b : ActState) (a : Referenced) → is_accepted b a ≡ true → b.book.accepted ≤ 1_000_000 → b.book.accepted + 1 ≤ 1_000_000
has_room b a accepted few =
    let unrefused = none_is (refusal b.book a.command) (both_true (is_none (number_of b a.reference)) _ accepted) in
    let other = test_fails (b.book.accepted == 1_000_000) (Full 1_000_000) (no_last (refusals b.book a.command) (if_full b.book) unrefused) in
    grind (arith, nat_tests)

few_more : (b : ActState) (a : Referenced) → b.book.accepted ≤ 1_000_000 → (t : Bool) → is_accepted b a ≡ t → (if t then take_on b a else b).book.accepted ≤ 1_000_000
few_more b a few true is = has_room b a is few
few_more b a few false is = few

few_after : (b : ActState) (list : List Referenced) → b.book.accepted ≤ 1_000_000 → (acts b list).book.accepted ≤ 1_000_000
few_after b [] few = few
few_after b (a ∷ list) few = few_after (act b a) list (few_more b a few (is_accepted b a) refl)

pub reached_are_few : StateIsOfCommands → ReachedAreFew
reached_are_few law b h =
    let there = few_after (start b.book.period) b.accepted (omega arith) in
    let here = subst (λ (s : ActState). s.book.accepted ≤ 1_000_000) h.in_turn there in
    omega (arith, here, reached_count law b h)
