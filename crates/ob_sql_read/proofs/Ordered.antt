-- Commands whose rows have numbers that rise.
use Rattle.std.proofs.Common.{◌≡◌, ℕ, ℤ, pos, ◌+◌, ◌≤◌, get_or, List, [], ◌∷◌, ◌++◌, map, length, Bool, true, Option, Some, None, IsTrue, Less, Ordering, Equal, Greater, refl, sym, ap, ap₂, subst, ◌∙◌, arith, length-append}
use Rattle.std.specs.Prelude.{◌<ℤ◌, ◌↔◌}
use Rattle.std.specs.List.{AllByRecursion}
use Rattle.std.specs.List.Sorted.{IsPermutation, IsSorted, IsStrictlySortedBy}
use Rattle.std.specs.Ordering.{int_cmp, MatchOrdering}
use Rattle.std.specs.Cmp.{int_ranked}
use Rattle.std.proofs.lemmas.Int.{ints}
use Rattle.std.specs.Ordering.{is_lt, ordering_reverse}
use Rattle.std.proofs.lemmas.List.Sorted.{IsPermutation-map, IsPermutation-sym, IsPermutation-trans}
use Rattle.std.proofs.lemmas.Map.Keys.{Less-from_sorted}
use Rattle.sqlite_sql.proofs.QueryLemmas.{output_cmp_total}
use Rattle.sqlite_value.proofs.OrderLemmas.{value_cmp-Int}
use Rattle.sqlite.specs.Order.{Row}
use Rattle.sqlite.specs.Query.{Output, output_cmp}
use Rattle.sqlite.specs.Effect.{Database}
use Rattle.ob_book.specs.Acts.{Referenced}
use Rattle.ob_record.specs.Tables.{Shows}
use Rattle.ob_state.specs.declared.TheConstants.{MOST_COMMANDS}
use Rattle.ob_sql_rows.specs.Rows.{Columns}
use Rattle.ob_sql_rows.specs.declared.table.Table.TheVariants.{Command}
use Rattle.ob_sql_rows.specs.declared.version.Version.{Version}
use Rattle.ob_sql_read.specs.Apart.{IsAbove}
use Rattle.ob_sql_read.specs.declared.commands.Commands.{Commands}
use Rattle.ob_sql_read.specs.declared.filed.Filed.{Filed}
use Rattle.ob_sql_read.specs.Listing.{Lists, list_query, keyed, referenced, filed_of}
use Rattle.ob_sql_read.specs.Ordered.{AreAbove, AreInOrder, Numbered, RowsHaveOneOrder, row_under, rows_under}
use Rattle.ob_sql_read.specs.Reading.{IsCommands, IsFiled, command_listing, command_rows, row_of_command_in}
use Rattle.ob_sql_read.specs.Versioned.{IsReferencedIn, body_in}
use Rattle.ob_sql_read.proofs.Listing.{lists_rows, shows}
use Rattle.ob_sql_read.proofs.Same.{same_when_sorted}
use Rattle.ob_sql_read.proofs.Standing.{map_last, map_length, numbered_last, table_is}
use Rattle.ob_sql_read.proofs.Versions.{BodiesDifferIn, command_in}

abbrev pub commands_in : List Numbered → List Referenced
commands_in pairs = map (λ (p : Numbered). p.1) pairs

-- ---- the last number
abbrev pub last_of : Option ℤ → List Numbered → Option ℤ
last_of last [] = last
last_of last (p ∷ pairs) = last_of (Some p.0) pairs

above_more : (last : Option ℤ) (pairs : List Numbered) (p : Numbered) → AreAbove last pairs → IsAbove (last_of last pairs) p.0 → AreAbove last (pairs ++ p ∷ [])
above_more last [] p all above = (above, tt)
above_more last (q ∷ pairs) p all above = (all.0, above_more (Some q.0) pairs p all.1 above)

last_more : (last : Option ℤ) (pairs : List Numbered) (p : Numbered) → last_of last (pairs ++ p ∷ []) ≡ Some p.0
last_more last [] p = refl
last_more last (q ∷ pairs) p = last_more (Some q.0) pairs p

-- ---- rows under numbers that rise are in the order of the query
less_int : (m n : ℤ) → m <ℤ n → int_cmp m n ≡ Less
less_int m n less = go (int_cmp m n) refl (int_ranked m n (int_cmp m n) refl)
  where
    go : (r : Ordering) → int_cmp m n ≡ r → MatchOrdering r (m <ℤ n) (m ≡ n) (n <ℤ m) → int_cmp m n ≡ Less
    go Less e h = e
    go Equal e h = absurd (omega (arith, ints))
    go Greater e h = absurd (omega (arith, ints))

up : (a b c : ℤ) → a <ℤ b → b <ℤ c → a <ℤ c
up a b c below above = omega (arith, ints)

all_up : (m n : ℤ) (pairs : List Numbered) → m <ℤ n → AllByRecursion (λ (p : Numbered). n <ℤ p.0) pairs → AllByRecursion (λ (p : Numbered). m <ℤ p.0) pairs
all_up m n [] less all = tt
all_up m n (p ∷ pairs) less all = (up m n p.0 less all.0, all_up m n pairs less all.1)

all_above : (n : ℤ) (pairs : List Numbered) → AreAbove (Some n) pairs → AllByRecursion (λ (p : Numbered). n <ℤ p.0) pairs
all_above n [] above = tt
all_above n (p ∷ pairs) above = (above.0, all_up n p.0 pairs above.0 (all_above p.0 pairs above.1))

-- ---- lists
same_ends : {X : Type 0} (xs ys : List X) (x y : X) → xs ++ x ∷ [] ≡ ys ++ y ∷ [] → (xs ≡ ys) × (x ≡ y)
same_ends [] [] x y e = (refl, cc)
same_ends [] (b ∷ ys) x y e = absurd (omega (arith, ap length e, length-append ys (y ∷ [])))
same_ends (a ∷ xs) [] x y e = absurd (omega (arith, ap length e, length-append xs (x ∷ [])))
same_ends (a ∷ xs) (b ∷ ys) x y e =
    let rest : xs ++ x ∷ [] ≡ ys ++ y ∷ [] = cc in
    let it = same_ends xs ys x y rest in
    let first : a ≡ b = cc in
    (ap₂ (λ c l. c ∷ l) first it.0, it.1)

-- ---- the rows that commands have in a version
module _ (version : Version) where
  before : (p q : Numbered) → p.0 <ℤ q.0 → output_cmp (list_query command_listing) (keyed command_listing (row_under version p)) (keyed command_listing (row_under version q)) ≡ Less
  before p q less = rw (value_cmp-Int p.0 q.0, less_int p.0 q.0 less)

  all_after : (p : Numbered) (pairs : List Numbered) → AllByRecursion (λ (q : Numbered). p.0 <ℤ q.0) pairs
      → AllByRecursion (λ o. output_cmp (list_query command_listing) (keyed command_listing (row_under version p)) o ≡ Less) (map (keyed command_listing) (rows_under version pairs))
  all_after p [] all = tt
  all_after p (q ∷ pairs) all = (before p q all.0, all_after p pairs all.1)

  rises : (last : Option ℤ) (pairs : List Numbered) → AreAbove last pairs → IsStrictlySortedBy (output_cmp (list_query command_listing)) (map (keyed command_listing) (rows_under version pairs))
  unfolding IsStrictlySortedBy
  rises last [] above = tt
  rises last (p ∷ pairs) above = (all_after p pairs (all_above p.0 pairs above.1), rises (Some p.0) pairs above.1)

  -- the table has such rows exactly where they are its answer
  answer_is : (db : Database) (answer shows : List Row) (pairs : List Numbered) → AreInOrder pairs → Lists command_listing db answer → Shows db.trees Command shows → IsPermutation shows (rows_under version pairs) → answer ≡ rows_under version pairs
  answer_is db answer shows pairs above lists there same =
      (lists_rows command_listing db answer (rows_under version pairs) lists (rises None pairs above)).1 (IsPermutation-trans _ _ _ there same)

  -- ---- whether they count from 1
  abbrev pub Counts : Bool → List Numbered → Type 0
  Counts counted pairs = IsTrue counted ↔ (rows_under version pairs ≡ command_rows version (commands_in pairs))

  rows_more : (pairs : List Numbered) (p : Numbered) → rows_under version (pairs ++ p ∷ []) ≡ rows_under version pairs ++ row_under version p ∷ []
  rows_more pairs p = map_last (row_under version) pairs p

  counted_more : (pairs : List Numbered) (p : Numbered) (due : ℕ) → due ≡ length pairs + 1 → command_rows version (commands_in (pairs ++ p ∷ [])) ≡ command_rows version (commands_in pairs) ++ row_of_command_in version due p.1 ∷ []
  counted_more pairs p due is =
      let place : 1 + length (commands_in pairs) ≡ due = omega (arith, map_length (λ (q : Numbered). q.1) pairs, is) in
      ap (command_rows version) (map_last (λ (q : Numbered). q.1) pairs p) ∙ numbered_last (row_of_command_in version) 1 (commands_in pairs) p.1 ∙ ap (λ k. command_rows version (commands_in pairs) ++ row_of_command_in version k p.1 ∷ []) place

  same_number : (p : Numbered) (due : ℕ) → row_under version p ≡ row_of_command_in version due p.1 → p.0 ≡ pos due
  same_number p due e = cc

  count_more : (counted more : Bool) (pairs : List Numbered) (p : Numbered) (due : ℕ) → due ≡ length pairs + 1 → Counts counted pairs → IsTrue more ↔ (IsTrue counted × (p.0 ≡ pos due)) → Counts more (pairs ++ p ∷ [])
  count_more counted more pairs p due is counts tells = (
    λ yes.
        let both = tells.0 yes in
        let front = counts.0 both.0 in
        let row : row_under version p ≡ row_of_command_in version due p.1 = ap (λ n. row_under version (n, p.1)) both.1 in
        rows_more pairs p ∙ ap₂ (λ l r. l ++ r ∷ []) front row ∙ sym (counted_more pairs p due is),
    λ same.
        let ends = same_ends (rows_under version pairs) (command_rows version (commands_in pairs)) (row_under version p) (row_of_command_in version due p.1) (sym (rows_more pairs p) ∙ same ∙ counted_more pairs p due is) in
        tells.1 (counts.1 ends.0, same_number p due ends.1),
  )

  -- ---- the commands so far
  pub record IsRead (items : List Filed) (last : Option ℤ) (counted : Bool) (pairs : List Numbered) : Type 0 where
    pub commands : commands_in pairs ≡ filed_of items
    pub in_order : AreInOrder pairs
    pub up_to : last_of None pairs ≡ last
    pub counts : Counts counted pairs

  pub none_read : IsRead [] None true []
  none_read = record { commands = refl; in_order = tt; up_to = refl; counts = (λ _. refl, λ _. refl) }

  -- one more
  pub one_read : (items : List Filed) (last : Option ℤ) (counted more : Bool) (pairs : List Numbered) (n : ℤ) (f : Filed) (due : ℕ) → due ≡ length items + 1 → IsRead items last counted pairs → IsAbove last n
      → IsTrue more ↔ (IsTrue counted × (n ≡ pos due)) → IsRead (items ++ f ∷ []) (Some n) more (pairs ++ (n, referenced f) ∷ [])
  one_read items last counted more pairs n f due is read above tells =
      let p : Numbered = (n, referenced f) in
      let long : length pairs ≡ length items = sym (map_length (λ (q : Numbered). q.1) pairs) ∙ ap length read.commands ∙ map_length referenced items in
      record {
        commands = map_last (λ (q : Numbered). q.1) pairs p ∙ ap (λ l. l ++ referenced f ∷ []) read.commands ∙ sym (map_last referenced items f);
        in_order = above_more None pairs p read.in_order (subst (λ o. IsAbove o n) (sym read.up_to) above);
        up_to = last_more None pairs p;
        counts = count_more counted more pairs p due (omega (arith, is, long)) read.counts tells;
      }

  pub rows_read : (pairs : List Numbered) (n : ℤ) (f : Filed) → rows_under version pairs ++ row_under version (n, referenced f) ∷ [] ≡ rows_under version (pairs ++ (n, referenced f) ∷ [])
  rows_read pairs n f = sym (rows_more pairs (n, referenced f))

  -- no row is left
  pub all_read : (db : Database) (c : Commands) (last : Option ℤ) (pairs : List Numbered) (shows : List Row) → IsRead c.commands.items last c.counted pairs → Lists command_listing db (rows_under version pairs) → Shows db.trees Command shows → IsCommands version (Some c) shows
  all_read db c last pairs shows read lists there =
      let here = (lists_rows command_listing db (rows_under version pairs) (rows_under version pairs) lists (rises None pairs read.in_order)).0 refl in
      let held : IsPermutation shows (rows_under version pairs) = IsPermutation-trans _ _ _ (IsPermutation-sym _ _ there) here in
      let named : command_rows version (commands_in pairs) ≡ command_rows version (filed_of c.commands.items) = ap (command_rows version) read.commands in (
        record { pairs = pairs; in_order = read.in_order; commands = read.commands; are = held },
        (
          λ yes. subst (IsPermutation shows) (read.counts.0 yes ∙ named) held,
          λ same. read.counts.1 (table_is version db (rows_under version pairs) shows (filed_of c.commands.items) lists there same ∙ sym named),
        ),
      )

  -- ---- the rows are those of no commands
  next_of : (P : Referenced → Type 0) (last : Option ℤ) (pairs others : List Numbered) (row : Columns) (rest : List Columns) → AreAbove last others → AllByRecursion P (commands_in others) → rows_under version pairs ++ (row ∷ rest) ≡ rows_under version others
      → (p : Numbered) × IsAbove (last_of last pairs) p.0 × P p.1 × (row ≡ row_under version p)
  next_of P last [] [] row rest above all e = absurd cc
  next_of P last [] (q ∷ others) row rest above all e = let first : row ≡ row_under version q = cc in (q, above.0, all.0, first)
  next_of P last (p ∷ pairs) [] row rest above all e = absurd cc
  next_of P last (p ∷ pairs) (q ∷ others) row rest above all e =
      let first : row_under version p ≡ row_under version q = cc in
      let same : p.0 ≡ q.0 = cc in
      let more : rows_under version pairs ++ (row ∷ rest) ≡ rows_under version others = cc in
      next_of P (Some p.0) pairs others row rest (subst (λ n. AreAbove (Some n) others) (sym same) above.1) all.1 more

  -- a row stands there that is none of a command, with a number above the last
  pub other_read : (db : Database) (items : List Filed) (last : Option ℤ) (counted : Bool) (pairs : List Numbered) (row : Row) (rest shows : List Row) → IsRead items last counted pairs → Lists command_listing db (rows_under version pairs ++ (row ∷ rest))
      → ((n : ℤ) (f : Filed) → IsAbove last n → IsFiled version f → row ≡ row_under version (n, referenced f) → ⊥) → Shows db.trees Command shows → IsCommands version None shows
  other_read db items last counted pairs row rest shows read lists none there = λ list low all of.
      let same = answer_is db (rows_under version pairs ++ (row ∷ rest)) shows of.pairs of.in_order lists there of.are in
      let it = next_of (IsReferencedIn version) None pairs of.pairs row rest of.in_order (subst (AllByRecursion (IsReferencedIn version)) (sym of.commands) all) same in
      none it.0.0 (record { reference = it.0.1.reference; command = it.0.1.command }) (subst (λ o. IsAbove o it.0.0) read.up_to it.1) it.2 it.3

  -- there are more rows than a book has commands
  pub too_many : (db : Database) (items : List Filed) (last : Option ℤ) (counted : Bool) (pairs : List Numbered) (row : Row) (rest shows : List Row) → IsRead items last counted pairs → MOST_COMMANDS ≤ length items
      → Lists command_listing db (rows_under version pairs ++ (row ∷ rest)) → Shows db.trees Command shows → IsCommands version None shows
  too_many db items last counted pairs row rest shows read long lists there = λ list low all of.
      let e = ap length (answer_is db (rows_under version pairs ++ (row ∷ rest)) shows of.pairs of.in_order lists there of.are) in
      let here : length (rows_under version pairs) ≡ length items = map_length (row_under version) pairs ∙ sym (map_length (λ (q : Numbered). q.1) pairs) ∙ ap length read.commands ∙ map_length referenced items in
      let other : length (rows_under version of.pairs) ≡ length list = map_length (row_under version) of.pairs ∙ sym (map_length (λ (q : Numbered). q.1) of.pairs) ∙ ap length of.commands in
      absurd (omega (arith, e, length-append (rows_under version pairs) (row ∷ rest), here, other, long, low))

  -- ---- rows are in one order alone
  abbrev by_key : Output → Output → Ordering
  by_key = output_cmp (list_query command_listing)

  abbrev keys_of : List Numbered → List Output
  keys_of pairs = map (keyed command_listing) (rows_under version pairs)

  sorted_so : (pairs : List Numbered) → AreInOrder pairs → IsSorted by_key (keys_of pairs)
  sorted_so pairs above = λ k d low high.
      let less = Less-from_sorted by_key (keys_of pairs) k (k + 1) d (rises None pairs above) (omega arith) high in
      ap is_lt ((output_cmp_total (list_query command_listing)).antisymm (get_or (keys_of pairs) (k + 1) d) (get_or (keys_of pairs) k d) ∙ ap ordering_reverse less)

  same_rows : (pairs others : List Numbered) → AreInOrder pairs → AreInOrder others → IsPermutation (rows_under version pairs) (rows_under version others) → rows_under version pairs ≡ rows_under version others
  same_rows pairs others above up moved =
      let keys = same_when_sorted by_key (output_cmp_total (list_query command_listing)) (keys_of pairs) (keys_of others) (IsPermutation-map (keyed command_listing) _ _ moved) (sorted_so pairs above) (rises None others up) in
      sym (shows command_listing (rows_under version pairs)) ∙ ap (map (λ (o : Output). o.1)) keys ∙ shows command_listing (rows_under version others)

  module _ (law : BodiesDifferIn version) where
    same_command : (p q : Numbered) → IsReferencedIn version p.1 → IsReferencedIn version q.1 → row_under version p ≡ row_under version q → p.1 ≡ q.1
    same_command p q is so same =
        let reference : p.1.reference ≡ q.1.reference = cc in
        let body : body_in version p.1.command ≡ body_in version q.1.command = cc in
        ap₂ (λ r c. record { reference = r; command = c }) reference (law p.1.command q.1.command (command_in version p.1 is) (command_in version q.1 so) body)

    same_commands : (pairs others : List Numbered) → AllByRecursion (IsReferencedIn version) (commands_in pairs) → AllByRecursion (IsReferencedIn version) (commands_in others) → rows_under version pairs ≡ rows_under version others → commands_in pairs ≡ commands_in others
    same_commands [] [] is so same = refl
    same_commands [] (q ∷ others) is so same = absurd cc
    same_commands (p ∷ pairs) [] is so same = absurd cc
    same_commands (p ∷ pairs) (q ∷ others) is so same =
        let first : row_under version p ≡ row_under version q = cc in
        let rest : rows_under version pairs ≡ rows_under version others = cc in
        ap₂ (λ a l. a ∷ l) (same_command p q is.0 so.0 first) (same_commands pairs others is.1 so.1 rest)

    pub one_order : RowsHaveOneOrder version
    one_order rows xs ys is so of other =
        let moved = IsPermutation-trans _ _ _ (IsPermutation-sym _ _ of.are) other.are in
        sym of.commands
        ∙ same_commands of.pairs other.pairs (subst (AllByRecursion (IsReferencedIn version)) (sym of.commands) is) (subst (AllByRecursion (IsReferencedIn version)) (sym other.commands) so) (same_rows of.pairs other.pairs of.in_order other.in_order moved)
        ∙ other.commands
