-- The commands that a listing of their table holds.
use Rattle.std.proofs.Common.{◌≡◌, ℕ, suc, ◌+◌, ◌<◌, pos, List, [], ◌∷◌, ◌++◌, map, length, Some, Less, refl, ap, subst, ◌∙◌, arith, length-append}
use Rattle.std.specs.List.{AllByRecursion}
use Rattle.std.specs.List.Sorted.{IsPermutation, IsStrictlySortedBy}
use Rattle.std.specs.Ordering.{int_cmp}
use Rattle.std.proofs.lemmas.Bool.Decides.{nat_tests}
use Rattle.std.proofs.lemmas.List.Sorted.{IsPermutation-trans}
use Rattle.sqlite_value.proofs.OrderLemmas.{value_cmp-Int}
use Rattle.sqlite.specs.Order.{Row}
use Rattle.sqlite.specs.Query.{output_cmp}
use Rattle.sqlite.specs.Effect.{Database}
use Rattle.sqlite.specs.State.{IsUnchanged}
use Rattle.sqlite.specs.Held.{Held, state}
use Rattle.sqlite.specs.Given.{GivesOn}
use Rattle.sqlite_trees.specs.declared.store.Store.{Ghosts}
use Rattle.ob_book.specs.Acts.{Referenced}
use Rattle.ob_sql_rows.specs.Versions.{schema_of}
use Rattle.ob_sql_rows.specs.declared.version.Version.{Version}
use Rattle.ob_sql_rows.specs.Rows.{Columns}
use Rattle.ob_sql_rows.specs.declared.table.Table.TheVariants.{Command}
use Rattle.ob_record.specs.Tables.{Shows, numbered}
use Rattle.ob_sql_read.specs.declared.filed.Filed.{Filed}
use Rattle.ob_sql_read.specs.Listing.{Lists, list_query, keyed, filed_of}
use Rattle.ob_sql_read.specs.Reading.{IsFiled, command_listing, command_rows, row_of_command_in}
use Rattle.ob_sql_read.specs.Versioned.{IsReferencedIn}
use Rattle.ob_sql_read.proofs.Selects.{lists_commands}
use Rattle.ob_sql_read.proofs.Listing.{append_last, begun_list, lists_rows}

-- a row that stands next
pub one_stands : {S : Type 0} (g : Ghosts S) (v : Version) (old new : Held S) → (state g old).now.schema ≡ schema_of v → IsUnchanged (state g old) (state g new) → (given : List Row) (row : Row) → GivesOn g command_listing.text [] old new given (Some row)
    → (rest : List Row) × Lists command_listing (state g new).now (given ++ (row ∷ rest))
one_stands g v old new has same given row more =
    let all = begun_list g command_listing (lists_commands v) new (given ++ row ∷ []) (ap (λ (d : Database). d.schema) same.0.now_is ∙ has) same.0.is_open more in
    (all.0, subst (Lists command_listing (state g new).now) (append_last given (row ∷ []) all.0) all.1)

-- ---- rows under numbers
pub numbered_last : {X : Type 0} (row : ℕ → X → Columns) (n : ℕ) (xs : List X) (x : X) → numbered row n (xs ++ x ∷ []) ≡ numbered row n xs ++ row (n + length xs) x ∷ []
numbered_last row n [] x = let e : n ≡ n + 0 = omega arith in ap (λ k. row k x ∷ []) e
numbered_last row n (y ∷ xs) x =
    let e : n + 1 + length xs ≡ n + suc (length xs) = omega arith in
    ap (λ l. row n y ∷ l) (numbered_last row (n + 1) xs x ∙ ap (λ k. numbered row (n + 1) xs ++ row k x ∷ []) e)

less_int : (m n : ℕ) → m < n → int_cmp (pos m) (pos n) ≡ Less
less_int m n low = grind (arith, nat_tests)

before : (version : Version) (m n : ℕ) (a b : Referenced) → m < n
    → output_cmp (list_query command_listing) (keyed command_listing (row_of_command_in version m a)) (keyed command_listing (row_of_command_in version n b)) ≡ Less
before version m n a b low = rw (value_cmp-Int (pos m) (pos n), less_int m n low)

all_after : (version : Version) (m n : ℕ) (a : Referenced) (list : List Referenced) → m < n
    → AllByRecursion (λ o. output_cmp (list_query command_listing) (keyed command_listing (row_of_command_in version m a)) o ≡ Less) (map (keyed command_listing) (numbered (row_of_command_in version) n list))
all_after version m n a [] low = tt
all_after version m n a (b ∷ list) low = (before version m n a b low, all_after version m (n + 1) a list (omega (arith, low)))

commands_rise : (version : Version) (n : ℕ) (list : List Referenced) → IsStrictlySortedBy (output_cmp (list_query command_listing)) (map (keyed command_listing) (numbered (row_of_command_in version) n list))
unfolding IsStrictlySortedBy
commands_rise version n [] = tt
commands_rise version n (a ∷ list) = (all_after version n (n + 1) a list (omega arith), commands_rise version (n + 1) list)

-- ---- the commands so far
pub map_last : {X Y : Type 0} (f : X → Y) (xs : List X) (x : X) → map f (xs ++ x ∷ []) ≡ map f xs ++ f x ∷ []
map_last f [] x = refl
map_last f (y ∷ xs) x = ap (λ l. f y ∷ l) (map_last f xs x)

pub map_length : {X Y : Type 0} (f : X → Y) (xs : List X) → length (map f xs) ≡ length xs
map_length f [] = refl
map_length f (x ∷ xs) = ap suc (map_length f xs)

-- a command more is under a reference, too
pub all_referenced : (version : Version) (items : List Filed) (f : Filed) → AllByRecursion (IsReferencedIn version) (filed_of items) → IsFiled version f → AllByRecursion (IsReferencedIn version) (filed_of (items ++ f ∷ []))
all_referenced version [] f all is = (is, tt)
all_referenced version (g ∷ items) f all is = (all.0, all_referenced version items f all.1 is)

-- the table has the rows of commands exactly where they are its answer
pub table_is : (version : Version) (db : Database) (answer shows : List Row) (list : List Referenced) → Lists command_listing db answer → Shows db.trees Command shows → IsPermutation shows (command_rows version list) → answer ≡ command_rows version list
table_is version db answer shows list lists there same = (lists_rows command_listing db answer (command_rows version list) lists (commands_rise version 1 list)).1 (IsPermutation-trans _ _ _ there same)

pub pushed_length : {X : Type 0} (xs : List X) (x : X) (at : ℕ) → length xs ≡ at → length (xs ++ x ∷ []) ≡ at + 1
pushed_length xs x at long = omega (arith, length-append xs (x ∷ []), long)
