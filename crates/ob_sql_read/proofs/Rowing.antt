-- The rows of what commands move, one command after another.
use Rattle.std.proofs.Common.{◌≡◌, ℕ, pos, zero, suc, ◌+◌, ◌<◌, ◌≤◌, List, [], ◌∷◌, ◌++◌, map, length, take, drop, get_or, Bool, true, false, None, Some, Option, IsTrue, refl, sym, ap, subst, ◌∙◌, arith, true≢false}
use Rattle.std.specs.Prelude.{◌↔◌, Result, Ok, Err, IfOk, OnOk, if◌then◌else◌}
use Rattle.std.specs.Ordering.{nat_cmp, int_cmp}
use Rattle.std.specs.List.Sorted.{IsStrictlySortedBy}
use Rattle.std.proofs.Math.Seq.{drop-cons}
use Rattle.std.proofs.Math.ListN.{drop_of_length-le}
use Rattle.std.proofs.lemmas.Simd.{map-map}
use Rattle.std.proofs.lemmas.Bool.Decides.{nat_tests}
use Rattle.std.proofs.lemmas.List.{append-nil, length-map}
use Rattle.std.proofs.lemmas.List.Sorted.{IsPermutation-sym, IsPermutation-trans}
use Rattle.sqlite.specs.Order.{Row}
use Rattle.sqlite.specs.Query.{output_cmp}
use Rattle.sqlite.specs.Effect.{Database}
use Rattle.sqlite.specs.Held.{Held, state}
use Rattle.sqlite.specs.Given.{HasGiven}
use Rattle.sqlite_trees.specs.declared.store.Store.{Ghosts}
use Rattle.sqlite_value.proofs.OrderLemmas.{value_cmp-Int, then-Equal}
use Rattle.ob_post.specs.Keys.{dim_number}
use Rattle.ob_state.specs.State.{BookState}
use Rattle.ob_state.specs.Next.{next}
use Rattle.ob_state.specs.Amounts.{moves}
use Rattle.ob_book.specs.Acts.{Referenced}
use Rattle.ob_post.specs.declared.Moved.{Moved}
use Rattle.ob_sql_rows.specs.Rows.{Columns, moved_row}
use Rattle.ob_sql_rows.specs.Versions.{schema_of}
use Rattle.ob_sql_rows.specs.declared.table.Table.TheVariants.{Moved as MovedTable}
use Rattle.ob_sql_rows.specs.declared.version.Version.{Version}
use Rattle.ob_sql_rows.specs.declared.version.Version.TheVariants.{One, Two}
use Rattle.ob_record.specs.Tables.{Shows, moved_rows, rows_of_moves}
use Rattle.ob_sql_read.specs.declared.filed.Filed.{Filed}
use Rattle.ob_sql_read.specs.Listing.{IsListingOver, Lists, IsOff, Goes, Ends, list_query, keyed, filed_of}
use Rattle.ob_sql_read.specs.Moves.{moved_listing, HasMoved, commands_of}
use Rattle.ob_sql_read.specs.Versioned.{accepts_in, next_all_in}
use Rattle.ob_sql_read.proofs.Same.{rises_mapped}
use Rattle.ob_sql_read.proofs.Listing.{lists_rows, append_last, no_more, row_on, row_off}
use Rattle.ob_sql_read.proofs.Selects.{is_listing}
use Rattle.ob_sql_read.proofs.Order.{Numbered, numbered_row, numbered_cmp, numbered, rows_are, rise}
use Rattle.ob_sql_read.proofs.Versions.{led, led_here}

-- the text means one query at the schemas of both versions
pub moved_is : (v : Version) → IsListingOver (schema_of v) moved_listing
moved_is One = is_listing One MovedTable tt
moved_is Two = is_listing Two MovedTable tt

-- ---- the rows rise by their key
same_pos : (m n : ℕ) → int_cmp (pos m) (pos n) ≡ nat_cmp m n
same_pos m n = grind (arith, nat_tests)

same_order : (a b : Numbered) → output_cmp (list_query moved_listing) (keyed moved_listing (numbered_row a)) (keyed moved_listing (numbered_row b)) ≡ numbered_cmp a b
same_order a b = rw (
  value_cmp-Int (pos a.0) (pos b.0),
  value_cmp-Int (pos (dim_number a.1.dim)) (pos (dim_number b.1.dim)),
  value_cmp-Int (pos a.1.key) (pos b.1.key),
  same_pos a.0 b.0,
  same_pos (dim_number a.1.dim) (dim_number b.1.dim),
  same_pos a.1.key b.1.key,
  then-Equal (nat_cmp a.1.key b.1.key),
)

strict : (b : BookState) (n : ℕ) (list : List Referenced) → IsStrictlySortedBy (output_cmp (list_query moved_listing)) (map (keyed moved_listing) (moved_rows b n list))
strict b n list =
    subst (λ l. IsStrictlySortedBy (output_cmp (list_query moved_listing)) (map (keyed moved_listing) l)) (rows_are b n list)
    (subst (IsStrictlySortedBy (output_cmp (list_query moved_listing))) (sym (simp map-map))
    (rises_mapped (λ p. keyed moved_listing (numbered_row p)) numbered_cmp (output_cmp (list_query moved_listing)) same_order (numbered b n list) (rise b n list)))

-- an answer is what commands move exactly where the table is, in some order
pub lists_moved : (db : Database) (answer : List Row) (b : BookState) (list : List Referenced) → Lists moved_listing db answer → (answer ≡ moved_rows b 1 list) ↔ Shows db.trees MovedTable (moved_rows b 1 list)
lists_moved db answer b list h = lists_rows moved_listing db answer (moved_rows b 1 list) h (strict b 1 list)

abbrev pub row_of : ℕ → Moved → Columns
row_of n m = moved_row n (dim_number m.dim) m.key m.delta

-- the row at a place is that of what was moved there
pub place_of_row : (n : ℕ) (ms : List Moved) (at : ℕ) (d : Moved) (r : Columns) → at < length ms → row_of n (get_or ms at d) ≡ get_or (rows_of_moves n ms) at r
place_of_row n [] at d r low = absurd (omega (arith, low))
place_of_row n (m ∷ ms) zero d r low = refl
place_of_row n (m ∷ ms) (suc at) d r low = place_of_row n ms at d r (omega (arith, low))

module _ {S : Type 0} (g : Ghosts S) (new : Held S) (n : ℕ) (ms : List Moved) (at : ℕ) (d : Moved) (given : List Row) (ok : Bool) (low : at < length ms) (goes : Goes g moved_listing ok new (given ++ take at (rows_of_moves n ms)) (row_of n (get_or ms at d) ∷ [])) where
  there : Goes g moved_listing ok new (given ++ take at (rows_of_moves n ms)) (get_or (rows_of_moves n ms) at [] ∷ [])
  there = subst (λ r. Goes g moved_listing ok new (given ++ take at (rows_of_moves n ms)) (r ∷ [])) (place_of_row n ms at d [] low) goes

  within : at < length (rows_of_moves n ms)
  within = omega (arith, low, length-map ms (row_of n))

  -- the row of what was moved at this place is off
  pub move_off : ok ≡ false → IsOff moved_listing (state g new).now given (rows_of_moves n ms)
  move_off = row_off g moved_listing new (rows_of_moves n ms) at [] given ok within there

  -- the rows up to this place were given, and this one
  pub move_on : ok ≡ true → HasGiven g moved_listing.text [] new (given ++ take (at + 1) (rows_of_moves n ms))
  move_on = row_on g moved_listing new (rows_of_moves n ms) at [] given ok within there

-- ---- from command to command
-- the commands from a place on are the one there and those after it
pub drop_one : (list : List Filed) (i : ℕ) (f : Filed) → i < length list → f ≡ get_or list i f → drop i list ≡ f ∷ drop (i + 1) list
drop_one list i f low e =
    let place : suc i ≡ i + 1 = omega arith in
    drop-cons list i f low ∙ ap (λ (x : Filed). x ∷ drop (suc i) list) (sym e) ∙ ap (λ k. f ∷ drop k list) place

abbrev pub leads : Version → BookState → List Filed → Option BookState
leads version b list = next_all_in version b (commands_of (filed_of list))

abbrev pub expected : BookState → ℕ → List Filed → List Columns
expected b n list = moved_rows b n (filed_of list)

-- where the command is accepted or not, all lead on from the state after it or nowhere
abbrev on_if : Version → BookState → Filed → List Filed → Bool → Option BookState
on_if version b f rest accepts = if accepts then leads version (next b f.command) rest else None

-- a command that is accepted leads on from the state after it
pub leads_on : (version : Version) (b : BookState) (list : List Filed) (i : ℕ) (f : Filed) → i < length list → f ≡ get_or list i f → IsTrue (accepts_in version b f.command)
    → leads version (next b f.command) (drop (i + 1) list) ≡ leads version b (drop i list)
leads_on version b list i f low e accepted =
    let rest = drop (i + 1) list in
    sym (ap (leads version b) (drop_one list i f low e) ∙ led version b f.command (commands_of (filed_of rest)) ∙ ap (on_if version b f rest) accepted)

-- its rows come first
pub rows_on : (b : BookState) (n : ℕ) (list : List Filed) (i : ℕ) (f : Filed) → i < length list → f ≡ get_or list i f
    → expected b n (drop i list) ≡ rows_of_moves n (moves b (next b f.command)) ++ expected (next b f.command) (n + 1) (drop (i + 1) list)
rows_on b n list i f low e = ap (expected b n) (drop_one list i f low e)

-- the rows of a command stand before the others
pub front_more : (b first : BookState) (n i : ℕ) (list : List Filed) (f : Filed) (front : List Row) → i < length list → f ≡ get_or list i f
    → front ++ expected b n (drop i list) ≡ expected first 1 list
    → (front ++ rows_of_moves n (moves b (next b f.command))) ++ expected (next b f.command) (n + 1) (drop (i + 1) list) ≡ expected first 1 list
front_more b first n i list f front low e all =
    append_last front (rows_of_moves n (moves b (next b f.command))) (expected (next b f.command) (n + 1) (drop (i + 1) list)) ∙ ap (λ l. front ++ l) (sym (rows_on b n list i f low e)) ∙ all

-- past the last command nothing is left
pub leads_here : (version : Version) (b : BookState) (list : List Filed) (i : ℕ) → length list ≤ i → leads version b (drop i list) ≡ Some b
leads_here version b list i end = ap (leads version b) (drop_of_length-le list end) ∙ led_here version b

pub all_given : (b first : BookState) (n i : ℕ) (list : List Filed) (front : List Row) → length list ≤ i → front ++ expected b n (drop i list) ≡ expected first 1 list → front ≡ expected first 1 list
all_given b first n i list front end all = sym (append-nil front) ∙ ap (λ l. front ++ l) (sym (ap (expected b n) (drop_of_length-le list end))) ∙ all

-- ---- the table isn't that of the commands
pub refused_nowhere : (version : Version) (b c : BookState) (f : Filed) (rest : List Filed) (accepts : Bool) → accepts_in version b f.command ≡ accepts → leads version b (f ∷ rest) ≡ Some c → IsTrue accepts
refused_nowhere version b c f rest true is leads_to = refl
refused_nowhere version b c f rest false is leads_to =
    absurd (let none : leads version b (f ∷ rest) ≡ None = led version b f.command (commands_of (filed_of rest)) ∙ ap (on_if version b f rest) is in let e = sym none ∙ leads_to in cc)

-- an answer of the table where it is as the commands move
held : (version : Version) (db : Database) (answer : List Row) (first : BookState) (list : List Filed) (table : List Columns) → Lists moved_listing db answer → Shows db.trees MovedTable table → HasMoved version table first (filed_of list)
    → answer ≡ expected first 1 list
held version db answer first list table lists shows has = (lists_moved db answer first (filed_of list) lists).1 (IsPermutation-trans _ _ _ shows has.2)

-- where a command is refused or its rows are off
pub off_all : (version : Version) (db : Database) (b first : BookState) (n i : ℕ) (list : List Filed) (f : Filed) (front : List Row) (table : List Columns) → i < length list → f ≡ get_or list i f
    → leads version b (drop i list) ≡ leads version first list → front ++ expected b n (drop i list) ≡ expected first 1 list
    → (IsTrue (accepts_in version b f.command) → IsOff moved_listing db front (rows_of_moves n (moves b (next b f.command)))) → Shows db.trees MovedTable table → HasMoved version table first (filed_of list) → ⊥
off_all version db b first n i list f front table low e leading all off shows has =
    let accepted = refused_nowhere version b has.0 f (drop (i + 1) list) (accepts_in version b f.command) refl (sym (ap (leads version b) (drop_one list i f low e)) ∙ leading ∙ has.1) in
    let it = off accepted in
    it.2 (expected (next b f.command) (n + 1) (drop (i + 1) list))
    (held version db it.0 first list table it.1 shows has ∙ sym all ∙ ap (λ l. front ++ l) (rows_on b n list i f low e))

-- where a row is left
pub left_over : (version : Version) (db : Database) (first : BookState) (list : List Filed) (front : List Row) (table : List Columns) (row : Row) (rest : List Row) → front ≡ expected first 1 list → Lists moved_listing db (front ++ (row ∷ rest))
    → Shows db.trees MovedTable table → HasMoved version table first (filed_of list) → ⊥
left_over version db first list front table row rest all lists shows has = no_more front row rest (all ∙ sym (held version db (front ++ (row ∷ rest)) first list table lists shows has))

-- where none is left
pub ends_alike : (version : Version) (db : Database) (first last : BookState) (list : List Filed) (front : List Row) (table : List Columns) → leads version first list ≡ Some last → front ≡ expected first 1 list → Lists moved_listing db front
    → Shows db.trees MovedTable table → HasMoved version table first (filed_of list)
ends_alike version db first last list front table leading all lists shows =
    (last, leading, IsPermutation-trans _ _ _ (IsPermutation-sym _ _ shows) ((lists_moved db front first (filed_of list) lists).0 all))

-- the end of the rows tells whether the table is that of the commands
pub over : {S : Type 0} (g : Ghosts S) (version : Version) (old new : Held S) (first last : BookState) (list : List Filed) (front : List Row) (table : List Columns) (is : Bool) → (state g new).now ≡ (state g old).now → leads version first list ≡ Some last → front ≡ expected first 1 list
    → Shows (state g old).now.trees MovedTable table → Ends g moved_listing is new front → IsTrue is ↔ HasMoved version table first (filed_of list)
over g version old new first last list front table true same leading all shows ends =
    (λ _. ends_alike version (state g new).now first last list front table leading all ends (subst (λ (d : Database). Shows d.trees MovedTable table) (sym same) shows), λ _. refl)
over g version old new first last list front table false same leading all shows ends = (
  λ e. absurd (true≢false (sym e)),
  λ has. absurd (left_over version (state g new).now first list front table ends.0 ends.1 all ends.2 (subst (λ (d : Database). Shows d.trees MovedTable table) (sym same) shows) has),
)

pub if_ok : {X E : Type 0} (r : Result X E) {P Q : X → Type 0} → IfOk r P → ((x : X) → P x → Q x) → IfOk r Q
if_ok (Ok x) h f = f x h
if_ok (Err e) h f = h

pub if_ok_and : {X E : Type 0} (r : Result X E) {P Q : X → Type 0} {O : Type 0} → IfOk r P → OnOk r O → ((x : X) → P x → O → Q x) → IfOk r Q
if_ok_and (Ok x) h o f = f x h o
if_ok_and (Err e) h o f = h
