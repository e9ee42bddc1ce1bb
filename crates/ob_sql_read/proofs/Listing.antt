-- What a listing of a table answers.
use Rattle.std.proofs.Common.{true≢false, ◌≡◌, ◌≢◌, ℕ, zero, suc, ◌+◌, ◌<◌, List, [], ◌∷◌, ◌++◌, map, filter, take, Bool, true, false, Some, None, IsTrue, refl, sym, ap, ap₂, subst, subst₂, ◌∙◌, arith, inl, length, get_or, drop}
use Rattle.std.specs.Prelude.{◌↔◌, Result, Ok, Err}
use Rattle.std.specs.List.Sorted.{IsPermutation, IsStrictlySortedBy}
use Rattle.std.proofs.lemmas.List.Sorted.{IsPermutation-map, IsPermutation-sym, IsPermutation-trans}
use Rattle.sqlite_value.specs.declared.value.Value.TheVariants.{Null}
use Rattle.sqlite_value.specs.declared.keys.Key.{Key}
use Rattle.sqlite.specs.Order.{Row, column}
use Rattle.sqlite.specs.Term.{Term, col, eval_all}
use Rattle.sqlite_sql.proofs.QueryLemmas.{output_cmp_total}
use Rattle.sqlite.specs.Program.{given_at}
use Rattle.sqlite.specs.Query.{Output, output, output_cmp}
use Rattle.sqlite.specs.Listing.{understood}
use Rattle.sqlite.specs.Effect.{Database}
use Rattle.sqlite.specs.Command.{Command as SqlCommand}
use Rattle.sqlite.specs.State.{State, HasCleanDisk, Shown, IsUnchanged, Survives, CommitsShowing}
use Rattle.sqlite.specs.Held.{Held, state}
use Rattle.sqlite.specs.Given.{HasGiven, HasBegun, GivesOn}
use Rattle.sqlite_trees.specs.declared.store.Store.{Ghosts}
use Rattle.sqlite_resolve.specs.declared.compiled.Compiled.{Compiled}
use Rattle.sqlite_resolve.specs.declared.error.CompileError.{CompileError}
use Rattle.sqlite.proofs.StateLemmas.{survives_then}
use Rattle.sqlite.proofs.Callers.{command_of}
use Rattle.sqlite.specs.Schema.{Schema}
use Rattle.ob_sql_rows.specs.Rows.{shown, places_of, tree_of}
use Rattle.ob_sql_rows.specs.declared.table.Table.{Table}
use Rattle.ob_sql_rows.specs.declared.table.Table.TheVariants.{Meta, Cause, Node, Device, Life, Customer, Entry, Mark, Command, Moved, Posting}
use Rattle.ob_sql_rows.proofs.Answers.{answered_in_order}
use Rattle.ob_record.specs.Tables.{Shows}
use Rattle.ob_sql_read.specs.Listing.{Listing, IsListingOver, Means, list_query, list_command, keyed, upward, Lists, IsOff, Goes, Ends}
use Rattle.ob_sql_read.proofs.Same.{same_when_sorted}
use Rattle.ob_sql_read.proofs.Texts.{answers, begin_answer, begins_empty, commits_none}

-- ---- what the text means
means_command : (it : Result Compiled CompileError) (command : SqlCommand) → Means it command → command_of it ≡ command
means_command (Ok c) command h = h
means_command (Err e) command h = absurd h

module _ {at : Schema} (l : Listing) (means : IsListingOver at l) where
  command_is : command_of (understood at l.text) ≡ list_command l
  command_is = means_command (understood at l.text) (list_command l) means.means

  -- the rows that are shown are an answer
  pub listed : (old new : State) (rows : List Row) → old.now.schema ≡ at → Shown l.text [] old new rows → Lists l old.now rows
  listed = answers at l.text means.plain (list_command l) command_is means.unlisted

pub still : (a : State) → Survives a a (λ _. ⊥)
still a = record { clean = omega arith; shield = λ x. x; counts = omega arith; limit = refl; closes = λ clean live. inl live; crash = λ clean db may. inl may }

pub still_then : (a b c : State) → Survives a b (λ _. ⊥) → Survives b c (λ _. ⊥) → Survives a c (λ _. ⊥)
still_then a b c one two = survives_then a b c _ _ (λ _. ⊥) (λ _ db none. none) (λ _ db none. none) one two

-- rows that were given begin an answer
pub begun_list : {at : Schema} {S : Type 0} (g : Ghosts S) (l : Listing) → IsListingOver at l → (h : Held S) (given : List Row) → (state g h).now.schema ≡ at → IsTrue (state g h).is_open → HasGiven g l.text [] h given
    → (tail : List Row) × Lists l (state g h).now (given ++ tail)
begun_list {at = at} g l means = begin_answer at l.text means.plain (list_command l) (command_is l means) means.unlisted (λ db params. tt) g

-- ---- an answer against rows that rise by their key
terms_are : (params row : Row) (places : List ℕ) → eval_all (map (col 1) places) (params ∷ row ∷ []) ≡ map (column row) places
terms_are params row [] = refl
terms_are params row (p ∷ places) = ap (λ r. column row p ∷ r) (terms_are params row places)

keys_are : (params row : Row) (n : ℕ) (places : List ℕ) → eval_all (map (λ (k : Term × Key). k.0) (map (λ place. (col 1 place, upward)) (take n places))) (params ∷ row ∷ []) ≡ take n (map (column row) places)
keys_are params row zero places = refl
keys_are params row (suc n) [] = refl
keys_are params row (suc n) (p ∷ places) = ap (λ r. column row p ∷ r) (keys_are params row n places)

output_is : (l : Listing) (params row : Row) → output (list_query l) (params ∷ row ∷ []) ≡ keyed l (shown l.table row)
output_is l params row = ap₂ (λ a b. (a, b)) (keys_are params row l.keys (places_of l.table)) (terms_are params row (places_of l.table))

plain_tree : (table : Table) → given_at [] (tree_of table) ≡ None
plain_tree Meta = refl
plain_tree Cause = refl
plain_tree Node = refl
plain_tree Device = refl
plain_tree Life = refl
plain_tree Customer = refl
plain_tree Entry = refl
plain_tree Mark = refl
plain_tree Command = refl
plain_tree Moved = refl
plain_tree Posting = refl

all_pass : (rows : List Row) → filter (λ r. true) rows ≡ rows
all_pass [] = refl
all_pass (r ∷ rows) = ap (λ l. r ∷ l) (all_pass rows)

pub shows : (l : Listing) (rows : List Row) → map (λ (o : Output). o.1) (map (keyed l) rows) ≡ rows
shows l [] = refl
shows l (x ∷ rows) = ap (λ r. x ∷ r) (shows l rows)

-- an answer is what is expected exactly where the table is, in some order
pub lists_rows : (l : Listing) (db : Database) (answer expected : List Row) → Lists l db answer → IsStrictlySortedBy (output_cmp (list_query l)) (map (keyed l) expected)
    → (answer ≡ expected) ↔ Shows db.trees l.table expected
lists_rows l db answer expected h rises =
    let q = list_query l in
    let tree = db.trees (tree_of l.table) in
    let it = answered_in_order [] q.project q.order (tree_of l.table) db.trees [] answer (plain_tree l.table) (h.answer Null) in
    let ordered = it.0 in
    let kept : map (λ r. output q ([] ∷ r ∷ [])) (filter (λ r. true) tree) ≡ map (keyed l) (map (shown l.table) tree) =
    ap (map (λ r. output q ([] ∷ r ∷ []))) (all_pass tree) ∙ outputs tree in
    let moved : IsPermutation (map (keyed l) (map (shown l.table) tree)) ordered = subst (λ k. IsPermutation k ordered) kept it.1 in (
      λ is. subst₂ IsPermutation (shows l (map (shown l.table) tree)) (sym it.3 ∙ is) (IsPermutation-map (λ (o : Output). o.1) _ ordered moved),
      λ all.
          let same : IsPermutation ordered (map (keyed l) expected) = IsPermutation-trans _ _ _ (IsPermutation-sym _ _ moved) (IsPermutation-map (keyed l) _ _ all) in
          it.3 ∙ ap (map (λ (o : Output). o.1)) (same_when_sorted (output_cmp q) (output_cmp_total q) ordered _ same it.2 rises) ∙ shows l expected,
    )
  where
    outputs : (rows : List Row) → map (λ r. output (list_query l) ([] ∷ r ∷ [])) rows ≡ map (keyed l) (map (shown l.table) rows)
    outputs [] = refl
    outputs (r ∷ rows) = ap₂ (λ a b. a ∷ b) (output_is l [] r) (outputs rows)

-- ---- lists
same_first : {X : Type 0} (given : List X) (x y : X) (xs ys : List X) → (given ++ x ∷ []) ++ xs ≡ given ++ (y ∷ ys) → x ≡ y
same_first [] x y xs ys e = cc
same_first (a ∷ given) x y xs ys e = let rest : (given ++ x ∷ []) ++ xs ≡ given ++ (y ∷ ys) = cc in same_first given x y xs ys rest

pub no_more : {X : Type 0} (given : List X) (y : X) (ys : List X) → given ≢ given ++ (y ∷ ys)
no_more [] y ys e = absurd cc
no_more (a ∷ given) y ys e = let rest : given ≡ given ++ (y ∷ ys) = cc in no_more given y ys rest

pub append_last : {X : Type 0} (xs ys zs : List X) → (xs ++ ys) ++ zs ≡ xs ++ (ys ++ zs)
append_last [] ys zs = refl
append_last (x ∷ xs) ys zs = ap (λ l. x ∷ l) (append_last xs ys zs)

-- ---- the next row
module _ {at : Schema} {S : Type 0} (g : Ghosts S) (l : Listing) (means : IsListingOver at l) (old new : Held S) (has : (state g old).now.schema ≡ at) (same : IsUnchanged (state g old) (state g new)) (given : List Row) where
  there : (state g new).now.schema ≡ at
  there = ap (λ (d : Database). d.schema) same.0.now_is ∙ has

  -- there is one
  pub goes_on : (ok : Bool) (row expected : Row) → IsTrue ok ↔ (row ≡ expected) → GivesOn g l.text [] old new given (Some row) → Goes g l ok new given (expected ∷ [])
  goes_on true row expected is more = subst (λ r. HasGiven g l.text [] new (given ++ r ∷ [])) (is.0 refl) more
  goes_on false row expected is more =
      let all = begun_list g l means new (given ++ row ∷ []) there same.0.is_open more in
      ((given ++ row ∷ []) ++ all.0, all.1, λ rest e. true≢false (sym (is.1 (same_first given row expected all.0 rest e))))

  -- those so far are the answer
  pub whole_list : GivesOn g l.text [] old new given None → Lists l (state g new).now given
  whole_list h = subst (λ (d : Database). Lists l d given) (sym same.0.now_is) (listed l means (state g old) (state g new) given has h)

  -- there is none where one is expected
  pub ends_off : (expected : Row) → GivesOn g l.text [] old new given None → Goes g l false new given (expected ∷ [])
  ends_off expected h = (given, whole_list h, λ rest e. no_more given expected rest e)

  -- there is one where none is expected
  pub one_left : (row : Row) → GivesOn g l.text [] old new given (Some row) → Ends g l false new given
  one_left row more =
      let all = begun_list g l means new (given ++ row ∷ []) there same.0.is_open more in
      (row, all.0, subst (Lists l (state g new).now) (append_last given (row ∷ []) all.0) all.1)

-- ---- a listing begins
-- and commits nothing
pub quiet : {at : Schema} (l : Listing) → IsListingOver at l → (old mid new : State) (text : List ℕ) → (HasCleanDisk mid → (text ≡ l.text) × IsUnchanged old mid) → Survives mid new (CommitsShowing text [] mid) → Survives mid new (λ _. ⊥)
quiet l means = commits_none l.text means.silent

pub begins : {at : Schema} {S : Type 0} (g : Ghosts S) (l : Listing) → IsListingOver at l → (old mid new : Held S) (text : List ℕ) → (text ≡ l.text) × IsUnchanged (state g old) (state g mid) → (state g old).now.schema ≡ at → HasBegun g text [] mid new
    → HasGiven g l.text [] new [] × IsUnchanged (state g old) (state g new)
begins {at = at} g l means = begins_empty at l.text means.plain g

-- ---- from row to row
-- where a row is off, so are the rows of which it is one
pub off_here : (l : Listing) (db : Database) (given before rest rows : List Row) (row : Row) → rows ≡ before ++ (row ∷ rest) → IsOff l db (given ++ before) (row ∷ []) → IsOff l db given rows
off_here l db given before rest rows row e off =
    (off.0, off.1, λ tail same. off.2 (rest ++ tail) (same ∙ ap (λ r. given ++ (r ++ tail)) e ∙ ap (λ r. given ++ r) (append_last before (row ∷ rest) tail) ∙ sym (append_last given before (row ∷ (rest ++ tail)))))

split_at : {X : Type 0} (rows : List X) (at : ℕ) (d : X) → at < length rows → rows ≡ take at rows ++ (get_or rows at d ∷ drop (suc at) rows)
split_at [] at d low = absurd (omega (arith, low))
split_at (r ∷ rows) zero d low = refl
split_at (r ∷ rows) (suc at) d low = ap (λ l. r ∷ l) (split_at rows at d (omega (arith, low)))

one_more : {X : Type 0} (rows : List X) (at : ℕ) (d : X) → at < length rows → take at rows ++ get_or rows at d ∷ [] ≡ take (suc at) rows
one_more [] at d low = absurd (omega (arith, low))
one_more (r ∷ rows) zero d low = refl
one_more (r ∷ rows) (suc at) d low = ap (λ l. r ∷ l) (one_more rows at d (omega (arith, low)))

pub goes_off : {S : Type 0} (g : Ghosts S) (l : Listing) (new : Held S) (given expected : List Row) (ok : Bool) → Goes g l ok new given expected → ok ≡ false → IsOff l (state g new).now given expected
goes_off g l new given expected ok goes is = subst (λ b. Goes g l b new given expected) is goes

pub goes_given : {S : Type 0} (g : Ghosts S) (l : Listing) (new : Held S) (given expected : List Row) (ok : Bool) → Goes g l ok new given expected → ok ≡ true → HasGiven g l.text [] new (given ++ expected)
goes_given g l new given expected ok goes is = subst (λ b. Goes g l b new given expected) is goes

module _ {S : Type 0} (g : Ghosts S) (l : Listing) (new : Held S) (rows : List Row) (at : ℕ) (d : Row) (given : List Row) (ok : Bool) (low : at < length rows) (goes : Goes g l ok new (given ++ take at rows) (get_or rows at d ∷ [])) where
  -- the row at this place is off
  pub row_off : ok ≡ false → IsOff l (state g new).now given rows
  row_off is = off_here l (state g new).now given (take at rows) (drop (suc at) rows) rows (get_or rows at d) (split_at rows at d low) (goes_off g l new _ _ ok goes is)

  -- the rows up to this place were given, and this one
  pub row_on : ok ≡ true → HasGiven g l.text [] new (given ++ take (at + 1) rows)
  row_on is =
      let e : suc at ≡ at + 1 = omega arith in
      subst (HasGiven g l.text [] new) (append_last given (take at rows) (get_or rows at d ∷ []) ∙ ap (λ r. given ++ r) (one_more rows at d low ∙ ap (λ n. take n rows) e)) (goes_given g l new _ _ ok goes is)
