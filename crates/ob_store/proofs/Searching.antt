-- How often the calls of a keeper search.
use Rattle.std.proofs.Common.{◌≡◌, ◌∙◌, ℕ, ◌+◌, ◌≤◌, List, [], ◌∷◌, ◌++◌, None, Some, Option, Ok, Err, refl, sym, subst, ap, ap₂, arith}
use Rattle.std.proofs.lemmas.List.Sums.{fold-append}
use Rattle.std.specs.Prelude.{IfSome}
use Rattle.sqlite.specs.Held.{Held, state}
use Rattle.sqlite.specs.State.{HasCleanDisk}
use Rattle.sqlite.specs.Tree.{Trees}
use Rattle.sqlite_trees.specs.declared.store.Store.{Ghosts}
use Rattle.ob_time.specs.Calendar.{Calendar}
use Rattle.ob_base.specs.declared.stop.Refusal.{Refusal}
use Rattle.ob_command.specs.declared.command.Command.{Command}
use Rattle.std.specs.Option.{option_map, option_map_or}
use Rattle.ob_state.specs.State.{BookState, empty_book}
use Rattle.ob_state.specs.States.{BookValue}
use Rattle.ob_state.specs.Refusals.{refusal}
use Rattle.ob_state.specs.Searches.{all_searches, most_searches}
use Rattle.ob_book.specs.Acts.{ActState, Referenced, act, acts, number_of, start}
use Rattle.ob_book.specs.Searches.{Bound, SearchesAddUp, SearchesOfBoth, searches_of_act, searches_of_acts, searches_of_replay}
use Rattle.ob_record.specs.Reached.{ReachedAreFew}
use Rattle.ob_sql_rows.specs.declared.version.Version.TheVariants.{Two}
use Rattle.ob_sql_read.specs.declared.filed.Filed.{Filed}
use Rattle.ob_sql_read.specs.Listing.{filed_of}
use Rattle.ob_sql_read.specs.Moves.{commands_of}
use Rattle.ob_store.specs.declared.named.Named.{Named}
use Rattle.ob_store.specs.Finding.{IsNamed}
use Rattle.ob_store.specs.Calls.{StillStores, WasClean}
use Rattle.ob_store.specs.Keepers.{OnlySearches, Ties}
use Rattle.ob_store.specs.Keeping.{KeepsBook, KeepsOn}
use Rattle.ob_store.specs.Laws.{Laws}
use Rattle.ob_store.specs.Leading.{IsNewBook}
use Rattle.ob_store.specs.Loading.{trees_in}
use Rattle.ob_store.specs.Searching.{IsSearchedBy, IsSearchedFor, LoadsAsReplayed, ReplayGrows}
use Rattle.ob_store.specs.declared.keeper.Keeper.{Keeper}
use Rattle.ob_store.proofs.Crashing.{book_left}
use Rattle.ob_store.proofs.Leading.{commands_are, from_is}

-- ---- a load
-- a new book, and what its commands cost
pub searched_by : (bound : Bound) (it : Named) (first : BookState) → IsNewBook it.heading first → (list : List Filed) → list ≡ it.commands.items → (n m : ℕ) → m ≤ 1
    → n ≤ m + all_searches bound first (commands_of (filed_of list)) → IsSearchedBy bound it n
searched_by bound it first new list is n m one more =
    (first, new, (let same = ap (λ l. all_searches bound first (commands_of (filed_of l))) is in omega (arith, one, more, same)))

-- the commands that were read are those of the tables' book
pub searched_for : (bound : Bound) (laws : Laws Two) (trees : Trees) (it : Named) → IsNamed Two trees it → (n : ℕ) → IsSearchedBy bound it n → IsSearchedFor bound trees n
searched_for bound laws trees it named n by b of =
    let first_is : by.0 ≡ empty_book b.book.period = from_is Two laws trees it named b of by.0 by.1 in
    let same : all_searches bound by.0 (commands_of (filed_of it.commands.items)) ≡ all_searches bound (empty_book b.book.period) (commands_of b.accepted) =
    ap₂ (λ x l. all_searches bound x (commands_of l)) first_is (sym (commands_are Two laws trees it named b of)) in
    omega (arith, by.2, same)

-- ---- a command under a new reference
module _ (bound : Bound) (b : ActState) (a : Referenced) (fresh : number_of b a.reference ≡ None) (s : BookState) (same : s ≡ b.book) (old new : ℕ) (most : new ≤ old + most_searches bound s a.command) where
  -- that is accepted
  pub accepted_searched : refusal b.book a.command ≡ None → new ≤ old + searches_of_act bound b a
  accepted_searched free =
      let is : searches_of_act bound b a ≡ most_searches bound b.book a.command = rw (fresh, free) in
      let here = ap (λ x. most_searches bound x a.command) same in
      omega (arith, most, is, here)

  decided_by : (r : Option Refusal) → refusal b.book a.command ≡ r → ((x : Refusal) → refusal s a.command ≡ Some x → new ≡ old) → new ≤ old + searches_of_act bound b a
  decided_by None free still = accepted_searched free
  decided_by (Some x) is still = omega (arith, still x (ap (λ y. refusal y a.command) same ∙ is))

  -- or refused, and then nothing was searched
  pub decided_searched : ((x : Refusal) → refusal s a.command ≡ Some x → new ≡ old) → new ≤ old + searches_of_act bound b a
  decided_searched still = decided_by (refusal b.book a.command) refl still

-- ---- the book of a keeper
module _ (book : Option BookValue) (it : BookValue) (some : book ≡ Some it) where
  -- its searches are the keeper's
  pub searches_of_some : (n : ℕ) → option_map_or (λ (b : BookValue). b.searches) book 0 ≡ n → n ≡ it.searches
  searches_of_some n is = sym is ∙ ap (λ o. option_map_or (λ (b : BookValue). b.searches) o 0) some

  -- and its state
  pub state_of_some : (o : Option BookState) (s : BookState) → option_map (λ (b : BookValue). b.state) book ≡ o → o ≡ Some s → it.state ≡ s
  state_of_some o s book_is is = let e : Some it.state ≡ Some s = sym (ap (option_map (λ (b : BookValue). b.state)) some) ∙ book_is ∙ is in cc

-- what was searched for a command over a book of this state
pub searched_over : (bound : Bound) (x s : BookState) (command : Command) (old n m : ℕ) → x ≡ s → old ≡ n → m ≤ n + most_searches bound x command → m ≤ old + most_searches bound s command
searched_over bound x s command old n m same is most = let here = ap (λ y. most_searches bound y command) same in omega (arith, is, most, here)

-- where only the network was searched, a keeper is tied to what it was tied to
pub still_tied : {S T : Type 0} {g : Ghosts S} (old new : Keeper S T g) → OnlySearches old new → (b : ActState) → Ties old b → Ties new b
still_tied {S} {T} {g} old new same b ties = record {
  kept = subst (λ (h : Held S). KeepsBook (state g h) b) (sym same.0) ties.kept;
  book = subst (λ (o : Option BookState). IfSome o (λ s. s ≡ b.book)) (sym same.1) ties.book;
}

-- its store keeps on what it kept
pub still_stores : {S T : Type 0} {g : Ghosts S} (old new : Keeper S T g) → OnlySearches old new → StillStores old new
still_stores {S} {T} {g} old new same =
    subst (λ (h : Held S). KeepsOn (state g old.parts.conn) (state g h)) (sym same.0) (record {
      book = λ b keeps. keeps;
      either = λ b c keeps. keeps;
      old_book = λ b keeps. keeps;
      version = λ b keeps. keeps;
    })

-- and its disk is as clean
pub clean_before : {S T : Type 0} {g : Ghosts S} (old new : Keeper S T g) → OnlySearches old new → WasClean old new
clean_before {S} {T} {g} old new same clean = subst (λ (h : Held S). HasCleanDisk (state g h)) same.0 clean

-- ---- calls one after another
module _ (both : SearchesOfBoth) (add_up : SearchesAddUp) where
  -- a book that its commands lead to, and one command more
  grows_from : (bound : Bound) (p : Calendar) (list : List Referenced) (b : ActState) (a : Referenced) → acts (start p) list ≡ b
      → searches_of_replay bound (act b a) ≡ searches_of_replay bound b + searches_of_act bound b a
  grows_from bound p list b a led =
      let more : acts (start p) (list ++ a ∷ []) ≡ act b a = fold-append act (start p) list (a ∷ []) ∙ ap (λ x. act x a) led in
      let now = ap (searches_of_replay bound) (sym more) ∙ add_up bound p (list ++ a ∷ []) in
      let before = ap (searches_of_replay bound) (sym led) ∙ add_up bound p list in
      let parts = both bound (start p) list (a ∷ []) in
      let last = ap (λ x. searches_of_acts bound x (a ∷ [])) led in
      omega (arith, now, before, parts, last)

  pub replay_grows : ReplayGrows
  replay_grows bound b a reached = grows_from bound b.book.period b.accepted b a reached.in_turn

-- the tables of a store that keeps a book name that book
pub loads_as_replayed : {S : Type 0} (g : Ghosts S) → ReachedAreFew → LoadsAsReplayed g
loads_as_replayed g few bound old new (Ok done) loads searches clean b keeps =
    let it = keeps.kept.settled (loads.clean clean) (loads.answers.live clean tt) in
    searches clean it.schema b (book_left few (trees_in g old.conn) b keeps.reached keeps.valid it.holds.rows)
loads_as_replayed g few bound old new (Err stop) loads searches clean b keeps = tt
