-- The rows of what commands moved are handed out in order, and the store keeps its tables.
use Rattle.std.proofs.Common.{◌≡◌, ◌⊎◌, inl, inr, ℕ, ◌+◌, ◌-◌, List, [], ◌∷◌, ◌++◌, length, map, take, IsTrue, None, Some, Option, Result, Ok, Err, refl, sym, ap, ap₂, subst, ◌∙◌, arith}
use Rattle.std.specs.List.{AllByRecursion, flat_map, range_with_len}
use Rattle.std.proofs.lemmas.List.{append_assoc, append-nil, length-append}
use Rattle.std.proofs.lemmas.List.Sums.{fold_push}
use Rattle.sqlite_trees.specs.declared.store.Store.{Ghosts}
use Rattle.sqlite_resolve.specs.declared.compiled.Compiled.{Compiled}
use Rattle.sqlite_schema.specs.declared.command.Returning.{Returning}
use Rattle.sqlite.specs.Order.{Row}
use Rattle.sqlite.specs.Tree.{Trees}
use Rattle.sqlite.specs.Effect.{Database}
use Rattle.sqlite.specs.Clock.{timed}
use Rattle.sqlite.specs.declared.error.Error.{Error}
use Rattle.sqlite.specs.Held.{Held, state}
use Rattle.sqlite.specs.Given.{HasGiven}
use Rattle.sqlite.specs.State.{State, HasCleanDisk, IsUnchanged, IsRolledBack, Fails, IsNotRun, FailsToQuery, FailsToShow, Survives, CommitsShowing}
use Rattle.ob_post.specs.Keys.{dim_number}
use Rattle.ob_post.specs.declared.Dim.{Dim}
use Rattle.ob_post.specs.declared.Dim.TheVariants.{Cause, Feeder, Day}
use Rattle.ob_post.specs.declared.Moved.{Moved}
use Rattle.ob_state.specs.State.{BookState, empty_book}
use Rattle.ob_state.specs.Next.{next}
use Rattle.ob_state.specs.Amounts.{moves}
use Rattle.ob_book.specs.Acts.{ActState, Referenced, book_at, of_commands, reply_of, start, take_on}
use Rattle.ob_sql_rows.specs.Schema.{book_schema}
use Rattle.ob_sql_rows.specs.Rows.{Tables, Holds}
use Rattle.ob_sql_rows.specs.declared.table.Table.TheVariants as tables
use Rattle.ob_sql_write.specs.Keeps.{Keeps, IsSettled}
use Rattle.ob_sql_write.proofs.Commits.{settled_as}
use Rattle.ob_record.specs.Tables.{tables_of}
use Rattle.ob_sql_read.specs.Listing.{Lists}
use Rattle.ob_sql_read.specs.Moves.{moved_listing}
use Rattle.ob_sql_read.proofs.Listing.{begun_list, quiet, still_then}
use Rattle.ob_sql_read.proofs.Order.{numbered, rows_are}
use Rattle.ob_sql_read.proofs.Rowing.{moved_is, lists_moved}
use Rattle.ob_sql_rows.specs.declared.version.Version.TheVariants.{Two}
use Rattle.ob_sql_rows.proofs.Failing.{failed_after}
use Rattle.ob_store.specs.MovingOut.{AreFewMoves, HasHaltCause, IsMoveRow, IsSmall, Numbered, Takes, TakesAll, all_moves, moves_of, row_of_move}
use Rattle.ob_store.specs.declared.moving.Halt.{Halt}
use Rattle.ob_store.specs.declared.moving.Halt.TheVariants as halts
use Rattle.ob_store.proofs.Few.{among}

-- ---- what the store keeps
-- nothing has changed, or all was undone
abbrev pub IsSpared : State → State → Type 0
IsSpared old new = IsUnchanged old new ⊎ IsRolledBack old new

settled_after : (old new : State) (t : Tables) → IsTrue new.is_open → IsSpared old new → (IsTrue old.is_open → IsSettled old t) → IsSettled new t
settled_after old new t live (inl same) was =
    let it = was same.0.was_open in
    record {
      schema = ap (λ (d : Database). d.schema) same.0.now_is ∙ it.schema;
      committed = same.0.committed_is ∙ it.committed ∙ sym same.0.now_is;
      holds = subst (λ (d : Database). Holds d.trees t) (sym same.0.now_is) it.holds;
    }
settled_after old new t live (inr back) was = settled_as old new t (was (back.was_open live)) (back.undone live)

pub keeps_after : (old new : State) → Survives old new (λ _. ⊥) → (HasCleanDisk new → IsSpared old new) → (t : Tables) → Keeps old t → Keeps new t
keeps_after old new survives spared t keeps = record {
  settled = λ clean live.
      let first : HasCleanDisk old = omega (arith, survives.clean, clean) in
      settled_after old new t live (spared clean) (keeps.settled first);
  left = λ clean trees may.
      let first : HasCleanDisk old = omega (arith, survives.clean, clean) in
      elim (survives.crash clean trees may) [ inl before ↦ keeps.left first trees before | inr none ↦ absurd none ];
}

keeps_when : (s : State) (t : Tables) → (HasCleanDisk s → Keeps s t) → Keeps s t
keeps_when s t h = record { settled = λ clean live. (h clean).settled clean live; left = λ clean trees may. (h clean).left clean trees may }

pub spared_failing : (old new : State) (e : Error) → Fails old new ⊥ e ⊎ IsUnchanged old new → IsSpared old new
spared_failing old new e (inl fails) = inr fails.3
spared_failing old new e (inr same) = inl same

pub spared_unread : (old new : State) (sql : List ℕ) (params : Row) (e : Error) → IsNotRun old new sql params e → IsSpared old new
unfolding IsNotRun
spared_unread old new sql params e (inl h) = inl h.1
spared_unread old new sql params e (inr fails) = inr fails.3

spared_unshown : (old new : State) (sql : List ℕ) (c : Compiled) (params : Row) (e : Error) (o : Option Returning) → FailsToShow old new sql c params e o → IsSpared old new
spared_unshown old new sql c params e None h = inl h.3
spared_unshown old new sql c params e (Some what) (inl h) = inl h.1
spared_unshown old new sql c params e (Some what) (inr fails) = inr fails.3

pub spared_unasked : (old new : State) (sql : List ℕ) (params : Row) (e : Error) → FailsToQuery sql params old new e → IsSpared old new
unfolding FailsToQuery
spared_unasked old new sql params e (inl h) = spared_unread old new sql params e h
spared_unasked old new sql params e (inr h) = spared_unshown old new sql h.0 (timed params h.0.formats h.1.now) e h.0.returning h.2

module _ (old mid new : State) (text : List ℕ) (prepared : HasCleanDisk mid → (text ≡ moved_listing.text) × IsUnchanged old mid) (first : Survives old mid (λ _. ⊥)) (s : Survives mid new (CommitsShowing text [] mid)) where
  -- a query of what was moved commits nothing
  pub query_survives : Survives old new (λ _. ⊥)
  query_survives = still_then old mid new first (quiet moved_listing (moved_is Two) old mid new text prepared s)

  in_turn : (t : Tables) → Keeps old t → HasCleanDisk new → old.now.schema ≡ book_schema
  in_turn t keeps clean =
      let middle : HasCleanDisk mid = omega (arith, s.clean, clean) in
      let early : HasCleanDisk old = omega (arith, first.clean, middle) in
      (keeps.settled early (prepared middle).1.0.was_open).schema

  -- where it begins, it keeps what is kept
  pub begun_keeps : (HasCleanDisk new → old.now.schema ≡ book_schema → IsUnchanged old new) → (t : Tables) → Keeps old t → Keeps new t
  begun_keeps same t keeps = keeps_when new t (λ clean.
      let has = in_turn t keeps clean in
      keeps_after old new query_survives (λ late. inl (same late has)) t keeps)

  -- and where it doesn't
  pub query_keeps : (HasCleanDisk new → IsSpared mid new) → (t : Tables) → Keeps old t → Keeps new t
  query_keeps spared t keeps =
      keeps_after mid new (quiet moved_listing (moved_is Two) old mid new text prepared s) spared t (keeps_after old mid first (λ late. inl (prepared late).1) t keeps)

-- ---- the moves of the accepted commands are the rows of the table
module _ (b : ActState) where
  abbrev after : List Referenced → BookState
  after done = (of_commands b.book.period done).book

  take_front : (done rest : List Referenced) → take (length done) (done ++ rest) ≡ done
  take_front [] rest = refl
  take_front (a ∷ done) rest = ap (λ l. a ∷ l) (take_front done rest)

  at_front : (done rest : List Referenced) (n : ℕ) → b.accepted ≡ done ++ rest → n ≡ length done → book_at b n ≡ after done
  at_front done rest n is long = ap₂ (λ k l. after (take k l)) long is ∙ ap after (take_front done rest)

  numbered_from : (done rest : List Referenced) (n : ℕ) → b.accepted ≡ done ++ rest → n ≡ length done + 1 → numbered (after done) n rest ≡ flat_map (moves_of b) (range_with_len n (length rest))
  numbered_from done [] n is long = refl
  numbered_from done (a ∷ rest) n is long =
      let s = after done in
      let t = after (done ++ a ∷ []) in
      let more : b.accepted ≡ (done ++ a ∷ []) ++ rest = is ∙ sym (append_assoc done (a ∷ []) rest) in
      let count : length (done ++ a ∷ []) ≡ length done + 1 = length-append done (a ∷ []) in
      let step : next s a.command ≡ t = sym (ap (λ (x : ActState). x.book) (fold_push take_on (start b.book.period) done a)) in
      let before : book_at b (n - 1) ≡ s = at_front done (a ∷ rest) (n - 1) is (omega (arith, long)) in
      let here : book_at b n ≡ t = at_front (done ++ a ∷ []) rest n more (long ∙ sym count) in
      let own : moves s (next s a.command) ≡ (reply_of b n).moved = ap (moves s) step ∙ sym (ap₂ moves before here) in
      ap₂ (λ (ms : List Moved) (l : List Numbered). map (λ (m : Moved). (n, m)) ms ++ l) own
      (ap (λ (x : BookState). numbered x (n + 1) rest) step ∙ numbered_from (done ++ a ∷ []) rest (n + 1) more (omega (arith, long, count)))

  pub rows_of_all : map row_of_move (all_moves b) ≡ tables_of b tables.Moved
  rows_of_all = ap (map row_of_move) (sym (numbered_from [] b.accepted 1 refl (omega arith))) ∙ rows_are (empty_book b.book.period) 1 b.accepted

  -- any answer has them
  pub answer_is : (s : State) → Keeps s (tables_of b) → HasCleanDisk s → IsTrue s.is_open → (answer : List Row) → Lists moved_listing s.now answer → answer ≡ map row_of_move (all_moves b)
  answer_is s keeps clean live answer lists =
      (lists_moved s.now answer (empty_book b.book.period) b.accepted lists).1 ((keeps.settled clean live).holds.rows tables.Moved) ∙ sym rows_of_all

-- ---- a row tells its move
same_dim : (d e : Dim) → dim_number d ≡ dim_number e → d ≡ e
same_dim Cause Cause is = refl
same_dim Cause Feeder is = absurd (omega arith)
same_dim Cause Day is = absurd (omega arith)
same_dim Feeder Cause is = absurd (omega arith)
same_dim Feeder Feeder is = refl
same_dim Feeder Day is = absurd (omega arith)
same_dim Day Cause is = absurd (omega arith)
same_dim Day Feeder is = absurd (omega arith)
same_dim Day Day is = refl

same_move : (x y : Numbered) → row_of_move x ≡ row_of_move y → x ≡ y
same_move x y is =
    let ids : x.0 ≡ y.0 = cc in
    let dims : dim_number x.1.dim ≡ dim_number y.1.dim = cc in
    let keys : x.1.key ≡ y.1.key = cc in
    let deltas : x.1.delta ≡ y.1.delta = cc in
    let both : ◌≡◌ {A = Numbered} (x.0, record { dim = x.1.dim; key = x.1.key; delta = x.1.delta }) (y.0, record { dim = y.1.dim; key = y.1.key; delta = y.1.delta }) = rw (ids, same_dim x.1.dim y.1.dim dims, keys, deltas) in
    both

-- rows that begin those of all moves are those of the first of them
pub first_of : (xs : List Numbered) (rest : List Row) (all : List Numbered) → map row_of_move xs ++ rest ≡ map row_of_move all → (zs : List Numbered) × (all ≡ xs ++ zs) × (rest ≡ map row_of_move zs)
first_of [] rest all is = (all, refl, is)
first_of (x ∷ xs) rest [] is = absurd cc
first_of (x ∷ xs) rest (y ∷ all) is =
    let head : row_of_move x ≡ row_of_move y = cc in
    let tail : map row_of_move xs ++ rest ≡ map row_of_move all = cc in
    let more = first_of xs rest all tail in
    (more.0, ap₂ (λ a l. a ∷ l) (sym (same_move x y head)) more.1, more.2)

none_left : (zs : List Numbered) → [] ≡ map row_of_move zs → zs ≡ []
none_left [] is = refl
none_left (z ∷ zs) is = absurd cc

map_push : (xs : List Numbered) (x : Numbered) → map row_of_move (xs ++ x ∷ []) ≡ map row_of_move xs ++ row_of_move x ∷ []
map_push [] x = refl
map_push (y ∷ xs) x = ap (λ l. row_of_move y ∷ l) (map_push xs x)

-- all were handed out
pub whole : (b : ActState) (s : State) (xs : List Numbered) → Keeps s (tables_of b) → HasCleanDisk s → IsTrue s.is_open → Lists moved_listing s.now (map row_of_move xs) → all_moves b ≡ xs
whole b s xs keeps clean live lists =
    let it = first_of xs [] (all_moves b) (append-nil (map row_of_move xs) ∙ answer_is b s keeps clean live (map row_of_move xs) lists) in
    it.1 ∙ ap (λ l. xs ++ l) (none_left it.0 it.2) ∙ append-nil xs

module _ {S : Type 0} (g : Ghosts S) (b : ActState) (h : Held S) (keeps : Keeps (state g h) (tables_of b)) (clean : HasCleanDisk (state g h)) (live : IsTrue (state g h).is_open) where
  -- the first were
  pub front_of : (xs : List Numbered) → HasGiven g moved_listing.text [] h (map row_of_move xs) → (zs : List Numbered) × (all_moves b ≡ xs ++ zs)
  front_of xs given =
      let has = (keeps.settled clean live).schema in
      let all = begun_list g moved_listing (moved_is Two) h (map row_of_move xs) has live given in
      let it = first_of xs all.0 (all_moves b) (answer_is b (state g h) keeps clean live (map row_of_move xs ++ all.0) all.1) in
      (it.0, it.1)

  -- the first, and one more
  pub front_and : (xs : List Numbered) (x : Numbered) → HasGiven g moved_listing.text [] h (map row_of_move xs ++ row_of_move x ∷ []) → (zs : List Numbered) × (all_moves b ≡ xs ++ (x ∷ zs))
  front_and xs x given =
      let it = front_of (xs ++ x ∷ []) (subst (HasGiven g moved_listing.text [] h) (sym (map_push xs x)) given) in
      (it.0, it.1 ∙ append_assoc xs (x ∷ []) it.0)

-- the next row is that of an amount
pub row_of : {S : Type 0} (g : Ghosts S) (b : ActState) (h : Held S) → AreFewMoves b → Keeps (state g h) (tables_of b) → HasCleanDisk (state g h) → IsTrue (state g h).is_open → (xs : List Numbered) (row : Row)
    → HasGiven g moved_listing.text [] h (map row_of_move xs ++ row ∷ []) → IsMoveRow row
row_of g b h few keeps clean live xs row given =
    let all = begun_list g moved_listing (moved_is Two) h (map row_of_move xs ++ row ∷ []) (keeps.settled clean live).schema live given in
    let is = sym (append_assoc (map row_of_move xs) (row ∷ []) all.0) ∙ answer_is b (state g h) keeps clean live ((map row_of_move xs ++ row ∷ []) ++ all.0) all.1 in
    let it = first_of xs (row ∷ all.0) (all_moves b) is in
    go it.0 it.1 it.2
  where
    go : {tail : List Row} (zs : List Numbered) → all_moves b ≡ xs ++ zs → row ∷ tail ≡ map row_of_move zs → IsMoveRow row
    go [] parts is = absurd cc
    go (z ∷ zs) parts is =
        let first : row ≡ row_of_move z = cc in
        (z, among IsSmall xs z zs (subst (AllByRecursion IsSmall) parts few.small), first)

-- a halt of the store at a later step
pub halt_after : (old mid new : State) (P Q : Trees → Type 0) (r : Result ℕ Halt) → Survives old mid P → HasCleanDisk mid → Survives mid new Q → HasHaltCause mid new r → HasHaltCause old new r
halt_after old mid new P Q (Ok count) one clean two cause = tt
halt_after old mid new P Q (Err (halts.Sink fault)) one clean two cause = tt
halt_after old mid new P Q (Err (halts.Store stop)) one clean two cause = λ store. failed_after old mid new P Q one clean two (cause store)

pub given_more : {S : Type 0} (g : Ghosts S) (h : Held S) (xs : List Numbered) (x : Numbered) → HasGiven g moved_listing.text [] h (map row_of_move xs ++ row_of_move x ∷ []) → HasGiven g moved_listing.text [] h (map row_of_move (xs ++ x ∷ []))
given_more g h xs x given = subst (HasGiven g moved_listing.text [] h) (sym (map_push xs x)) given

-- one more was taken
pub takes_more : {V : Type 0} (takes : Takes V) (old mid new : V) (xs : List Numbered) (x : Numbered) → TakesAll takes old xs mid → takes mid x.0 x.1 (Ok tt) new → TakesAll takes old (xs ++ x ∷ []) new
takes_more takes old mid new [] x is took = (new, subst (λ v. takes v x.0 x.1 (Ok tt) new) is took, refl)
takes_more takes old mid new (y ∷ xs) x h took = (h.0, h.1, takes_more takes h.0 mid new xs x h.2 took)
