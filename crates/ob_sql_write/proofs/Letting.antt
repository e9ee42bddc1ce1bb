-- What the rules let in of the steps of a change, where they let in the change.
use Rattle.std.proofs.Common.{◌≡◌, ◌≢◌, ◌∙◌, ap, refl, sym, subst, subst₂, ℕ, zero, suc, ◌+◌, ◌-◌, ◌<◌, ◌≤◌, ◌^◌, Bool, true, false, List, [], ◌∷◌, ◌++◌, length, map, take, get_or, codes, arith, inl, inr}
use Rattle.std.specs.List.{All, AllByRecursion, AllPairs, list_any, range_with_len}
use Rattle.std.specs.Prelude.{if◌then◌else◌}
use Rattle.std.proofs.lemmas.Bool.{or_from, and_left, and_right, cases_eq}
use Rattle.std.proofs.lemmas.List.{append_assoc, get_or_append_left, get_or-append-add, get_or-take, length-append, length-map, length-take-le}
use Rattle.std.proofs.lemmas.List.Elements.{All-append, All-from_get_or, All-map, All-tail}
use Rattle.std.proofs.lemmas.List.Folds.{list_any-append, list_any_none}
use Rattle.std.proofs.lemmas.List.FromFn.{get_or-map-range_with_len, get_or-range_with_len, length-map-range_with_len, length-range_with_len}
use Rattle.std.proofs.lemmas.List.Kept.{AllPairs-cons}
use Rattle.ob_base.specs.Life.{whole_life}
use Rattle.ob_post.specs.Keys.{dim_number}
use Rattle.ob_post.specs.declared.Dim.{Dim}
use Rattle.ob_post.specs.declared.Dim.TheVariants as dim
use Rattle.ob_post.proofs.Keying.{same_dim}
use Rattle.ob_state.specs.declared.resolved.Resolved.{Resolved}
use Rattle.ob_state.specs.declared.resolved.Resolved.TheVariants as resolved
use Rattle.ob_sql_rows.specs.Rows.{Columns, HasCommand, Tables, is_key, is_posting, is_reference, change_where, rebody, command_row, life_row}
use Rattle.ob_sql_rows.specs.Rules.{HasKey, HasShort, IsShort, IsShortValue, LetsBody, LetsCause, LetsCommand, LetsLife, LetsMeta, LetsNode, LetsPosting}
use Rattle.ob_sql_rows.specs.declared.table.Table.TheVariants.{Meta, Device, Life, Command, Moved as Moves, Posting}
use Rattle.ob_sql_write.specs.Acts.{with_command}
use Rattle.ob_sql_write.specs.Amounts.{all_keys, amount_row}
use Rattle.ob_sql_write.specs.Changing.{rows_by}
use Rattle.ob_sql_write.specs.Moves.{LetsMoves}
use Rattle.ob_sql_write.specs.NewBook.{LetsHeading, LetsZeros, keys_of, no_amount, with_zeros}
use Rattle.ob_sql_write.specs.Upgrade.{HasBodies, LetsBodies, LetsLivesOf, with_bodies, with_body, with_lives}
use Rattle.ob_sql_write.specs.declared.act.Act.{Act}
use Rattle.ob_sql_write.specs.declared.upgrade.NewBody.{NewBody}
use Rattle.ob_sql_write.proofs.Tests.{keyed, last_passes, none_more, not_keyed, other_number, short_column}
use Rattle.ob_sql_write.proofs.Zeros.{ranges_are_all}

-- ---- the rows of a command
-- the rows that it changes beside its own leave the commands and what they moved
commands_left : (r : Resolved) (t : Tables) → rows_by r t Command ≡ t Command
commands_left (resolved.Cause code name) t = refl
commands_left (resolved.Node number node) t = refl
commands_left (resolved.Device number d) t = refl
commands_left (resolved.Life device old new) t = refl
commands_left (resolved.Customer c) t = refl
commands_left (resolved.Service old new) t = refl
commands_left (resolved.Entered e) t = refl
commands_left (resolved.Corrected old new) t = refl
commands_left (resolved.Withdrawn old new) t = refl
commands_left (resolved.Marked day engineer) t = refl
commands_left (resolved.Unmarked day) t = refl

moves_left : (r : Resolved) (t : Tables) → rows_by r t Moves ≡ t Moves
moves_left (resolved.Cause code name) t = refl
moves_left (resolved.Node number node) t = refl
moves_left (resolved.Device number d) t = refl
moves_left (resolved.Life device old new) t = refl
moves_left (resolved.Customer c) t = refl
moves_left (resolved.Service old new) t = refl
moves_left (resolved.Entered e) t = refl
moves_left (resolved.Corrected old new) t = refl
moves_left (resolved.Withdrawn old new) t = refl
moves_left (resolved.Marked day engineer) t = refl
moves_left (resolved.Unmarked day) t = refl

amounts_left : (r : Resolved) (t : Tables) → rows_by r t Posting ≡ t Posting
amounts_left (resolved.Cause code name) t = refl
amounts_left (resolved.Node number node) t = refl
amounts_left (resolved.Device number d) t = refl
amounts_left (resolved.Life device old new) t = refl
amounts_left (resolved.Customer c) t = refl
amounts_left (resolved.Service old new) t = refl
amounts_left (resolved.Entered e) t = refl
amounts_left (resolved.Corrected old new) t = refl
amounts_left (resolved.Withdrawn old new) t = refl
amounts_left (resolved.Marked day engineer) t = refl
amounts_left (resolved.Unmarked day) t = refl

-- so the command's row is let in after it
pub lets_command : (r : Resolved) (id : ℕ) (reference body : List ℕ) (t : Tables) → LetsCommand id reference body t → LetsCommand id reference body (rows_by r t)
lets_command r id reference body t it =
    let same = commands_left r t in
    (ap (list_any (is_key id)) same ∙ it.0, ap (list_any (is_reference reference)) same ∙ it.1, it.2, it.3)

-- and then the amounts
pub lets_moves : (act : Act) (t : Tables) → LetsMoves act.no act.moves.now t → HasKey Command act.no (with_command act t) × LetsMoves act.no act.moves.now (with_command act t)
lets_moves act t it =
    let moves : with_command act t Moves ≡ t Moves = moves_left act.resolved.now t in
    let amounts : with_command act t Posting ≡ t Posting = amounts_left act.resolved.now t in (
      last_passes (is_key act.no) (rows_by act.resolved.now t Command) (command_row act.no act.reference.now act.body.now) (keyed act.no),
      record {
        fresh = ap (list_any (is_key act.no)) moves ∙ it.fresh;
        in_order = it.in_order;
        moving = it.moving;
        room = subst (λ (rows : List Columns). length rows + length act.moves.now < 2 ^ 63) (sym moves) it.room;
        amounts = subst (λ (rows : List Columns). length rows + 1 < 2 ^ 63) (sym amounts) it.amounts;
      },
    )

-- ---- the rows that a new book begins with
pub lets_meta : (first zone : List ℕ) (t : Tables) → LetsHeading first zone t → LetsMeta first zone t
lets_meta first zone t it = (ap (list_any (is_key 1)) it.meta, it.first_fits, it.zone_fits)

pub lets_unassigned : (first zone : List ℕ) (t : Tables) → LetsHeading first zone t → LetsCause 0 (codes "UNASSIGNED") t
lets_unassigned first zone t it = (ap (list_any (is_key 0)) it.causes, ap (list_any (is_reference (codes "UNASSIGNED"))) it.causes)

pub lets_grid : (first zone : List ℕ) (t : Tables) → LetsHeading first zone t → LetsNode 0 (codes "GRID") t
lets_grid first zone t it = (ap (list_any (is_key 0)) it.nodes, ap (list_any (is_reference (codes "GRID"))) it.nodes)

-- ---- amounts of 0
-- the row of a key is none of another one
not_posting : (k l : Dim × ℕ) → k ≢ l → is_posting (dim_number l.0) l.1 (amount_row no_amount k) ≡ false
not_posting k l apart = elim (cases_eq (dim_number k.0) (dim_number l.0)) [
  | inl same ↦ and_right _ _ (and_left _ _ (other_number k.1 l.1 (λ e. apart (let both : ◌≡◌ {A = Dim × ℕ} (k.0, k.1) (l.0, l.1) = rw (same_dim k.0 l.0 same, e) in both))))
  | inr differ ↦ and_left _ _ (other_number (dim_number k.0) (dim_number l.0) differ)
]

-- of keys that are let in, the first are
first_zeros : (xs ys : List (Dim × ℕ)) (t : Tables) → LetsZeros (xs ++ ys) t → LetsZeros xs t
first_zeros xs ys t it =
    let long = length-append xs ys in
    record {
      free = λ i d low. subst (λ (k : Dim × ℕ). list_any (is_posting (dim_number k.0) k.1) (t Posting) ≡ false) (get_or_append_left xs ys d i low) (it.free i d (omega (arith, long, low)));
      apart = λ i j d less low.
          subst₂ (λ (k l : Dim × ℕ). k ≢ l) (get_or_append_left xs ys d i (omega (arith, less, low))) (get_or_append_left xs ys d j low) (it.apart i j d less (omega (arith, long, low)));
      room = omega (arith, long, it.room);
    }

-- and then the others
next_zeros : (xs ys : List (Dim × ℕ)) (t : Tables) → LetsZeros (xs ++ ys) t → LetsZeros ys (with_zeros xs t)
next_zeros xs ys t it =
    let long = length-append xs ys in
    let rows = map (amount_row no_amount) xs in
    record {
      free = λ i d low.
          let l = get_or ys i d in
          let here : get_or (xs ++ ys) (length xs + i) d ≡ l = get_or-append-add xs ys i d in
          let test : Columns → Bool = is_posting (dim_number l.0) l.1 in
          let fresh : list_any test (t Posting) ≡ false =
          subst (λ (k : Dim × ℕ). list_any (is_posting (dim_number k.0) k.1) (t Posting) ≡ false) here (it.free (length xs + i) d (omega (arith, long, low))) in
          let apart : All (λ k. test (amount_row no_amount k) ≡ false) xs =
          All-from_get_or (λ k. test (amount_row no_amount k) ≡ false) xs d (λ j under.
          not_posting (get_or xs j d) l
          (subst₂ (λ (a b : Dim × ℕ). a ≢ b) (get_or_append_left xs ys d j under) here (it.apart j (length xs + i) d (omega (arith, under)) (omega (arith, long, low))))) in
          list_any-append test (t Posting) rows ∙ or_from _ _ fresh (list_any_none test rows (All-map (λ r. test r ≡ false) (amount_row no_amount) xs apart));
      apart = λ i j d less low.
          subst₂ (λ (a b : Dim × ℕ). a ≢ b) (get_or-append-add xs ys i d) (get_or-append-add xs ys j d) (it.apart (length xs + i) (length xs + j) d (omega (arith, less)) (omega (arith, long, low)));
      room = omega (arith, long, length-append (t Posting) rows, length-map xs (amount_row no_amount), it.room);
    }

-- the three dimensions, one after another
lets_three : (days : ℕ) (t : Tables) → LetsZeros (all_keys days) t → LetsZeros (keys_of dim.Cause (range_with_len 0 64) ++ (keys_of dim.Feeder (range_with_len 1 255) ++ keys_of dim.Day (range_with_len 0 days))) t
lets_three days t it = subst (λ l. LetsZeros l t) (sym (ranges_are_all days)) it

pub lets_causes : (days : ℕ) (t : Tables) → LetsZeros (all_keys days) t → LetsZeros (keys_of dim.Cause (range_with_len 0 64)) t
lets_causes days t it = first_zeros (keys_of dim.Cause (range_with_len 0 64)) (keys_of dim.Feeder (range_with_len 1 255) ++ keys_of dim.Day (range_with_len 0 days)) t (lets_three days t it)

pub lets_feeders : (days : ℕ) (t : Tables) → LetsZeros (all_keys days) t → LetsZeros (keys_of dim.Feeder (range_with_len 1 255)) (with_zeros (keys_of dim.Cause (range_with_len 0 64)) t)
lets_feeders days t it =
    let causes = keys_of dim.Cause (range_with_len 0 64) in
    let feeders = keys_of dim.Feeder (range_with_len 1 255) in
    let last = keys_of dim.Day (range_with_len 0 days) in
    first_zeros feeders last (with_zeros causes t) (next_zeros causes (feeders ++ last) t (lets_three days t it))

pub lets_days : (days : ℕ) (t : Tables) → LetsZeros (all_keys days) t → LetsZeros (keys_of dim.Day (range_with_len 0 days)) (with_zeros (keys_of dim.Cause (range_with_len 0 64) ++ keys_of dim.Feeder (range_with_len 1 255)) t)
lets_days days t it =
    let causes = keys_of dim.Cause (range_with_len 0 64) in
    let feeders = keys_of dim.Feeder (range_with_len 1 255) in
    let last = keys_of dim.Day (range_with_len 0 days) in
    next_zeros (causes ++ feeders) last t (subst (λ l. LetsZeros l t) (sym (append_assoc causes feeders last)) (lets_three days t it))

-- the next key of a range is let in once those before it are there
lets_key : (dim : Dim) (first count at : ℕ) (t : Tables) → at < count → LetsZeros (keys_of dim (range_with_len first count)) t → LetsPosting (dim_number dim) (first + at) (with_zeros (keys_of dim (range_with_len first at)) t)
lets_key dim first count at t low it =
    let pair : ℕ → Dim × ℕ = λ key. (dim, key) in
    let long : length (keys_of dim (range_with_len first count)) ≡ count = length-map-range_with_len pair first count in
    let before = keys_of dim (range_with_len first at) in
    let many : length before ≡ at = length-map-range_with_len pair first at in
    let rows = map (amount_row no_amount) before in
    let test : Columns → Bool = is_posting (dim_number dim) (first + at) in
    let here : get_or (keys_of dim (range_with_len first count)) at (dim, 0) ≡ (dim, first + at) = get_or-map-range_with_len pair first count at (first + at) (dim, 0) low refl in
    let fresh : list_any test (t Posting) ≡ false =
    subst (λ (k : Dim × ℕ). list_any (is_posting (dim_number k.0) k.1) (t Posting) ≡ false) here (it.free at (dim, 0) (omega (arith, long, low))) in
    let other : (key : ℕ) → key ≢ first + at → test (amount_row no_amount (dim, key)) ≡ false = λ key apart. and_right _ _ (and_left _ _ (other_number key (first + at) apart)) in
    let apart : All (λ key. test (amount_row no_amount (dim, key)) ≡ false) (range_with_len first at) =
    All-from_get_or (λ key. test (amount_row no_amount (dim, key)) ≡ false) (range_with_len first at) 0 (λ i under.
    let early : i < at = omega (arith, length-range_with_len first at, under) in
    other (get_or (range_with_len first at) i 0) (λ e. omega (arith, early, get_or-range_with_len first at i 0 early, e))) in
    let written : list_any test rows ≡ false =
    list_any_none test rows (All-map (λ r. test r ≡ false) (amount_row no_amount) before (All-map (λ k. test (amount_row no_amount k) ≡ false) pair (range_with_len first at) apart)) in
    (list_any-append test (t Posting) rows ∙ or_from _ _ fresh written, omega (arith, long, many, low, length-append (t Posting) rows, length-map before (amount_row no_amount), it.room))

-- the same for a key, by its number
pub lets_key_from : (dim : Dim) (first end key : ℕ) (t : Tables) → first ≤ key → key < end → LetsZeros (keys_of dim (range_with_len first (end - first))) t
    → LetsPosting (dim_number dim) key (with_zeros (keys_of dim (range_with_len first (key - first))) t)
lets_key_from dim first end key t from low it =
    let here : first + (key - first) ≡ key = omega (arith, from) in
    subst (λ (k : ℕ). LetsPosting (dim_number dim) k (with_zeros (keys_of dim (range_with_len first (key - first))) t)) here
    (lets_key dim first (end - first) (key - first) t (omega (arith, from, low)) it)

-- ---- the keys of a new book
pairs_append : {X : Type 0} (R : X → X → Type 0) (xs ys : List X) → AllPairs R xs → AllPairs R ys → All (λ x. All (R x) ys) xs → AllPairs R (xs ++ ys)
pairs_append R [] ys one two across = two
pairs_append R (x ∷ xs) ys one two across =
    AllPairs-cons R x (xs ++ ys) (All-append (R x) xs ys (λ j d low. one 0 (suc j) d (omega arith) (omega (arith, low))) (across 0 x (omega arith)))
    (pairs_append R xs ys (λ i j d less low. one (suc i) (suc j) d (omega (arith, less)) (omega (arith, low))) two (All-tail (λ z. All (R z) ys) x xs across))

abbrev AreApart : List (Dim × ℕ) → Type 0
AreApart ks = AllPairs (λ (k l : Dim × ℕ). k ≢ l) ks

-- the keys of a range rise
range_apart : (dim : Dim) (first n : ℕ) → AreApart (keys_of dim (range_with_len first n))
range_apart dim first n i j d less low same =
    let pair : ℕ → Dim × ℕ = λ key. (dim, key) in
    let long : length (keys_of dim (range_with_len first n)) ≡ n = length-map-range_with_len pair first n in
    let under : j < n = omega (arith, long, low) in
    let one : get_or (keys_of dim (range_with_len first n)) i d ≡ (dim, first + i) = get_or-map-range_with_len pair first n i (first + i) d (omega (arith, less, under)) refl in
    let two : get_or (keys_of dim (range_with_len first n)) j d ≡ (dim, first + j) = get_or-map-range_with_len pair first n j (first + j) d under refl in
    let keys : first + i ≡ first + j = ap (λ (k : Dim × ℕ). k.1) (sym one ∙ same ∙ two) in
    omega (arith, keys, less)

-- those of two dimensions differ
dims_apart : (one two : Dim) → dim_number one ≢ dim_number two → (xs ys : List ℕ) → All (λ (k : Dim × ℕ). All (λ (l : Dim × ℕ). k ≢ l) (keys_of two ys)) (keys_of one xs)
dims_apart one two differ xs ys =
    All-map (λ (k : Dim × ℕ). All (λ (l : Dim × ℕ). k ≢ l) (keys_of two ys)) (λ key. (one, key)) xs
    (λ i d low. All-map (λ (l : Dim × ℕ). (one, get_or xs i d) ≢ l) (λ key. (two, key)) ys (λ j e under same. differ (ap (λ (k : Dim × ℕ). dim_number k.0) same)))

ranges_apart : (n m k : ℕ) → AreApart (keys_of dim.Cause (range_with_len 0 n) ++ (keys_of dim.Feeder (range_with_len 1 m) ++ keys_of dim.Day (range_with_len 0 k)))
ranges_apart n m k =
    let causes = keys_of dim.Cause (range_with_len 0 n) in
    let feeders = keys_of dim.Feeder (range_with_len 1 m) in
    let days = keys_of dim.Day (range_with_len 0 k) in
    let differ : (one two : Dim) → dim_number one < dim_number two → dim_number one ≢ dim_number two = λ one two less e. omega (arith, less, e) in
    let one = dims_apart dim.Cause dim.Feeder (differ dim.Cause dim.Feeder (omega arith)) (range_with_len 0 n) (range_with_len 1 m) in
    let two = dims_apart dim.Cause dim.Day (differ dim.Cause dim.Day (omega arith)) (range_with_len 0 n) (range_with_len 0 k) in
    let three = dims_apart dim.Feeder dim.Day (differ dim.Feeder dim.Day (omega arith)) (range_with_len 1 m) (range_with_len 0 k) in
    pairs_append (λ (k l : Dim × ℕ). k ≢ l) causes (feeders ++ days) (range_apart dim.Cause 0 n)
    (pairs_append (λ (k l : Dim × ℕ). k ≢ l) feeders days (range_apart dim.Feeder 1 m) (range_apart dim.Day 0 k) three)
    (λ i d low. All-append (λ (l : Dim × ℕ). get_or causes i d ≢ l) feeders days (one i d low) (two i d low))

abbrev paired : Dim → ℕ → Dim × ℕ
paired dim key = (dim, key)

ranges_long : (n m k : ℕ) → length (keys_of dim.Cause (range_with_len 0 n) ++ (keys_of dim.Feeder (range_with_len 1 m) ++ keys_of dim.Day (range_with_len 0 k))) ≡ n + (m + k)
ranges_long n m k =
    let causes = keys_of dim.Cause (range_with_len 0 n) in
    let feeders = keys_of dim.Feeder (range_with_len 1 m) in
    let days = keys_of dim.Day (range_with_len 0 k) in
    let one : length causes ≡ n = length-map-range_with_len (paired dim.Cause) 0 n in
    let two : length feeders ≡ m = length-map-range_with_len (paired dim.Feeder) 1 m in
    let three : length days ≡ k = length-map-range_with_len (paired dim.Day) 0 k in
    omega (arith, length-append causes (feeders ++ days), length-append feeders days, one, two, three)

-- where no amount stands yet, all are let in
pub lets_amounts : (days : ℕ) (t : Tables) → days < 2 ^ 16 → t Posting ≡ [] → LetsZeros (all_keys days) t
lets_amounts days t small none = record {
  free = λ i d low. ap (list_any _) none;
  apart = subst AreApart (ranges_are_all days) (ranges_apart 64 255 days);
  room =
      let long : length (all_keys days) ≡ 64 + (255 + days) = subst (λ (l : List (Dim × ℕ)). length l ≡ 64 + (255 + days)) (ranges_are_all days) (ranges_long 64 255 days) in
      omega (arith, long, ap length none, small);
}

-- ---- an upgrade
abbrev IsShortRow : ℕ → Columns → Type 0
IsShortRow id row = is_key id row ≡ true → AllByRecursion IsShortValue row

-- with a short body a row stays short
row_short : (key id : ℕ) (body : List ℕ) (row : Columns) → IsShort body → IsShortRow id row → IsShortRow id (if is_key key row then rebody body row else row)
row_short key id body row short was = elim (is_key key row) as (λ b. IsShortRow id (if b then rebody body row else row)) [
  | true ↦ λ is. let all = was is in (short_column row 0 all, (short_column row 1 all, (short, tt)))
  | false ↦ was
]

rows_short : (key id : ℕ) (body : List ℕ) (rows : List Columns) → IsShort body → AllByRecursion (IsShortRow id) rows → AllByRecursion (IsShortRow id) (change_where (is_key key) (rebody body) rows)
rows_short key id body [] short was = tt
rows_short key id body (row ∷ rows) short was = (row_short key id body row short was.0, rows_short key id body rows short was.1)

bodies_short : (bodies : List NewBody) (id : ℕ) (t : Tables) → All (λ (b : NewBody). IsShort b.body.items) bodies → HasShort Command id t → HasShort Command id (with_bodies bodies t)
bodies_short [] id t short was = was
bodies_short (b ∷ bodies) id t short was =
    bodies_short bodies id (with_body b t) (All-tail (λ (x : NewBody). IsShort x.body.items) b bodies short) (rows_short b.no id b.body.items (t Command) (short 0 b (omega arith)) was)

-- the next body is let in once those before it are written
lets_body : (bodies : List NewBody) (at : ℕ) (b : NewBody) (t : Tables) → at < length bodies → b ≡ get_or bodies at b → LetsBodies bodies t → LetsBody b.no b.body.items (with_bodies (take at bodies) t)
lets_body bodies at b t low here lets =
    let it : IsShort b.body.items × HasShort Command b.no t = subst (λ (x : NewBody). IsShort x.body.items × HasShort Command x.no t) (sym here) (lets at b low) in
    let long : length (take at bodies) ≡ at = length-take-le at bodies (omega (arith, low)) in
    let all : All (λ (x : NewBody). IsShort x.body.items) (take at bodies) =
    All-from_get_or (λ (x : NewBody). IsShort x.body.items) (take at bodies) b (λ i under.
    let first : i < at = omega (arith, under, long) in
    subst (λ (x : NewBody). IsShort x.body.items) (sym (get_or-take at bodies i b first)) (lets i b (omega (arith, first, low))).0) in
    (bodies_short (take at bodies) b.no t all it.1, it.0)

-- a turn of the loop over the bodies
first_bodies : (bodies : List NewBody) (n : ℕ) (t : Tables) → HasBodies bodies t → HasBodies (take n bodies) t
first_bodies bodies zero t has = tt
first_bodies [] (suc n) t has = tt
first_bodies (b ∷ bodies) (suc n) t has = (has.0, first_bodies bodies n (with_body b t) has.1)

command_at : (bodies : List NewBody) (n : ℕ) (b : NewBody) (t : Tables) → n < length bodies → HasBodies bodies t → HasCommand (get_or bodies n b).no (with_bodies (take n bodies) t)
command_at [] n b t low has = absurd (omega (arith, low))
command_at (x ∷ bodies) zero b t low has = has.0
command_at (x ∷ bodies) (suc n) b t low has = command_at bodies n b (with_body x t) (omega (arith, low)) has.1

pub body_turn : (bodies : List NewBody) (at : ℕ) (b : NewBody) (t : Tables) → at < length bodies → b ≡ get_or bodies at b → HasBodies bodies t → LetsBodies bodies t
    → HasBodies (take at bodies) t × HasCommand b.no (with_bodies (take at bodies) t) × LetsBody b.no b.body.items (with_bodies (take at bodies) t)
body_turn bodies at b t low here has lets = (
  first_bodies bodies at t has,
  subst (λ (x : NewBody). HasCommand x.no (with_bodies (take at bodies) t)) (sym here) (command_at bodies at b t low has),
  lets_body bodies at b t low here lets,
)

-- lives and bodies leave the other tables
bodies_leave_lives : (bodies : List NewBody) (t : Tables) → with_bodies bodies t Life ≡ t Life
bodies_leave_lives [] t = refl
bodies_leave_lives (b ∷ bodies) t = bodies_leave_lives bodies (with_body b t)

bodies_leave_devices : (bodies : List NewBody) (t : Tables) → with_bodies bodies t Device ≡ t Device
bodies_leave_devices [] t = refl
bodies_leave_devices (b ∷ bodies) t = bodies_leave_devices bodies (with_body b t)

bodies_leave_meta : (bodies : List NewBody) (t : Tables) → with_bodies bodies t Meta ≡ t Meta
bodies_leave_meta [] t = refl
bodies_leave_meta (b ∷ bodies) t = bodies_leave_meta bodies (with_body b t)

lives_leave_devices : (n : ℕ) (t : Tables) → with_lives n t Device ≡ t Device
lives_leave_devices zero t = refl
lives_leave_devices (suc n) t = lives_leave_devices n t

lives_leave_meta : (n : ℕ) (t : Tables) → with_lives n t Meta ≡ t Meta
lives_leave_meta zero t = refl
lives_leave_meta (suc n) t = lives_leave_meta n t

-- the lives so far are of other devices
lives_lack : (n at : ℕ) (t : Tables) → n ≤ at → t Life ≡ [] → list_any (is_key at) (with_lives n t Life) ≡ false
lives_lack zero at t low none = ap (list_any (is_key at)) none
lives_lack (suc n) at t low none =
    none_more (is_key at) (with_lives n t Life) (life_row n whole_life) (lives_lack n at t (omega (arith, low)) none) (not_keyed n at (λ e. omega (arith, low, e)))

-- the next life is let in once those before it are there
pub lets_life : (devices at : ℕ) (t : Tables) → at < devices → LetsLivesOf devices t → LetsLife at (with_lives at t)
lets_life devices at t low lets = (lives_lack at at t (omega arith) lets.0, ap (list_any (is_key at)) (lives_leave_devices at t) ∙ lets.1 at low)

-- the lives are let in after the bodies
pub lets_lives : (bodies : List NewBody) (devices : ℕ) (t : Tables) → LetsLivesOf devices t → LetsLivesOf devices (with_bodies bodies t)
lets_lives bodies devices t lets = (bodies_leave_lives bodies t ∙ lets.0, λ n low. ap (list_any (is_key n)) (bodies_leave_devices bodies t) ∙ lets.1 n low)

-- and then the version
pub lets_version : (bodies : List NewBody) (devices : ℕ) (t : Tables) → HasShort Meta 1 t → HasShort Meta 1 (with_lives devices (with_bodies bodies t))
lets_version bodies devices t was =
    subst (AllByRecursion (IsShortRow 1)) (sym (lives_leave_meta devices (with_bodies bodies t) ∙ bodies_leave_meta bodies t)) was
