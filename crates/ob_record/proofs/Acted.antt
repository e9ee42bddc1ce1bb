-- The rows of an accepted command make of the tables of a book those of the book with the command.
use Rattle.std.proofs.Common.{◌≡◌, ℕ, ◌+◌, ◌==◌, ◌<◌, ◌^◌, ◌≤ℤ◌, ◌<ℤ◌, pos, ℤ, ◌+ℤ◌, ◌-ℤ◌, ◌*◌, ◌≤◌, None, List, [], ◌∷◌, ◌++◌, length, refl, sym, ap, ap₂, subst, ◌∙◌, arith, false}
use Rattle.std.specs.List.{AllByRecursion}
use Rattle.std.specs.List.Sorted.{IsPermutation}
use Rattle.std.specs.Int.RustNames.{unsigned_abs}
use Rattle.std.proofs.lemmas.Int.{ints}
use Rattle.std.proofs.lemmas.List.{append-nil, append_assoc}
use Rattle.std.proofs.lemmas.List.Elements.{recursion_from_All, All-from_recursion}
use Rattle.std.proofs.lemmas.List.Sorted.{IsPermutation-refl}
use Rattle.sqlite_trees.proofs.ListLemmas.{all_weaker}
use Rattle.ob_time.specs.Calendar.{day_count}
use Rattle.ob_post.specs.Keys.{dim_number, IsKey}
use Rattle.ob_post.specs.MoveLaws.{AreSmall, MovesAreInOrder, MovesAreOfChange, MovesHaveKeys, change_from}
use Rattle.ob_post.specs.Moved.{AreInOrder, HaveNoZero}
use Rattle.ob_post.specs.Postings.{PostedAmounts}
use Rattle.ob_post.specs.declared.Dim.{Dim}
use Rattle.ob_post.specs.declared.Moved.{Moved}
use Rattle.ob_command.specs.Commands.{body_text}
use Rattle.ob_state.specs.State.{BookState, empty_book}
use Rattle.ob_state.specs.Next.{next}
use Rattle.ob_state.specs.Amounts.{amount, moves}
use Rattle.ob_state.specs.declared.resolved.Resolved.{Resolved}
use Rattle.ob_state.specs.declared.resolved.Resolved.TheVariants as resolved
use Rattle.ob_book.specs.Acts.{ActState, PeriodStays, Referenced, StateIsOfCommands, number_of, take_on}
use Rattle.ob_book.specs.Books.{ArePosted}
use Rattle.ob_sql_rows.specs.Rows.{Columns, Tables, command_row, moved_row, tree_of}
use Rattle.ob_sql_rows.specs.Rules.{IsShort, LacksName, LetsCommand}
use Rattle.ob_sql_rows.specs.declared.table.Table.{Table}
use Rattle.ob_sql_rows.specs.declared.table.Table.TheVariants as tables
use Rattle.ob_sql_write.specs.declared.act.Act.{Act}
use Rattle.ob_sql_write.specs.Acts.{CanWrite, LetsAct, NeedsRows, with_act, with_command}
use Rattle.ob_sql_write.specs.Amounts.{all_keys, amount_rows}
use Rattle.ob_sql_write.specs.Changing.{rows_by}
use Rattle.ob_sql_write.specs.Moves.{CanMove, LetsMoves, moved_to, with_move, with_moves}
use Rattle.ob_record.specs.Tables.{moved_rows, numbered, row_of_command, rows_of_moves, tables_of}
use Rattle.ob_record.specs.Reached.{IsReached}
use Rattle.ob_record.specs.Leading.{HaveParts, LeadsParts, Records}
use Rattle.ob_record.specs.Naming.{IsReferenced}
use Rattle.ob_record.proofs.Fresh.{amounts_count, few_moved, few_moves_of, moves_are_free, no_zero, number_is_free, reference_is_free}
use Rattle.ob_record.proofs.Named.{reached_are_few}
use Rattle.ob_record.proofs.Short.{short_body, short_reference}
use Rattle.ob_record.proofs.Starting.{reached_book, reached_count, state_after}
use Rattle.ob_record.proofs.Posted.{IsOnce, all_from_both, ends_new, keys_are, moved_or_same, moves_are, once, put_all, rows_after, rows_there, same_rows}

-- ---- which tables stay

-- what a command comes to leaves the rows of the commands, of what they moved and of the amounts
record Leaves (r : Resolved) (t : Tables) : Type 0 where
  commands : rows_by r t tables.Command ≡ t tables.Command
  moved : rows_by r t tables.Moved ≡ t tables.Moved
  amounts : rows_by r t tables.Posting ≡ t tables.Posting

leaves : (r : Resolved) (t : Tables) → Leaves r t
leaves (resolved.Cause code name) t = record { commands = refl; moved = refl; amounts = refl }
leaves (resolved.Node number node) t = record { commands = refl; moved = refl; amounts = refl }
leaves (resolved.Device number device) t = record { commands = refl; moved = refl; amounts = refl }
leaves (resolved.Life device was new) t = record { commands = refl; moved = refl; amounts = refl }
leaves (resolved.Customer c) t = record { commands = refl; moved = refl; amounts = refl }
leaves (resolved.Service was new) t = record { commands = refl; moved = refl; amounts = refl }
leaves (resolved.Entered e) t = record { commands = refl; moved = refl; amounts = refl }
leaves (resolved.Corrected was new) t = record { commands = refl; moved = refl; amounts = refl }
leaves (resolved.Withdrawn was new) t = record { commands = refl; moved = refl; amounts = refl }
leaves (resolved.Marked day engineer) t = record { commands = refl; moved = refl; amounts = refl }
leaves (resolved.Unmarked day) t = record { commands = refl; moved = refl; amounts = refl }

-- moves leave each other table
beside : (table : Table) → (12 == tree_of table) ≡ false → (14 == tree_of table) ≡ false
    → (id : ℕ) (p : PostedAmounts) (ms : List Moved) (t : Tables) → with_moves id p ms t table ≡ t table
beside table no_move no_amount id p [] t = refl
beside table no_move no_amount id p (m ∷ ms) t =
    let one : with_move id p m t table ≡ t table = rw (no_amount, no_move) in
    beside table no_move no_amount id p ms (with_move id p m t) ∙ one

-- ---- the rows of the commands, and of what they moved

-- one element more has one row more
numbered_more : {X : Type 0} (row : ℕ → X → Columns) (n : ℕ) (xs : List X) (x : X)
    → numbered row n (xs ++ x ∷ []) ≡ numbered row n xs ++ row (n + length xs) x ∷ []
numbered_more row n [] x = let e : n ≡ n + 0 = omega arith in ap (λ k. row k x ∷ []) e
numbered_more row n (y ∷ xs) x =
    let e : n + 1 + length xs ≡ n + length (y ∷ xs) = omega arith in
    ap (λ l. row n y ∷ l) (numbered_more row (n + 1) xs x ∙ ap (λ k. numbered row (n + 1) xs ++ row k x ∷ []) e)

more_moved : (id : ℕ) (p : PostedAmounts) (ms : List Moved) (t : Tables)
    → with_moves id p ms t tables.Moved ≡ t tables.Moved ++ rows_of_moves id ms
more_moved id p [] t = sym (append-nil (t tables.Moved))
more_moved id p (m ∷ ms) t =
    more_moved id p ms (with_move id p m t)
    ∙ append_assoc (t tables.Moved) (moved_row id (dim_number m.dim) m.key m.delta ∷ []) (rows_of_moves id ms)

-- one command more has the rows of what it moves
moved_more : (b : BookState) (n : ℕ) (cs : List Referenced) (a : Referenced)
    → moved_rows b n (cs ++ a ∷ [])
    ≡ moved_rows b n cs ++ rows_of_moves (n + length cs) (moves (state_after b cs) (next (state_after b cs) a.command))
moved_more b n [] a =
    let e : n ≡ n + 0 = omega arith in
    append-nil (rows_of_moves n (moves b (next b a.command))) ∙ ap (λ k. rows_of_moves k (moves b (next b a.command))) e
moved_more b n (c ∷ cs) a =
    let b' = next b c.command in
    let last = moves (state_after b' cs) (next (state_after b' cs) a.command) in
    let e : n + 1 + length cs ≡ n + length (c ∷ cs) = omega arith in
    ap (λ l. rows_of_moves n (moves b b') ++ l) (moved_more b' (n + 1) cs a ∙ ap (λ k. moved_rows b' (n + 1) cs ++ rows_of_moves k last) e)
    ∙ sym (append_assoc (rows_of_moves n (moves b b')) (moved_rows b' (n + 1) cs) (rows_of_moves (n + length (c ∷ cs)) last))

-- ---- the parts of a book

-- its tables have the rows of its parts
own_parts : (b : ActState) → HaveParts b.book (tables_of b)
own_parts b = record {
  meta = IsPermutation-refl (tables_of b tables.Meta);
  causes = IsPermutation-refl (tables_of b tables.Cause);
  nodes = IsPermutation-refl (tables_of b tables.Node);
  devices = IsPermutation-refl (tables_of b tables.Device);
  lives = IsPermutation-refl (tables_of b tables.Life);
  customers = IsPermutation-refl (tables_of b tables.Customer);
  entries = IsPermutation-refl (tables_of b tables.Entry);
  marks = IsPermutation-refl (tables_of b tables.Mark);
}

-- ---- what the moves of a command write

difference : (a b : ℕ) → pos a +ℤ (pos b -ℤ pos a) ≡ pos b
difference a b = omega (arith, ints)

-- these are the rows of a command that a state accepts, beside amounts that are posted
pub record AreRowsOf (s : BookState) (a : Referenced) (p : PostedAmounts) (act : Act) : Type 0 where
  pub id : act.no ≡ s.accepted + 1
  pub reference : act.reference.now ≡ a.reference
  pub body : act.body.now ≡ body_text a.command
  pub leads : LeadsParts s (next s a.command) act.resolved.now
  pub moves : act.moves.now ≡ moves s (next s a.command)
  pub posted : ArePosted s p
  pub small : AreSmall (amount s)
  pub still_small : AreSmall (amount (next s a.command))

module _ (keyed : MovesHaveKeys) (s : BookState) (a : Referenced) (p : PostedAmounts) (act : Act) (rows : AreRowsOf s a p act) where
  abbrev days : ℕ
  days = day_count s.period

  abbrev new : Dim → ℕ → ℕ
  new = amount (next s a.command)

  abbrev ms : List Moved
  ms = act.moves.now

  have_keys : AllByRecursion (λ (m : Moved). IsKey days m.dim m.key) ms
  have_keys =
      subst (AllByRecursion (λ (m : Moved). IsKey days m.dim m.key)) (sym rows.moves)
      (recursion_from_All (λ (m : Moved). IsKey days m.dim m.key) (moves s (next s a.command)) (keyed (change_from (amount s) new) days))

  have_changes : AllByRecursion (λ (m : Moved). m.delta ≡ change_from (amount s) new m.dim m.key) ms
  have_changes =
      subst (AllByRecursion (λ (m : Moved). m.delta ≡ change_from (amount s) new m.dim m.key)) (sym rows.moves)
      (moves_are (change_from (amount s) new) days)

  -- a move leads from the posted amount to the new one
  moved_is : (m : Moved) → IsKey days m.dim m.key → m.delta ≡ change_from (amount s) new m.dim m.key
      → moved_to p m ≡ pos (new m.dim m.key)
  moved_is m key delta =
      ap₂ (λ x (y : ℤ). pos x +ℤ y) (rows.posted.amounts m.dim m.key key) delta ∙ difference (amount s m.dim m.key) (new m.dim m.key)

  can : (m : Moved) → IsKey days m.dim m.key → m.delta ≡ change_from (amount s) new m.dim m.key → CanMove p m
  can m key delta =
      let to = moved_is m key delta in
      record {
        key = subst (λ n. IsKey n m.dim m.key) (sym rows.posted.days) key;
        old = subst (λ n. n < 2 ^ 63) (sym (rows.posted.amounts m.dim m.key key)) (rows.small m.dim m.key);
        floor = subst (λ z. pos 0 ≤ℤ z) (sym to) (omega (arith, ints));
        ceiling = subst (λ z. z <ℤ pos (2 ^ 63)) (sym to) (omega (arith, ints, rows.still_small m.dim m.key));
      }

  pub can_write : CanWrite p act
  can_write = record {
    change = rows.leads.small;
    moves = All-from_recursion (CanMove p) ms (all_from_both _ _ (CanMove p) can ms have_keys have_changes);
  }

  moves_lead : AllByRecursion (λ (m : Moved). unsigned_abs (moved_to p m) ≡ new m.dim m.key) ms
  moves_lead =
      all_from_both _ _ (λ (m : Moved). unsigned_abs (moved_to p m) ≡ new m.dim m.key) (λ m key delta. ap unsigned_abs (moved_is m key delta)) ms
      have_keys have_changes

  -- the key of each move stands once among all keys
  stand_once : AllByRecursion (IsOnce act.no p (all_keys days)) ms
  stand_once = all_weaker (λ (m : Moved). IsKey days m.dim m.key) (IsOnce act.no p (all_keys days)) (λ m key. once days m.dim m.key key) ms have_keys

  -- from the rows of the amounts before them, the moves make those of the amounts after them
  moves_write : MovesAreOfChange → (t : Tables) → t tables.Posting ≡ amount_rows days (amount s)
      → with_moves act.no p ms t tables.Posting ≡ amount_rows days new
  moves_write of_change t are =
      let put = put_all act.no p (all_keys days) (amount s) ms in
      rows_after act.no p (all_keys days) ms (amount s) t are
      ∙ same_rows put new (all_keys days)
      (all_weaker (λ (k : Dim × ℕ). IsKey days k.0 k.1) (λ (k : Dim × ℕ). put k.0 k.1 ≡ new k.0 k.1)
      (λ k h. ends_new act.no p (all_keys days) new k.0 k.1 ms (amount s) moves_lead (moved_or_same of_change (amount s) new days k.0 k.1 h ms rows.moves))
      (all_keys days) (keys_are days))

-- ---- one command more

same_is : {X : Type 0} (xs ys : List X) → xs ≡ ys → IsPermutation xs ys
same_is xs ys e = subst (IsPermutation xs) e (IsPermutation-refl xs)

module _ (keyed : MovesHaveKeys) (of_change : MovesAreOfChange) (order : MovesAreInOrder) (stays : PeriodStays) (law : StateIsOfCommands)
    (b : ActState) (a : Referenced) (p : PostedAmounts) (act : Act) (reached : IsReached b) (rows : AreRowsOf b.book a p act) where
  abbrev before : Tables
  before = tables_of b

  abbrev after : Tables
  after = with_act p act before

  -- the first rows of the commands and of what they moved
  abbrev commands : List Columns
  commands = before tables.Command

  abbrev moved : List Columns
  moved = before tables.Moved

  number_is : act.no ≡ 1 + length b.accepted
  number_is = omega (arith, rows.id, reached_count law b reached)

  -- the amounts as they stand when the moves begin
  amounts_are : with_command act before tables.Posting ≡ amount_rows (day_count b.book.period) (amount b.book)
  amounts_are = (leaves act.resolved.now before).amounts

  needs_rows : NeedsRows p act before
  needs_rows = record {
    change = rows.leads.needs before (own_parts b);
    amounts =
        rows_there act.no p (all_keys (day_count b.book.period)) act.moves.now (amount b.book) (with_command act before)
        (stand_once keyed b.book a p act rows) amounts_are;
  }

  -- ---- the rules let the rows in
  days_few : day_count b.book.period ≤ 366
  days_few = let days = reached.period.period.days_in in omega (arith, days)

  lets_command : number_of b a.reference ≡ None → IsReferenced a → LetsCommand act.no act.reference.now act.body.now before
  lets_command fresh named = (
    number_is_free act.no b.accepted number_is,
    subst (λ r. LacksName tables.Command r before) (sym rows.reference) (reference_is_free b a.reference fresh),
    subst IsShort (sym rows.reference) (short_reference a.reference named.0),
    subst IsShort (sym rows.body) (short_body a.command named.1),
  )

  lets_moves : LetsMoves act.no act.moves.now before
  lets_moves =
      let change = change_from (amount b.book) (amount (next b.book a.command)) in
      let days = day_count b.book.period in
      let past : 1 + length b.accepted ≤ act.no = omega (arith, number_is) in
      let own : length (moves b.book (next b.book a.command)) ≤ 685 = few_moves_of b.book (next b.book a.command) days_few in
      let same : length act.moves.now ≡ length (moves b.book (next b.book a.command)) = ap length rows.moves in
      let others : length moved ≤ 685 * length b.accepted = few_moved stays (empty_book b.book.period) 1 b.accepted days_few in
      let few : length b.accepted ≤ 1_000_000 = reached_are_few law b reached in
      let standing : length (before tables.Posting) ≡ 319 + days = amounts_count days (amount b.book) in
      record {
        fresh = moves_are_free act.no 1 (empty_book b.book.period) b.accepted past;
        in_order = subst AreInOrder (sym rows.moves) (order change days);
        moving = subst HaveNoZero (sym rows.moves) (no_zero change days);
        room = omega (arith, own, same, others, few);
        amounts = omega (arith, standing, days_few);
      }

  lets_act : number_of b a.reference ≡ None → IsReferenced a → LetsAct act before
  lets_act fresh named = record { change = rows.leads.lets before (own_parts b); command = lets_command fresh named; moves = lets_moves }

  commands_after : after tables.Command ≡ tables_of (take_on b a) tables.Command
  commands_after =
      beside tables.Command refl refl act.no p act.moves.now (with_command act before)
      ∙ ap (λ l. l ++ command_row act.no act.reference.now act.body.now ∷ []) (leaves act.resolved.now before).commands
      ∙ ap (λ n. commands ++ command_row n act.reference.now act.body.now ∷ []) number_is
      ∙ ap₂ (λ r t. commands ++ command_row (1 + length b.accepted) r t ∷ []) rows.reference rows.body
      ∙ sym (numbered_more row_of_command 1 b.accepted a)

  moved_after : after tables.Moved ≡ tables_of (take_on b a) tables.Moved
  moved_after =
      more_moved act.no p act.moves.now (with_command act before)
      ∙ ap (λ l. l ++ rows_of_moves act.no act.moves.now) (leaves act.resolved.now before).moved
      ∙ ap₂ (λ n l. moved ++ rows_of_moves n l) number_is rows.moves
      ∙ ap (λ s. moved ++ rows_of_moves (1 + length b.accepted) (moves s (next s a.command))) (reached_book law b reached)
      ∙ sym (moved_more (empty_book b.book.period) 1 b.accepted a)
      ∙ ap (λ c. moved_rows (empty_book c) 1 (b.accepted ++ a ∷ [])) (sym (stays b.book a.command))

  amounts_after : after tables.Posting ≡ tables_of (take_on b a) tables.Posting
  amounts_after =
      moves_write keyed b.book a p act rows of_change (with_command act before) amounts_are
      ∙ ap (λ c. amount_rows (day_count c) (amount (next b.book a.command))) (sym (stays b.book a.command))

  parts : HaveParts (next b.book a.command) (rows_by act.resolved.now before)
  parts = rows.leads.parts before (own_parts b)

  -- a table of the book's parts
  part : (table : Table) → (12 == tree_of table) ≡ false → (14 == tree_of table) ≡ false
      → with_command act before table ≡ rows_by act.resolved.now before table
      → IsPermutation (rows_by act.resolved.now before table) (tables_of (take_on b a) table)
      → IsPermutation (after table) (tables_of (take_on b a) table)
  part table no_move no_amount no_command h =
      let same = beside table no_move no_amount act.no p act.moves.now (with_command act before) ∙ no_command in
      subst (λ l. IsPermutation l (tables_of (take_on b a) table)) (sym same) h

  leads_on : (table : Table) → IsPermutation (after table) (tables_of (take_on b a) table)
  leads_on tables.Meta = part tables.Meta refl refl refl parts.meta
  leads_on tables.Cause = part tables.Cause refl refl refl parts.causes
  leads_on tables.Node = part tables.Node refl refl refl parts.nodes
  leads_on tables.Device = part tables.Device refl refl refl parts.devices
  leads_on tables.Life = part tables.Life refl refl refl parts.lives
  leads_on tables.Customer = part tables.Customer refl refl refl parts.customers
  leads_on tables.Entry = part tables.Entry refl refl refl parts.entries
  leads_on tables.Mark = part tables.Mark refl refl refl parts.marks
  leads_on tables.Command = same_is (after tables.Command) (tables_of (take_on b a) tables.Command) commands_after
  leads_on tables.Moved = same_is (after tables.Moved) (tables_of (take_on b a) tables.Moved) moved_after
  leads_on tables.Posting = same_is (after tables.Posting) (tables_of (take_on b a) tables.Posting) amounts_after

  pub records : Records b a p act
  records = record { can = can_write keyed b.book a p act rows; needs = needs_rows; lets = lets_act; tables = leads_on }
