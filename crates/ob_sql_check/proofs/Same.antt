-- A book of version 1 is one of today, and what it counted and moved is the same.
use Rattle.std.proofs.Common.{◌≡◌, ◌∙◌, ℕ, ◌+◌, Bool, true, false, List, [], ◌∷◌, ◌++◌, append-nil, length, map, Option, Some, None, is_none, if◌then◌else◌, refl, sym, ap, ap₂, arith}
use Rattle.std.specs.List.{AllByRecursion}
use Rattle.std.proofs.lemmas.Bool.{and_parts}
use Rattle.std.proofs.lemmas.List.Elements.{All-head, All-tail}
use Rattle.ob_base.specs.Life.{whole_life}
use Rattle.ob_base.specs.declared.life.Life.{Life as ALife}
use Rattle.ob_net.specs.Network.{AreWhole}
use Rattle.ob_net.specs.declared.net.Device.{Device as NetDevice}
use Rattle.ob_post.specs.declared.Moved.{Moved as MovedAmount}
use Rattle.ob_time.specs.Calendar.{day_count}
use Rattle.ob_command.specs.Commands.{body_text}
use Rattle.ob_command.specs.Devices.{plain_end}
use Rattle.ob_command.specs.declared.command.Command.{Command as AnyCommand}
use Rattle.ob_state.specs.Amounts.{moves}
use Rattle.ob_state.specs.Next.{next}
use Rattle.ob_state.specs.Refusals.{refusal}
use Rattle.ob_state.specs.State.{BookState, empty_book}
use Rattle.ob_book.specs.Acts.{Referenced}
use Rattle.ob_upgrade.specs.Laws.{AcceptedButForParts, AcceptedByBoth, BodiesGrow, ReachedByBoth, SameFigures, moved_by, old_moved_by}
use Rattle.ob_upgrade.specs.Old.{fits_old, is_device, is_old, old_accepts, old_body_text, old_next_all}
use Rattle.ob_upgrade.specs.OldFigures.{old_moves}
use Rattle.ob_sql_rows.specs.Rows.{Columns, life_row}
use Rattle.ob_sql_rows.specs.declared.table.Table.TheVariants.{Meta, Cause, Node, Device, Life, Customer, Entry, Mark, Command, Moved, Posting}
use Rattle.ob_sql_write.specs.Amounts.{amount_rows}
use Rattle.ob_record.specs.Tables.{moved_rows, numbered, row_of_life, rows_of_moves}
use Rattle.ob_sql_check.specs.Laws.{IsOldCommand, OldIsReached, TablesAreAlike}
use Rattle.ob_sql_check.specs.OldTables.{old_moved_rows}
use Rattle.ob_sql_check.proofs.Rowing.{whole_rows}

-- ---- commands that version 1 accepted are its own
goes_on : (o : Bool) (rest : Option BookState) (c : BookState) → (if o then rest else None) ≡ Some c → (o ≡ true) × (rest ≡ Some c)
goes_on true rest c e = (refl, e)
goes_on false rest c e = absurd (cc)

old_commands : AcceptedButForParts → (b c : BookState) (list : List Referenced) → old_next_all b (map (λ a. a.command) list) ≡ Some c → AllByRecursion IsOldCommand list
old_commands step b c [] e = tt
old_commands step b c (a ∷ list) e =
    let on = goes_on (old_accepts b a.command) (old_next_all (next b a.command) (map (λ a. a.command) list)) c e in
    let today = and_parts (fits_old b.entries a.command) (is_none (refusal b a.command)) (sym (step b a.command) ∙ on.0) in
    ((and_parts (is_old a.command) _ today.0).0, old_commands step (next b a.command) c list on.1)

pub old_is_reached : ReachedByBoth → AcceptedByBoth → AcceptedButForParts → OldIsReached
old_is_reached both accepted step b h =
    let led = (both b.book.period b).0 h.in_turn in
    let commands = map (λ (a : Referenced). a.command) b.accepted in
    let whole = accepted commands (empty_book b.book.period) b.book (λ k d low. absurd (omega (arith, low))) led.1 in (
      record { period = h.period; in_turn = led.0 },
      old_commands step (empty_book b.book.period) b.book b.accepted led.1,
      whole.1,
    )

-- ---- the rows of amounts and of what was moved
abbrev rows_by : ℕ → List (List MovedAmount) → List Columns
rows_by n [] = []
rows_by n (moved ∷ more) = rows_of_moves n moved ++ rows_by (n + 1) more

rows_now : (b : BookState) (n : ℕ) (list : List Referenced) → moved_rows b n list ≡ rows_by n (moved_by b (map (λ a. a.command) list))
rows_now b n [] = refl
rows_now b n (a ∷ list) = ap (λ rows. rows_of_moves n (moves b (next b a.command)) ++ rows) (rows_now (next b a.command) (n + 1) list)

rows_then : (b : BookState) (n : ℕ) (list : List Referenced) → old_moved_rows b n list ≡ rows_by n (old_moved_by b (map (λ a. a.command) list))
rows_then b n [] = refl
rows_then b n (a ∷ list) = ap (λ rows. rows_of_moves n (old_moves b (next b a.command)) ++ rows) (rows_then (next b a.command) (n + 1) list)

pub tables_are_alike : ReachedByBoth → AcceptedByBoth → AcceptedButForParts → SameFigures → TablesAreAlike
tables_are_alike both accepted step figures b h Meta alike = absurd alike
tables_are_alike both accepted step figures b h Command alike = absurd alike
tables_are_alike both accepted step figures b h Life alike = absurd alike
tables_are_alike both accepted step figures b h Cause alike = refl
tables_are_alike both accepted step figures b h Node alike = refl
tables_are_alike both accepted step figures b h Device alike = refl
tables_are_alike both accepted step figures b h Customer alike = refl
tables_are_alike both accepted step figures b h Entry alike = refl
tables_are_alike both accepted step figures b h Mark alike = refl
tables_are_alike both accepted step figures b h Moved alike =
    let first = empty_book b.book.period in
    let led = (both b.book.period b).0 h.in_turn in
    let moved = accepted (map (λ (a : Referenced). a.command) b.accepted) first b.book (λ k d low. absurd (omega (arith, low))) led.1 in
    rows_then first 1 b.accepted ∙ ap (rows_by 1) (sym moved.2) ∙ sym (rows_now first 1 b.accepted)
tables_are_alike both accepted step figures b h Posting alike =
    let lives = (old_is_reached both accepted step b h).2 in
    let same = (figures b.book lives).0 in
    sym (λ i. amount_rows (day_count b.book.period) (λ dim key. same dim key i))

-- ---- texts and lives
-- a command of version 1 that adds no device keeps its body text
keeps_text : BodiesGrow → (command : AnyCommand) → is_old command ≡ true → is_device command ≡ false → old_body_text command ≡ body_text command
keeps_text grow command old other =
    sym (grow command old ∙ ap (λ b. old_body_text command ++ (if b then plain_end else [])) other ∙ append-nil (old_body_text command))

pub keep_texts : BodiesGrow → (list : List Referenced) → AllByRecursion IsOldCommand list
    → AllByRecursion (λ (a : Referenced). is_device a.command ≡ false → old_body_text a.command ≡ body_text a.command) list
keep_texts grow [] old = tt
keep_texts grow (a ∷ list) old = (keeps_text grow a.command old.0, keep_texts grow list old.1)

-- devices that live always have the rows of whole lives
pub whole_are : (n : ℕ) (ds : List NetDevice) → AreWhole ds → numbered row_of_life n ds ≡ whole_rows n (length ds)
whole_are n [] whole = refl
whole_are n (d ∷ ds) whole =
    ap₂ (λ (l : ALife) rows. life_row n l ∷ rows) (All-head (λ (d : NetDevice). d.life ≡ whole_life) d ds whole)
    (whole_are (n + 1) ds (All-tail (λ (d : NetDevice). d.life ≡ whole_life) d ds whole))
