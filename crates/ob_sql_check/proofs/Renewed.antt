-- The ten tables of a book of version 1 are those of no other: today's body texts are told from those that commands had.
use Rattle.std.proofs.Common.{◌≡◌, ◌∙◌, ℕ, ◌+◌, List, [], ◌∷◌, ◌++◌, map, if◌then◌else◌, refl, sym, ap, ap₂, subst, subst₂}
use Rattle.std.specs.List.{AllByRecursion}
use Rattle.std.specs.List.Sorted.{IsPermutation}
use Rattle.std.proofs.lemmas.List.Sorted.{IsPermutation-map, IsPermutation-sym, IsPermutation-trans}
use Rattle.sqlite.specs.Order.{column}
use Rattle.sqlite.specs.Tree.{Trees}
use Rattle.sqlite.specs.declared.types.Value.{Value}
use Rattle.sqlite.specs.declared.types.Value.TheVariants.{Text}
use Rattle.sqlite.proofs.Callers.{one_permutation}
use Rattle.ob_time.specs.Calendar.{Calendar, day_count}
use Rattle.ob_time.specs.Dates.{day_text}
use Rattle.ob_time.specs.Period.{IsPeriodText}
use Rattle.ob_command.specs.Commands.{body_text}
use Rattle.ob_command.specs.Devices.{plain_end}
use Rattle.ob_book.specs.Acts.{ActState, Referenced, start}
use Rattle.ob_upgrade.specs.Laws.{BodiesGrow}
use Rattle.ob_upgrade.specs.Old.{old_acts, old_body_text}
use Rattle.ob_upgrade.specs.Reading.{is_of_device}
use Rattle.ob_upgrade.proofs.Bodies.{begins}
use Rattle.ob_sql_rows.specs.Rows.{Columns, command_row, meta_row}
use Rattle.ob_sql_rows.specs.declared.table.Table.TheVariants.{Meta, Command}
use Rattle.ob_record.specs.Naming.{RowsNameCommands}
use Rattle.ob_record.specs.Tables.{numbered, row_of_command}
use Rattle.ob_sql_check.specs.Laws.{HoldsOneOldBook, IsOldCommand, NamesOnePeriod, OldIsReached}
use Rattle.ob_sql_check.specs.OldTables.{HasOldBook, old_tables_of, row_of_old_command}

-- ---- today's text, of one that a command had
abbrev renewed_text : List ℕ → List ℕ
renewed_text text = text ++ (if is_of_device text then plain_end else [])

abbrev renewed_value : Value → Value
renewed_value (Text text) = Text (renewed_text text)
renewed_value other = other

abbrev renewed : Columns → Columns
renewed row = column row 0 ∷ column row 1 ∷ renewed_value (column row 2) ∷ []

rows_renewed : BodiesGrow → (n : ℕ) (list : List Referenced) → AllByRecursion IsOldCommand list → map renewed (numbered row_of_old_command n list) ≡ numbered row_of_command n list
rows_renewed grow n [] old = refl
rows_renewed grow n (a ∷ list) old =
    let text : renewed_text (old_body_text a.command) ≡ body_text a.command =
    ap (λ b. old_body_text a.command ++ (if b then plain_end else [])) (begins a.command old.0) ∙ sym (grow a.command old.0) in
    ap₂ (λ t rows. command_row n a.reference t ∷ rows) text (rows_renewed grow (n + 1) list old.1)

-- ---- two books of the same tables
module _ (grow : BodiesGrow) (reached : OldIsReached) (named : RowsNameCommands) (trees : Trees) (b c : ActState) (h : HasOldBook trees b) (k : HasOldBook trees c) (only : NamesOnePeriod c) where
  commands_same : b.accepted ≡ c.accepted
  commands_same =
      let moved = IsPermutation-trans _ _ _ (IsPermutation-sym _ _ (h.tables Command tt)) (k.tables Command tt) in
      named b.accepted c.accepted h.valid k.valid
      (subst₂ IsPermutation (rows_renewed grow 1 b.accepted (reached b h.reached).1) (rows_renewed grow 1 c.accepted (reached c k.reached).1) (IsPermutation-map renewed _ _ moved))

  headings_same : meta_row 1 (day_text c.book.period.first_day) (day_count c.book.period) c.book.period.zone ≡ meta_row 1 (day_text b.book.period.first_day) (day_count b.book.period) b.book.period.zone
  headings_same =
      let rows : old_tables_of c Meta ≡ old_tables_of b Meta = one_permutation _ _ (IsPermutation-trans _ _ _ (IsPermutation-sym _ _ (h.tables Meta tt)) (k.tables Meta tt)) in
      cc

  period_same : b.book.period ≡ c.book.period
  period_same =
      let row = headings_same in
      let f : day_text b.book.period.first_day ≡ day_text c.book.period.first_day = cc in
      let n : day_count b.book.period ≡ day_count c.book.period = cc in
      let z : b.book.period.zone ≡ c.book.period.zone = cc in
      only b.book.period (subst (λ y. IsPeriodText (day_text c.book.period.first_day) (day_count c.book.period) y b.book.period) z
      (subst (λ m. IsPeriodText (day_text c.book.period.first_day) m b.book.period.zone b.book.period) n
      (subst (λ t. IsPeriodText t (day_count b.book.period) b.book.period.zone b.book.period) f h.reached.period)))

  books_same : b ≡ c
  books_same = sym h.reached.in_turn ∙ ap₂ (λ (p : Calendar) list. old_acts (start p) list) period_same commands_same ∙ k.reached.in_turn

pub holds_one_old_book : BodiesGrow → OldIsReached → RowsNameCommands → HoldsOneOldBook
holds_one_old_book grow reached named trees b c h k only = books_same grow reached named trees b c h k only
