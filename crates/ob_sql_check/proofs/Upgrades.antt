-- The tables of a book of version 1 become today's tables of the book.
use Rattle.std.proofs.Common.{◌≡◌, ◌∙◌, List, length, refl, sym, ap, subst}
use Rattle.std.specs.List.Sorted.{IsPermutation}
use Rattle.std.proofs.lemmas.List.Sorted.{IsPermutation-refl}
use Rattle.ob_time.specs.Calendar.{day_count}
use Rattle.ob_time.specs.Dates.{day_text}
use Rattle.ob_book.specs.Acts.{ActState}
use Rattle.ob_upgrade.specs.Laws.{BodiesGrow}
use Rattle.ob_sql_rows.specs.Rows.{Columns}
use Rattle.ob_sql_rows.specs.Versions.{without_lives}
use Rattle.ob_sql_rows.specs.declared.table.Table.{Table}
use Rattle.ob_sql_rows.specs.declared.table.Table.TheVariants.{Meta, Cause, Node, Device, Life, Customer, Entry, Mark, Command, Moved, Posting}
use Rattle.ob_sql_write.specs.Upgrade.{CanUpgrade, with_upgrade}
use Rattle.ob_sql_write.specs.declared.upgrade.NewBody.{NewBody}
use Rattle.ob_record.specs.Tables.{numbered, tables_of}
use Rattle.ob_sql_check.specs.Laws.{IsAlike, OldIsReached, TablesAreAlike, Upgraded}
use Rattle.ob_sql_check.specs.OldTables.{IsOldReached, new_texts, old_tables_of, row_of_old_command, texts_of}
use Rattle.ob_sql_check.proofs.Changed.{commands_are, has_heading, heading_anew, lives_are, others_are}
use Rattle.ob_sql_check.proofs.Rowing.{HaveTexts, bodies_there, rows_anew, rows_with, texts_there}
use Rattle.ob_sql_check.proofs.Same.{keep_texts, whole_are}

same_rows : (rows others : List Columns) → rows ≡ others → IsPermutation rows others
same_rows rows others same = subst (IsPermutation rows) same (IsPermutation-refl rows)

module _ (grow : BodiesGrow) (reached : OldIsReached) (alike : TablesAreAlike) (b : ActState) (bodies : List NewBody) (h : IsOldReached b) (texts : texts_of bodies ≡ new_texts 1 b.accepted) where
  can : CanUpgrade bodies (length b.book.network.devices) (old_tables_of b)
  can = (
    bodies_there bodies (without_lives (old_tables_of b)) (subst (λ x. HaveTexts x (numbered row_of_old_command 1 b.accepted)) (sym texts) (texts_there 1 b.accepted)),
    has_heading bodies (length b.book.network.devices) (old_tables_of b) (day_text b.book.period.first_day) (day_count b.book.period) b.book.period.zone refl,
  )

  other : (table : Table) → IsAlike table → with_upgrade bodies (length b.book.network.devices) (old_tables_of b) table ≡ tables_of b table
  other table is = others_are bodies (length b.book.network.devices) (old_tables_of b) table is ∙ alike b h table is

  anew : (table : Table) → with_upgrade bodies (length b.book.network.devices) (old_tables_of b) table ≡ tables_of b table
  anew Meta = heading_anew bodies (length b.book.network.devices) (old_tables_of b) (day_text b.book.period.first_day) (day_count b.book.period) b.book.period.zone refl
  anew Command =
      commands_are bodies (length b.book.network.devices) (old_tables_of b) ∙ ap (λ x. rows_with x (numbered row_of_old_command 1 b.accepted)) texts
      ∙ rows_anew 1 b.accepted (keep_texts grow b.accepted (reached b h).1)
  anew Life = lives_are bodies (length b.book.network.devices) (old_tables_of b) ∙ sym (whole_are 0 b.book.network.devices (reached b h).2)
  anew Cause = other Cause tt
  anew Node = other Node tt
  anew Device = other Device tt
  anew Customer = other Customer tt
  anew Entry = other Entry tt
  anew Mark = other Mark tt
  anew Moved = other Moved tt
  anew Posting = other Posting tt

pub upgraded : BodiesGrow → OldIsReached → TablesAreAlike → Upgraded
upgraded grow reached alike b bodies h texts = (
  can grow reached alike b bodies h texts,
  λ table. same_rows _ _ (anew grow reached alike b bodies h texts table),
)
