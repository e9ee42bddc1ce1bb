use Rattle.std.proofs.Common.{refl, sym, ap, ◌∙◌, arith}
use Rattle.std.specs.Option.{option_copied}
use Rattle.sqlite_value.specs.declared.value.Value.TheVariants.{Text}
use Rattle.sqlite.specs.Order.{column}
use Rattle.ob_sql_read.proofs.Filing.{none_some}
use Rattle.ob_sql_read.proofs.Headings.{five_columns, meta_there}
use Rattle.ob_sql_read.proofs.heading.heading_of.Goals as goal

pub returns-in_default-clause-heading : goal.returns-in_default-clause-heading
returns-in_default-clause-heading c id version first_day days zone low is =
    none_some (option_copied c.text_at.result) first_day (ap option_copied c.in_default.is) ((c.text_at.ensures first_day).1 (meta_there c.args.row.now id version first_day days zone 2 is (omega arith)))

pub returns-in_default-small_at-clause-heading : goal.returns-in_default-small_at-clause-heading
returns-in_default-small_at-clause-heading c id version first_day days zone low is =
    let there = meta_there c.args.row.now id version first_day days zone 3 is (omega arith) in
    none_some c.small_at.result days c.in_default-small_at.is ((c.small_at.ensures days).1 (low, there.0, there.1))

pub returns-in_default-text_at-clause-heading : goal.returns-in_default-text_at-clause-heading
returns-in_default-text_at-clause-heading c id version first_day days zone low is =
    none_some (option_copied c.text_at-2.result) zone (ap option_copied c.in_default-text_at.is) ((c.text_at-2.ensures zone).1 (meta_there c.args.row.now id version first_day days zone 4 is (omega arith)))

pub returns-clause-heading : goal.returns-clause-heading
returns-clause-heading c =
    let row = c.args.row.now in
    let first_day = (c.in-Some.ensures c.in-Some.first_day.now).0 refl in
    let days = (c.in-Some-small_at.ensures c.in-Some-small_at.days).0 refl in
    let zone = (c.in-Some-text_at.ensures c.in-Some-text_at.zone.now).0 refl in (
      column row 0,
      column row 1,
      five_columns row _ _ _ _ _ (sym c.column_count.ensures ∙ c.if-column_count-ne5.false) refl refl
          (first_day.1 ∙ ap Text (sym c.in_ok-first_day.ensures.items)) days.2 (zone.1 ∙ ap Text (sym c.in_ok-zone.ensures.items)),
    )
