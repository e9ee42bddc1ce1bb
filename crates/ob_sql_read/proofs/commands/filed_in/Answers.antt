use Rattle.std.proofs.Common.{◌≡◌, Some, refl, sym, ap, ap₂, subst, ◌∙◌}
use Rattle.std.specs.Option.{option_copied}
use Rattle.sqlite_value.specs.declared.value.Value.TheVariants.{Text}
use Rattle.ob_base.specs.Identifier.{is_identifier}
use Rattle.ob_sql_read.specs.declared.filed.Filed.{Filed}
use Rattle.sqlite.specs.Tree.{rowid}
use Rattle.ob_sql_read.specs.Listing.{referenced}
use Rattle.ob_sql_read.specs.Ordered.{row_with}
use Rattle.ob_sql_read.specs.Reading.{IsFiled}
use Rattle.ob_sql_read.proofs.Filing.{three_columns, reference_there, body_there, nothing, same_some, none_some, reads_reference, unread_reference}
use Rattle.ob_sql_read.proofs.Versions.{command_in, referenced_in, reference_in}
use Rattle.ob_sql_read.proofs.commands.filed_in.Goals as goal

pub returns-in_default-clause-filed : goal.returns-in_default-clause-filed
returns-in_default-clause-filed c f = nothing _ f _ refl
    (λ is. none_some (option_copied c.text_at.result) f.reference (ap option_copied c.in_default.is) ((c.text_at.ensures f.reference).1 (reference_there c.args.version c.args.row.now (rowid c.args.row.now) f is.1)))

pub returns-in_default-read-clause-filed : goal.returns-in_default-read-clause-filed
returns-in_default-read-clause-filed c f = nothing _ f _ refl (λ is.
    let text : c.in-Some.text.now ≡ f.reference = same_some ((c.in-Some.ensures f.reference).1 (reference_there c.args.version c.args.row.now (rowid c.args.row.now) f is.1)) in
    unread_reference c.in-Some.text.now c.read.result c.read.ensures c.in_default-read.is (ap (is_identifier 40) text ∙ reference_in c.args.version (referenced f) is.0))

pub returns-in_default-text_at-clause-filed : goal.returns-in_default-text_at-clause-filed
returns-in_default-text_at-clause-filed c f = nothing _ f _ refl
    (λ is. none_some (option_copied c.text_at-2.result) _ (ap option_copied c.in_default-text_at.is) ((c.text_at-2.ensures _).1 (body_there c.args.version c.args.row.now (rowid c.args.row.now) f is.1)))

pub returns-in_default-2-clause-filed : goal.returns-in_default-2-clause-filed
returns-in_default-2-clause-filed c f = nothing _ f _ refl (λ is.
    let text = same_some ((c.in-Some-text_at.ensures _).1 (body_there c.args.version c.args.row.now (rowid c.args.row.now) f is.1)) in
    none_some c.in_ok-command.field-0 f.command c.in_default-2.is ((c.in_ok-command.ensures.read f.command).1 (command_in c.args.version (referenced f) is.0, text)))

pub returns-clause-filed : goal.returns-clause-filed
returns-clause-filed c f =
    let version = c.args.version in
    let row = c.args.row.now in
    let read = reads_reference c.in-Some.text.now c.in-Some-read.reference c.in-Some-read.ensures in
    let body = (c.in_ok-command.ensures.read c.in-Some-2.command).0 c.in-Some-2.is in
    let second = (c.in-Some.ensures c.in-Some.text.now).0 refl in
    let third = (c.in-Some-text_at.ensures c.in-Some-text_at.body.now).0 refl in
    let made : Filed = record { reference = c.in-Some-read.reference; command = c.in-Some-2.command } in
    let there : row ≡ row_with version (rowid row) (referenced made) =
    three_columns row _ _ _ (sym c.column_count.ensures ∙ c.if-column_count-ne3.false) refl (second.1 ∙ ap Text (sym read.0)) (third.1 ∙ ap Text body.1) in (
      λ same. let is : made ≡ f = same_some same in subst (λ (x : Filed). IsFiled version x × (row ≡ row_with version (rowid row) (referenced x))) is (referenced_in version (referenced made) (ap (is_identifier 40) read.0 ∙ read.1) body.0, there),
      λ is. ap Some (let r : made.reference ≡ f.reference = read.0 ∙ same_some ((c.in-Some.ensures f.reference).1 (reference_there version row (rowid row) f is.1)) in
          let k : made.command ≡ f.command = same_some (sym c.in-Some-2.is ∙ (c.in_ok-command.ensures.read f.command).1 (command_in version (referenced f) is.0, same_some ((c.in-Some-text_at.ensures _).1 (body_there version row (rowid row) f is.1)))) in
          ap₂ (λ a b. record { reference = a; command = b }) r k),
    )
