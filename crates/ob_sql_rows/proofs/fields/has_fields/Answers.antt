use Rattle.std.proofs.Common.{◌≡◌, length, map, refl, sym, ◌∙◌, arith}
use Rattle.std.proofs.lemmas.List.{ext_get_or, length-map}
use Rattle.sqlite_value.specs.declared.value.Value.TheVariants.{Null}
use Rattle.ob_sql_rows.specs.Fields.{held}
use Rattle.ob_sql_rows.proofs.fields.has_fields.Goals as goal

pub returns : goal.returns
returns c =
    let long = c.columns.invariant.0 in
    let same : length (map held c.args.fields.now) ≡ length c.args.fields.now = length-map c.args.fields.now held in (
      λ _. ext_get_or Null c.args.row.now (map held c.args.fields.now) (long ∙ sym same) (λ i low. c.columns.invariant.1 i Null (omega (arith, low, long, c.columns-test.false))),
      λ _. refl,
    )
