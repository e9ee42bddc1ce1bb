use Rattle.std.proofs.Common.{◌≡◌, refl, true≢false, sym, ap, ◌∙◌}
use Rattle.std.specs.Cmp.Lexicographic.{pointwise}
use Rattle.std.specs.Prelude.{nat_eq}
use Rattle.sqlite_schema.specs.declared.schema.Table.{Table}
use Rattle.ob_store.proofs.OldNames.{one_more, one_off, other_of, same_of}
use Rattle.ob_store.proofs.version.are_named.Goals as goal

pub names-preserved : goal.names-preserved
names-preserved c =
    let a = c.as_slice.result.now in
    let b = c.as_bytes.result.now in
    let named : a ≡ c.index-tables-at.result.name = c.as_slice.ensures ∙ ap (λ (t : Table). t.name) (sym c.index-tables-at.is) in
    one_more c.args.tables.now c.args.known.now c.names.at c.index-tables-at.result _ c.names-test.true c.if-tables-known.false c.index-tables-at.is
    (sym named ∙ same_of a b (pointwise nat_eq a b) c.ne.result refl c.ne.ensures c.if-ne.false ∙ c.as_bytes.ensures.value ∙ c.name.ensures) c.names.invariant

pub returns-then-ne : goal.returns-then-ne
returns-then-ne c =
    let a = c.as_slice.result.now in
    let b = c.as_bytes.result.now in
    let named : a ≡ c.index-tables-at.result.name = c.as_slice.ensures ∙ ap (λ (t : Table). t.name) (sym c.index-tables-at.is) in (
      λ so. absurd (true≢false (sym so)),
      λ same. absurd (one_off c.args.tables.now c.args.known.now c.names.at c.index-tables-at.result _ c.names-test.true c.if-tables-known.false c.index-tables-at.is
          (λ is. other_of a b (pointwise nat_eq a b) c.ne.result refl c.ne.ensures c.if-ne.true (named ∙ is ∙ sym (c.as_bytes.ensures.value ∙ c.name.ensures))) same),
    )
