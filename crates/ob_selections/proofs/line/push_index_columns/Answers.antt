use Rattle.std.proofs.Common.{arith}
use Rattle.ob_selections.specs.Lines.{index_columns}
use Rattle.ob_selections.proofs.Rows.{all_rows, one_row}
use Rattle.ob_selections.proofs.line.push_index_columns.Goals as goal

pub loop-place-preserved : goal.loop-place-preserved
loop-place-preserved c =
    one_row index_columns c.loop-place.place c.listed_at.result.0.now c.listed_at.result.1 c.args.text.now.items c.loop-place.text.items c.push_columns.new.text.items
    (omega (arith, c.loop-place-test.true)) c.listed_at.ensures.name c.listed_at.ensures.formula c.loop-place.invariant (c.in_ok-push_columns.ensures.ok)

pub returns-clause-ok : goal.returns-clause-ok
returns-clause-ok c =
    all_rows index_columns c.loop-place.place c.args.text.now.items c.loop-place.text.items (omega (arith, c.loop-place-test.false)) c.loop-place.invariant
