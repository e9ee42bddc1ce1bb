use Rattle.std.proofs.Common.{◌≡◌, ◌∙◌, sym, ap, map, refl, arith, rules}
use Rattle.serde_json.specs.Data.{array}
use Rattle.serde_json.proofs.Views.{view-Array}
use Rattle.serde_json.specs.View.{view, items_of}
use Rattle.ob_post.specs.Keys.{keys}
use Rattle.ob_post.specs.Postings.{amount_of, day_count}
use Rattle.ob_json.specs.Totals.{row_data, rows_of}
use Rattle.ob_json.proofs.Rows.{more_rows}
use Rattle.ob_json.proofs.totals.rows.Goals as goal

pub loop-key-preserved : goal.loop-key-preserved
loop-key-preserved c =
    c.in_ok-push_row.ensures.data
    ∙ rw c.amount.ensures.value
    (more_rows c.args.postings.now c.args.dim c.keys-keys.result.start c.loop-key.key (map view c.loop-key.rows.items) (search rules) c.loop-key.invariant)

pub returns : goal.returns
returns c =
    let all : c.loop-key.key ≡ c.keys-keys.result.end = omega (arith, c) in
    let same : map view c.loop-key.rows.items ≡ map row_data (rows_of (amount_of c.args.postings.now c.args.dim) (keys (day_count c.args.postings.now) c.args.dim)) =
    c.loop-key.invariant ∙ rw (all, sym c.requires.days, c.keys-keys.ensures.all) refl in
    record { «data» = view-Array c.loop-key.rows ∙ ap (λ rows. array (items_of rows)) same }
