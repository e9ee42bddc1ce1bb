use Rattle.std.proofs.Common.{rules, ◌≡◌, [], map, length, IsTrue, ap, subst, ◌∙◌}
use Rattle.std.specs.Prelude.{◌↔◌}
use Rattle.sqlite.specs.Schema.{Schema}
use Rattle.sqlite.specs.Table.{Table as Stored}
use Rattle.ob_sql_rows.specs.Rows.{table_name}
use Rattle.ob_store.proofs.version.has_shape.Goals as goal

pub returns : goal.returns
returns g c =
    let s = c.args.conn.now.schema in
    let tables : c.as_slice.result.now ≡ s.tables = c.as_slice.ensures ∙ ap (λ (x : Schema). x.tables) c.schema-schema.ensures.value in
    let names = subst (λ t. IsTrue c.are_named.result ↔ (map (λ (x : Stored). x.name) t ≡ map table_name c.args.known.now)) tables c.are_named.ensures in
    let indexes : length s.indexes ≡ 6 = search rules in
    let views : s.views ≡ [] = search rules in
    (λ yes. (names.0 yes, indexes, views), λ shape. names.1 shape.0)
