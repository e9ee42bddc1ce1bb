use Rattle.std.proofs.Common.{◌∙◌, ℕ, [], Bor, List, arith, get_or, length-set, rules}
use Rattle.csv.specs.Records.{fields_of}
use Rattle.ob_csv.specs.Header.{columns}
use Rattle.ob_csv.proofs.Filling.{filled_all, filled_more}
use Rattle.ob_csv.proofs.row.first_fields.Goals as goal

abbrev bytes : Bor (List ℕ) → List ℕ
bytes f = f.now

pub loop-place-preserved : goal.loop-place-preserved
loop-place-preserved c = record {
  all = length-set c.loop-place.fields c.loop-place.place c.field_at.result ∙ c.loop-place.invariant.all;
  same = filled_more bytes (λ k. get_or (fields_of c.args.row.now) k []) c.loop-place.fields c.field_at.result c.loop-place.place []
      (omega arith) c.field_at.ensures c.loop-place.invariant.same;
}

pub returns : goal.returns
returns c = λ n. filled_all bytes c.loop-place.fields (fields_of c.args.row.now) columns [] c.loop-place.invariant.all n (search rules)
