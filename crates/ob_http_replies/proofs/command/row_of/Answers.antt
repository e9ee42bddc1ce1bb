use Rattle.std.proofs.Common.{◌∙◌, ℕ, [], Bor, List, Option, None, arith, get_or, length-set, rules, sym, map, option_map, unwrap_or}
use Rattle.std.proofs.lemmas.List.{get_or-map, length-map}
use Rattle.ob_csv.specs.Header.{columns}
use Rattle.ob_csv.proofs.Filling.{filled_all, filled_more}
use Rattle.ob_http_replies.proofs.command.row_of.Goals as goal

abbrev bytes : Bor (List ℕ) → List ℕ
bytes f = f.now

abbrev or_nothing : Option (Bor (List ℕ)) → List ℕ
or_nothing t = unwrap_or (option_map (λ s. s.now) t) []

pub loop-place-preserved : goal.loop-place-preserved
loop-place-preserved c = record {
  all = length-set c.loop-place.row c.loop-place.place c.or_empty.result ∙ c.loop-place.invariant.all;
  same = filled_more bytes (λ k. get_or (map or_nothing c.args.texts.now) k []) c.loop-place.row c.or_empty.result c.loop-place.place []
      (omega arith) (c.or_empty.ensures ∙ sym (get_or-map or_nothing c.args.texts.now c.loop-place.place None [] (omega arith)))
      c.loop-place.invariant.same;
}

pub returns : goal.returns
returns c =
    sym (filled_all bytes c.loop-place.row (map or_nothing c.args.texts.now) columns [] c.loop-place.invariant.all
    (length-map c.args.texts.now or_nothing ∙ c.told-texts) (search rules))
