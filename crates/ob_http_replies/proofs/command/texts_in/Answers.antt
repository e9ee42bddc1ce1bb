use Rattle.std.proofs.Common.{◌≡◌, ◌<◌, ◌∙◌, ℕ, [], Bor, List, Option, None, ap, arith, get_or, length, length-set, rules, sym, map, option_map}
use Rattle.std.proofs.lemmas.List.{get_or-map, length-map}
use Rattle.serde_json.specs.Find.{get}
use Rattle.serde_json.specs.View.{view}
use Rattle.ob_csv.specs.Header.{columns, header}
use Rattle.ob_csv.proofs.Filling.{filled_all, filled_more}
use Rattle.ob_http_replies.specs.JsonCommands.{text_of, texts_of}
use Rattle.ob_http_replies.proofs.command.texts_in.Goals as goal

abbrev name_of : Bor (List ℕ) → List ℕ
name_of n = n.now

abbrev bytes : Option (Bor (List ℕ)) → Option (List ℕ)
bytes t = option_map (λ s. s.now) t

-- what is made of a column's name
of_column : (h : List ℕ → Option (List ℕ)) (names : List (Bor (List ℕ))) (i : ℕ) (d : Bor (List ℕ)) → map name_of names ≡ header → i < columns
    → h (name_of (get_or names i d)) ≡ get_or (map h header) i None
of_column h names i d e below =
    let n : length (map name_of names) ≡ columns = ap length e in
    ap h (sym (get_or-map name_of names i d [] (omega (arith, length-map names name_of))) ∙ ap (λ (xs : List (List ℕ)). get_or xs i []) e)
    ∙ sym (get_or-map h header i [] None below)

pub loop-place-preserved : goal.loop-place-preserved
loop-place-preserved c = record {
  all = length-set c.loop-place.texts c.loop-place.place c.text.result ∙ c.loop-place.invariant.all;
  same = filled_more bytes (λ k. get_or (texts_of (view c.args.value.now)) k None) c.loop-place.texts c.text.result c.loop-place.place None
      (omega arith)
      (c.text.ensures ∙ of_column (λ name. text_of (get name (view c.args.value.now))) c.column_names-columns.result c.loop-place.place _
      c.column_names-columns.ensures c.loop-place-test.true)
      c.loop-place.invariant.same;
}

pub returns : goal.returns
returns c = sym (filled_all bytes c.loop-place.texts (texts_of (view c.args.value.now)) columns None c.loop-place.invariant.all (search rules) (search rules))
