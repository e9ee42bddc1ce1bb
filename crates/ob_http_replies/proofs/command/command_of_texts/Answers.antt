use Rattle.std.proofs.Common.{◌∙◌, ap, subst, sym, ℕ, Bor, List, [], Option, option_map, unwrap_or}
use Rattle.std.proofs.lemmas.Simd.{map-map}
use Rattle.ob_command.specs.Fields.{IsRow}
use Rattle.ob_http_replies.specs.JsonCommands.{leftmost}
use Rattle.ob_http_replies.proofs.command.command_of_texts.Goals as goal

abbrev bytes : Option (Bor (List ℕ)) → Option (List ℕ)
bytes t = option_map (λ s. s.now) t

abbrev or_nothing : Option (List ℕ) → List ℕ
or_nothing text = unwrap_or text []

pub returns : goal.returns
returns c = (
  c.read_row-row.result,
  subst (λ (row : List (List ℕ)). IsRow row c.read_row-row.result)
      (c.row_of.ensures ∙ sym (map-map or_nothing bytes c.args.texts.now))
      c.read_row-row.ensures,
  c.take_leftmost.ensures
      ∙ ap (λ (column : Option ℕ). leftmost column c.read_row-row.result) c.textless.ensures,
)
