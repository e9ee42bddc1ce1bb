use Rattle.std.proofs.Common.{◌≡◌, ◌∙◌, ap, sym, ◌+◌, ◌∷◌, [], ◌++◌, take}
use Rattle.std.proofs.lemmas.List.{take_more}
use Rattle.ob_command.specs.Words.{word_text}
use Rattle.ob_command.proofs.Joins.{words-more}
use Rattle.ob_command.proofs.word.join_words.Goals as goal

pub loop-field-preserved : goal.loop-field-preserved
loop-field-preserved c =
    let i = c.loop-field.field-index in
    let xs = c.args.fields.now in
    let x = c.field-item.result in
    let at : take (i + 1) xs ≡ take i xs ++ x ∷ [] = take_more xs i x c.loop-field-test.true ∙ ap (λ y. take i xs ++ y ∷ []) (sym c.field-item.is) in
    let step = words-more 32 word_text c.args.kind.now xs i x at in
    cc (c.in_ok-push_word.ensures.ok, c.in_ok-push.ensures.items, c.loop-field.invariant, step)
