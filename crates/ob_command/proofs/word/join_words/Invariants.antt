use Rattle.std.proofs.Common.{◌≡◌, ◌∷◌, map, take}
use Rattle.std.specs.List.{join_with_byte}
use Rattle.ob_command.specs.Words.{word_text}
use Rattle.ob_command.proofs.word.join_words.Given as goal

abbrev pub invariant-loop-field : goal.invariant-loop-field
invariant-loop-field l = l.text.items ≡ join_with_byte 32 (l.kind ∷ map word_text (take l.field-index l.fields))
