-- The words of a text, which one space parts.
use Rattle.std.specs.Prelude.{ℕ, suc, zero, ◌+◌, ◌==◌, List, [], ◌∷◌, take, drop, Option, Some, None, option_map, option_and_then}
use Rattle.std.specs.List.{position}
use Rattle.std.specs.Borrow.{Bor}
use Rattle.ob_command.specs.declared.fields.Fields.{Fields}

-- what stands before the first space, and what behind it
abbrev pub cut_in : List ℕ → Option (List ℕ × List ℕ)
cut_in text = option_map (λ at. (take at text, drop (at + 1) text)) (position (λ b. b == 32) text)

-- what a reader answers, as texts
abbrev pub both_texts : Option (Bor (List ℕ) × Bor (List ℕ)) → Option (List ℕ × List ℕ)
both_texts r = option_map (λ p. (p.0.now, p.1.now)) r

-- a word that isn't empty, and what follows it
abbrev pub full_word : List ℕ → Option (List ℕ) → Option (List ℕ × Option (List ℕ))
full_word [] rest = None
full_word (b ∷ bs) rest = Some (b ∷ bs, rest)

-- a text's first word and what stands behind the space after it
abbrev pub first_word : List ℕ → Option (List ℕ × List ℕ) → Option (List ℕ × Option (List ℕ))
first_word text None = full_word text None
first_word text (Some cut) = full_word cut.0 (Some cut.1)

-- the next word, and what is left of the text; where nothing is left, an empty word and nothing
abbrev pub word_in : Option (List ℕ) → Option (List ℕ × Option (List ℕ))
word_in None = Some ([], None)
word_in (Some text) = first_word text (cut_in text)

-- so many words, and then nothing
abbrev pub words_in : ℕ → Option (List ℕ) → Option (List (List ℕ))
words_in zero None = Some []
words_in zero (Some text) = None
words_in (suc n) left = option_and_then (λ p. option_map (λ words. p.0 ∷ words) (words_in n p.1)) (word_in left)

-- a kind and six fields, as a list
abbrev pub seven_texts : List ℕ × Fields → List (List ℕ)
seven_texts p = p.0 ∷ p.1.f1.now ∷ p.1.f2.now ∷ p.1.f3.now ∷ p.1.f4.now ∷ p.1.f5.now ∷ p.1.f6.now ∷ []
