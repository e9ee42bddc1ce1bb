-- A text of words is cut into them, and a text that is cut so is their text.
use Rattle.std.proofs.Common.{◌≡◌, ◌∙◌, ap, ap₂, sym, refl, subst, ℕ, zero, suc, ◌<◌, ◌≤◌, ◌==◌, cond, nat_lt, false, List, [], ◌∷◌, ◌++◌, length, Option, Some, None, not, option_map, option_and_then, arith, ltb-true, take, drop, ◌+◌}
use Rattle.std.specs.Prelude.{⊤}
use Rattle.std.specs.List.{join_with_byte, prefix_len}
use Rattle.std.proofs.lemmas.Bool.{and_parts, false_from_ne_true}
use Rattle.ob_command.specs.Splits.{cut_in, first_word, full_word, word_in, words_in}
use Rattle.ob_command.proofs.Cuts.{Lacks, lacks, cut-back, cut-found, same-some}
use Rattle.ob_command.proofs.Readings.{mapped, chained}

-- not empty, and without a space
abbrev pub IsWord : List ℕ → Type 0
IsWord w = (0 < length w) × Lacks w

abbrev pub AreWords : List (List ℕ) → Type 0
AreWords [] = ⊤
AreWords (w ∷ ws) = IsWord w × AreWords ws

-- the text of these words, where there are any
abbrev pub left : List (List ℕ) → Option (List ℕ)
left [] = None
left (w ∷ ws) = Some (join_with_byte 32 (w ∷ ws))

-- a word before what is left
abbrev pub after : List ℕ → Option (List ℕ) → List ℕ
after w None = w
after w (Some rest) = w ++ 32 ∷ rest

-- the words up to the first empty one
abbrev pub trim : List (List ℕ) → List (List ℕ)
trim [] = []
trim ([] ∷ ws) = []
trim ((b ∷ bs) ∷ ws) = (b ∷ bs) ∷ trim ws

-- so many words, the missing ones empty
abbrev pub padded : ℕ → List (List ℕ) → List (List ℕ)
padded zero ws = []
padded (suc n) [] = [] ∷ padded n []
padded (suc n) (w ∷ ws) = w ∷ padded n ws

full-found : (x : List ℕ) (o : Option (List ℕ)) (w : List ℕ) (r : Option (List ℕ)) → full_word x o ≡ Some (w, r) → (0 < length w) × (x ≡ w) × (o ≡ r)
full-found [] o w r e = absurd (cc)
full-found (b ∷ bs) o w r e =
    let one : List ℕ × Option (List ℕ) = (b ∷ bs, o) in
    let other : List ℕ × Option (List ℕ) = (w, r) in
    let both = same-some one other e in
    let some : 0 < length (b ∷ bs) = omega arith in
    (subst (λ v. 0 < length v) (ap (λ p. p.0) both) some, ap (λ p. p.0) both, ap (λ p. p.1) both)

text-found : (text : List ℕ) (o : Option (List ℕ × List ℕ)) (w : List ℕ) (r : Option (List ℕ)) → cut_in text ≡ o → first_word text o ≡ Some (w, r)
    → (0 < length w) × (text ≡ after w r)
text-found text None w r cut e = let f = full-found text None w r e in (f.0, f.1 ∙ ap (λ o. after w o) f.2)
text-found text (Some p) w r cut e =
    let f = full-found p.0 (Some p.1) w r e in
    (f.0, cut-found text p.0 p.1 cut ∙ ap₂ (λ x o. after x o) f.1 f.2)

trim-full : (w : List ℕ) (ws : List (List ℕ)) → 0 < length w → trim (w ∷ ws) ≡ w ∷ trim ws
trim-full [] ws h = absurd (omega arith)
trim-full (b ∷ bs) ws h = refl

left-after : (w : List ℕ) (ws : List (List ℕ)) → left (w ∷ ws) ≡ Some (after w (left ws))
left-after w [] = refl
left-after w (v ∷ vs) = refl

-- what was cut into these words is their text, up to the first empty one
pub words-found : (n : ℕ) (t : Option (List ℕ)) (fs : List (List ℕ)) → words_in n t ≡ Some fs → t ≡ left (trim fs)
words-found zero None fs e = ap (λ f. left (trim f)) (same-some [] fs e)
words-found zero (Some text) fs e = absurd (cc)
words-found (suc n) None fs e =
    let m = mapped {B = List (List ℕ)} (λ ws. [] ∷ ws) (words_in n None) fs e in
    ap (λ f. left (trim f)) m.2
words-found (suc n) (Some text) fs e =
    let c = chained (λ (p : List ℕ × Option (List ℕ)). option_map {U = List (List ℕ)} (λ ws. p.0 ∷ ws) (words_in n p.1)) (word_in (Some text)) fs e in
    let m = mapped {B = List (List ℕ)} (λ ws. c.0.0 ∷ ws) (words_in n c.0.1) fs c.2 in
    let f = text-found text (cut_in text) c.0.0 c.0.1 refl c.1 in
    let rest = words-found n c.0.1 m.0 m.1 in
    ap Some f.1 ∙ ap (λ r. Some (after c.0.0 r)) rest ∙ sym (left-after c.0.0 (trim m.0))
    ∙ ap left (sym (trim-full c.0.0 m.0 f.0)) ∙ ap (λ f. left (trim f)) m.2

all-before : (x : List ℕ) → Lacks x → prefix_len (λ b. not (b == 32)) x ≡ length x
all-before [] h = refl
all-before (b ∷ bs) h =
    let parts = and_parts (not (b == 32)) (lacks bs) h in
    ap (λ t. cond t (1 + prefix_len (λ c. not (c == 32)) bs) 0) parts.0
    ∙ ap (λ n. 1 + n) (all-before bs parts.1) ∙ (let e : 1 + length bs ≡ suc (length bs) = omega arith in e)

not-below : (n : ℕ) → nat_lt n n ≡ false
not-below n = false_from_ne_true (nat_lt n n) (λ e. let below = ltb-true n n e in absurd (omega arith))

cut-none : (x : List ℕ) → Lacks x → cut_in x ≡ None
cut-none x h =
    ap (λ o. option_map {U = List ℕ × List ℕ} (λ at. (take at x, drop (at + 1) x)) o)
    (ap (λ n. cond (nat_lt n (length x)) (Some n) None) (all-before x h) ∙ ap (λ b. cond b (Some (length x)) None) (not-below (length x)))

full-back : (w : List ℕ) (o : Option (List ℕ)) → 0 < length w → full_word w o ≡ Some (w, o)
full-back [] o h = absurd (omega arith)
full-back (b ∷ bs) o h = refl

word-back : (w : List ℕ) (ws : List (List ℕ)) → IsWord w → word_in (left (w ∷ ws)) ≡ Some (w, left ws)
word-back w [] h = ap (λ o. first_word w o) (cut-none w h.1) ∙ full-back w None h.0
word-back w (v ∷ vs) h =
    let rest = join_with_byte 32 (v ∷ vs) in
    ap (λ o. first_word (w ++ 32 ∷ rest) o) (cut-back w rest h.1) ∙ full-back w (Some rest) h.0

-- the text of words is cut into them
pub words-back : (n : ℕ) (ws : List (List ℕ)) → AreWords ws → length ws ≤ n → words_in n (left ws) ≡ Some (padded n ws)
words-back zero [] h l = refl
words-back zero (w ∷ ws) h l = absurd (omega arith)
words-back (suc n) [] h l = ap (λ o. option_map {U = List (List ℕ)} (λ ws. [] ∷ ws) o) (words-back n [] tt (omega arith))
words-back (suc n) (w ∷ ws) h l =
    ap (λ o. option_and_then (λ (p : List ℕ × Option (List ℕ)). option_map {U = List (List ℕ)} (λ ws. p.0 ∷ ws) (words_in n p.1)) o) (word-back w ws h.0)
    ∙ ap (λ o. option_map {U = List (List ℕ)} (λ ws. w ∷ ws) o) (words-back n ws h.1 (omega arith))

pub trim-padded : (n : ℕ) (ws : List (List ℕ)) → AreWords ws → length ws ≤ n → trim (padded n ws) ≡ ws
trim-padded zero [] h l = refl
trim-padded zero (w ∷ ws) h l = absurd (omega arith)
trim-padded (suc n) [] h l = refl
trim-padded (suc n) (w ∷ ws) h l = trim-full w (padded n ws) h.0.0 ∙ ap (λ vs. w ∷ vs) (trim-padded n ws h.1 (omega arith))
