-- Devices of which nothing is told beyond their ends and their normal position.
use Rattle.std.proofs.Common.{◌≡◌, ◌∙◌, sym, ap, refl, ℕ, ◌==◌, true, true≢false, List, [], ◌∷◌, ◌++◌, append_assoc, Option, Some, None, is_none, codes, decimal, arith}
use Rattle.std.specs.List.{join_with_byte}
use Rattle.std.specs.Fmt.{digits}
use Rattle.std.proofs.lemmas.Bool.{and_parts}
use Rattle.std.proofs.lemmas.Bool.Decides.{nat_tests}
use Rattle.ob_command.specs.Commands.{normal_text, until_text}
use Rattle.ob_command.specs.Devices.{front_words, is_plain, PlainDevicesEnd}
use Rattle.ob_command.specs.declared.device.NewDevice.{NewDevice}

-- two words more
two_more : (w : List ℕ) (ws : List (List ℕ)) (x y : List ℕ) → join_with_byte 32 (w ∷ (ws ++ x ∷ y ∷ [])) ≡ join_with_byte 32 (w ∷ ws) ++ (32 ∷ x ++ 32 ∷ y)
two_more w [] x y = refl
two_more w (v ∷ ws) x y = ap (λ t. w ++ 32 ∷ t) (two_more v ws x y) ∙ sym (append_assoc w (32 ∷ join_with_byte 32 (v ∷ ws)) (32 ∷ x ++ 32 ∷ y))

zero_text : decimal 0 ≡ codes "0"
unfolding digits
zero_text = refl

is_zero : (n : ℕ) → (n == 0) ≡ true → n ≡ 0
is_zero n h = grind (arith, nat_tests)

is_none_so : (o : Option ℕ) → is_none o ≡ true → o ≡ None
is_none_so None h = refl
is_none_so (Some s) h = absurd (true≢false (sym h))

-- a plain device lives always
pub plain_lives : (d : NewDevice) → is_plain d ≡ true → (d.life.since ≡ 0) × (d.life.until ≡ None)
plain_lives d h =
    let parts = and_parts (d.life.since == 0) (is_none d.life.until) h in
    (is_zero d.life.since parts.0, is_none_so d.life.until parts.1)

pub plain_text : PlainDevicesEnd
plain_text d h =
    let lives = plain_lives d h in
    let front = join_with_byte 32 (front_words d) in
    two_more (codes "device") (d.name ∷ d.ends.a ∷ d.ends.b ∷ normal_text d.normal ∷ []) (decimal d.life.since) (until_text d.life.until)
    ∙ ap (λ (n : ℕ). front ++ (32 ∷ decimal n ++ 32 ∷ until_text d.life.until)) lives.0
    ∙ ap (λ (u : Option ℕ). front ++ (32 ∷ decimal 0 ++ 32 ∷ until_text u)) lives.1
    ∙ ap (λ (z : List ℕ). front ++ (32 ∷ z ++ 32 ∷ codes "-")) zero_text
