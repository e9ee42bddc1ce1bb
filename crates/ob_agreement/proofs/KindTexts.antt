-- The kind of a row, text by text.
use Rattle.std.proofs.Common.{◌≡◌, ◌∙◌, ap, sym, subst, refl, ℕ, ◌<◌, Bool, true, false, List, [], ◌∷◌, length, Option, Some, None, codes, if◌then◌else◌, bytes_eq, arith}
use Rattle.std.specs.List.{list_any}
use Rattle.std.proofs.lemmas.Slice.Eq.{bytes_eq-Decides}
use Rattle.ob_total.specs.Commands.{kind_in}
use Rattle.ob_total.specs.declared.command.Kind.{Kind}
use Rattle.ob_total.specs.declared.command.Kind.TheVariants as kinds

pub same_text : (a b : List ℕ) → bytes_eq a b ≡ true → a ≡ b
same_text a b is = (bytes_eq-Decides a b).0 is

-- a text is this word, or isn't
decided : (text word : List ℕ) (P : List ℕ → Type 0) (b : Bool) → bytes_eq text word ≡ b → P word → (bytes_eq text word ≡ false → P text) → P text
decided text word P true is here other = subst P (sym (same_text text word is)) here
decided text word P false is here other = other is

pub by_word : (text word : List ℕ) (P : List ℕ → Type 0) → P word → (bytes_eq text word ≡ false → P text) → P text
by_word text word P here other = decided text word P (bytes_eq text word) refl here other

-- a value that is found in a list of tests has what each value has whose test holds
pub found_here : {A : Type 0} (P : A → Type 0) (b : Bool) (x : A) (rest : Option A) → (b ≡ true → P x) → ((v : A) → rest ≡ Some v → P v)
    → (v : A) → (if b then Some x else rest) ≡ Some v → P v
found_here P true x rest here later v is = let same : x ≡ v = cc in subst P same (here refl)
found_here P false x rest here later v is = later v is

pub found_nowhere : {A : Type 0} (P : A → Type 0) (v : A) → None ≡ Some v → P v
found_nowhere P v is = absurd (cc)

abbrev kind_text : Kind → List ℕ
kind_text kinds.Cause = codes "cause"
kind_text kinds.Bus = codes "bus"
kind_text kinds.Section = codes "section"
kind_text kinds.Device = codes "device"
kind_text kinds.Life = codes "life"
kind_text kinds.Connect = codes "connect"
kind_text kinds.Switch = codes "switch"

kind_read : (text : List ℕ) (t : Kind) → kind_in text ≡ Some t → text ≡ kind_text t
kind_read text =
    let P : Kind → Type 0 = λ t. text ≡ kind_text t in
    found_here P (bytes_eq text (codes "cause")) kinds.Cause _ (same_text text (codes "cause")) (
    found_here P (bytes_eq text (codes "bus")) kinds.Bus _ (same_text text (codes "bus")) (
    found_here P (bytes_eq text (codes "section")) kinds.Section _ (same_text text (codes "section")) (
    found_here P (bytes_eq text (codes "device")) kinds.Device _ (same_text text (codes "device")) (
    found_here P (bytes_eq text (codes "life")) kinds.Life _ (same_text text (codes "life")) (
    found_here P (bytes_eq text (codes "connect")) kinds.Connect _ (same_text text (codes "connect")) (
    found_here P (bytes_eq text (codes "switch")) kinds.Switch _ (same_text text (codes "switch")) (
    found_nowhere P)))))))

-- the text is one of a kind that a book alone has
abbrev pub is_alone : List ℕ → Bool
is_alone text = list_any (bytes_eq text) (codes "revise" ∷ codes "correct" ∷ codes "withdraw" ∷ codes "mark" ∷ codes "unmark" ∷ [])

text_not_alone : (t : Kind) → is_alone (kind_text t) ≡ false
text_not_alone kinds.Cause = refl
text_not_alone kinds.Bus = refl
text_not_alone kinds.Section = refl
text_not_alone kinds.Device = refl
text_not_alone kinds.Life = refl
text_not_alone kinds.Connect = refl
text_not_alone kinds.Switch = refl

text_short : (t : Kind) → length (kind_text t) < 19
text_short kinds.Cause = omega arith
text_short kinds.Bus = omega arith
text_short kinds.Section = omega arith
text_short kinds.Device = omega arith
text_short kinds.Life = omega arith
text_short kinds.Connect = omega arith
text_short kinds.Switch = omega arith

-- a kind of `total` is none of those, and its text is short
pub kind_shared : (text : List ℕ) (t : Kind) → kind_in text ≡ Some t → is_alone text ≡ false
kind_shared text t is = ap is_alone (kind_read text t is) ∙ text_not_alone t

pub kind_short : (text : List ℕ) (t : Kind) → kind_in text ≡ Some t → length text < 19
kind_short text t is = omega (arith, ap (λ (bytes : List ℕ). length bytes) (kind_read text t is), text_short t)
