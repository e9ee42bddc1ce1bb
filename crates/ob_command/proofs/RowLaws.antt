-- A row says one thing.
use Rattle.std.proofs.Common.{◌≡◌, ◌∙◌, ap, ap₂, sym, refl, ℕ, List, [], ◌∷◌, Option, Some, None, Result, Err}
use Rattle.ob_base.specs.Identifier.{identifier_in}
use Rattle.ob_base.specs.declared.stop.Refusal.{Refusal}
use Rattle.ob_base.specs.declared.stop.Refusal.TheVariants.{BadField}
use Rattle.ob_time.specs.Moment.{IsDateText, IsSecondText}
use Rattle.ob_command.specs.Fields.{connect_of, device_of, life_of, revise_of, switch_of, correct_of, mark_of, unmark_of, kind_in, referred, AreFieldsOf, IsOfKind, IsReferred, RowsSayOneThing}
use Rattle.ob_command.specs.Spellings.{end_as, start_as, Gives, IsMomentAs}
use Rattle.ob_command.specs.declared.command.Command.{Command}
use Rattle.ob_command.specs.declared.kind.Kind.{Kind}
use Rattle.ob_command.specs.declared.kind.Kind.TheVariants as kinds
use Rattle.ob_command.specs.declared.spelling.Spelling.{Spelling}
use Rattle.ob_command.specs.declared.spelling.Spelling.TheVariants.{Free, Body}

gives-one : {V : Type 0} (P : List ℕ → V → Type 0) (text : List ℕ) (o p : Option V) → Gives P text o → Gives P text p → o ≡ p
gives-one P text None None f g = refl
gives-one P text None (Some w) f g = (f w).1 ((g w).0 refl)
gives-one P text (Some v) p f g = sym ((g v).1 ((f v).0 refl))

moment-one : (s : Spelling) (text : List ℕ) (o p : Option ℕ) → IsMomentAs s text o → IsMomentAs s text p → o ≡ p
moment-one Free text o p f g = gives-one IsSecondText text o p f g
moment-one Body text o p f g = f ∙ sym g

fields-one : (s : Spelling) (k : Kind) (f1 f2 f3 f4 f5 f6 : List ℕ) (a b : Result Command Refusal)
    → AreFieldsOf s k f1 f2 f3 f4 f5 f6 a → AreFieldsOf s k f1 f2 f3 f4 f5 f6 b → a ≡ b
fields-one s kinds.Cause f1 f2 f3 f4 f5 f6 a b x y = x ∙ sym y
fields-one s kinds.Bus f1 f2 f3 f4 f5 f6 a b x y = x ∙ sym y
fields-one s kinds.Section f1 f2 f3 f4 f5 f6 a b x y = x ∙ sym y
fields-one s kinds.Device f1 f2 f3 f4 f5 f6 a b x y =
    x.4 ∙ ap₂ (λ m n. device_of f1 f2 f3 f4 (start_as s f5 m) (end_as s f6 n)) (moment-one s f5 x.0 y.0 x.2 y.2) (moment-one s f6 x.1 y.1 x.3 y.3) ∙ sym y.4
fields-one s kinds.Life f1 f2 f3 f4 f5 f6 a b x y =
    x.4 ∙ ap₂ (λ m n. life_of f1 (start_as s f2 m) (end_as s f3 n) (f4 ∷ f5 ∷ f6 ∷ [])) (moment-one s f2 x.0 y.0 x.2 y.2) (moment-one s f3 x.1 y.1 x.3 y.3) ∙ sym y.4
fields-one s kinds.Connect f1 f2 f3 f4 f5 f6 a b x y =
    x.4 ∙ ap₂ (λ m n. connect_of s f1 f2 m (end_as s f4 n) (f5 ∷ f6 ∷ [])) (moment-one s f3 x.0 y.0 x.2 y.2) (moment-one s f4 x.1 y.1 x.3 y.3) ∙ sym y.4
fields-one s kinds.Revise f1 f2 f3 f4 f5 f6 a b x y =
    x.4 ∙ ap₂ (λ m n. revise_of s f1 m (end_as s f3 n) (f4 ∷ f5 ∷ f6 ∷ [])) (moment-one s f2 x.0 y.0 x.2 y.2) (moment-one s f3 x.1 y.1 x.3 y.3) ∙ sym y.4
fields-one s kinds.Switch f1 f2 f3 f4 f5 f6 a b x y =
    x.2 ∙ ap (λ m. switch_of s f1 f2 m f4 f5 (f6 ∷ [])) (moment-one s f3 x.0 y.0 x.1 y.1) ∙ sym y.2
fields-one s kinds.Correct f1 f2 f3 f4 f5 f6 a b x y =
    x.2 ∙ ap (λ m. correct_of s f1 f2 f3 m f5 f6) (moment-one s f4 x.0 y.0 x.1 y.1) ∙ sym y.2
fields-one s kinds.Withdraw f1 f2 f3 f4 f5 f6 a b x y = x ∙ sym y
fields-one s kinds.Mark f1 f2 f3 f4 f5 f6 a b x y =
    x.2 ∙ ap (λ d. mark_of d f2 (f3 ∷ f4 ∷ f5 ∷ f6 ∷ [])) (gives-one IsDateText f1 x.0 y.0 x.1 y.1) ∙ sym y.2
fields-one s kinds.Unmark f1 f2 f3 f4 f5 f6 a b x y =
    x.2 ∙ ap (λ d. unmark_of d f2 (f3 ∷ f4 ∷ f5 ∷ f6 ∷ [])) (gives-one IsDateText f1 x.0 y.0 x.1 y.1) ∙ sym y.2

referred-one : (o : Option (List ℕ)) (P : Result Command Refusal → Type 0) → ((a b : Result Command Refusal) → P a → P b → a ≡ b)
    → (a b : Result (List ℕ × Command) Refusal) → IsReferred o P a → IsReferred o P b → a ≡ b
referred-one None P one a b x y = x ∙ sym y
referred-one (Some name) P one a b x y = x.2 ∙ ap (λ c. referred name c) (one x.0 y.0 x.1 y.1) ∙ sym y.2

row-one : (o : Option Kind) (reference f1 f2 f3 f4 f5 f6 : List ℕ) (a b : Result (List ℕ × Command) Refusal)
    → IsOfKind o (λ k. IsReferred (identifier_in 40 reference) (AreFieldsOf Free k f1 f2 f3 f4 f5 f6) a) (a ≡ Err (BadField 1))
    → IsOfKind o (λ k. IsReferred (identifier_in 40 reference) (AreFieldsOf Free k f1 f2 f3 f4 f5 f6) b) (b ≡ Err (BadField 1)) → a ≡ b
row-one None reference f1 f2 f3 f4 f5 f6 a b x y = x ∙ sym y
row-one (Some k) reference f1 f2 f3 f4 f5 f6 a b x y =
    referred-one (identifier_in 40 reference) (AreFieldsOf Free k f1 f2 f3 f4 f5 f6) (fields-one Free k f1 f2 f3 f4 f5 f6) a b x y

pub rows-one : RowsSayOneThing
rows-one kind reference f1 f2 f3 f4 f5 f6 a b x y = row-one (kind_in kind) reference f1 f2 f3 f4 f5 f6 a b x y
