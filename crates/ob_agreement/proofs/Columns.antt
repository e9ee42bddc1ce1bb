-- One column after the other: how `total` goes on, how a book does, and what each reads in a column.
use Rattle.std.proofs.Common.{◌≡◌, ◌∙◌, ap, sym, refl, inl, inr, ℕ, ◌+◌, true, false, List, [], ◌∷◌, Option, Some, None, option_map, option_and_then, Result, Ok, Err, if◌then◌else◌, bytes_eq}
use Rattle.ob_base.specs.Fields.{unix_second_in, until_in}
use Rattle.ob_base.specs.Identifier.{identifier_in}
use Rattle.ob_base.specs.declared.stop.Refusal.{Refusal}
use Rattle.ob_time.specs.Moment.{IsSecondText}
use Rattle.ob_command.specs.Fields as fields
use Rattle.ob_command.specs.Spellings.{ends_from, Gives}
use Rattle.ob_command.specs.Ranges.{EndNames, end_names}
use Rattle.ob_command.specs.declared.command.Command.{Command as BookCommand}
use Rattle.ob_total.specs.Commands.{other_node_in, with_empty, with_value}
use Rattle.ob_total.specs.declared.command.Command.{Command}
use Rattle.ob_agreement.specs.Readings.{as_counted, read_as_counted, IsCivil}

-- what `total` makes of a book's command or of its refusal
abbrev pub of_book : Result BookCommand Refusal → Result Command Refusal
of_book (Ok command) = as_counted command
of_book (Err refusal) = Err refusal

-- and of its command under a reference
pub referred_counted : (name : List ℕ) (command : Result BookCommand Refusal) → read_as_counted (fields.referred name command) ≡ of_book command
referred_counted name (Ok k) = refl
referred_counted name (Err refusal) = refl

-- what a book read is what its definition says
pub after : {lhs : Result Command Refusal} {said x : Result BookCommand Refusal} → said ≡ x → lhs ≡ of_book x → lhs ≡ of_book said
after is same = same ∙ ap of_book (sym is)

-- ---- both go on alike behind a column that they read alike
pub column_alike : {A : Type 0} (n : ℕ) (o : Option A) (f : A → Result Command Refusal) (g : A → Result BookCommand Refusal)
    → ((a : A) → f a ≡ of_book (g a)) → with_value n o f ≡ of_book (fields.with_field n o g)
column_alike n None f g same = refl
column_alike n (Some a) f g same = same a

-- the same within what is read of several columns before the book goes on
pub column_read_alike : {A B : Type 0} (n : ℕ) (o : Option A) (f : A → Result Command Refusal) (r : A → Result B Refusal) (g : B → Result BookCommand Refusal)
    → ((a : A) → f a ≡ of_book (fields.with_read (r a) g)) → with_value n o f ≡ of_book (fields.with_read (fields.with_field n o r) g)
column_read_alike n None f r g same = refl
column_read_alike n (Some a) f r g same = same a

pub rest_alike : (n : ℕ) (rest : List (List ℕ)) (c : Command) (k : BookCommand) → as_counted k ≡ Ok c → with_empty n rest (Ok c) ≡ of_book (fields.with_unused n rest (Ok k))
rest_alike n [] c k same = sym same
rest_alike n ([] ∷ rest) c k same = rest_alike (n + 1) rest c k same
rest_alike n ((byte ∷ bytes) ∷ rest) c k same = refl

-- the second node of a device
ends_of : (n : ℕ) (a : List ℕ) (o : Option (List ℕ)) (f : List ℕ → Result Command Refusal) (g : EndNames → Result BookCommand Refusal) → ((b : List ℕ) → f b ≡ of_book (g (end_names a b)))
    → with_value n (option_and_then (λ b. if bytes_eq a b then None else Some b) o) f
    ≡ of_book (fields.with_field n (option_and_then (λ b. if bytes_eq a b then None else Some (end_names a b)) o) g)
ends_of n a None f g same = refl
ends_of n a (Some b) f g same = elim (bytes_eq a b) as (λ t. with_value n (if t then None else Some b) f ≡ of_book (fields.with_field n (if t then None else Some (end_names a b)) g)) [
  | true ↦ refl
  | false ↦ same b
]

pub ends_alike : (n : ℕ) (a text : List ℕ) (f : List ℕ → Result Command Refusal) (g : EndNames → Result BookCommand Refusal)
    → ((b : List ℕ) → f b ≡ of_book (g (end_names a b))) → with_value n (other_node_in a text) f ≡ of_book (fields.with_field n (ends_from a text) g)
ends_alike n a text f g same = ends_of n a (identifier_in 24 text) f g same

-- ---- a moment that is read in a text which is no civil moment is that of the Unix seconds
of_second : (text : List ℕ) (v : ℕ) (gives : Gives IsSecondText text (Some v)) → ¬ (IsCivil text) → IsSecondText text v → Some v ≡ unix_second_in text
of_second text v gives plain (inl unix) = sym unix
of_second text v gives plain (inr civil) = absurd (plain (v, civil))

of_none : (text : List ℕ) (u : Option ℕ) → unix_second_in text ≡ u → Gives IsSecondText text None → None ≡ u
of_none text None is gives = refl
of_none text (Some v) is gives = (gives v).1 (inl is)

pub moment_alike : (text : List ℕ) (o : Option ℕ) → Gives IsSecondText text o → ¬ (IsCivil text) → o ≡ unix_second_in text
moment_alike text None gives plain = of_none text (unix_second_in text) refl gives
moment_alike text (Some v) gives plain = of_second text v gives plain ((gives v).0 refl)

-- the end of a service or a life, which in a row is empty where there is none
pub until_alike : (text : List ℕ) (o : Option ℕ) → Gives IsSecondText text o → ¬ (IsCivil text)
    → (if bytes_eq text [] then Some None else option_map {U = Option ℕ} (λ s. Some s) o) ≡ until_in unix_second_in text
until_alike [] o gives plain = refl
until_alike (byte ∷ bytes) o gives plain = ap (λ (m : Option ℕ). option_map {U = Option ℕ} (λ s. Some s) m) (moment_alike (byte ∷ bytes) o gives plain)
