-- Single fields as texts: what a row may spell freely has one spelling in a body.
use Rattle.std.specs.Prelude.{◌≡◌, ◌↔◌, ℕ, ◌==◌, Bool, false, List, [], ◌∷◌, Option, Some, None, option_map, option_and_then, codes, if◌then◌else◌}
use Rattle.std.specs.Str.{bytes_eq}
use Rattle.ob_base.specs.Fields.{unix_second_in}
use Rattle.ob_base.specs.Identifier.{identifier_in}
use Rattle.ob_time.specs.Moment.{IsSecondText}
use Rattle.ob_command.specs.Ranges.{EndNames, end_names}
use Rattle.ob_command.specs.declared.spelling.Spelling.{Spelling}
use Rattle.ob_command.specs.declared.spelling.Spelling.TheVariants.{Free, Body}

-- a zero with something behind it
abbrev pub leads_zero : List ℕ → Bool
leads_zero [] = false
leads_zero (b ∷ []) = false
leads_zero (b ∷ c ∷ bytes) = b == 48

-- a number that isn't spelled so: a body has no leading zeros
abbrev pub is_misspelled : Spelling → List ℕ → Bool
is_misspelled Free text = false
is_misspelled Body text = leads_zero text

-- a number, as it is spelled
abbrev pub number_as : Spelling → (List ℕ → Option ℕ) → List ℕ → Option ℕ
number_as spelling read text = if is_misspelled spelling text then None else read text

-- what a text gives by a relation: its one value, or none
abbrev pub Gives : {V : Type 0} → (List ℕ → V → Type 0) → List ℕ → Option V → Type 0
Gives {V} IsText text o = (v : V) → (o ≡ Some v) ↔ IsText text v

-- a moment: any of its texts, or in a body Unix seconds without leading zeros
abbrev pub IsMomentAs : Spelling → List ℕ → Option ℕ → Type 0
IsMomentAs Free text o = Gives IsSecondText text o
IsMomentAs Body text o = o ≡ number_as Body unix_second_in text

-- the text that stands for no end of a service or a life
abbrev pub no_end : Spelling → List ℕ
no_end Free = []
no_end Body = codes "-"

-- an end of a service or a life of this text, which as a moment is `moment`
abbrev pub end_as : Spelling → List ℕ → Option ℕ → Option (Option ℕ)
end_as spelling text moment = if bytes_eq text (no_end spelling) then Some None else option_map (λ s. Some s) moment

-- the beginning of a life of this text, which as a moment is `moment`: in a row an empty text is 0
abbrev pub start_as : Spelling → List ℕ → Option ℕ → Option ℕ
start_as Free [] moment = Some 0
start_as Free (byte ∷ bytes) moment = moment
start_as Body text moment = moment

-- the name of a node, a device or a cause
abbrev pub name_in : List ℕ → Option (List ℕ)
name_in text = identifier_in 24 text

-- the name of a crew or an engineer
abbrev pub crew_in : List ℕ → Option (List ℕ)
crew_in text = identifier_in 16 text

-- two names that differ
abbrev pub ends_in : List ℕ → List ℕ → Option EndNames
ends_in a b = if bytes_eq a b then None else Some (end_names a b)

-- the ends of a device whose first node is known: the second isn't the first
abbrev pub ends_from : List ℕ → List ℕ → Option EndNames
ends_from a text = option_and_then (λ b. ends_in a b) (name_in text)
