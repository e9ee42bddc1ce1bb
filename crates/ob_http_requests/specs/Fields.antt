-- What the field lines of a request's head say (RFC 9110, section 5).
use Rattle.std.specs.Prelude.{◌≡◌, ℕ, ◌<◌, ◌==◌, Bool, List, [], ◌∷◌, map, length, if◌then◌else◌}
use Rattle.std.specs.List.{list_any}
use Rattle.std.specs.Str.{str_eq_ignore_ascii_case}
use Rattle.httparse.specs.Ascii.{comma}
use Rattle.httparse.specs.Grammar.{trim_ows}
use Rattle.ob_http_requests.specs.declared.field.Named.{Named}
use Rattle.ob_http_requests.specs.declared.field.Named.TheVariants.{Absent, Once, Several}

-- a field's name and its value, without the white space around it
abbrev pub Field : Type 0
Field = List ℕ × List ℕ

-- the field has this name, in any case
abbrev pub is_named : List ℕ → Field → Bool
is_named name field = str_eq_ignore_ascii_case field.0 name

-- the values of the fields with this name, in order
abbrev pub values_of : List ℕ → List Field → List (List ℕ)
values_of name [] = []
values_of name (field ∷ fields) = if is_named name field then field.1 ∷ values_of name fields else values_of name fields

-- what was found of these values
abbrev pub Tells : Named → List (List ℕ) → Type 0
Tells Absent values = values ≡ []
Tells (Once value) values = values ≡ value.now ∷ []
Tells Several values = 1 < length values

-- one of the values is this text, in any case
abbrev pub says : List ℕ → List (List ℕ) → Bool
says text values = list_any (λ value. str_eq_ignore_ascii_case value text) values

-- the pieces, with a byte put before the first
abbrev pub cons_first : ℕ → List (List ℕ) → List (List ℕ)
cons_first b [] = (b ∷ []) ∷ []
cons_first b (piece ∷ pieces) = (b ∷ piece) ∷ pieces

-- the pieces between commas
abbrev pub split_commas : List ℕ → List (List ℕ)
split_commas [] = [] ∷ []
split_commas (b ∷ bs) = let pieces = split_commas bs in if b == comma then [] ∷ pieces else cons_first b pieces

-- the elements of a list value (section 5.6.1), without the white space around each
unfoldable pub elements : List ℕ → List (List ℕ)
elements value = map trim_ows (split_commas value)

-- one of the values lists this option, in any case
abbrev pub lists : List ℕ → List (List ℕ) → Bool
lists option values = list_any (λ value. says option (elements value)) values
