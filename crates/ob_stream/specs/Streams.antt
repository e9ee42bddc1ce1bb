-- What a clause sees of retries and of whole texts.
use Rattle.std.specs.Prelude.{ℕ, ◌≡◌, ◌<◌, List, length, take, Option, Some, None}
use Rattle.std.specs.Io.KnownBytes.{Appends}
use Rattle.ob_stream.specs.declared.stream.Retries.{Retries}

-- how often an interrupted call is still tried again
abbrev pub retries_left : Retries → ℕ
retries_left r = r.left

-- the text is all the known bytes
abbrev pub IsWhole : Option (List ℕ) → List ℕ → Type 0
IsWhole None text = Unit {0}
IsWhole (Some bytes) text = text ≡ bytes

-- there are more known bytes than this
abbrev pub Passes : Option (List ℕ) → ℕ → Type 0
Passes None limit = Unit {0}
Passes (Some bytes) limit = limit < length bytes

-- fewer bytes of the text than it has were written, from its first on
pub record AppendsFront (old new : Option (List ℕ)) (text : List ℕ) : Type 0 where
  pub count : ℕ
  pub fewer : count < length text
  pub appends : Appends old new (take count text)
