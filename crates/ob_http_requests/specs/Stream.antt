-- The requests of a whole stream.
use Rattle.std.specs.Prelude.{◌≡◌, ℕ, ◌-◌, ◌==◌, ◌||◌, Bool, false, MatchBool, List, [], ◌∷◌, Option, None, Some}
use Rattle.ob_http_requests.specs.Message.{Message, ReadsMessage, IsRefused}
use Rattle.ob_http_requests.specs.declared.framing.HeadRefusal.{HeadRefusal}

-- the connection ends after the reply to a request, where so many requests are still allowed
abbrev pub ends : ℕ → Message → Bool
ends allowed m = m.closes || allowed == 1

-- what the requests of a stream are followed by: no byte more, or what this status answers
abbrev pub EndsWith : List ℕ → Option HeadRefusal → Type 0
EndsWith bytes None = bytes ≡ []
EndsWith bytes (Some status) = IsRefused bytes status

-- the stream's bytes are these requests, at most so many, and then the ending; what follows a request after which
-- the connection ends isn't looked at
abbrev pub Requests : ℕ → List ℕ → List Message → Option HeadRefusal → Type 0
Requests allowed bytes [] ending = EndsWith bytes ending
Requests allowed bytes (m ∷ ms) ending =
    (rest : List ℕ) × ReadsMessage bytes m rest
    × MatchBool (ends allowed m) ((ms ≡ []) × (ending ≡ None)) (Requests (allowed - 1) rest ms ending)

-- the first requests of a stream, after none of which the connection ends, and the bytes that follow them
abbrev pub After : ℕ → List ℕ → List Message → List ℕ → Type 0
After allowed bytes [] rest = bytes ≡ rest
After allowed bytes (m ∷ ms) rest =
    (mid : List ℕ) × ReadsMessage bytes m mid × (ends allowed m ≡ false) × After (allowed - 1) mid ms rest

-- the same of bytes that may not be known
abbrev pub AfterKnown : ℕ → Option (List ℕ) → List Message → Option (List ℕ) → Type 0
AfterKnown allowed None ms rest = Unit {0}
AfterKnown allowed (Some bytes) ms None = ⊥
AfterKnown allowed (Some bytes) ms (Some rest) = After allowed bytes ms rest
