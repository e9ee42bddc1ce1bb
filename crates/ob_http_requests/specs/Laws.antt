-- The bytes of a stream say which requests it has, and how it ends.
use Rattle.std.specs.Prelude.{◌≡◌, ◌⊎◌, ℕ, List, take, Option, Some}
use Rattle.httparse.specs.Grammar.{EndsInTarget}
use Rattle.ob_http_requests.specs.Head.{head_bound}
use Rattle.ob_http_requests.specs.Message.{Message, ReadsMessage, IsCut}
use Rattle.ob_http_requests.specs.Stream.{EndsWith, Requests}
use Rattle.ob_http_requests.specs.declared.framing.HeadRefusal.{HeadRefusal}
use Rattle.ob_http_requests.specs.declared.framing.HeadRefusal.TheVariants.{BadRequest, FieldsTooLarge}

-- bytes begin with one request at most, which ends at one place
abbrev pub OneRequest : Type 0
OneRequest = (bytes : List ℕ) (m n : Message) (rest tail : List ℕ) → ReadsMessage bytes m rest → ReadsMessage bytes n tail → (m ≡ n) × (rest ≡ tail)

-- bytes that begin with a request are not none, they are not refused and not cut
abbrev pub RequestIsNoEnding : Type 0
RequestIsNoEnding = (bytes : List ℕ) (m : Message) (rest : List ℕ) → ReadsMessage bytes m rest → ((ending : Option HeadRefusal) → ¬ (EndsWith bytes ending)) × ¬ (IsCut bytes)

-- it is answered by 400 or by 431
abbrev pub IsBadOrTooLarge : Option HeadRefusal → Type 0
IsBadOrTooLarge ending = (ending ≡ Some BadRequest) ⊎ (ending ≡ Some FieldsTooLarge)

-- Bytes that end inside a target, at the bound of a head, may be answered by either: the grammar says that they are
-- unfinished, also where no text can complete the target.
abbrev pub IsEither : List ℕ → Option HeadRefusal → Option HeadRefusal → Type 0
IsEither bytes one other = EndsInTarget (take head_bound bytes) × IsBadOrTooLarge one × IsBadOrTooLarge other

-- bytes have one ending
abbrev pub OneEnding : Type 0
OneEnding = (bytes : List ℕ) (one other : Option HeadRefusal) → EndsWith bytes one → EndsWith bytes other → (one ≡ other) ⊎ IsEither bytes one other

-- what has an ending is not cut, but for bytes that end inside a target
abbrev pub EndingIsNoCut : Type 0
EndingIsNoCut = (bytes : List ℕ) (ending : Option HeadRefusal) → EndsWith bytes ending → IsCut bytes → (ending ≡ Some BadRequest) × EndsInTarget bytes

-- a stream has one list of requests, and then one ending
abbrev pub OneStream : Type 0
OneStream =
    (allowed : ℕ) (bytes : List ℕ) (ms ns : List Message) (one other : Option HeadRefusal)
    → Requests allowed bytes ms one → Requests allowed bytes ns other
    → (ms ≡ ns) × ((one ≡ other) ⊎ ((rest : List ℕ) × EndsWith rest one × EndsWith rest other × IsEither rest one other))
