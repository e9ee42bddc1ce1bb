-- A request: its head, as RFC 9112 writes it, and its body of known length.
use Rattle.std.specs.Prelude.{◌≡◌, ℕ, ◌<◌, ◌==◌, ◌⊎◌, Bool, List, ◌++◌, length, Option, None, Some, Ok, Err}
use Rattle.std.specs.List.{before_first}
use Rattle.httparse.specs.Grammar.{RequestHead}
use Rattle.ob_http_requests.specs.Framing.{framing_of}
use Rattle.ob_http_requests.specs.Head.{BeginsWithHead, IsCutHead, IsLongHead, IsNoHead}
use Rattle.ob_http_requests.specs.declared.framing.Method.{Method}
use Rattle.ob_http_requests.specs.declared.framing.Framing.{Framing}
use Rattle.ob_http_requests.specs.declared.framing.HeadRefusal.{HeadRefusal}
use Rattle.ob_http_requests.specs.declared.framing.HeadRefusal.TheVariants.{BadRequest, FieldsTooLarge}

-- the bytes begin with a head that asks this of this target, and after follows it
pub record StartsMessage (bytes : List ℕ) (framing : Framing) (target after : List ℕ) : Type 0 where
  pub head : RequestHead
  pub begins : BeginsWithHead bytes head after
  pub asks : framing_of head ≡ Ok framing
  pub of_target : head.target ≡ target

-- they begin with a head that is refused by this status
pub record StartsRefused (bytes : List ℕ) (status : HeadRefusal) : Type 0 where
  pub head : RequestHead
  pub after : List ℕ
  pub begins : BeginsWithHead bytes head after
  pub asks : framing_of head ≡ Err status

-- they are answered by this status: they begin no head, one that is too long, or one that is refused
abbrev pub IsRefused : List ℕ → HeadRefusal → Type 0
IsRefused bytes status =
    ((status ≡ BadRequest) × IsNoHead bytes) ⊎ ((status ≡ FieldsTooLarge) × IsLongHead bytes) ⊎ StartsRefused bytes status

-- a request: its method and target, its body, whether the client waits for an interim reply before it sends the body,
-- and whether the connection ends after the reply
pub record Message : Type 0 where
  pub method : Method
  pub target : List ℕ
  pub body : List ℕ
  pub waits : Bool
  pub closes : Bool

-- the path of a target: what stands before its query (RFC 3986, section 3.4)
abbrev pub path_of : List ℕ → List ℕ
path_of target = before_first (λ b. b == 63) target

-- what the head of the request asks
abbrev pub asked : Message → Framing
asked m = record { method = m.method; length = length m.body; waits = m.waits; closes = m.closes }

-- the bytes begin with this request, and rest follows it
pub record ReadsMessage (bytes : List ℕ) (m : Message) (rest : List ℕ) : Type 0 where
  pub after : List ℕ
  pub starts : StartsMessage bytes (asked m) m.target after
  pub body : after ≡ m.body ++ rest

-- they end inside a body
pub record IsCutBody (bytes : List ℕ) (framing : Framing) : Type 0 where
  pub target : List ℕ
  pub after : List ℕ
  pub starts : StartsMessage bytes framing target after
  pub short : length after < framing.length

-- they end inside a request
abbrev pub IsCut : List ℕ → Type 0
IsCut bytes = IsCutHead bytes ⊎ ((framing : Framing) × IsCutBody bytes framing)

-- ---- the same of bytes that may not be known

abbrev pub StartsKnown : Option (List ℕ) → Framing → List ℕ → Option (List ℕ) → Type 0
StartsKnown None framing target after = Unit {0}
StartsKnown (Some bytes) framing target None = ⊥
StartsKnown (Some bytes) framing target (Some after) = StartsMessage bytes framing target after

abbrev pub ReadsKnown : Option (List ℕ) → Message → Option (List ℕ) → Type 0
ReadsKnown None m rest = Unit {0}
ReadsKnown (Some bytes) m None = ⊥
ReadsKnown (Some bytes) m (Some rest) = ReadsMessage bytes m rest
