-- What a request's head asks: its method, the length of its body, whether the client waits for an interim reply,
-- and whether the connection ends after the reply; or the status that refuses it.
use Rattle.std.specs.Prelude.{ℕ, ◌==◌, Bool, true, false, not, ◌&&◌, ◌||◌, List, [], ◌∷◌, map, length, Option, Some, None, Result, Ok, Err, if◌then◌else◌, nat_lt, bytes_eq, codes}
use Rattle.httparse.specs.Grammar.{RequestHead}
use Rattle.httparse.specs.Spans.{name_and_value}
use Rattle.ob_base.specs.Fields.{number_in}
use Rattle.ob_http_requests.specs.Fields.{Field, values_of, says, lists}
use Rattle.ob_http_requests.specs.declared.framing.Method.{Method}
use Rattle.ob_http_requests.specs.declared.framing.Method.TheVariants.{Get, Post}
use Rattle.ob_http_requests.specs.declared.framing.Framing.{Framing}
use Rattle.ob_http_requests.specs.declared.framing.HeadRefusal.{HeadRefusal}
use Rattle.ob_http_requests.specs.declared.framing.HeadRefusal.TheVariants.{BadRequest, NotImplemented, LengthRequired, PayloadTooLarge, FieldsTooLarge}

-- the most field lines of a head
abbrev pub most_fields : ℕ
most_fields = 64

-- the most bytes of a body
abbrev pub body_bound : ℕ
body_bound = 4_194_304

-- a step that refuses, or goes on
abbrev pub unless : {A : Type 0} → Bool → HeadRefusal → Result A HeadRefusal → Result A HeadRefusal
unless refuses refusal rest = if refuses then Err refusal else rest

-- the target is in origin form (RFC 9112, section 3.2.1): it begins with a slash
abbrev pub is_origin_form : List ℕ → Bool
is_origin_form [] = false
is_origin_form (b ∷ target) = b == 47

-- HTTP/1.1 has one Host, and HTTP/1.0 one or none (RFC 9112, section 3.2)
abbrev pub hosts_fit : ℕ → List (List ℕ) → Bool
hosts_fit minor [] = minor == 0
hosts_fit minor (host ∷ []) = true
hosts_fit minor (host ∷ other ∷ more) = false

abbrev pub is_empty : List (List ℕ) → Bool
is_empty [] = true
is_empty (value ∷ values) = false

-- the length that a Content-Length writes: 1 to 15 digits
abbrev pub length_in : List ℕ → Option ℕ
length_in value = number_in 15 0 999_999_999_999_999 value

-- a length, or no answer
abbrev pub length_or_refusal : Option ℕ → Result (Option ℕ) HeadRefusal
length_or_refusal None = Err BadRequest
length_or_refusal (Some n) = Ok (Some n)

-- the length that the Content-Length fields say: none where there is no field, else that of the only one
abbrev pub content_length : List (List ℕ) → Result (Option ℕ) HeadRefusal
content_length [] = Ok None
content_length (value ∷ []) = length_or_refusal (length_in value)
content_length (value ∷ other ∷ more) = Err BadRequest

-- the methods that are known
abbrev pub method_of : List ℕ → Option Method
method_of method = if bytes_eq method (codes "GET") then Some Get else (if bytes_eq method (codes "POST") then Some Post else None)

-- the method, and the body's length by the Content-Length
abbrev pub body_length : Option Method → Option ℕ → Result (Method × ℕ) HeadRefusal
body_length None length = Err NotImplemented
body_length (Some Get) None = Ok (Get, 0)
body_length (Some Post) None = Err LengthRequired
body_length (Some method) (Some n) = if nat_lt body_bound n then Err PayloadTooLarge else Ok (method, n)

-- HTTP/1.1 with Expect: 100-continue, and a body to come (RFC 9110, section 10.1.1)
abbrev pub waits : ℕ → ℕ → List Field → Bool
waits minor length fields = minor == 1 && (nat_lt 0 length && says (codes "100-continue") (values_of (codes "expect") fields))

-- HTTP/1.0, or a Connection that lists close (RFC 9112, section 9.3)
abbrev pub closes : ℕ → List Field → Bool
closes minor fields = minor == 0 || lists (codes "close") (values_of (codes "connection") fields)

infixl 10 ◌>>=◌
abbrev pub ◌>>=◌ : {A B : Type 0} → Result A HeadRefusal → (A → Result B HeadRefusal) → Result B HeadRefusal
(Ok x) >>= f = f x
(Err e) >>= f = Err e

-- the checks of a head, in the order in which they refuse
abbrev pub framing_by : List ℕ → List ℕ → ℕ → List Field → Result Framing HeadRefusal
framing_by method target minor fields =
    unless (nat_lt most_fields (length fields)) FieldsTooLarge
    (unless (not (is_origin_form target)) BadRequest
    (unless (not (hosts_fit minor (values_of (codes "host") fields))) BadRequest
    (unless (not (is_empty (values_of (codes "transfer-encoding") fields))) NotImplemented
    (content_length (values_of (codes "content-length") fields) >>= λ length.
    body_length (method_of method) length >>= λ found.
    Ok (record {
      method = found.0;
      length = found.1;
      waits = waits minor found.1 fields;
      closes = closes minor fields;
    })))))

-- what the head asks
abbrev pub framing_of : RequestHead → Result Framing HeadRefusal
framing_of head = framing_by head.method head.target head.minor (map name_and_value head.fields)
