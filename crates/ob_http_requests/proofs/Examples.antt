-- Heads and what they ask, computed.
use Rattle.std.proofs.Common.{◌≡◌, ℕ, true, false, List, [], ◌∷◌, refl}
use Rattle.std.specs.Prelude.{Ok, Err, codes}
use Rattle.httparse.specs.Grammar.{RequestHead, Field, crlf, trim_ows}
use Rattle.ob_http_requests.specs.Fields.{elements}
use Rattle.ob_http_requests.specs.Framing.{framing_of}
use Rattle.ob_http_requests.specs.declared.framing.HeadRefusal.TheVariants.{BadRequest, NotImplemented, LengthRequired, PayloadTooLarge}
use Rattle.ob_http_requests.specs.declared.framing.Method.TheVariants.{Get, Post}

abbrev line : List ℕ → List ℕ → Field
line name raw = record { name = name; raw = raw; end = crlf }

abbrev host : Field
host = line (codes "Host") (codes " localhost")

-- a head of HTTP/1.1 with Host
abbrev head : List ℕ → List ℕ → List Field → RequestHead
head method target fields =
    record { blank = []; method = method; target = target; minor = 1; line_end = crlf; fields = host ∷ fields; last = crlf }

-- a command with a body of 49 bytes
pub a_post : framing_of (head (codes "POST") (codes "/commands") (line (codes "Content-Length") (codes " 49") ∷ []))
    ≡ Ok (record { method = Post; length = 49; waits = false; closes = false })
unfolding trim_ows elements
a_post = refl

-- names and options in any case, and an option in a list
pub a_get : framing_of (head (codes "GET") (codes "/totals?x=1") (line (codes "connection") (codes "keep-alive , CLOSE") ∷ []))
    ≡ Ok (record { method = Get; length = 0; waits = false; closes = true })
unfolding trim_ows elements
a_get = refl

-- a client that waits before it sends the body
pub a_waiting_post : framing_of (head (codes "POST") (codes "/import") (line (codes "Expect") (codes "100-Continue") ∷ line (codes "CONTENT-LENGTH") (codes "4194304 ") ∷ []))
    ≡ Ok (record { method = Post; length = 4_194_304; waits = true; closes = false })
unfolding trim_ows elements
a_waiting_post = refl

-- a length with a sign
pub a_signed_length : framing_of (head (codes "POST") (codes "/commands") (line (codes "Content-Length") (codes "+5") ∷ [])) ≡ Err BadRequest
unfolding trim_ows elements
a_signed_length = refl

-- two lengths, though they are the same
pub two_lengths : framing_of (head (codes "POST") (codes "/commands") (line (codes "Content-Length") (codes "5") ∷ line (codes "Content-Length") (codes "5") ∷ []))
    ≡ Err BadRequest
unfolding trim_ows elements
two_lengths = refl

-- two hosts, before a transfer coding is looked at
pub two_hosts : framing_of (head (codes "POST") (codes "/commands") (host ∷ line (codes "Transfer-Encoding") (codes "chunked") ∷ [])) ≡ Err BadRequest
unfolding trim_ows elements
two_hosts = refl

-- a transfer coding, before the method is looked at
pub a_coding : framing_of (head (codes "DELETE") (codes "/totals") (line (codes "Transfer-Encoding") (codes "chunked") ∷ [])) ≡ Err NotImplemented
unfolding trim_ows elements
a_coding = refl

-- a post without a length
pub no_length : framing_of (head (codes "POST") (codes "/commands") []) ≡ Err LengthRequired
unfolding trim_ows elements
no_length = refl

-- a length one past the bound
pub a_long_body : framing_of (head (codes "POST") (codes "/commands") (line (codes "Content-Length") (codes "4194305") ∷ [])) ≡ Err PayloadTooLarge
unfolding trim_ows elements
a_long_body = refl
