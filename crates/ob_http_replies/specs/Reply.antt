-- The bytes of a reply, RFC 9112, sections 4 to 6: each line of its head ends with CRLF.
use Rattle.std.specs.Prelude.{ℕ, Bool, true, false, List, [], ◌∷◌, ◌++◌, length, codes, decimal}
use Rattle.http.specs.StatusCode.{status_text}
use Rattle.ob_http_replies.specs.Status.{status_code}
use Rattle.ob_http_replies.specs.declared.reply.MediaType.{MediaType}
use Rattle.ob_http_replies.specs.declared.reply.MediaType.TheVariants as types
use Rattle.ob_http_replies.specs.declared.status.Allow.TheVariants.{Get, Post}
use Rattle.ob_http_replies.specs.declared.status.Status.{Status}
use Rattle.ob_http_replies.specs.declared.status.Status.TheVariants as statuses

abbrev pub crlf : List ℕ
crlf = 13 ∷ 10 ∷ []

-- `HTTP/1.1 <code> <phrase>`
unfoldable pub status_line : Status → List ℕ
status_line status = codes "HTTP/1.1 " ++ (status_text (status_code status) ++ crlf)

-- the name of a media type
abbrev pub type_name : MediaType → List ℕ
type_name types.Json = codes "application/json"
type_name types.PlainText = codes "text/plain"

-- the body's type, where there is a body
unfoldable pub content_type : MediaType → List ℕ → List ℕ
content_type media [] = []
content_type media (byte ∷ body) = codes "Content-Type: " ++ (type_name media ++ crlf)

unfoldable pub content_length : List ℕ → List ℕ
content_length body = codes "Content-Length: " ++ (decimal (length body) ++ crlf)

-- the method that the route takes, where the status is that another isn't allowed
unfoldable pub allow : Status → List ℕ
allow (statuses.MethodNotAllowed Get) = codes "Allow: GET" ++ crlf
allow (statuses.MethodNotAllowed Post) = codes "Allow: POST" ++ crlf
allow _ = []

-- the field, where the stream ends after the reply
unfoldable pub connection : Bool → List ℕ
connection false = []
connection true = codes "Connection: close" ++ crlf

-- the head and the body, with an empty line between them
abbrev pub reply_text : Status → MediaType → List ℕ → Bool → List ℕ
reply_text status media body closes =
    status_line status ++ content_type media body ++ content_length body ++ allow status ++ connection closes ++ crlf ++ body
