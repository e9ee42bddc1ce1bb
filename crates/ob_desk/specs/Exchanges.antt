-- What is written for the requests of a stream, one after the other.
use Rattle.std.specs.Prelude.{◌≡◌, ℕ, ◌-◌, Bool, true, List, [], ◌∷◌, ◌++◌, Option, None, Some}
use Rattle.ob_book.specs.Acts.{ActState}
use Rattle.ob_http_requests.specs.Continue.{interim_text}
use Rattle.ob_http_requests.specs.Message.{Message}
use Rattle.ob_http_requests.specs.Stream.{ends}
use Rattle.ob_http_requests.specs.declared.framing.HeadRefusal.{HeadRefusal}
use Rattle.ob_http_requests.specs.declared.framing.HeadRefusal.TheVariants as refusals
use Rattle.ob_http_replies.specs.declared.status.Status.{Status}
use Rattle.ob_http_replies.specs.declared.status.Status.TheVariants as statuses
use Rattle.ob_http_routes.specs.Answers.{Answer, Answers, answer_text, bookless, empty}

-- The answer to a request over a book, where there is one: the bytes of its reply, which tell whether the connection ends, and
-- the book after it. Without a book only what needs none is answered.
abbrev pub AnswersAt : Option ActState → Message → Bool → List ℕ → Option ActState → Type 0
AnswersAt (Some b) m closes reply (Some c) = (a : Answer) × Answers b m a c × (reply ≡ answer_text a closes)
AnswersAt (Some b) m closes reply None = ⊥
AnswersAt None m closes reply (Some c) = ⊥
AnswersAt None m closes reply None = (a : Answer) × (bookless m ≡ Some a) × (reply ≡ answer_text a closes)

-- The requests are answered in their order, where so many are still allowed: these bytes are written, interim replies among
-- them, and the book is left so.
abbrev pub Replies : ℕ → Option ActState → List Message → List ℕ → Option ActState → Type 0
Replies allowed x [] text y = (text ≡ []) × (x ≡ y)
Replies allowed x (m ∷ ms) text y =
    (reply : List ℕ) × (more : List ℕ) × (next : Option ActState) × AnswersAt x m (ends allowed m) reply next
    × (text ≡ interim_text m.waits ++ (reply ++ more)) × Replies (allowed - 1) next ms more y

-- the status that answers a head which is refused
abbrev pub head_status : HeadRefusal → Status
head_status refusals.BadRequest = statuses.BadRequest
head_status refusals.NotImplemented = statuses.NotImplemented
head_status refusals.LengthRequired = statuses.LengthRequired
head_status refusals.PayloadTooLarge = statuses.PayloadTooLarge
head_status refusals.FieldsTooLarge = statuses.RequestHeaderFieldsTooLarge

-- a reply without a body, after which the connection ends
abbrev pub last_text : Status → List ℕ
last_text status = answer_text (empty status) true

-- the reply to bytes that are refused
abbrev pub refusal_text : HeadRefusal → List ℕ
refusal_text refusal = last_text (head_status refusal)

-- the reply where a request can't be answered
abbrev pub unavailable_text : List ℕ
unavailable_text = last_text statuses.ServiceUnavailable

-- what is written after the last request
abbrev pub ending_text : Option HeadRefusal → List ℕ
ending_text None = []
ending_text (Some refusal) = refusal_text refusal

-- how many replies that is
abbrev pub ending_count : Option HeadRefusal → ℕ
ending_count None = 0
ending_count (Some refusal) = 1
