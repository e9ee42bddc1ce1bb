-- Which book a served stream makes of one.
use Rattle.std.specs.Prelude.{◌≡◌, ◌⊎◌, ⊤, ℕ, ◌+◌, ◌-◌, ◌<◌, Bool, List, [], ◌∷◌, ◌++◌, length, Option, Some, None, IfSome, Result, Ok, Err}
use Rattle.std.specs.Io.KnownBytes.{Appends}
use Rattle.ob_base.specs.declared.stop.Fault.{Fault}
use Rattle.ob_base.specs.declared.stop.Fault.TheVariants.{OutOfMemory, Store, Reopen, Input, Output}
use Rattle.ob_csv.specs.Rows.{rows_of}
use Rattle.ob_book.specs.Acts.{ActState, Referenced, Reply, act, answer}
use Rattle.ob_import.specs.Imports.{Import, Imports}
use Rattle.ob_http_requests.specs.Continue.{interim_text}
use Rattle.ob_http_requests.specs.Message.{Message, IsRefused, ReadsKnown, ReadsMessage, path_of}
use Rattle.ob_http_requests.specs.Reading.{AfterHead}
use Rattle.ob_http_requests.specs.Stream.{AfterKnown, Requests, ends}
use Rattle.ob_http_requests.specs.declared.framing.HeadRefusal.{HeadRefusal}
use Rattle.ob_http_requests.specs.declared.framing.Method.{Method}
use Rattle.ob_http_requests.specs.declared.framing.Method.TheVariants.{Get, Post}
use Rattle.ob_http_replies.specs.declared.status.Status.TheVariants as statuses
use Rattle.ob_http_routes.specs.Answering.{body_rows}
use Rattle.ob_http_routes.specs.Answers.{Answer, Answers, SaysCommand, answer_text, bookless}
use Rattle.ob_http_routes.specs.Routes.{route_of}
use Rattle.ob_http_routes.specs.declared.routes.Route.{Route}
use Rattle.ob_http_routes.specs.declared.routes.Route.TheVariants as routes
use Rattle.ob_desk.specs.Exchanges.{AnswersAt, Replies, ending_count, ending_text, refusal_text, unavailable_text}
use Rattle.ob_desk.specs.Serving.{IsFront, WritesHead}
use Rattle.ob_desk.specs.declared.stream.Served.{Served}
use Rattle.ob_lists.specs.Importing.{BreaksOff}

-- what is known of the bytes of a stream, and of those that were written before it was served and after it; and how it ended
pub record Stream : Type 0 where
  pub bytes : Option (List ℕ)
  pub had : Option (List ℕ)
  pub has : Option (List ℕ)
  pub ended : Result Served Fault

-- What memory that was refused in place of an answer leaves of a book: the book; that with the command whose reply couldn't be
-- made; or with the first rows of an import, or all that it did, where its report couldn't be made.
abbrev pub LeavesShort : ActState → Method → Option Route → List ℕ → ActState → Type 0
LeavesShort b method None body x = ⊥
LeavesShort b Get (Some route) body x = x ≡ b
LeavesShort b Post (Some routes.Commands) body x = (x ≡ b) ⊎ ((a : Referenced) × SaysCommand body a × (x ≡ act b a))
LeavesShort b Post (Some routes.Import) body x =
    ((added : ℕ) × (again : ℕ) × BreaksOff b (body_rows body) OutOfMemory added again x)
    ⊎ ((i : Import) × Imports b (rows_of body) i × (x ≡ i.state))
LeavesShort b Post (Some routes.Plan) body x = x ≡ b
LeavesShort b Post (Some (routes.Command number)) body x = ⊥
LeavesShort b Post (Some (routes.View view)) body x = ⊥

-- What a fault of the store leaves of it: the book; that with the command; or with the first rows of an import, and perhaps the
-- next.
abbrev pub LeavesLost : ActState → Method → Option Route → List ℕ → ActState → Type 0
LeavesLost b method None body x = ⊥
LeavesLost b Get (Some route) body x = x ≡ b
LeavesLost b Post (Some routes.Commands) body x = (a : Referenced) × SaysCommand body a × ((x ≡ b) ⊎ (x ≡ act b a))
LeavesLost b Post (Some routes.Import) body x = (added : ℕ) × (again : ℕ) × BreaksOff b (body_rows body) Store added again x
LeavesLost b Post (Some routes.Plan) body x = ⊥
LeavesLost b Post (Some (routes.Command number)) body x = ⊥
LeavesLost b Post (Some (routes.View view)) body x = ⊥

-- what a fault leaves of a book that kept a request from its answer; that there is none to answer from leaves all
abbrev pub LeavesUnanswered : ActState → Message → Fault → ActState → Type 0
LeavesUnanswered b m OutOfMemory x = LeavesShort b m.method (route_of (path_of m.target)) m.body x
LeavesUnanswered b m Store x = LeavesLost b m.method (route_of (path_of m.target)) m.body x
LeavesUnanswered b m Reopen x = (bookless m ≡ None) × (x ≡ b)
LeavesUnanswered b m Input x = ⊥
LeavesUnanswered b m Output x = ⊥

-- a request was read, and a fault kept it from its answer; its interim reply is written, and that there is no service, or a part
-- of that
pub record IsUnanswered (rest : Option (List ℕ)) (part : List ℕ) (b : ActState) (fault : Fault) (x : ActState) : Type 0 where
  pub message : Message
  pub left : Option (List ℕ)
  pub read : ReadsKnown rest message left
  pub front : List ℕ
  pub unavailable : (front ≡ unavailable_text) ⊎ IsFront front unavailable_text
  pub written : part ≡ interim_text message.waits ++ front
  pub leaves : LeavesUnanswered b message fault x

-- a request was read and answered, which left this book; its interim reply is written, and less than its reply
pub record IsUnwritten (allowed : ℕ) (rest : Option (List ℕ)) (part : List ℕ) (b x : ActState) : Type 0 where
  pub message : Message
  pub left : Option (List ℕ)
  pub read : ReadsKnown rest message left
  pub reply : List ℕ
  pub answers : AnswersAt (Some b) message (ends allowed message) reply (Some x)
  pub front : List ℕ
  pub less : IsFront front reply
  pub written : part ≡ interim_text message.waits ++ front

-- What a fault leaves of the book that answered the requests before it, where so many are still allowed, and what is written of the
-- one in work. A fault of input leaves the book, and so does one of output but where the reply to an answered request couldn't be
-- written.
abbrev pub BreaksStream : ℕ → Option (List ℕ) → List ℕ → ActState → Fault → ActState → Type 0
BreaksStream allowed rest part b OutOfMemory x = (WritesHead rest part × (x ≡ b)) ⊎ IsUnanswered rest part b OutOfMemory x
BreaksStream allowed rest part b Store x = IsUnanswered rest part b Store x
BreaksStream allowed rest part b Reopen x = IsUnanswered rest part b Reopen x
BreaksStream allowed rest part b Input x = WritesHead rest part × (x ≡ b)
BreaksStream allowed rest part b Output x =
    (AfterHead rest (λ framing. IsFront part (interim_text framing.waits)) × (x ≡ b))
    ⊎ ((refusal : HeadRefusal) × IfSome rest (λ bytes. IsRefused bytes refusal) × IsFront part (refusal_text refusal) × (x ≡ b))
    ⊎ IsUnwritten allowed rest part b x

-- What follows the answered requests of a stream, which left a book. At its end they are all, and with the ending as many as are
-- counted; what is written then is the reply to the ending. A fault comes in the next request.
abbrev pub EndsStream : Option (List ℕ) → List Message → List ℕ → ActState → Result Served Fault → ActState → Type 0
EndsStream bytes requests part b (Ok done) x =
    (ending : Option HeadRefusal) × IfSome bytes (λ bytes. Requests 1000 bytes requests ending)
    × (done.requests ≡ length requests + ending_count ending) × (part ≡ ending_text ending) × (x ≡ b)
EndsStream bytes requests part b (Err fault) x =
    (rest : Option (List ℕ)) × AfterKnown 1000 bytes requests rest × (length requests < 1000)
    × BreaksStream (1000 - length requests) rest part b fault x

-- the book answered the first requests of a stream, each in its turn, and the replies were written; what followed left the other
pub record AnswersStream (b : ActState) (s : Stream) (x : ActState) : Type 0 where
  pub requests : List Message
  pub text : List ℕ
  pub part : List ℕ
  pub book : ActState
  pub answered : Replies 1000 (Some b) requests text (Some book)
  pub written : Appends s.had s.has (text ++ part)
  pub ends : EndsStream s.bytes requests part book s.ended x

-- the book answers the command with a reply
abbrev pub IsAnswered : ActState → Referenced → Type 0
IsAnswered b a = (reply : Reply) × (answer b a ≡ Ok reply)

-- the request posts this command
abbrev pub Posts : Message → Referenced → Type 0
Posts m a = (m.method ≡ Post) × (route_of (path_of m.target) ≡ Some routes.Commands) × SaysCommand m.body a

-- one of these requests, which the book answers in their turn, posts this command, and its answer is a reply
abbrev pub Accepts : ActState → List Message → Referenced → Type 0
Accepts b [] a = ⊥
Accepts b (m ∷ ms) a = (Posts m a × IsAnswered b a) ⊎ ((said : Answer) × (c : ActState) × Answers b m said c × Accepts c ms a)

-- a client sent these requests first, one after the other
abbrev pub Sends : List ℕ → List Message → Type 0
Sends bytes [] = ⊤
Sends bytes (m ∷ ms) = (rest : List ℕ) × ReadsMessage bytes m rest × Sends rest ms

-- the bytes are whole replies to these requests, one after the other, each after the interim reply that its client waits for; and
-- the reply to one that posts this command has the status 200
abbrev pub Acknowledges : List Message → List ℕ → Referenced → Type 0
Acknowledges [] text a = ⊥
Acknowledges (m ∷ ms) text a =
    (said : Answer) × (closes : Bool) × (more : List ℕ) × (text ≡ interim_text m.waits ++ (answer_text said closes ++ more))
    × ((Posts m a × (said.status ≡ statuses.Ok)) ⊎ Acknowledges ms more a)
