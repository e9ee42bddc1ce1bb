-- What an answer makes of a keeper, by cases on the reply or the fault.
use Rattle.std.specs.Prelude.{◌≡◌, ◌↔◌, ◌⊎◌, ℕ, ⊤, Bool, List, [], Option, Some, None, IsSome, IfSome, Result, Ok, Err, IfErr, unwrap_or}
use Rattle.ob_base.specs.declared.stop.Fault.{Fault}
use Rattle.ob_base.specs.declared.stop.Fault.TheVariants.{OutOfMemory, Store, Reopen}
use Rattle.ob_book.specs.Acts.{ActState, Referenced, act, answer}
use Rattle.ob_store.specs.Calls.{IfHeld, TellsFaults, WasClean}
use Rattle.ob_store.specs.Keepers.{Ghosts, Stores, StoresEither, Ties, book_of}
use Rattle.ob_store.specs.declared.keeper.Keeper.{Keeper}
use Rattle.ob_csv.specs.Rows.{Fields, rows_of}
use Rattle.ob_import.specs.Imports.{Import, Imports, after_header}
use Rattle.ob_import.specs.Reports.{HoldsFirst, LosesNext}
use Rattle.ob_http_requests.specs.Message.{Message, path_of}
use Rattle.ob_http_requests.specs.declared.framing.Method.{Method}
use Rattle.ob_http_requests.specs.declared.framing.Method.TheVariants as methods
use Rattle.ob_http_routes.specs.Answers.{Answer, RouteAnswers, SaysCommand, answer_text, outcome}
use Rattle.ob_http_routes.specs.Routes.{route_of}
use Rattle.ob_http_routes.specs.declared.reply.ReplyText.{ReplyText}
use Rattle.ob_http_routes.specs.declared.reply.ReplyText.TheVariants as texts
use Rattle.ob_http_routes.specs.declared.routes.Route.{Route}
use Rattle.ob_http_routes.specs.declared.routes.Route.TheVariants as routes

-- the bytes of a reply
abbrev pub text_bytes : ReplyText → List ℕ
text_bytes (texts.Constant text) = text.now
text_bytes (texts.Made text) = text.items

-- the bytes of the reply of this answer, or memory was refused
abbrev pub Makes : Answer → Bool → Result ReplyText Fault → Type 0
Makes a closes (Ok text) = text_bytes text ≡ answer_text a closes
Makes a closes (Err fault) = fault ≡ OutOfMemory

-- the reply of this answer was made, whatever the memory
abbrev pub IsReplyOf : Answer → Bool → Result ReplyText Fault → Type 0
IsReplyOf a closes (Ok text) = text_bytes text ≡ answer_text a closes
IsReplyOf a closes (Err fault) = ⊥

-- where there is no book: the answer that needs none, or the book is to be opened first
abbrev pub Unopened : Option Answer → Bool → Result ReplyText Fault → Type 0
Unopened None closes result = result ≡ Err Reopen
Unopened (Some a) closes result = IsReplyOf a closes result

-- why a request isn't answered over a book: memory was refused, or the store failed
abbrev pub IsAnswerFault : Fault → Type 0
IsAnswerFault OutOfMemory = ⊤
IsAnswerFault Store = ⊤
IsAnswerFault fault = ⊥

-- the rows of a body after its header
abbrev pub body_rows : List ℕ → List Fields
body_rows body = unwrap_or (after_header (rows_of body)) []

module _ {S T : Type 0} {g : Ghosts S} where
  -- this is the answer, and the state stays; after a fault of the store there is no book
  abbrev pub Gives : Keeper S T g → ActState → Answer → Bool → Result ReplyText Fault → Type 0
  Gives new b a closes (Ok text) = (text_bytes text ≡ answer_text a closes) × Ties new b
  Gives new b a closes (Err OutOfMemory) = Ties new b
  Gives new b a closes (Err Store) = Stores new b × (book_of new ≡ None)
  Gives new b a closes (Err fault) = ⊥

  -- the answer is the book's to this command: memory may be refused before the command or after it, and after a fault of the
  -- store a crash leaves the book as it was or with the command
  abbrev pub ActGives : Keeper S T g → ActState → Referenced → Bool → Result ReplyText Fault → Type 0
  ActGives new b x closes (Ok text) = (text_bytes text ≡ answer_text (outcome (answer b x)) closes) × Ties new (act b x)
  ActGives new b x closes (Err OutOfMemory) = Ties new b ⊎ Ties new (act b x)
  ActGives new b x closes (Err Store) = StoresEither new b (act b x) × (book_of new ≡ None)
  ActGives new b x closes (Err fault) = ⊥

  -- what stands where memory was refused: the state before, as after each plan; or with the command whose reply couldn't be made;
  -- or with the first rows of an import, or all that it did, where its report couldn't be made
  abbrev pub StandsShort : Keeper S T g → ActState → Method → Option Route → List ℕ → Type 0
  StandsShort new b method None body = ⊥
  StandsShort new b methods.Get (Some route) body = Ties new b
  StandsShort new b methods.Post (Some routes.Commands) body = Ties new b ⊎ ((x : Referenced) × SaysCommand body x × Ties new (act b x))
  StandsShort new b methods.Post (Some routes.Import) body =
      ((added : ℕ) × (again : ℕ) × HoldsFirst new b (body_rows body) added again)
      ⊎ ((i : Import) × Imports b (rows_of body) i × Ties new i.state)
  StandsShort new b methods.Post (Some routes.Plan) body = Ties new b
  StandsShort new b methods.Post (Some (routes.Command number)) body = ⊥
  StandsShort new b methods.Post (Some (routes.View view)) body = ⊥

  -- what a fault of the store leaves, and what a crash then leaves of it: the state as it was; or with the command; or with the
  -- first rows of an import, and perhaps the next; a plan has no such fault
  abbrev pub StandsLost : Keeper S T g → ActState → Method → Option Route → List ℕ → Type 0
  StandsLost new b method None body = ⊥
  StandsLost new b methods.Get (Some route) body = Stores new b × (book_of new ≡ None)
  StandsLost new b methods.Post (Some routes.Commands) body =
      (x : Referenced) × SaysCommand body x × StoresEither new b (act b x) × (book_of new ≡ None)
  StandsLost new b methods.Post (Some routes.Import) body = (added : ℕ) × (again : ℕ) × LosesNext new b (body_rows body) added again
  StandsLost new b methods.Post (Some routes.Plan) body = ⊥
  StandsLost new b methods.Post (Some (routes.Command number)) body = ⊥
  StandsLost new b methods.Post (Some (routes.View view)) body = ⊥

  -- the reply is that of the answer to a method at a route, whose next state then stands; or what the fault leaves stands
  abbrev pub RouteAnswered : Keeper S T g → ActState → Method → Option Route → List ℕ → Bool → Result ReplyText Fault → Type 0
  RouteAnswered new b method route body closes (Ok text) =
      (a : Answer) × (c : ActState) × RouteAnswers b method route body a c × (text_bytes text ≡ answer_text a closes) × Ties new c
  RouteAnswered new b method route body closes (Err OutOfMemory) = StandsShort new b method route body
  RouteAnswered new b method route body closes (Err Store) = StandsLost new b method route body
  RouteAnswered new b method route body closes (Err fault) = ⊥

  -- the same of a request
  abbrev pub Answered : Keeper S T g → ActState → Message → Bool → Result ReplyText Fault → Type 0
  Answered new b m closes result = RouteAnswered new b m.method (route_of (path_of m.target)) m.body closes result

  -- a part of the desk over a keeper: the answer that needs no book, where there is one, is given and nothing changes; where
  -- there is no book nothing changes either; over one, what is owed of the state that the keeper is tied to
  pub record Serves (old new : Keeper S T g) (owed : ActState → Type 0) (plain : Option Answer) (closes : Bool) (result : Result ReplyText Fault) : Type 0 where
    pub constant : IfSome plain (λ a. IsReplyOf a closes result × (new ≡ old))
    pub unopened : book_of old ≡ None → (new ≡ old) × Unopened plain closes result
    pub faults : IsSome (book_of old) → IfErr result IsAnswerFault
    pub dropped : IsSome (book_of old) → (book_of new ≡ None) ↔ (result ≡ Err Store)
    pub clean : WasClean old new
    pub answered : IfHeld old new owed
    pub tells : TellsFaults old new (result ≡ Err Store)
