-- One turn of a stream: a request is read and answered, or the stream ends.
use Rattle.std.specs.Prelude.{◌≡◌, ⊤, ℕ, Bool, List, [], ◌++◌, Option, None, IfSome}
use Rattle.std.specs.Io.KnownBytes.{Appends, Keeps}
use Rattle.ob_base.specs.declared.stop.Fault.{Fault}
use Rattle.ob_base.specs.declared.stop.Fault.TheVariants.{OutOfMemory, Store, Reopen, Input, Output}
use Rattle.ob_stream.specs.Streams.{AppendsFront}
use Rattle.ob_stream.specs.Watching.{HasJustFailed}
use Rattle.ob_stream.specs.declared.watched.Watched.{Watched}
use Rattle.ob_book.specs.Acts.{ActState}
use Rattle.ob_store.specs.Keepers.{Ghosts, book_of}
use Rattle.ob_store.specs.declared.keeper.Keeper.{Keeper}
use Rattle.ob_http_requests.specs.Continue.{interim_text}
use Rattle.ob_http_requests.specs.Message.{Message, IsRefused, ReadsKnown}
use Rattle.ob_http_requests.specs.Stream.{ends}
use Rattle.ob_http_requests.specs.declared.framing.HeadRefusal.{HeadRefusal}
use Rattle.ob_desk.specs.Exchanges.{AnswersAt, refusal_text, unavailable_text}
use Rattle.ob_desk.specs.Serving.{Breaks, HasCause, IsWritten}
use Rattle.ob_desk.specs.Standing.{Over, Stands, LeftBy}
use Rattle.ob_desk.specs.declared.turn.Turn.{Turn}
use Rattle.ob_desk.specs.declared.turn.Turn.TheVariants as turns

module _ {S T : Type 0} {g : Ghosts S} where
  -- ---- one turn: from the bytes unread before it and the bytes written to those after it

  -- a request was read and answered, its whole reply is written, and the state that it leaves stands
  pub record TurnAnswers (allowed : ℕ) (unread left had has : Option (List ℕ)) (old new : Keeper S T g) (ended : Bool) : Type 0 where
    pub message : Message
    pub read : ReadsKnown unread message left
    pub last : ended ≡ ends allowed message
    pub answered : (x : Option ActState) → Over old new x
        → (reply : List ℕ) × (y : Option ActState) × AnswersAt x message ended reply y × Appends had has (interim_text message.waits ++ reply) × Stands new y

  -- how a turn went
  abbrev pub TurnIs : ℕ → Option (List ℕ) → Option (List ℕ) → Option (List ℕ) → Option (List ℕ) → Keeper S T g → Keeper S T g → Turn → Type 0
  TurnIs allowed unread left had has old new (turns.Answered ended) = TurnAnswers allowed unread left had has old new ended
  TurnIs allowed unread left had has old new turns.Refused =
      (refusal : HeadRefusal) × IfSome unread (λ bytes. IsRefused bytes refusal) × Appends had has (refusal_text refusal) × (new ≡ old)
  TurnIs allowed unread left had has old new turns.Closed = IfSome unread (λ bytes. bytes ≡ []) × Keeps had has × (new ≡ old)

  -- ---- one answer: from the bytes written before it to those after it

  -- the request was answered and its whole reply is written, and the state that it leaves stands
  abbrev pub IsAnswered : Option (List ℕ) → Option (List ℕ) → Keeper S T g → Keeper S T g → Message → Bool → Type 0
  IsAnswered had has old new m ends =
      (x : Option ActState) → Over old new x → (reply : List ℕ) × (y : Option ActState) × AnswersAt x m ends reply y × Appends had has reply × Stands new y

  -- its reply could not be written whole, or it could not be answered
  abbrev pub IsUnanswered : {W : Type 0} → Watched W → Option (List ℕ) → Option (List ℕ) → Keeper S T g → Keeper S T g → Message → Bool → Fault → Type 0
  IsUnanswered writer had has old new m ends Output =
      (x : Option ActState) → Over old new x → (reply : List ℕ) × (y : Option ActState) × AnswersAt x m ends reply y × AppendsFront had has reply × Stands new y
  IsUnanswered writer had has old new m ends fault =
      (x : Option ActState) → Over old new x
      → (front : List ℕ) × IsWritten writer front unavailable_text × Appends had has front × LeftBy new x m ends fault

  -- why it could not
  abbrev pub HasAnswerCause : {W : Type 0} → Watched W → Keeper S T g → Fault → Type 0
  HasAnswerCause writer old OutOfMemory = ⊤
  HasAnswerCause writer old Store = ⊤
  HasAnswerCause writer old Reopen = book_of old ≡ None
  HasAnswerCause writer old Input = ⊥
  HasAnswerCause writer old Output = HasJustFailed writer

  -- a fault ended a turn; left are the bytes that the reader has still to give
  pub record TurnFails {R W : Type 0} (allowed : ℕ) (unread left had has : Option (List ℕ)) (reader : Watched R) (writer : Watched W) (old new : Keeper S T g) (fault : Fault) : Type 0 where
    pub cause : HasCause unread reader writer old fault
    pub broken : (x : Option ActState) → Over old new x → (part : List ℕ) × Appends had has part × Breaks reader writer allowed unread left part new x fault
