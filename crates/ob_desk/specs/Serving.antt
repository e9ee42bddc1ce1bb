-- The run of a stream: its requests and how it ends, what is written for them, and what then stands.
use Rattle.std.specs.Prelude.{◌≡◌, ◌⊎◌, ⊤, ℕ, ◌<◌, ◌≤◌, ◌+◌, ◌-◌, List, [], ◌++◌, length, take, Option, None, IfSome}
use Rattle.std.specs.Io.KnownBytes.{Appends}
use Rattle.ob_base.specs.declared.stop.Fault.{Fault}
use Rattle.ob_base.specs.declared.stop.Fault.TheVariants.{OutOfMemory, Store, Reopen, Input, Output}
use Rattle.ob_stream.specs.Watching.{HasJustFailed}
use Rattle.ob_stream.specs.declared.watched.Watched.{Watched}
use Rattle.ob_book.specs.Acts.{ActState}
use Rattle.ob_store.specs.Keepers.{Ghosts, book_of}
use Rattle.ob_store.specs.declared.keeper.Keeper.{Keeper}
use Rattle.ob_http_requests.specs.Continue.{interim_text}
use Rattle.ob_http_requests.specs.Head.{IsCutHead}
use Rattle.ob_http_requests.specs.Message.{Message, IsCut, IsCutBody, IsRefused, ReadsKnown}
use Rattle.ob_http_requests.specs.Reading.{AfterHead, StopsInHead}
use Rattle.ob_http_requests.specs.Stream.{AfterKnown, Requests, ends}
use Rattle.ob_http_requests.specs.declared.framing.Framing.{Framing}
use Rattle.ob_http_requests.specs.declared.framing.HeadRefusal.{HeadRefusal}
use Rattle.ob_desk.specs.Crashes.{IsActed, Outlasts}
use Rattle.ob_desk.specs.Exchanges.{AnswersAt, Replies, ending_count, ending_text, refusal_text, unavailable_text}
use Rattle.ob_desk.specs.Standing.{Over, Stands, LeftBy}

-- the part is a first one of the text, and lacks a byte at least
abbrev pub IsFront : List ℕ → List ℕ → Type 0
IsFront part text = (count : ℕ) × (count < length text) × (part ≡ take count text)

-- the part is all of the text, or a first one of it where the writer's last call failed
abbrev pub IsWritten : {W : Type 0} → Watched W → List ℕ → List ℕ → Type 0
IsWritten writer part text = (part ≡ text) ⊎ (IsFront part text × HasJustFailed writer)

-- of a request that was not read nothing is written, or the interim reply that its head waits for
abbrev pub WritesHead : Option (List ℕ) → List ℕ → Type 0
WritesHead rest part = (part ≡ []) ⊎ AfterHead rest (λ framing. part ≡ interim_text framing.waits)

-- nothing is written before the reader gave a whole head, and then the interim reply that it waits for
abbrev pub WritesSoFar : Option (List ℕ) → Option (List ℕ) → List ℕ → Type 0
WritesSoFar rest left part = (StopsInHead rest left × (part ≡ [])) ⊎ AfterHead rest (λ framing. part ≡ interim_text framing.waits)

-- the bytes end inside a head, and nothing is written of it; or inside a body, and the interim reply that its head waits for is
-- written
abbrev pub WritesCut : Option (List ℕ) → List ℕ → Type 0
WritesCut rest part =
    (IfSome rest IsCutHead × (part ≡ []))
    ⊎ ((framing : Framing) × IfSome rest (λ bytes. IsCutBody bytes framing) × (part ≡ interim_text framing.waits))

module _ {S T : Type 0} {g : Ghosts S} where
  -- memory was refused to a request that was not read; the state stays
  abbrev pub BreaksReading : Option (List ℕ) → List ℕ → Keeper S T g → Option ActState → Type 0
  BreaksReading rest part new x = WritesHead rest part × Stands new x

  -- no request was read, since the reader's last call failed or the bytes end inside it; the state stays
  abbrev pub BreaksInput : {R : Type 0} → Watched R → Option (List ℕ) → Option (List ℕ) → List ℕ → Keeper S T g → Option ActState → Type 0
  BreaksInput reader rest left part new x = ((HasJustFailed reader × WritesSoFar rest left part) ⊎ WritesCut rest part) × Stands new x

  -- a request was read and answered, and the state that it leaves stands; its interim reply is written, and less than the reply
  pub record BreaksReply (allowed : ℕ) (rest : Option (List ℕ)) (part : List ℕ) (new : Keeper S T g) (x : Option ActState) : Type 0 where
    pub message : Message
    pub left : Option (List ℕ)
    pub read : ReadsKnown rest message left
    pub reply : List ℕ
    pub next : Option ActState
    pub answers : AnswersAt x message (ends allowed message) reply next
    pub front : List ℕ
    pub less : IsFront front reply
    pub written : part ≡ interim_text message.waits ++ front
    pub stands : Stands new next

  -- what could not be written: the interim reply, the reply to bytes that are refused, or a reply
  abbrev pub BreaksWriting : ℕ → Option (List ℕ) → List ℕ → Keeper S T g → Option ActState → Type 0
  BreaksWriting allowed rest part new x =
      (AfterHead rest (λ framing. IsFront part (interim_text framing.waits)) × Stands new x)
      ⊎ ((refusal : HeadRefusal) × IfSome rest (λ bytes. IsRefused bytes refusal) × IsFront part (refusal_text refusal) × Stands new x)
      ⊎ BreaksReply allowed rest part new x

  -- a request was read and could not be answered; its interim reply is written, and that there is no service, whole but where
  -- the writer's last call failed
  pub record BreaksAnswer {W : Type 0} (writer : Watched W) (allowed : ℕ) (rest : Option (List ℕ)) (part : List ℕ) (new : Keeper S T g) (x : Option ActState) (fault : Fault) : Type 0 where
    pub message : Message
    pub left : Option (List ℕ)
    pub read : ReadsKnown rest message left
    pub front : List ℕ
    pub unavailable : IsWritten writer front unavailable_text
    pub written : part ≡ interim_text message.waits ++ front
    pub leaves : LeftBy new x message (ends allowed message) fault

  -- what is written of the last request where a fault ended the stream, and what then stands; left are the bytes that the reader
  -- has still to give
  abbrev pub Breaks : {R W : Type 0} → Watched R → Watched W → ℕ → Option (List ℕ) → Option (List ℕ) → List ℕ → Keeper S T g → Option ActState → Fault → Type 0
  Breaks reader writer allowed rest left part new x OutOfMemory = BreaksReading rest part new x ⊎ BreaksAnswer writer allowed rest part new x OutOfMemory
  Breaks reader writer allowed rest left part new x Store = BreaksAnswer writer allowed rest part new x Store
  Breaks reader writer allowed rest left part new x Reopen = BreaksAnswer writer allowed rest part new x Reopen
  Breaks reader writer allowed rest left part new x Input = BreaksInput reader rest left part new x
  Breaks reader writer allowed rest left part new x Output = BreaksWriting allowed rest part new x

  -- why a fault came: the reader has failed, or the stream ends inside a request; the writer has failed; there was no book
  abbrev pub HasCause : {R W : Type 0} → Option (List ℕ) → Watched R → Watched W → Keeper S T g → Fault → Type 0
  HasCause rest reader writer old OutOfMemory = ⊤
  HasCause rest reader writer old Store = ⊤
  HasCause rest reader writer old Reopen = book_of old ≡ None
  HasCause rest reader writer old Input = HasJustFailed reader ⊎ IfSome rest IsCut
  HasCause rest reader writer old Output = HasJustFailed writer

  -- A run: the stream is these requests and this ending. Each request was answered in its turn; what is written are the replies,
  -- one after the other, and that of the ending; and the state that the last one leaves stands, which is that of some commands.
  pub record Serves (stream had has : Option (List ℕ)) (old new : Keeper S T g) (replies : ℕ) : Type 0 where
    pub requests : List Message
    pub ending : Option HeadRefusal
    pub read : IfSome stream (λ bytes. Requests 1000 bytes requests ending)
    pub counted : replies ≡ length requests + ending_count ending
    pub most : length requests ≤ 1000
    pub answered : (x : Option ActState) → Over old new x
        → (text : List ℕ) × (y : Option ActState) × Replies 1000 x requests text y × Appends had has (text ++ ending_text ending) × Stands new y
        × IsActed x y

  -- A run that a fault ended: the first requests of the stream were answered, and their replies are written; of the next one
  -- a part is written, and what stands is what it left. A crash leaves the book after the requests that were answered, with
  -- the first of the commands of the one in work.
  pub record Fails {R W : Type 0} (stream left had has : Option (List ℕ)) (reader : Watched R) (writer : Watched W) (old new : Keeper S T g) (fault : Fault) : Type 0 where
    pub requests : List Message
    pub rest : Option (List ℕ)
    pub read : AfterKnown 1000 stream requests rest
    pub few : length requests < 1000
    pub cause : HasCause rest reader writer old fault
    pub answered : (x : Option ActState) → Over old new x
        → (text : List ℕ) × (part : List ℕ) × (y : Option ActState) × Replies 1000 x requests text y × Appends had has (text ++ part)
        × Breaks reader writer (1000 - length requests) rest left part new y fault × IsActed x y × Outlasts new y
