-- What a call read of a stream, by cases on its answer, from the bytes unread before it and after it.
use Rattle.std.specs.Prelude.{◌≡◌, ◌<◌, ◌⊎◌, ⊤, ℕ, List, [], length, Option, None, Some, IfSome, string_bytes, Vec}
use Rattle.std.specs.declared.alloc.Global.{Global}
use Rattle.std.specs.Io.KnownBytes.{Appends, Consumes, Keeps}
use Rattle.ob_base.specs.declared.stop.Fault.{Fault}
use Rattle.ob_base.specs.declared.stop.Fault.TheVariants.{OutOfMemory, Store, Reopen, Input, Output}
use Rattle.ob_stream.specs.Streams.{AppendsFront}
use Rattle.ob_stream.specs.Watching.{HasJustFailed}
use Rattle.ob_stream.specs.declared.watched.Watched.{Watched}
use Rattle.ob_http_requests.specs.Continue.{interim_text}
use Rattle.ob_http_requests.specs.Head.{IsCutHead, IsUnfinished}
use Rattle.ob_http_requests.specs.Message.{Message, IsCutBody, IsRefused, ReadsKnown, StartsKnown}
use Rattle.ob_http_requests.specs.declared.framing.Framing.{Framing}
use Rattle.ob_http_requests.specs.declared.start.Start.{Start}
use Rattle.ob_http_requests.specs.declared.start.Start.TheVariants as start
use Rattle.ob_http_requests.specs.declared.request.Request.{Request}
use Rattle.ob_http_requests.specs.declared.request.Next.{Next}
use Rattle.ob_http_requests.specs.declared.request.Next.TheVariants as next

-- how a stream goes on, up to a head
abbrev pub Starts : Option (List ℕ) → Option (List ℕ) → Start → Type 0
Starts had left (start.Head framing target) = StartsKnown had framing (string_bytes target) left
Starts had left (start.Refused status) = IfSome had (λ bytes. IsRefused bytes status)
Starts had left start.End = IfSome had (λ bytes. bytes ≡ [])
Starts had left start.Cut = IfSome had IsCutHead

-- the reader gave these bytes of a head that is not whole yet
abbrev pub StopsInHead : Option (List ℕ) → Option (List ℕ) → Type 0
StopsInHead had left = (gave : List ℕ) × Consumes had left gave × IsUnfinished gave

-- why no head was read: memory was refused, or the reader's last call failed inside it
abbrev pub IsHeadFault : {R : Type 0} → Option (List ℕ) → Option (List ℕ) → Watched R → Fault → Type 0
IsHeadFault had left reader OutOfMemory = ⊤
IsHeadFault had left reader Input = HasJustFailed reader × StopsInHead had left
IsHeadFault had left reader Store = ⊥
IsHeadFault had left reader Reopen = ⊥
IsHeadFault had left reader Output = ⊥

-- the next bytes as a body of this length, or that there are fewer
abbrev pub TakesBody : Option (List ℕ) → Option (List ℕ) → ℕ → Option (Vec ℕ Global) → Type 0
TakesBody had left size (Some body) = (length body.items ≡ size) × Consumes had left body.items
TakesBody had left size None = IfSome had (λ bytes. length bytes < size)

-- the request that was read
abbrev pub message_of : Request → Message
message_of r = record { method = r.method; target = string_bytes r.target; body = r.body.items; waits = r.waits; closes = r.closes }

-- known bytes begin with a head that asks this
abbrev pub AfterHead : Option (List ℕ) → (Framing → Type 0) → Type 0
AfterHead had P = (framing : Framing) × (target : List ℕ) × (left : Option (List ℕ)) × StartsKnown had framing target left × P framing

-- the reader gave fewer bytes than a body of this length has
abbrev pub StopsInBody : Option (List ℕ) → Option (List ℕ) → ℕ → Type 0
StopsInBody had left size = (gave : List ℕ) × Consumes had left gave × (length gave < size)

-- the reader gave no whole request: bytes of a head, or a head and less than its body
abbrev pub StopsInRequest : Option (List ℕ) → Option (List ℕ) → Type 0
StopsInRequest had left =
    StopsInHead had left
    ⊎ ((framing : Framing) × (target : List ℕ) × (after : Option (List ℕ)) × StartsKnown had framing target after × StopsInBody after left framing.length)

-- a head was taken, and nothing of its body
abbrev pub TakesHeadAlone : Option (List ℕ) → Option (List ℕ) → Type 0
TakesHeadAlone had left = (framing : Framing) × (target : List ℕ) × StartsKnown had framing target left

-- nothing was written, or the interim reply that the head waits for
abbrev pub WritesInterim : Option (List ℕ) → Option (List ℕ) → Option (List ℕ) → Type 0
WritesInterim had wrote writes = Keeps wrote writes ⊎ AfterHead had (λ framing. Appends wrote writes (interim_text framing.waits))

-- nothing was written before the reader gave a whole head, and then the interim reply that it waits for
abbrev pub WritesInTime : Option (List ℕ) → Option (List ℕ) → Option (List ℕ) → Option (List ℕ) → Type 0
WritesInTime had left wrote writes =
    (StopsInHead had left × Keeps wrote writes) ⊎ AfterHead had (λ framing. Appends wrote writes (interim_text framing.waits))

-- how a stream goes on, and what was written before a body
abbrev pub Reads : Option (List ℕ) → Option (List ℕ) → Option (List ℕ) → Option (List ℕ) → Next → Type 0
Reads had left wrote writes (next.Request r) = ReadsKnown had (message_of r) left × Appends wrote writes (interim_text r.waits)
Reads had left wrote writes (next.Refused status) = IfSome had (λ bytes. IsRefused bytes status) × Keeps wrote writes
Reads had left wrote writes next.End = IfSome had (λ bytes. bytes ≡ []) × Keeps wrote writes
Reads had left wrote writes next.Cut =
    (IfSome had IsCutHead × Keeps wrote writes)
    ⊎ ((framing : Framing) × IfSome had (λ bytes. IsCutBody bytes framing) × Appends wrote writes (interim_text framing.waits))

-- why no request was read, and what was written: memory was refused, the reader failed, or the writer did inside the
-- interim reply; left are the bytes that the reader has still to give
abbrev pub Stops : {R W : Type 0} → Option (List ℕ) → Option (List ℕ) → Option (List ℕ) → Option (List ℕ) → Watched R → Watched W → Fault → Type 0
Stops had left wrote writes reader writer OutOfMemory = WritesInterim had wrote writes
Stops had left wrote writes reader writer Input = HasJustFailed reader × WritesInTime had left wrote writes
Stops had left wrote writes reader writer Output = HasJustFailed writer × AfterHead had (λ framing. AppendsFront wrote writes (interim_text framing.waits))
Stops had left wrote writes reader writer Store = ⊥
Stops had left wrote writes reader writer Reopen = ⊥
