-- A command whose acceptance was written is in the book.
use Rattle.std.proofs.Common.{◌≡◌, ◌≢◌, ◌⊎◌, inl, inr, ℕ, zero, suc, ◌-◌, ◌<◌, ◌≤◌, ◌^◌, ◌++◌, Bool, true, false, List, [], ◌∷◌, length, Option, Some, None, Result, Ok, Err, refl, sym, ap, subst, ◌∙◌, arith, append_assoc, append-nil, length-append}
use Rattle.std.specs.Prelude.{drop}
use Rattle.std.specs.Bool.{MatchBool}
use Rattle.std.specs.Io.KnownBytes.{Appends}
use Rattle.std.proofs.lemmas.List.{append_cancel_left, take-append-drop}
use Rattle.ob_base.specs.declared.stop.Fault.{Fault}
use Rattle.ob_base.specs.declared.stop.Fault.TheVariants.{OutOfMemory, Store, Reopen, Input, Output}
use Rattle.ob_base.specs.declared.stop.Refusal.{Refusal}
use Rattle.ob_base.specs.declared.stop.Refusal.TheVariants.{BadField, UnknownName, NameTaken, OutOfPeriod, UnknownEntry, Stale, Withdrawn, UnknownCustomer, BadService, RefConflict, Full, MarkedAlready, NotMarked, UnknownCause, BadPeriod, BadBook, BadLife, OldVersion}
use Rattle.ob_book.specs.Acts.{ActState, Referenced, Reply, act, answer}
use Rattle.ob_http_requests.specs.Continue.{continue_text, interim_text}
use Rattle.ob_http_requests.specs.Laws.{OneRequest}
use Rattle.ob_http_requests.specs.Message.{Message, ReadsKnown, ReadsMessage}
use Rattle.ob_http_requests.specs.Stream.{After, AfterKnown, Requests, ends}
use Rattle.ob_http_requests.specs.declared.framing.HeadRefusal.{HeadRefusal}
use Rattle.ob_http_requests.specs.declared.framing.HeadRefusal.TheVariants as heads
use Rattle.ob_http_replies.specs.Reply.{allow, connection, content_length, content_type, crlf, status_line}
use Rattle.ob_http_replies.specs.Status.{refusal_status, status_code}
use Rattle.ob_http_replies.specs.declared.status.Status.{Status}
use Rattle.ob_http_replies.specs.declared.status.Status.TheVariants as statuses
use Rattle.ob_http_routes.specs.Answers.{Answer, Answers, RequestsAreAnsweredOneThing, answer_text, empty, outcome}
use Rattle.ob_desk.specs.Exchanges.{Replies, ending_text, head_status, refusal_text, unavailable_text}
use Rattle.ob_desk.specs.Serving.{IsFront, WritesHead}
use Rattle.ob_desk.specs.declared.stream.Served.{Served}
use Rattle.ob_lists.specs.Going.{Holds, WrittenLaw}
use Rattle.ob_lists.specs.Standing.{acknowledged, doubted, imported, served, streamed}
use Rattle.ob_lists.specs.Streaming.{Acknowledges, AnswersStream, BreaksStream, EndsStream, IsUnanswered, IsUnwritten, Posts, Sends, Stream}
use Rattle.ob_lists.proofs.Replies.{code_at, code_of_reply, one_reply}
use Rattle.ob_lists.proofs.Telling.{broken_act, goes_on, holds_after, holds_answered, posted, replies_act}

-- ---- the first bytes of what is written
code_of_interim : (t : List ℕ) → code_at (continue_text ++ t) ≡ 100
unfolding continue_text
code_of_interim t = refl

code_of_nothing : code_at [] ≡ 0
code_of_nothing = refl

-- a reply's code
code_of_text : (said : Answer) (closes : Bool) (t : List ℕ) → code_at (answer_text said closes ++ t) ≡ status_code said.status
code_of_text said closes t = code_of_reply said.status said.media said.body closes t

-- it is neither that of an interim reply nor none
code_high : (s : Status) → 200 ≤ status_code s
code_high statuses.Ok = omega (arith)
code_high statuses.BadRequest = omega (arith)
code_high statuses.NotFound = omega (arith)
code_high (statuses.MethodNotAllowed it) = omega (arith)
code_high statuses.Conflict = omega (arith)
code_high statuses.LengthRequired = omega (arith)
code_high statuses.PayloadTooLarge = omega (arith)
code_high statuses.UnprocessableEntity = omega (arith)
code_high statuses.RequestHeaderFieldsTooLarge = omega (arith)
code_high statuses.NotImplemented = omega (arith)
code_high statuses.ServiceUnavailable = omega (arith)

-- bytes that are refused aren't answered by an acceptance
head_refused : (refusal : HeadRefusal) → status_code (head_status refusal) ≢ 200
head_refused heads.BadRequest e = absurd (omega (arith, e))
head_refused heads.NotImplemented e = absurd (omega (arith, e))
head_refused heads.LengthRequired e = absurd (omega (arith, e))
head_refused heads.PayloadTooLarge e = absurd (omega (arith, e))
head_refused heads.FieldsTooLarge e = absurd (omega (arith, e))

-- nor is a refused command
command_refused : (refusal : Refusal) → status_code (refusal_status refusal) ≢ 200
command_refused (BadField at) e = absurd (omega (arith, e))
command_refused UnknownName e = absurd (omega (arith, e))
command_refused NameTaken e = absurd (omega (arith, e))
command_refused OutOfPeriod e = absurd (omega (arith, e))
command_refused UnknownEntry e = absurd (omega (arith, e))
command_refused (Stale revision) e = absurd (omega (arith, e))
command_refused Withdrawn e = absurd (omega (arith, e))
command_refused UnknownCustomer e = absurd (omega (arith, e))
command_refused BadService e = absurd (omega (arith, e))
command_refused (RefConflict id) e = absurd (omega (arith, e))
command_refused (Full most) e = absurd (omega (arith, e))
command_refused MarkedAlready e = absurd (omega (arith, e))
command_refused NotMarked e = absurd (omega (arith, e))
command_refused UnknownCause e = absurd (omega (arith, e))
command_refused BadPeriod e = absurd (omega (arith, e))
command_refused BadBook e = absurd (omega (arith, e))
command_refused BadLife e = absurd (omega (arith, e))
command_refused (OldVersion version) e = absurd (omega (arith, e))

no_reply : (said : Answer) (closes : Bool) (t : List ℕ) → answer_text said closes ++ t ≢ []
no_reply said closes t none = let low : status_code said.status ≡ 0 = sym (code_of_text said closes t) ∙ ap code_at none in absurd (omega (arith, low, code_high said.status))

no_interim : (said : Answer) (closes : Bool) (t u : List ℕ) → answer_text said closes ++ t ≢ continue_text ++ u
no_interim said closes t u same =
    let low : status_code said.status ≡ 100 = sym (code_of_text said closes t) ∙ ap code_at same ∙ code_of_interim u in absurd (omega (arith, low, code_high said.status))

-- a part of a text has fewer bytes than its bound
body_short : (front t text : List ℕ) (said : Answer) (closes : Bool) → text ≡ front ++ (answer_text said closes ++ t) → length text < 2 ^ 64
    → length said.body < 2 ^ 64
body_short front t text said closes is short =
    let head : List ℕ =
    status_line said.status ++ content_type said.media said.body ++ content_length said.body ++ allow said.status ++ connection closes ++ crlf in
    let all = ap length is in
    omega (arith, all, short, length-append front (answer_text said closes ++ t), length-append (answer_text said closes) t, length-append head said.body)

both_none : {X : Type 0} (xs ys : List X) → xs ++ ys ≡ [] → xs ≡ []
both_none [] ys e = refl
both_none (x ∷ xs) ys e = absurd (omega (arith, ap length e))

-- the front of a text, and what lacks
rest_of : (part text : List ℕ) → IsFront part text → (z : List ℕ) × (part ++ z ≡ text)
rest_of part text (count, fewer, is) = (drop count text, ap (λ l. l ++ drop count text) is ∙ take-append-drop count text)

-- ---- what acknowledges
none_written : (ms : List Message) (a : Referenced) → Acknowledges ms [] a → ⊥
none_written [] a acks = acks
none_written (m ∷ ms) a (said, closes, more, is, posts) = by_waits m.waits is
  where
    by_waits : (waits : Bool) → [] ≡ interim_text waits ++ (answer_text said closes ++ more) → ⊥
    by_waits false e = no_reply said closes more (sym e)
    by_waits true e = let low : 0 ≡ 100 = ap code_at e ∙ code_of_interim (answer_text said closes ++ more) in absurd (omega (arith, low))

-- nor does an interim reply alone
interim_alone : (waits : Bool) (ms : List Message) (a : Referenced) → Acknowledges ms (interim_text waits) a → ⊥
interim_alone false ms a acks = none_written ms a acks
interim_alone true [] a acks = acks
interim_alone true (m ∷ ms) a (said, closes, more, is, posts) = by_waits m.waits is
  where
    by_waits : (waits : Bool) → continue_text ≡ interim_text waits ++ (answer_text said closes ++ more) → ⊥
    by_waits false e = no_interim said closes more [] (sym e ∙ sym (append-nil continue_text))
    by_waits true e = no_reply said closes more (sym (append_cancel_left continue_text [] (answer_text said closes ++ more) (append-nil continue_text ∙ e)))

-- nor a part of it
interim_cut : (waits : Bool) (part : List ℕ) (ms : List Message) (a : Referenced) → IsFront part (interim_text waits) → Acknowledges ms part a → ⊥
interim_cut waits part [] a front acks = acks
interim_cut false part (m ∷ ms) a (count, fewer, is) acks = absurd (omega (arith, fewer))
interim_cut true part (m ∷ ms) a front (said, closes, more, is, posts) =
    let lacks = rest_of part continue_text front in by_waits m.waits lacks.0 (ap (λ l. l ++ lacks.0) (sym is) ∙ lacks.1)
  where
    by_waits : (waits : Bool) (z : List ℕ) → interim_text waits ++ (answer_text said closes ++ more) ++ z ≡ continue_text → ⊥
    by_waits false z e = no_interim said closes (more ++ z) [] (sym (append_assoc (answer_text said closes) more z) ∙ e ∙ sym (append-nil continue_text))
    by_waits true z e =
        let rest = append_cancel_left continue_text (answer_text said closes ++ more ++ z) []
        (sym (append_assoc continue_text (answer_text said closes ++ more) z) ∙ e ∙ sym (append-nil continue_text)) in
        no_reply said closes (more ++ z) (sym (append_assoc (answer_text said closes) more z) ∙ rest)

module _ (ms : List Message) (a : Referenced) (said own : Answer) (closes ending : Bool) (more z : List ℕ) where
  -- a reply with no body, or the front of it, acknowledges only what it says
  one_alone : length said.body < 2 ^ 64 → (answer_text said closes ++ more) ++ z ≡ answer_text own ending → Acknowledges ms more a → ⊥
  one_alone small e acks =
      let so = one_reply said.status own.status said.media own.media said.body own.body closes ending (more ++ z) [] small
      (sym (append_assoc (answer_text said closes) more z) ∙ e ∙ sym (append-nil (answer_text own ending))) in
      none_written ms a (subst (λ l. Acknowledges ms l a) (both_none more z so.1) acks)

  same_code : (answer_text said closes ++ more) ++ z ≡ answer_text own ending → status_code said.status ≡ status_code own.status
  same_code e = sym (code_of_text said closes (more ++ z)) ∙ ap code_at (sym (append_assoc (answer_text said closes) more z) ∙ e ∙ sym (append-nil (answer_text own ending)))
      ∙ code_of_text own ending []

-- an empty reply, or its front, that is no acceptance acknowledges nothing
empty_alone : (status : Status) → status_code status ≢ 200 → (m : Message) (ms : List Message) (a : Referenced) (said : Answer) (closes : Bool) (part more z : List ℕ)
    → part ≡ answer_text said closes ++ more → length part < 2 ^ 64 → part ++ z ≡ answer_text (empty status) true
    → (Posts m a × (said.status ≡ statuses.Ok)) ⊎ Acknowledges ms more a → ⊥
empty_alone status other m ms a said closes part more z is short e (inl posts) =
    other (sym (same_code ms a said (empty status) closes true more z (ap (λ l. l ++ z) (sym is) ∙ e)) ∙ ap status_code posts.1)
empty_alone status other m ms a said closes part more z is short e (inr acks) =
    one_alone ms a said (empty status) closes true more z (body_short [] more part said closes is short) (ap (λ l. l ++ z) (sym is) ∙ e) acks

refused_alone : (refusal : HeadRefusal) (ms : List Message) (a : Referenced) (part z : List ℕ) → length part < 2 ^ 64 → part ++ z ≡ refusal_text refusal
    → Acknowledges ms part a → ⊥
refused_alone refusal [] a part z short e acks = acks
refused_alone refusal (m ∷ ms) a part z short e (said, closes, more, is, posts) = by_waits m.waits is
  where
    by_waits : (waits : Bool) → part ≡ interim_text waits ++ (answer_text said closes ++ more) → ⊥
    by_waits false same = empty_alone (head_status refusal) (head_refused refusal) m ms a said closes part more z same short e posts
    by_waits true same = no_interim (empty (head_status refusal)) true [] (answer_text said closes ++ more ++ z)
        (append-nil (refusal_text refusal) ∙ sym e ∙ ap (λ l. l ++ z) same ∙ append_assoc continue_text (answer_text said closes ++ more) z)

-- ---- the requests of a stream
-- the requests were read one after the other, and these bytes follow
abbrev Reads : List ℕ → List Message → List ℕ → Type 0
Reads bytes [] rest = bytes ≡ rest
Reads bytes (m ∷ ms) rest = (mid : List ℕ) × ReadsMessage bytes m mid × Reads mid ms rest

reads_after : (allowed : ℕ) (bytes : List ℕ) (ms : List Message) (rest : List ℕ) → After allowed bytes ms rest → Reads bytes ms rest
reads_after allowed bytes [] rest same = same
reads_after allowed bytes (m ∷ ms) rest (mid, reads, goes, after) = (mid, reads, reads_after (allowed - 1) mid ms rest after)

reads_all : (allowed : ℕ) (bytes : List ℕ) (ms : List Message) (ending : Option HeadRefusal) → Requests allowed bytes ms ending → (rest : List ℕ) × Reads bytes ms rest
reads_all allowed bytes [] ending last = (bytes, refl)
reads_all allowed bytes (m ∷ ms) ending (mid, reads, later) = by_end (ends allowed m) later (λ more. reads_all (allowed - 1) mid ms ending more)
  where
    by_end : (closes : Bool) → MatchBool closes ((ms ≡ []) × (ending ≡ None)) (Requests (allowed - 1) mid ms ending)
        → (Requests (allowed - 1) mid ms ending → (rest : List ℕ) × Reads mid ms rest) → (rest : List ℕ) × Reads bytes (m ∷ ms) rest
    by_end true last go = (mid, (mid, reads, subst (λ l. Reads mid l mid) (sym last.0) refl))
    by_end false more go = let so = go more in (so.0, (mid, reads, so.1))

-- ---- an acceptance of an answered request
module _ (one : OneRequest) (law : RequestsAreAnsweredOneThing) where
  by_answer : (b d : ActState) (a : Referenced) (own : Answer) (r : Result Reply Refusal) → answer b a ≡ r → own ≡ outcome r → d ≡ act b a → status_code own.status ≡ 200
      → Holds d a
  by_answer b d a own (Ok reply) answered is made code = subst (λ s. Holds s a) (sym made) (holds_answered b a (reply, answered))
  by_answer b d a own (Err refusal) answered is made code = absurd (command_refused refusal (sym (ap (λ o. status_code o.status) is) ∙ code))

  accepted : (b d : ActState) (m : Message) (a : Referenced) (own : Answer) → Posts m a → Answers b m own d → status_code own.status ≡ 200 → Holds d a
  accepted b d m a own posts gives code =
      let so = law b m own (outcome (answer b a)) d (act b a) gives (posted b m a posts) in
      by_answer b d a own (answer b a) refl so.0 so.1 code

  -- what acknowledges is the reply to an answered request; or what is written after these
  walk : (allowed : ℕ) (b c : ActState) (requests : List Message) (text part sent rest : List ℕ) (ms : List Message) (a : Referenced)
      → Replies allowed (Some b) requests text (Some c) → Reads sent requests rest → Sends sent ms → length (text ++ part) < 2 ^ 64
      → Acknowledges ms (text ++ part) a → Holds c a ⊎ ((later : List Message) × Sends rest later × Acknowledges later part a)
  walk allowed b c [] text part sent rest ms a (none, same) reads sends short acks =
      inr (ms, subst (λ l. Sends l ms) reads sends, subst (λ l. Acknowledges ms (l ++ part) a) none acks)
  walk allowed b c (m ∷ requests) text part sent rest [] a replies reads sends short acks = absurd acks
  walk allowed b c (m ∷ requests) text part sent rest (n ∷ ms) a (reply, more, None, answers, is, later) reads sends short acks = absurd answers
  walk allowed b c (m ∷ requests) text part sent rest (n ∷ ms) a (reply, more, Some d, (own, gives, made), is, later) (mid, reads, chain) (tail, sees, sends) short
      (said, closes, after, seen, posts) =
      let same = one sent m n mid tail reads sees in
      let last = ends allowed m in
      let ours : text ++ part ≡ interim_text m.waits ++ (answer_text own last ++ (more ++ part)) =
      ap (λ t. t ++ part) (is ∙ ap (λ r. interim_text m.waits ++ (r ++ more)) made) ∙ append_assoc (interim_text m.waits) (answer_text own last ++ more) part
      ∙ ap (λ l. interim_text m.waits ++ l) (append_assoc (answer_text own last) more part) in
      let theirs : text ++ part ≡ interim_text m.waits ++ (answer_text said closes ++ after) =
      subst (λ (k : Message). text ++ part ≡ interim_text k.waits ++ (answer_text said closes ++ after)) (sym same.0) seen in
      let bare = append_cancel_left (interim_text m.waits) (answer_text said closes ++ after) (answer_text own last ++ (more ++ part)) (sym theirs ∙ ours) in
      let cut = one_reply said.status own.status said.media own.media said.body own.body closes last after (more ++ part)
      (body_short (interim_text m.waits) after (text ++ part) said closes theirs short) bare in
      let less : length (more ++ part) < 2 ^ 64 =
      omega (arith, short, ap length ours, length-append (interim_text m.waits) (answer_text own last ++ (more ++ part)), length-append (answer_text own last) (more ++ part)) in
      elim posts [
        | inl (post, ok) ↦
            let held = accepted b d m a own (subst (λ k. Posts k a) (sym same.0) post) gives (sym cut.0 ∙ ap status_code ok) in
            let on = replies_act (allowed - 1) d c requests more later in
            inl (subst (λ s. Holds s a) (sym on.1) (holds_after d on.0 a held))
        | inr acks ↦
            walk (allowed - 1) d c requests more part mid rest ms a later chain (subst (λ l. Sends l ms) (sym same.1) sends) less
            (subst (λ l. Acknowledges ms l a) cut.1 acks)
      ]

  -- ---- what is written of the request in work
  unanswered_alone : (rest part : List ℕ) (b x : ActState) (fault : Fault) (ms : List Message) (a : Referenced) → IsUnanswered (Some rest) part b fault x
      → Sends rest ms → length part < 2 ^ 64 → Acknowledges ms part a → ⊥
  unanswered_alone rest part b x fault [] a it sends short acks = acks
  unanswered_alone rest part b x fault (m ∷ ms) a it (tail, sees, sends) short (said, closes, more, seen, posts) = by_left it.left it.read
    where
      by_front : (front : List ℕ) → (front ≡ unavailable_text) ⊎ IsFront front unavailable_text → front ≡ answer_text said closes ++ more → length front < 2 ^ 64 → ⊥
      by_front front (inl whole) is fits =
          empty_alone statuses.ServiceUnavailable (λ e. absurd (omega (arith, e))) m ms a said closes front more [] is fits (append-nil front ∙ whole) posts
      by_front front (inr less) is fits =
          let lacks = rest_of front unavailable_text less in
          empty_alone statuses.ServiceUnavailable (λ e. absurd (omega (arith, e))) m ms a said closes front more lacks.0 is fits lacks.1 posts

      by_left : (left : Option (List ℕ)) → ReadsKnown (Some rest) it.message left → ⊥
      by_left None read = read
      by_left (Some after) read =
          let same = (one rest it.message m after tail read sees).0 in
          let theirs : part ≡ interim_text it.message.waits ++ (answer_text said closes ++ more) =
          subst (λ (k : Message). part ≡ interim_text k.waits ++ (answer_text said closes ++ more)) (sym same) seen in
          by_front it.front it.unavailable (append_cancel_left (interim_text it.message.waits) it.front (answer_text said closes ++ more) (sym it.written ∙ theirs))
          (omega (arith, short, ap length it.written, length-append (interim_text it.message.waits) it.front))

  unwritten_held : (allowed : ℕ) (rest part : List ℕ) (b x : ActState) (ms : List Message) (a : Referenced) → IsUnwritten allowed (Some rest) part b x
      → Sends rest ms → length part < 2 ^ 64 → Acknowledges ms part a → Holds x a
  unwritten_held allowed rest part b x [] a it sends short acks = absurd acks
  unwritten_held allowed rest part b x (m ∷ ms) a it (tail, sees, sends) short (said, closes, more, seen, posts) = by_left it.left it.read
    where
      by_own : (own : Answer) → Answers b it.message own x → it.reply ≡ answer_text own (ends allowed it.message) → it.message ≡ m
          → it.front ≡ answer_text said closes ++ more → length it.front < 2 ^ 64 → Holds x a
      by_own own gives made same is fits =
          let lacks = rest_of it.front it.reply it.less in
          let whole : (answer_text said closes ++ more) ++ lacks.0 ≡ answer_text own (ends allowed it.message) = ap (λ l. l ++ lacks.0) (sym is) ∙ lacks.1 ∙ made in
          elim posts [
            | inl (post, ok) ↦ accepted b x it.message a own (subst (λ k. Posts k a) (sym same) post) gives
                (sym (same_code ms a said own closes (ends allowed it.message) more lacks.0 whole) ∙ ap status_code ok)
            | inr acks ↦ absurd (one_alone ms a said own closes (ends allowed it.message) more lacks.0 (body_short [] more it.front said closes is fits) whole acks)
          ]

      by_left : (left : Option (List ℕ)) → ReadsKnown (Some rest) it.message left → Holds x a
      by_left None read = absurd read
      by_left (Some after) read =
          let same = (one rest it.message m after tail read sees).0 in
          let theirs : part ≡ interim_text it.message.waits ++ (answer_text said closes ++ more) =
          subst (λ (k : Message). part ≡ interim_text k.waits ++ (answer_text said closes ++ more)) (sym same) seen in
          by_own it.answers.0 it.answers.1 it.answers.2 same
          (append_cancel_left (interim_text it.message.waits) it.front (answer_text said closes ++ more) (sym it.written ∙ theirs))
          (omega (arith, short, ap length it.written, length-append (interim_text it.message.waits) it.front))

  head_alone : (rest : Option (List ℕ)) (part : List ℕ) (ms : List Message) (a : Referenced) → WritesHead rest part → Acknowledges ms part a → ⊥
  head_alone rest part ms a (inl none) acks = none_written ms a (subst (λ l. Acknowledges ms l a) none acks)
  head_alone rest part ms a (inr (framing, target, left, starts, is)) acks = interim_alone framing.waits ms a (subst (λ l. Acknowledges ms l a) is acks)

  broken_held : (allowed : ℕ) (rest part : List ℕ) (b x : ActState) (fault : Fault) (ms : List Message) (a : Referenced) → BreaksStream allowed (Some rest) part b fault x
      → Sends rest ms → length part < 2 ^ 64 → Acknowledges ms part a → Holds x a
  broken_held allowed rest part b x OutOfMemory ms a (inl unread) sends short acks = absurd (head_alone (Some rest) part ms a unread.0 acks)
  broken_held allowed rest part b x OutOfMemory ms a (inr it) sends short acks = absurd (unanswered_alone rest part b x OutOfMemory ms a it sends short acks)
  broken_held allowed rest part b x Store ms a it sends short acks = absurd (unanswered_alone rest part b x Store ms a it sends short acks)
  broken_held allowed rest part b x Reopen ms a it sends short acks = absurd (unanswered_alone rest part b x Reopen ms a it sends short acks)
  broken_held allowed rest part b x Input ms a unread sends short acks = absurd (head_alone (Some rest) part ms a unread.0 acks)
  broken_held allowed rest part b x Output ms a (inl ((framing, target, left, starts, front), same)) sends short acks =
      absurd (interim_cut framing.waits part ms a front acks)
  broken_held allowed rest part b x Output ms a (inr (inl (refusal, refused, front, same))) sends short acks =
      let lacks = rest_of part (refusal_text refusal) front in absurd (refused_alone refusal ms a part lacks.0 short lacks.1 acks)
  broken_held allowed rest part b x Output ms a (inr (inr it)) sends short acks = unwritten_held allowed rest part b x ms a it sends short acks

  ending_alone : (ending : Option HeadRefusal) (part : List ℕ) (ms : List Message) (a : Referenced) → part ≡ ending_text ending → length part < 2 ^ 64
      → Acknowledges ms part a → ⊥
  ending_alone None part ms a is short acks = none_written ms a (subst (λ l. Acknowledges ms l a) is acks)
  ending_alone (Some refusal) part ms a is short acks = refused_alone refusal ms a part [] short (append-nil part ∙ is) acks

  -- ---- a whole stream
  module _ (b c x : ActState) (requests : List Message) (text part sent : List ℕ) (replies : Replies 1000 (Some b) requests text (Some c))
      (short : length (text ++ part) < 2 ^ 64) (ms : List Message) (a : Referenced) (sends : Sends sent ms) (acks : Acknowledges ms (text ++ part) a) where
    part_short : length part < 2 ^ 64
    part_short = omega (arith, short, length-append text part)

    by_rest : (fault : Fault) (rest : Option (List ℕ)) → AfterKnown 1000 (Some sent) requests rest → BreaksStream (1000 - length requests) rest part c fault x → Holds x a
    by_rest fault None after broke = absurd after
    by_rest fault (Some rest) after broke =
        elim (walk 1000 b c requests text part sent rest ms a replies (reads_after 1000 sent requests rest after) sends short acks) [
          | inl held ↦
              let on = broken_act (1000 - length requests) (Some rest) part c fault x broke in
              subst (λ s. Holds s a) (sym on.1) (holds_after c on.0 a held)
          | inr (later, follow, acked) ↦ broken_held (1000 - length requests) rest part c x fault later a broke follow part_short acked
        ]

    pub by_end : (ended : Result Served Fault) → EndsStream (Some sent) requests part c ended x → Holds x a
    by_end (Ok done) (ending, read, counted, is, same) =
        let all = reads_all 1000 sent requests ending read in
        elim (walk 1000 b c requests text part sent all.0 ms a replies all.1 sends short acks) [
          | inl held ↦ subst (λ s. Holds s a) (sym same) held
          | inr (later, follow, acked) ↦ absurd (ending_alone ending part later a is part_short acked)
        ]
    by_end (Err fault) (rest, after, few, broke) = by_rest fault rest after broke

  of_stream : (b x : ActState) (s : Stream) (it : AnswersStream b s x) (sent had got : List ℕ) → s.bytes ≡ Some sent → s.had ≡ Some had → s.has ≡ Some (had ++ got)
      → length got < 2 ^ 64 → (ms : List Message) (a : Referenced) → Sends sent ms → Acknowledges ms got a → Holds x a
  of_stream b x s it sent had got knows held has short ms a sends acks =
      let written : had ++ got ≡ had ++ (it.text ++ it.part) =
      subst (λ o. Appends (Some had) o (it.text ++ it.part)) has (subst (λ o. Appends o s.has (it.text ++ it.part)) held it.written) in
      let same = append_cancel_left had got (it.text ++ it.part) written in
      by_end b it.book x it.requests it.text it.part sent it.answered (subst (λ l. length l < 2 ^ 64) same short) ms a sends (subst (λ l. Acknowledges ms l a) same acks)
      s.ended (subst (λ o. EndsStream o it.requests it.part it.book s.ended x) knows it.ends)

  pub written_in : WrittenLaw
  written_in b x [] stream may has sent had got knows held grown short ms a sends acks = absurd (omega (arith, has.1))
  written_in b x (t ∷ before) stream may (suc k, within, there) sent had got knows held grown short ms a sends acks =
      let on = goes_on b x t before may in
      subst (λ s. Holds s a) (sym on.3)
      (holds_after on.0 on.2 a (written_in b on.0 before stream on.1 (k, omega (arith, within), there) sent had got knows held grown short ms a sends acks))
  written_in b x (streamed those ∷ before) stream may (zero, within, here) sent had got knows held grown short ms a sends acks =
      let this : streamed those ≡ streamed stream = here in
      let same : those ≡ stream = cc in
      of_stream may.0 x stream (subst (λ s. AnswersStream may.0 s x) same may.2) sent had got knows held grown short ms a sends acks
  written_in b x (acknowledged c ∷ before) stream may (zero, within, here) sent had got knows held grown short ms a sends acks =
      let this : acknowledged c ≡ streamed stream = here in absurd cc
  written_in b x (doubted c ∷ before) stream may (zero, within, here) sent had got knows held grown short ms a sends acks =
      let this : doubted c ≡ streamed stream = here in absurd cc
  written_in b x (imported known ended ∷ before) stream may (zero, within, here) sent had got knows held grown short ms a sends acks =
      let this : imported known ended ≡ streamed stream = here in absurd cc
  written_in b x (served ∷ before) stream may (zero, within, here) sent had got knows held grown short ms a sends acks =
      let this : served ≡ streamed stream = here in absurd cc
