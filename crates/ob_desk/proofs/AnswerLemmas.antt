-- One answer, from what was made of it and what was written.
use Rattle.std.proofs.Common.{◌≡◌, ℕ, Bool, List, take, Option, None, Some, refl, sym, ap, subst, ◌∙◌, inl, inr}
use Rattle.std.specs.Prelude.{IsSome, Result, Ok, Err, IfErr, OnOk}
use Rattle.std.specs.Io.KnownBytes.{Appends}
use Rattle.ob_base.specs.declared.stop.Fault.{Fault}
use Rattle.ob_base.specs.declared.stop.Fault.TheVariants.{OutOfMemory, Store, Reopen, Input, Output}
use Rattle.ob_stream.specs.Streams.{AppendsFront}
use Rattle.ob_stream.specs.Watching.{HasJustFailed}
use Rattle.ob_stream.specs.declared.watched.Watched.{Watched}
use Rattle.ob_state.specs.State.{BookState}
use Rattle.ob_book.specs.Acts.{ActState}
use Rattle.ob_store.specs.Calls.{IfHeld}
use Rattle.ob_store.specs.Keepers.{Ghosts, book_of}
use Rattle.ob_store.specs.declared.keeper.Keeper.{Keeper}
use Rattle.ob_http_requests.specs.Message.{Message}
use Rattle.ob_http_routes.specs.Answers.{Answer, answer_text, bookless}
use Rattle.ob_http_routes.specs.Answering.{Answered, IsAnswerFault, Unopened, text_bytes}
use Rattle.ob_http_routes.specs.declared.reply.ReplyText.{ReplyText}
use Rattle.ob_desk.specs.Exchanges.{AnswersAt, unavailable_text}
use Rattle.ob_desk.specs.Serving.{IsWritten}
use Rattle.ob_desk.specs.Standing.{IsKept, LeftBy, Over, Stands, fault_of}
use Rattle.ob_desk.specs.Turns.{HasAnswerCause, IsAnswered, IsUnanswered}
use Rattle.ob_desk.proofs.StandLemmas.{kept-err}

-- without a book: what an answer is, and what a fault
unopened-ok : (o : Option Answer) (closes : Bool) (text : ReplyText) → Unopened o closes (Ok text) → (a : Answer) × (o ≡ Some a) × (text_bytes text ≡ answer_text a closes)
unopened-ok None closes text h = absurd (not-err text h)
  where
    not-err : (t : ReplyText) → (let r : Result ReplyText Fault = Ok t in r) ≡ Err Reopen → ⊥
    not-err t e = cc
unopened-ok (Some a) closes text h = (a, refl, h)

unopened-err : (o : Option Answer) (closes : Bool) (fault : Fault) → Unopened o closes (Err fault) → (fault ≡ Reopen) × (o ≡ None)
unopened-err None closes fault h = (same fault h, refl)
  where
    same : (f : Fault) → (let r : Result ReplyText Fault = Err f in r) ≡ Err Reopen → f ≡ Reopen
    same f e = cc
unopened-err (Some a) closes fault h = absurd h

module _ {S T : Type 0} {g : Ghosts S} where
  -- an answer that was made stands, and less or all of it is written
  made : (old new : Keeper S T g) (m : Message) (ends : Bool) (text : ReplyText)
      → (book_of old ≡ None → (new ≡ old) × Unopened (bookless m) ends (Ok text)) → (IsSome (book_of old) → IsSome (book_of new))
      → IfHeld old new (λ b. Answered new b m ends (Ok text))
      → (x : Option ActState) → Over old new x → (y : Option ActState) × AnswersAt x m ends (text_bytes text) y × Stands new y
  made old new m ends text unopened kept answered None none =
      let so = unopened-ok (bookless m) ends text (unopened none).1 in
      (None, so, ap (λ k. book_of k) (unopened none).0 ∙ none)
  made old new m ends text unopened kept answered (Some b) (disk, ties, some) =
      let so = answered disk b ties some in
      (Some so.1, (so.0, so.2, so.3), (so.4, kept some))

  pub answered-whole : (had has : Option (List ℕ)) (old new : Keeper S T g) (m : Message) (ends : Bool) (text : ReplyText)
      → (book_of old ≡ None → (new ≡ old) × Unopened (bookless m) ends (Ok text)) → (IsSome (book_of old) → IsSome (book_of new))
      → IfHeld old new (λ b. Answered new b m ends (Ok text))
      → Appends had has (text_bytes text) → IsAnswered had has old new m ends
  answered-whole had has old new m ends text unopened kept answered written x over =
      let so = made old new m ends text unopened kept answered x over in (text_bytes text, so.0, so.1, written, so.2)

  pub answered-less : {W : Type 0} (writer : Watched W) (had has : Option (List ℕ)) (old new : Keeper S T g) (m : Message) (ends : Bool) (text : ReplyText)
      → (book_of old ≡ None → (new ≡ old) × Unopened (bookless m) ends (Ok text)) → (IsSome (book_of old) → IsSome (book_of new))
      → IfHeld old new (λ b. Answered new b m ends (Ok text))
      → AppendsFront had has (text_bytes text) → IsUnanswered writer had has old new m ends Output
  answered-less writer had has old new m ends text unopened kept answered written x over =
      let so = made old new m ends text unopened kept answered x over in (text_bytes text, so.0, so.1, written, so.2)

  -- what a fault in place of an answer leaves
  left-by : (old new : Keeper S T g) (m : Message) (ends : Bool) (fault : Fault)
      → (book_of old ≡ None → (new ≡ old) × Unopened (bookless m) ends (Err fault))
      → IfHeld old new (λ b. Answered new b m ends (Err fault))
      → (x : Option ActState) → Over old new x → LeftBy new x m ends fault
  left-by old new m ends fault unopened answered None none =
      let so = unopened-err (bookless m) ends fault (unopened none).1 in (so.0, so.1, ap (λ k. book_of k) (unopened none).0 ∙ none)
  left-by old new m ends fault unopened answered (Some b) (disk, ties, some) = answered disk b ties some

  pub unanswered : {W : Type 0} (writer : Watched W) (had has : Option (List ℕ)) (old new : Keeper S T g) (m : Message) (ends : Bool) (fault : Fault)
      → (book_of old ≡ None → (new ≡ old) × Unopened (bookless m) ends (Err fault)) → (IsSome (book_of old) → IsAnswerFault fault)
      → IfHeld old new (λ b. Answered new b m ends (Err fault))
      → (front : List ℕ) × IsWritten writer front unavailable_text × Appends had has front → IsUnanswered writer had has old new m ends fault
  unanswered writer had has old new m ends OutOfMemory unopened faults answered (front, start, written) =
      λ x over. (front, start, written, left-by old new m ends OutOfMemory unopened answered x over)
  unanswered writer had has old new m ends Store unopened faults answered (front, start, written) =
      λ x over. (front, start, written, left-by old new m ends Store unopened answered x over)
  unanswered writer had has old new m ends Reopen unopened faults answered (front, start, written) =
      λ x over. (front, start, written, left-by old new m ends Reopen unopened answered x over)
  unanswered writer had has old new m ends Input unopened faults answered (front, start, written) =
      λ x over. (front, start, written, left-by old new m ends Input unopened answered x over)
  unanswered writer had has old new m ends Output unopened faults answered written = λ x over. absurd (none-so x over)
    where
      not-output : (let f : Fault = Output in f) ≡ Reopen → ⊥
      not-output e = cc

      none-so : (x : Option ActState) → Over old new x → ⊥
      none-so None none = not-output (unopened-err (bookless m) ends Output (unopened none).1).0
      none-so (Some b) (disk, ties, some) = faults some

  -- ---- by what was written

  pub written-answered : {A : Type 0} (r : Result A Fault) (had has : Option (List ℕ)) (old new : Keeper S T g) (m : Message) (ends : Bool) (text : ReplyText)
      → (book_of old ≡ None → (new ≡ old) × Unopened (bookless m) ends (Ok text)) → (IsSome (book_of old) → IsSome (book_of new))
      → IfHeld old new (λ b. Answered new b m ends (Ok text))
      → OnOk r (Appends had has (text_bytes text)) → OnOk r (IsAnswered had has old new m ends)
  written-answered (Ok x) had has old new m ends text unopened kept answered written = answered-whole had has old new m ends text unopened kept answered written
  written-answered (Err f) had has old new m ends text unopened kept answered written = tt

  pub written-less : {A W : Type 0} (r : Result A Fault) (writer : Watched W) (had has : Option (List ℕ)) (old new : Keeper S T g) (m : Message) (ends : Bool) (text : ReplyText)
      → (book_of old ≡ None → (new ≡ old) × Unopened (bookless m) ends (Ok text)) → (IsSome (book_of old) → IsSome (book_of new))
      → IfHeld old new (λ b. Answered new b m ends (Ok text))
      → IfErr r (λ _. AppendsFront had has (text_bytes text)) → IfErr r (λ f. (f ≡ Output) × HasJustFailed writer) → IfErr r (IsUnanswered writer had has old new m ends)
  written-less (Ok x) writer had has old new m ends text unopened kept answered written failed = tt
  written-less (Err f) writer had has old new m ends text unopened kept answered written failed =
      subst (IsUnanswered writer had has old new m ends) (sym failed.0) (answered-less writer had has old new m ends text unopened kept answered written)

  pub written-cause : {A W : Type 0} (r : Result A Fault) (writer : Watched W) (old : Keeper S T g) → IfErr r (λ f. (f ≡ Output) × HasJustFailed writer) → IfErr r (HasAnswerCause writer old)
  written-cause (Ok x) writer old failed = tt
  written-cause (Err f) writer old failed = subst (HasAnswerCause writer old) (sym failed.0) failed.1

  pub written-kept : {A W : Type 0} (r : Result A Fault) (writer : Watched W) (old new : Keeper S T g) → IfErr r (λ f. (f ≡ Output) × HasJustFailed writer) → IsKept old new None → IsKept old new (fault_of r)
  written-kept (Ok x) writer old new failed kept = kept
  written-kept (Err f) writer old new failed kept = kept-err old new f (λ e. not-store (sym failed.0 ∙ e)) kept
    where
      not-store : (let f : Fault = Output in f) ≡ Store → ⊥
      not-store e = cc

  -- why a request isn't answered
  pub answer-cause : {W : Type 0} (writer : Watched W) (old new : Keeper S T g) (m : Message) (ends : Bool) (fault : Fault)
      → (book_of old ≡ None → (new ≡ old) × Unopened (bookless m) ends (Err fault)) → (IsSome (book_of old) → IsAnswerFault fault) → HasAnswerCause writer old fault
  answer-cause writer old new m ends fault unopened faults = by-book (book_of old) refl
    where
      of-book : (f : Fault) → IsAnswerFault f → HasAnswerCause writer old f
      of-book OutOfMemory h = tt
      of-book Store h = tt
      of-book Reopen h = absurd h
      of-book Input h = absurd h
      of-book Output h = absurd h

      by-book : (o : Option BookState) → book_of old ≡ o → HasAnswerCause writer old fault
      by-book None none = subst (HasAnswerCause writer old) (sym (unopened-err (bookless m) ends fault (unopened none).1).0) none
      by-book (Some book) is = of-book fault (faults (subst (λ o. IsSome o) (sym is) refl))

-- a text was written whole, or the writer failed before its end
pub as-written : {A W : Type 0} (r : Result A Fault) (writer : Watched W) (had has : Option (List ℕ)) (text : List ℕ) → OnOk r (Appends had has text)
    → IfErr r (λ _. AppendsFront had has text) → IfErr r (λ f. (f ≡ Output) × HasJustFailed writer) → (front : List ℕ) × IsWritten writer front text × Appends had has front
as-written (Ok x) writer had has text whole front failed = (text, inl refl, whole)
as-written (Err f) writer had has text whole front failed = (take front.count text, inr ((front.count, front.fewer, refl), failed.1), front.appends)
