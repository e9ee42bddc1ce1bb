-- What the parts of the desk make of a keeper, with a book and without one, by cases on what the calls below answered.
use Rattle.std.proofs.Common.{◌≡◌, ◌↔◌, ◌∙◌, sym, ap, subst, refl, ℕ, Bool, true≢false, List, Option, Some, None, Result, Ok, Err, inl, inr, is_some, is_ok}
use Rattle.std.specs.Prelude.{IsSome, IfErr, IfSome, option_map}
use Rattle.ob_base.specs.declared.stop.Fault.{Fault}
use Rattle.ob_base.specs.declared.stop.Fault.TheVariants.{OutOfMemory, Store, Reopen, Input, Output}
use Rattle.ob_base.specs.declared.stop.Refusal.{Refusal}
use Rattle.ob_base.specs.declared.stop.Stop.{Stop}
use Rattle.ob_base.specs.declared.stop.Stop.TheVariants as stops
use Rattle.ob_state.specs.State.{BookState}
use Rattle.ob_sql_rows.specs.Steps.{IsStoreFault}
use Rattle.ob_book.specs.Acts.{ActState, Referenced, Reply}
use Rattle.ob_store.specs.Acting.{IsActStop, reply_as}
use Rattle.ob_store.specs.Calls.{Acted, IfHeld, Replied, TellsFaults, WasClean}
use Rattle.ob_store.specs.Keepers.{Ghosts, OnlySearches, Ties, book_of}
use Rattle.ob_store.specs.declared.reply.Reply.{Reply as GivenReply}
use Rattle.ob_store.proofs.Faults.{tells_as, tells_nothing, tells_searched}
use Rattle.ob_store.proofs.Searching.{clean_before, still_tied}
use Rattle.ob_store.specs.declared.keeper.Keeper.{Keeper}
use Rattle.ob_csv.specs.Rows.{rows_of}
use Rattle.ob_import.specs.Reports.{HasCause, Imported, IsStoreFault as IsImportStoreFault}
use Rattle.ob_import.specs.declared.report.ImportFault.{ImportFault}
use Rattle.ob_import.specs.declared.report.ImportReport.{ImportReport}
use Rattle.ob_http_requests.specs.declared.framing.Method.TheVariants as methods
use Rattle.ob_http_replies.specs.declared.reply.MediaType.TheVariants as types
use Rattle.ob_http_routes.specs.Answers.{Answer, IsPlanAnswer, answer_text, found, got, media_of, outcome, refused, reply_body, report_answer, view_text}
use Rattle.ob_http_routes.specs.Answering.{ActGives, Gives, IsAnswerFault, Makes, RouteAnswered, Serves, text_bytes}
use Rattle.ob_http_routes.specs.declared.reply.ReplyText.{ReplyText}
use Rattle.ob_http_routes.specs.declared.routes.Route.TheVariants as routes
use Rattle.ob_http_routes.specs.declared.routes.View.{View}
use Rattle.ob_http_routes.proofs.AnsweringLemmas.{answered_planned, answered_report, answered_stop, gives_accepted, gives_made, gives_refused}

-- ---- replies and faults

pub none_there : {X : Type 0} (o : Option X) → o ≡ None → IsSome o → ⊥
none_there o none is = true≢false (sym is ∙ ap is_some none)

-- an answer isn't a failure
ok_is_no_err : {X E : Type 0} (x : X) (e : E) → ◌≡◌ {A = Result X E} (Ok x) (Err e) → ⊥
ok_is_no_err x e same = true≢false (ap is_ok same)

-- two failures of the keeper by a fault are of one fault
same_fault : {X : Type 0} (f h : Fault) → ◌≡◌ {A = Result X Stop} (Err (stops.Fault f)) (Err (stops.Fault h)) → f ≡ h
same_fault f h e = cc

-- and so are two answers
same_answer_fault : (f h : Fault) → ◌≡◌ {A = Result ReplyText Fault} (Err f) (Err h) → f ≡ h
same_answer_fault f h e = cc

-- a refusal is no fault of the store
refused_is_no_fault : (r : Refusal) → IsStoreFault (stops.Refused r) → ⊥
refused_is_no_fault r (inl e) = cc
refused_is_no_fault r (inr e) = cc

-- nor is it one of a keeper's answer
refused_is_no_loss : {X : Type 0} (r : Refusal) (f : Fault) → ◌≡◌ {A = Result X Stop} (Err (stops.Refused r)) (Err (stops.Fault f)) → ⊥
refused_is_no_loss r f e = cc

-- a fault of the store ends an answer
store_fault_answers : (f : Fault) → IsStoreFault (stops.Fault f) → IsAnswerFault f
store_fault_answers OutOfMemory h = tt
store_fault_answers Store h = tt
store_fault_answers Reopen (inl e) = cc
store_fault_answers Reopen (inr e) = cc
store_fault_answers Input (inl e) = cc
store_fault_answers Input (inr e) = cc
store_fault_answers Output (inl e) = cc
store_fault_answers Output (inr e) = cc

act_fault_answers : (f : Fault) → IsActStop (stops.Fault f) → IsAnswerFault f
act_fault_answers OutOfMemory h = tt
act_fault_answers Store h = tt
act_fault_answers Reopen h = absurd h
act_fault_answers Input h = absurd h
act_fault_answers Output h = absurd h

import_fault_answers : (f : Fault) → HasCause f ⊥ → IsAnswerFault f
import_fault_answers OutOfMemory h = tt
import_fault_answers Store h = tt
import_fault_answers Reopen h = absurd h
import_fault_answers Input h = absurd h
import_fault_answers Output h = absurd h

-- a reply that was made is no fault of the store
makes_no_store_fault : (a : Answer) (closes : Bool) (result : Result ReplyText Fault) → Makes a closes result → result ≡ Err Store → ⊥
makes_no_store_fault a closes (Ok text) made e = ok_is_no_err text Store e
makes_no_store_fault a closes (Err OutOfMemory) made e = cc
makes_no_store_fault a closes (Err Store) made e = cc
makes_no_store_fault a closes (Err Reopen) made e = cc
makes_no_store_fault a closes (Err Input) made e = cc
makes_no_store_fault a closes (Err Output) made e = cc

makes_faults : (a : Answer) (closes : Bool) (result : Result ReplyText Fault) → Makes a closes result → IfErr result IsAnswerFault
makes_faults a closes (Ok text) made = tt
makes_faults a closes (Err fault) made = rw made tt

-- nor is another fault
memory_is_no_loss : ◌≡◌ {A = Result ReplyText Fault} (Err OutOfMemory) (Err Store) → ⊥
memory_is_no_loss e = let same = same_answer_fault OutOfMemory Store e in cc

reopen_is_no_loss : ◌≡◌ {A = Result ReplyText Fault} (Err Reopen) (Err Store) → ⊥
reopen_is_no_loss e = let same = same_answer_fault Reopen Store e in cc

neither : {P Q : Type 0} → (P → ⊥) → (Q → ⊥) → P ↔ Q
neither p q = ((λ h. absurd (p h)), (λ h. absurd (q h)))

-- how a reply goes on from what the keeper answered to the number of a command
abbrev pub GoesOnFound : Result (Option GivenReply) Stop → Bool → Result ReplyText Fault → Type 0
GoesOnFound (Ok given) closes result = Makes (found types.Json (option_map reply_body (option_map reply_as given))) closes result
GoesOnFound (Err (stops.Fault fault)) closes result = result ≡ Err fault
GoesOnFound (Err (stops.Refused refusal)) closes result = result ≡ Err OutOfMemory

-- how a reply goes on from what the keeper answered to a command
abbrev pub GoesOnActed : Result GivenReply Stop → Bool → Result ReplyText Fault → Type 0
GoesOnActed (Ok given) closes result = Makes (outcome (Ok (reply_as given))) closes result
GoesOnActed (Err (stops.Refused refusal)) closes result = Makes (refused refusal) closes result
GoesOnActed (Err (stops.Fault fault)) closes result = result ≡ Err fault

-- the book of a keeper is that of the state which its store keeps
held_book : (o : Option BookState) (s : BookState) → IsSome o → IfSome o (λ t. t ≡ s) → o ≡ Some s
held_book None s is same = absurd (true≢false (sym is))
held_book (Some t) s is same = ap Some same

module _ {S T : Type 0} {g : Ghosts S} where
  -- what the part below owes is what this one owes
  pub serves_as : (old new : Keeper S T g) (owed due : ActState → Type 0) (plain : Option Answer) (closes : Bool) (result : Result ReplyText Fault)
      → ((b : ActState) → owed b → due b) → Serves old new owed plain closes result → Serves old new due plain closes result
  serves_as old new owed due plain closes result grants h = record {
    constant = h.constant;
    unopened = h.unopened;
    faults = h.faults;
    dropped = h.dropped;
    clean = h.clean;
    answered = λ clean b ties is. grants b (h.answered clean b ties is);
    tells = h.tells;
  }

  -- an answer that needs no book
  pub serves_plain : (k : Keeper S T g) (owed : ActState → Type 0) (a : Answer) (closes : Bool) (text : ReplyText)
      → text_bytes text ≡ answer_text a closes → ((b : ActState) → Ties k b → owed b) → Serves k k owed (Some a) closes (Ok text)
  serves_plain k owed a closes text is due = record {
    constant = (is, refl);
    unopened = λ none. (refl, is);
    faults = λ there. tt;
    dropped = λ there. neither (λ none. none_there (book_of k) none there) (λ e. ok_is_no_err text Store e);
    clean = λ clean. clean;
    answered = λ clean b ties there. due b ties;
    tells = tells_nothing k k _ refl (ok_is_no_err text Store);
  }

  -- there is no book
  pub serves_unopened : (k : Keeper S T g) (owed : ActState → Type 0) (closes : Bool) → book_of k ≡ None → Serves k k owed None closes (Err Reopen)
  serves_unopened k owed closes none = record {
    constant = tt;
    unopened = λ _. (refl, refl);
    faults = λ there. absurd (none_there (book_of k) none there);
    dropped = λ there. absurd (none_there (book_of k) none there);
    clean = λ clean. clean;
    answered = λ clean b ties there. absurd (none_there (book_of k) none there);
    tells = tells_nothing k k _ refl reopen_is_no_loss;
  }

  -- a reply is made over a book, or not, and nothing changes
  pub serves_made : (k : Keeper S T g) (owed : ActState → Type 0) (a : Answer) (closes : Bool) (result : Result ReplyText Fault)
      → IsSome (book_of k) → Makes a closes result → ((b : ActState) → Ties k b → owed b) → Serves k k owed None closes result
  serves_made k owed a closes result there made due = record {
    constant = tt;
    unopened = λ none. absurd (none_there (book_of k) none there);
    faults = λ _. makes_faults a closes result made;
    dropped = λ _. neither (λ none. none_there (book_of k) none there) (makes_no_store_fault a closes result made);
    clean = λ clean. clean;
    answered = λ clean b ties _. due b ties;
    tells = tells_nothing k k _ refl (makes_no_store_fault a closes result made);
  }

  -- memory is refused over a book, and nothing changes
  pub serves_short : (k : Keeper S T g) (owed : ActState → Type 0) (closes : Bool)
      → IsSome (book_of k) → ((b : ActState) → Ties k b → owed b) → Serves k k owed None closes (Err OutOfMemory)
  serves_short k owed closes there due = record {
    constant = tt;
    unopened = λ none. absurd (none_there (book_of k) none there);
    faults = λ _. tt;
    dropped = λ _. neither (λ none. none_there (book_of k) none there) (λ e. cc);
    clean = λ clean. clean;
    answered = λ clean b ties _. due b ties;
    tells = tells_nothing k k _ refl memory_is_no_loss;
  }

  -- ---- a view of the book

  shown_there : (k : Keeper S T g) (s : BookState) → Some s ≡ book_of k → IsSome (book_of k)
  shown_there k s at = ap is_some (sym at)

  tied_book : (k : Keeper S T g) (s : BookState) (b : ActState) → Some s ≡ book_of k → Ties k b → s ≡ b.book
  tied_book k s b at ties = let h = rw (← at) at ties.book in h

  pub serves_view : (k : Keeper S T g) (s : BookState) (view : View) (closes : Bool) (result : Result ReplyText Fault)
      → Some s ≡ book_of k → Makes (found (media_of view) (view_text s view)) closes result
      → Serves k k (λ b. Gives k b (got b (routes.View view)) closes result) None closes result
  serves_view k s view closes result at made =
      serves_made k (λ b. Gives k b (got b (routes.View view)) closes result) (found (media_of view) (view_text s view)) closes result (shown_there k s at) made
      (λ b ties. gives_made k b (got b (routes.View view)) closes result
      (subst (λ (t : BookState). Makes (found (media_of view) (view_text t view)) closes result) (tied_book k s b at ties) made) ties)

  -- ---- a stored reply

  -- what the keeper answered by a fault is what an answer owes by it
  replied_gives : (old new : Keeper S T g) (b : ActState) (number : ℕ) (a : Answer) (fault : Fault) (closes : Bool) → Replied old new b number (Err (stops.Fault fault)) → Gives new b a closes (Err fault)
  replied_gives old new b number a OutOfMemory closes h = h.0
  replied_gives old new b number a Store closes h = h
  replied_gives old new b number a Reopen closes h = absurd h
  replied_gives old new b number a Input closes h = absurd h
  replied_gives old new b number a Output closes h = absurd h

  pub serves_found : (old new : Keeper S T g) (number : ℕ) (replied : Result (Option GivenReply) Stop) (closes : Bool) (result : Result ReplyText Fault)
      → (book_of old ≡ None) ↔ (replied ≡ Err (stops.Fault Reopen))
      → (book_of old ≡ None → new ≡ old)
      → (IsSome (book_of old) → IfErr replied IsStoreFault)
      → (IsSome (book_of old) → (book_of new ≡ None) ↔ (replied ≡ Err (stops.Fault Store)))
      → WasClean old new
      → TellsFaults old new (replied ≡ Err (stops.Fault Store))
      → IfHeld old new (λ b. Replied old new b number replied)
      → GoesOnFound replied closes result
      → Serves old new (λ b. Gives new b (got b (routes.Command number)) closes result) None closes result
  serves_found old new number (Ok given) closes result reopen unopened faults dropped clean tells made goes =
      let answer_of = found types.Json (option_map reply_body (option_map reply_as given)) in
      record {
        constant = tt;
        unopened = λ none. absurd (ok_is_no_err given (stops.Fault Reopen) (reopen.0 none));
        faults = λ _. makes_faults answer_of closes result goes;
        dropped = λ there. neither (λ none. ok_is_no_err given (stops.Fault Store) ((dropped there).0 none)) (makes_no_store_fault answer_of closes result goes);
        clean = clean;
        answered = λ is b ties there. (
            let h = made is b ties there in
            gives_made new b (got b (routes.Command number)) closes result
            (subst (λ (r : Option Reply). Makes (found types.Json (option_map reply_body r)) closes result) h.0 goes) h.1);
        tells = tells_as old new _ (result ≡ Err Store) (λ e. absurd (makes_no_store_fault answer_of closes result goes e)) tells;
      }
  serves_found old new number (Err (stops.Refused refusal)) closes result reopen unopened faults dropped clean tells made goes = record {
    constant = tt;
    unopened = λ none. absurd (refused_is_no_loss refusal Reopen (reopen.0 none));
    faults = λ there. absurd (refused_is_no_fault refusal (faults there));
    dropped = λ there. absurd (refused_is_no_fault refusal (faults there));
    clean = clean;
    answered = λ is b ties there. absurd (made is b ties there);
    tells = tells_as old new _ (result ≡ Err Store) (λ e. absurd (memory_is_no_loss (sym goes ∙ e))) tells;
  }
  serves_found old new number (Err (stops.Fault fault)) closes result reopen unopened faults dropped clean tells made goes = record {
    constant = tt;
    unopened = λ none. (unopened none, goes ∙ ap Err (same_fault fault Reopen (reopen.0 none)));
    faults = λ there. rw goes (store_fault_answers fault (faults there));
    dropped = λ there. (
      (λ none. goes ∙ ap Err (same_fault fault Store ((dropped there).0 none))),
      (λ e. (dropped there).1 (ap (λ (f : Fault). Err (stops.Fault f)) (same_answer_fault fault Store (sym goes ∙ e)))),
    );
    clean = clean;
    answered = λ is b ties there. rw goes (replied_gives old new b number (got b (routes.Command number)) fault closes (made is b ties there));
    tells = tells_as old new _ (result ≡ Err Store) (λ e. ap (λ (f : Fault). Err (stops.Fault f)) (same_answer_fault fault Store (sym goes ∙ e))) tells;
  }

  -- ---- a command

  -- what the keeper answered to a command by a fault is what an answer owes by it
  acted_gives : (old new : Keeper S T g) (b : ActState) (x : Referenced) (fault : Fault) (closes : Bool) → Acted old new b x (Err (stops.Fault fault)) → ActGives new b x closes (Err fault)
  acted_gives old new b x OutOfMemory closes h = inl h.0
  acted_gives old new b x Store closes h = h
  acted_gives old new b x Reopen closes h = absurd h
  acted_gives old new b x Input closes h = absurd h
  acted_gives old new b x Output closes h = absurd h

  pub serves_acted : (old new : Keeper S T g) (x : Referenced) (acted : Result GivenReply Stop) (closes : Bool) (result : Result ReplyText Fault)
      → IsSome (book_of old)
      → (IsSome (book_of old) → IfErr acted IsActStop)
      → (IsSome (book_of old) → (book_of new ≡ None) ↔ (acted ≡ Err (stops.Fault Store)))
      → WasClean old new
      → TellsFaults old new (acted ≡ Err (stops.Fault Store))
      → IfHeld old new (λ b. Acted old new b x acted)
      → GoesOnActed acted closes result
      → Serves old new (λ b. ActGives new b x closes result) None closes result
  serves_acted old new x (Ok given) closes result is faults dropped clean tells made goes = record {
    constant = tt;
    unopened = λ none. absurd (none_there (book_of old) none is);
    faults = λ _. makes_faults (outcome (Ok (reply_as given))) closes result goes;
    dropped = λ there. neither (λ none. ok_is_no_err given (stops.Fault Store) ((dropped there).0 none)) (makes_no_store_fault (outcome (Ok (reply_as given))) closes result goes);
    clean = clean;
    answered = λ cl b ties there. (let h = made cl b ties there in gives_accepted new b x (reply_as given) closes result h.0 goes h.1);
    tells = tells_as old new _ (result ≡ Err Store) (λ e. absurd (makes_no_store_fault (outcome (Ok (reply_as given))) closes result goes e)) tells;
  }
  serves_acted old new x (Err (stops.Refused refusal)) closes result is faults dropped clean tells made goes = record {
    constant = tt;
    unopened = λ none. absurd (none_there (book_of old) none is);
    faults = λ _. makes_faults (refused refusal) closes result goes;
    dropped = λ there. neither (λ none. refused_is_no_loss refusal Store ((dropped there).0 none)) (makes_no_store_fault (refused refusal) closes result goes);
    clean = clean;
    answered = λ cl b ties there. (let h = made cl b ties there in gives_refused new b x refusal closes result h.0 goes h.1);
    tells = tells_as old new _ (result ≡ Err Store) (λ e. absurd (makes_no_store_fault (refused refusal) closes result goes e)) tells;
  }
  serves_acted old new x (Err (stops.Fault fault)) closes result is faults dropped clean tells made goes = record {
    constant = tt;
    unopened = λ none. absurd (none_there (book_of old) none is);
    faults = λ there. rw goes (act_fault_answers fault (faults there));
    dropped = λ there. (
      (λ none. goes ∙ ap Err (same_fault fault Store ((dropped there).0 none))),
      (λ e. (dropped there).1 (ap (λ (f : Fault). Err (stops.Fault f)) (same_answer_fault fault Store (sym goes ∙ e)))),
    );
    clean = clean;
    answered = λ cl b ties there. rw goes (acted_gives old new b x fault closes (made cl b ties there));
    tells = tells_as old new _ (result ≡ Err Store) (λ e. ap (λ (f : Fault). Err (stops.Fault f)) (same_answer_fault fault Store (sym goes ∙ e))) tells;
  }

  -- ---- a plan

  -- the network may have been searched
  pub serves_planned : (old new : Keeper S T g) (body : List ℕ) (a : Answer) (closes : Bool) (result : Result ReplyText Fault)
      → OnlySearches old new → IsSome (book_of old) → ((s : BookState) → book_of old ≡ Some s → IsPlanAnswer s body a) → Makes a closes result
      → Serves old new (λ b. RouteAnswered new b methods.Post (Some routes.Plan) body closes result) None closes result
  serves_planned old new body a closes result same there is made = record {
    constant = tt;
    unopened = λ none. absurd (none_there (book_of old) none there);
    faults = λ _. makes_faults a closes result made;
    dropped = λ _. neither (λ none. none_there (book_of old) (sym same.1 ∙ none) there) (makes_no_store_fault a closes result made);
    clean = clean_before old new same;
    answered = λ clean b ties _. answered_planned new b body a closes result (is b.book (held_book (book_of old) b.book there ties.book)) made (still_tied old new same b ties);
    tells = tells_searched old new _ same (makes_no_store_fault a closes result made);
  }

  -- memory is refused to a plan
  pub serves_unplanned : (old new : Keeper S T g) (body : List ℕ) (closes : Bool) → OnlySearches old new → IsSome (book_of old)
      → Serves old new (λ b. RouteAnswered new b methods.Post (Some routes.Plan) body closes (Err OutOfMemory)) None closes (Err OutOfMemory)
  serves_unplanned old new body closes same there = record {
    constant = tt;
    unopened = λ none. absurd (none_there (book_of old) none there);
    faults = λ _. tt;
    dropped = λ _. neither (λ none. none_there (book_of old) (sym same.1 ∙ none) there) (λ e. cc);
    clean = clean_before old new same;
    answered = λ clean b ties _. still_tied old new same b ties;
    tells = tells_searched old new _ same memory_is_no_loss;
  }

  -- ---- an import

  pub serves_report : (old new : Keeper S T g) (body : List ℕ) (report : ImportReport) (closes : Bool) (result : Result ReplyText Fault)
      → IsSome (book_of old)
      → (IsSome (book_of old) → (book_of new ≡ None) ↔ IsImportStoreFault (Ok report))
      → WasClean old new
      → TellsFaults old new ⊥
      → IfHeld old new (λ b. Imported new b (Some (rows_of body)) (Ok report))
      → Makes (report_answer report.added report.again report.stopped) closes result
      → Serves old new (λ b. RouteAnswered new b methods.Post (Some routes.Import) body closes result) None closes result
  serves_report old new body report closes result is dropped clean tells made goes = record {
    constant = tt;
    unopened = λ none. absurd (none_there (book_of old) none is);
    faults = λ _. makes_faults (report_answer report.added report.again report.stopped) closes result goes;
    dropped = λ there. neither (λ none. (dropped there).0 none) (makes_no_store_fault (report_answer report.added report.again report.stopped) closes result goes);
    clean = clean;
    answered = λ cl b ties there. answered_report new b body report closes result (made cl b ties there) goes;
    tells = tells_as old new ⊥ (result ≡ Err Store) (makes_no_store_fault (report_answer report.added report.again report.stopped) closes result goes) tells;
  }

  pub serves_stopped : (old new : Keeper S T g) (body : List ℕ) (e : ImportFault) (closes : Bool)
      → IsSome (book_of old)
      → (IsSome (book_of old) → (book_of new ≡ None) ↔ IsImportStoreFault (Err e))
      → (IsSome (book_of old) → IfErr {T = ImportReport} (Err e) (λ f. HasCause f.fault ⊥))
      → WasClean old new
      → TellsFaults old new (e.fault ≡ Store)
      → IfHeld old new (λ b. Imported new b (Some (rows_of body)) (Err e))
      → Serves old new (λ b. RouteAnswered new b methods.Post (Some routes.Import) body closes (Err e.fault)) None closes (Err e.fault)
  serves_stopped old new body e closes is dropped cause clean tells made = record {
    constant = tt;
    unopened = λ none. absurd (none_there (book_of old) none is);
    faults = λ there. import_fault_answers e.fault (cause there);
    dropped = λ there. ((λ none. ap Err ((dropped there).0 none)), (λ same. (dropped there).1 (same_answer_fault e.fault Store same)));
    clean = clean;
    answered = λ cl b ties there. (
        let h = made cl b ties there in
        answered_stop new b body e.fault e.added e.again closes (cause there) h.0 h.1 h.2);
    tells = tells_as old new (e.fault ≡ Store) (◌≡◌ {A = Result ReplyText Fault} (Err e.fault) (Err Store)) (same_answer_fault e.fault Store) tells;
  }
