-- What requests make of a book is what commands make of it, and a crash leaves the first of them.
use Rattle.std.proofs.Common.{◌≡◌, ℕ, Bool, List, [], ◌∷◌, ◌++◌, ◌-◌, length, take, Option, None, Some, refl, sym, ap, subst, ◌∙◌, inl, inr, arith, take_at}
use Rattle.std.specs.Prelude.{Ok, Err}
use Rattle.std.proofs.lemmas.List.{take_all}
use Rattle.std.proofs.lemmas.List.Sums.{fold-append}
use Rattle.ob_base.specs.declared.stop.Fault.{Fault}
use Rattle.ob_base.specs.declared.stop.Fault.TheVariants.{OutOfMemory, Store, Reopen, Input, Output}
use Rattle.ob_stream.specs.declared.watched.Watched.{Watched}
use Rattle.ob_book.specs.Acts.{ActState, Referenced, act, acts}
use Rattle.ob_store.specs.Acting.{under}
use Rattle.ob_store.specs.Keepers.{Ghosts, StoresEither, Ties}
use Rattle.ob_store.proofs.KeeperLaws.{either_left, stored_left}
use Rattle.ob_store.specs.declared.keeper.Keeper.{Keeper}
use Rattle.ob_csv.specs.Rows.{Fields, rows_of}
use Rattle.ob_import.specs.Imports.{Import, ImportsBody, after_header}
use Rattle.ob_http_requests.specs.Message.{Message, path_of}
use Rattle.ob_http_requests.specs.Stream.{ends}
use Rattle.ob_http_requests.specs.declared.framing.Method.{Method}
use Rattle.ob_http_requests.specs.declared.framing.Method.TheVariants as methods
use Rattle.ob_http_routes.specs.Answers.{Answer, RouteAnswers}
use Rattle.ob_http_routes.specs.Answering.{RouteAnswered, StandsLost, StandsShort}
use Rattle.ob_http_routes.specs.Routes.{route_of}
use Rattle.ob_http_routes.specs.declared.routes.Route.{Route}
use Rattle.ob_http_routes.specs.declared.routes.Route.TheVariants as routes
use Rattle.ob_desk.specs.Crashes.{IsActed, IsLeft, KeepsInWork, Outlasts}
use Rattle.ob_desk.specs.Exchanges.{AnswersAt, Replies}
use Rattle.ob_desk.specs.Serving.{Breaks, BreaksAnswer, BreaksReply, Fails, Serves}
use Rattle.ob_desk.specs.Standing.{Over, Stands}

-- ---- answers act commands

imports-act : (b : ActState) (body : Option (List Fields)) (i : Import) → ImportsBody b body i → (commands : List Referenced) × (i.state ≡ acts b commands)
imports-act b None i is = ([], ap (λ j. j.state) is)
imports-act b (Some rows) i (later, begins, stopped) = (begins.2.commands, begins.2.state)

answers-act : (b : ActState) (method : Method) (route : Option Route) (body : List ℕ) (a : Answer) (c : ActState) → RouteAnswers b method route body a c
    → (commands : List Referenced) × (c ≡ acts b commands)
answers-act b method None body a c (is, same) = ([], same)
answers-act b methods.Get (Some route) body a c (is, same) = ([], same)
answers-act b methods.Post (Some routes.Commands) body a c (Ok said, says, (is, same)) = (under said.0 said.1 ∷ [], same)
answers-act b methods.Post (Some routes.Commands) body a c (Err refusal, says, (is, same)) = ([], same)
answers-act b methods.Post (Some routes.Import) body a c (i, imports, is, same) =
    let so = imports-act b (after_header (rows_of body)) i imports in (so.0, same ∙ so.1)
answers-act b methods.Post (Some routes.Plan) body a c (is, same) = ([], same)
answers-act b methods.Post (Some (routes.Command number)) body a c (is, same) = ([], same)
answers-act b methods.Post (Some (routes.View view)) body a c (is, same) = ([], same)

at-acts : (b c : ActState) (m : Message) (closes : Bool) (reply : List ℕ) → AnswersAt (Some b) m closes reply (Some c) → (commands : List Referenced) × (c ≡ acts b commands)
at-acts b c m closes reply (a, answers, is) = answers-act b m.method (route_of (path_of m.target)) m.body a c answers

pub replies-act : (allowed : ℕ) (x y : Option ActState) (ms : List Message) (text : List ℕ) → Replies allowed x ms text y → IsActed x y
replies-act allowed None y [] text (none, same) = ([], sym same)
replies-act allowed (Some b) y [] text (none, same) = ([], sym same)
replies-act allowed None y (m ∷ ms) text (reply, more, None, answers, is, rest) =
    let so = replies-act (allowed - 1) None y ms more rest in ([], so.1)
replies-act allowed None y (m ∷ ms) text (reply, more, Some c, answers, is, rest) = absurd answers
replies-act allowed (Some b) y (m ∷ ms) text (reply, more, None, answers, is, rest) = absurd answers
replies-act allowed (Some b) y (m ∷ ms) text (reply, more, Some c, answers, is, rest) =
    let one = at-acts b c m _ reply answers in
    let so = replies-act (allowed - 1) (Some c) y ms more rest in
    (one.0 ++ so.0, so.1 ∙ ap (λ d. Some (acts d so.0)) one.1 ∙ ap Some (sym (fold-append act b one.0 so.0)))

-- ---- a crash

-- all of the commands
all-of : (b c : ActState) (commands : List Referenced) → c ≡ acts b commands → c ≡ acts b (take (length commands) commands)
all-of b c commands is = is ∙ ap (acts b) (sym (take_all (length commands) commands (omega arith)))

module _ {S T : Type 0} {g : Ghosts S} where
  tied : (new : Keeper S T g) (b c : ActState) (commands : List Referenced) → Ties new c → c ≡ acts b commands → Outlasts new (Some b)
  tied new b c commands ties is = (commands, stored_left new (λ (count : ℕ). acts b (take count commands)) c (length commands) ties.kept (all-of b c commands is))

  stands-outlasts : (new : Keeper S T g) (x : Option ActState) → Stands new x → Outlasts new x
  stands-outlasts new None h = tt
  stands-outlasts new (Some b) (ties, some) = tied new b b [] ties refl

  -- memory was refused in place of an answer: some commands have acted
  short-acts : (new : Keeper S T g) (b : ActState) (method : Method) (route : Option Route) (body : List ℕ) → StandsShort new b method route body
      → (commands : List Referenced) × Ties new (acts b commands)
  short-acts new b method None body h = absurd h
  short-acts new b methods.Get (Some route) body ties = ([], ties)
  short-acts new b methods.Post (Some routes.Commands) body h = elim h [
    | inl ties ↦ ([], ties)
    | inr (x, says, ties) ↦ (x ∷ [], ties)
  ]
  short-acts new b methods.Post (Some routes.Import) body h = elim h [
    | inl (added, again, (c, later, begins, (ties, some))) ↦ (begins.2.commands, subst (Ties new) begins.2.state ties)
    | inr (i, imports, ties) ↦ let so = imports-act b (after_header (rows_of body)) i imports in (so.0, subst (Ties new) so.1 ties)
  ]
  short-acts new b methods.Post (Some routes.Plan) body ties = ([], ties)
  short-acts new b methods.Post (Some (routes.Command number)) body h = absurd h
  short-acts new b methods.Post (Some (routes.View view)) body h = absurd h

  short-outlasts : (new : Keeper S T g) (b : ActState) (method : Method) (route : Option Route) (body : List ℕ) → StandsShort new b method route body → Outlasts new (Some b)
  short-outlasts new b method route body h = let so = short-acts new b method route body h in tied new b (acts b so.0) so.0 so.1 refl

  -- all of the commands, or one more
  one-more : (new : Keeper S T g) (b c : ActState) (commands : List Referenced) (x : Referenced) → StoresEither new c (act c x) → c ≡ acts b commands → Outlasts new (Some b)
  one-more new b c commands x keeps is = (
    commands ++ x ∷ [],
    either_left new (λ (count : ℕ). acts b (take count (commands ++ x ∷ []))) c (act c x) (length commands) (length (commands ++ x ∷ [])) keeps
        (is ∙ ap (acts b) (sym (take_at commands (x ∷ []) (length commands) refl)))
        (all-of b (act c x) (commands ++ x ∷ []) (ap (λ d. act d x) is ∙ sym (fold-append act b commands (x ∷ [])))),
  )

  -- after a fault of the store: the book after some commands, and perhaps one more
  lost-left : (new : Keeper S T g) (b : ActState) (method : Method) (route : Option Route) (body : List ℕ) → StandsLost new b method route body
      → (commands : List Referenced) × KeepsInWork new (acts b commands)
  lost-left new b method None body h = absurd h
  lost-left new b methods.Get (Some route) body (keeps, none) = ([], inl keeps)
  lost-left new b methods.Post (Some routes.Commands) body (x, says, keeps, none) = ([], inr (x, keeps))
  lost-left new b methods.Post (Some routes.Import) body (added, again, (c, later, a, begins, next, keeps, none)) =
      (begins.2.commands, subst (KeepsInWork new) begins.2.state (inr (a, keeps)))
  lost-left new b methods.Post (Some routes.Plan) body h = absurd h
  lost-left new b methods.Post (Some (routes.Command number)) body h = absurd h
  lost-left new b methods.Post (Some (routes.View view)) body h = absurd h

  in-work-outlasts : (new : Keeper S T g) (b : ActState) (commands : List Referenced) → KeepsInWork new (acts b commands) → Outlasts new (Some b)
  in-work-outlasts new b commands h = elim h [
    | inl keeps ↦ (commands, stored_left new (λ (count : ℕ). acts b (take count commands)) (acts b commands) (length commands) keeps (all-of b (acts b commands) commands refl))
    | inr (x, keeps) ↦ one-more new b (acts b commands) commands x keeps refl
  ]

  lost-outlasts : (new : Keeper S T g) (b : ActState) (method : Method) (route : Option Route) (body : List ℕ) → StandsLost new b method route body → Outlasts new (Some b)
  lost-outlasts new b method route body h = let so = lost-left new b method route body h in in-work-outlasts new b so.0 so.1

  route-outlasts : (new : Keeper S T g) (b : ActState) (method : Method) (route : Option Route) (body : List ℕ) (closes : Bool) (fault : Fault)
      → RouteAnswered new b method route body closes (Err fault) → Outlasts new (Some b)
  route-outlasts new b method route body closes OutOfMemory h = short-outlasts new b method route body h
  route-outlasts new b method route body closes Store h = lost-outlasts new b method route body h
  route-outlasts new b method route body closes Reopen h = absurd h
  route-outlasts new b method route body closes Input h = absurd h
  route-outlasts new b method route body closes Output h = absurd h

  answer-outlasts : {W : Type 0} (writer : Watched W) (allowed : ℕ) (rest : Option (List ℕ)) (part : List ℕ) (new : Keeper S T g) (x : Option ActState) (fault : Fault)
      → BreaksAnswer writer allowed rest part new x fault → Outlasts new x
  answer-outlasts writer allowed rest part new None fault h = tt
  answer-outlasts writer allowed rest part new (Some b) fault h = route-outlasts new b h.message.method (route_of (path_of h.message.target)) h.message.body (ends allowed h.message) fault h.leaves

  -- a reply could not be written whole: its commands have acted
  reply-acts : (allowed : ℕ) (rest : Option (List ℕ)) (part : List ℕ) (new : Keeper S T g) (b : ActState) → BreaksReply allowed rest part new (Some b)
      → (commands : List Referenced) × Ties new (acts b commands)
  reply-acts allowed rest part new b h = by-next h.next h.answers h.stands
    where
      by-next : (y : Option ActState) → AnswersAt (Some b) h.message (ends allowed h.message) h.reply y → Stands new y → (commands : List Referenced) × Ties new (acts b commands)
      by-next None answers stands = absurd answers
      by-next (Some c) answers (ties, some) = let so = at-acts b c h.message (ends allowed h.message) h.reply answers in (so.0, subst (Ties new) so.1 ties)

  reply-outlasts : (allowed : ℕ) (rest : Option (List ℕ)) (part : List ℕ) (new : Keeper S T g) (x : Option ActState) → BreaksReply allowed rest part new x → Outlasts new x
  reply-outlasts allowed rest part new None h = tt
  reply-outlasts allowed rest part new (Some b) h = let so = reply-acts allowed rest part new b h in tied new b (acts b so.0) so.0 so.1 refl

  pub breaks-outlast : {R W : Type 0} (reader : Watched R) (writer : Watched W) (allowed : ℕ) (rest left : Option (List ℕ)) (part : List ℕ) (new : Keeper S T g) (x : Option ActState) (fault : Fault)
      → Breaks reader writer allowed rest left part new x fault → Outlasts new x
  breaks-outlast reader writer allowed rest left part new x OutOfMemory h = elim h [
    | inl reading ↦ stands-outlasts new x reading.1
    | inr answer ↦ answer-outlasts writer allowed rest part new x OutOfMemory answer
  ]
  breaks-outlast reader writer allowed rest left part new x Store h = answer-outlasts writer allowed rest part new x Store h
  breaks-outlast reader writer allowed rest left part new x Reopen h = answer-outlasts writer allowed rest part new x Reopen h
  breaks-outlast reader writer allowed rest left part new x Input h = stands-outlasts new x h.1
  breaks-outlast reader writer allowed rest left part new x Output h = elim h [
    | inl interim ↦ stands-outlasts new x interim.1
    | inr other ↦ elim other [
      | inl (refusal, refused, front, stands) ↦ stands-outlasts new x stands
      | inr reply ↦ reply-outlasts allowed rest part new x reply
    ]
  ]

  -- ---- what streams leave of a book, one after the other

  answer-left : (new : Keeper S T g) (b : ActState) (method : Method) (route : Option Route) (body : List ℕ) (closes : Bool) (fault : Fault)
      → RouteAnswered new b method route body closes (Err fault) → IsLeft new b (Some fault)
  answer-left new b method route body closes OutOfMemory h = short-acts new b method route body h
  answer-left new b method route body closes Store h = lost-left new b method route body h
  answer-left new b method route body closes Reopen h = absurd h
  answer-left new b method route body closes Input h = absurd h
  answer-left new b method route body closes Output h = absurd h

  breaks-left : {R W : Type 0} (reader : Watched R) (writer : Watched W) (allowed : ℕ) (rest left : Option (List ℕ)) (part : List ℕ) (new : Keeper S T g) (b : ActState) (fault : Fault)
      → Breaks reader writer allowed rest left part new (Some b) fault → IsLeft new b (Some fault)
  breaks-left reader writer allowed rest left part new b OutOfMemory h = elim h [
    | inl reading ↦ ([], reading.1.0)
    | inr answer ↦ answer-left new b answer.message.method (route_of (path_of answer.message.target)) answer.message.body (ends allowed answer.message) OutOfMemory answer.leaves
  ]
  breaks-left reader writer allowed rest left part new b Store h = answer-left new b h.message.method (route_of (path_of h.message.target)) h.message.body (ends allowed h.message) Store h.leaves
  breaks-left reader writer allowed rest left part new b Reopen h = answer-left new b h.message.method (route_of (path_of h.message.target)) h.message.body (ends allowed h.message) Reopen h.leaves
  breaks-left reader writer allowed rest left part new b Input h = ([], h.1.0)
  breaks-left reader writer allowed rest left part new b Output h = elim h [
    | inl interim ↦ ([], interim.1.0)
    | inr other ↦ elim other [
      | inl (refusal, refused, front, stands) ↦ ([], stands.0)
      | inr reply ↦ reply-acts allowed rest part new b reply
    ]
  ]

  pub left-then : (new : Keeper S T g) (b : ActState) (done : List Referenced) (fault : Option Fault) → IsLeft new (acts b done) fault → IsLeft new b fault
  left-then new b done None (more, ties) = (done ++ more, subst (Ties new) (sym (fold-append act b done more)) ties)
  left-then new b done (Some OutOfMemory) (more, ties) = (done ++ more, subst (Ties new) (sym (fold-append act b done more)) ties)
  left-then new b done (Some Store) (more, keeps) = (done ++ more, subst (KeepsInWork new) (sym (fold-append act b done more)) keeps)
  left-then new b done (Some Reopen) (more, ties) = (done ++ more, subst (Ties new) (sym (fold-append act b done more)) ties)
  left-then new b done (Some Input) (more, ties) = (done ++ more, subst (Ties new) (sym (fold-append act b done more)) ties)
  left-then new b done (Some Output) (more, ties) = (done ++ more, subst (Ties new) (sym (fold-append act b done more)) ties)

  pub serves-left : (stream had has : Option (List ℕ)) (old new : Keeper S T g) (replies : ℕ) (b : ActState) → Serves stream had has old new replies → Over old new (Some b) → IsLeft new b None
  serves-left stream had has old new replies b run over =
      let so = run.answered (Some b) over in (so.5.0, (subst (Stands new) so.5.1 so.4).0)

  pub fails-left : {R W : Type 0} (stream left had has : Option (List ℕ)) (reader : Watched R) (writer : Watched W) (old new : Keeper S T g) (fault : Fault) (b : ActState)
      → Fails stream left had has reader writer old new fault → Over old new (Some b) → IsLeft new b (Some fault)
  fails-left stream left had has reader writer old new fault b run over =
      let so = run.answered (Some b) over in
      left-then new b so.6.0 (Some fault)
      (breaks-left reader writer (1000 - length run.requests) run.rest left so.1 new (acts b so.6.0) fault (subst (λ y. Breaks reader writer (1000 - length run.requests) run.rest left so.1 new y fault) so.6.1 so.5))
