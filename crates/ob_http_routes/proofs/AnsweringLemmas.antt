-- What the parts of an answer make of a keeper, put together by cases on the reply or the fault.
use Rattle.std.proofs.Common.{◌≡◌, ◌∙◌, sym, ap, subst, refl, ℕ, Bool, List, [], Option, Some, None, Result, Ok, Err, inl, inr, if◌then◌else◌, is_none}
use Rattle.std.specs.Prelude.{◌&&◌, unwrap_or}
use Rattle.ob_base.specs.declared.stop.Fault.{Fault}
use Rattle.ob_base.specs.declared.stop.Fault.TheVariants.{OutOfMemory, Store, Reopen, Input, Output}
use Rattle.ob_base.specs.declared.stop.Refusal.{Refusal}
use Rattle.ob_command.specs.declared.command.Command.{Command}
use Rattle.ob_state.specs.Refusals.{refusal}
use Rattle.ob_book.specs.Acts.{ActState, Referenced, Reply, act, answer, answer_under, number_of, take_on}
use Rattle.ob_store.specs.Acting.{under}
use Rattle.ob_store.specs.Keepers.{Ghosts, Ties}
use Rattle.ob_store.specs.declared.keeper.Keeper.{Keeper}
use Rattle.ob_csv.specs.Rows.{Fields, rows_of}
use Rattle.ob_import.specs.Imports.{ImportsBody, after_header}
use Rattle.ob_import.specs.Reports.{Breaks, HasCause, Imported, import_as}
use Rattle.ob_import.specs.declared.report.ImportReport.{ImportReport}
use Rattle.ob_http_requests.specs.declared.framing.Method.TheVariants as methods
use Rattle.ob_http_replies.specs.JsonCommands.{IsJsonCommand}
use Rattle.ob_http_routes.specs.Answers.{Answer, IsPlanAnswer, answer_text, got, outcome, refused, report_answer, reported}
use Rattle.ob_http_routes.specs.Answering.{ActGives, Gives, Makes, RouteAnswered}
use Rattle.ob_http_routes.specs.declared.reply.ReplyText.{ReplyText}
use Rattle.ob_http_routes.specs.declared.routes.Route.{Route}
use Rattle.ob_http_routes.specs.declared.routes.Route.TheVariants as routes

-- a command that is refused changes nothing, by what its reference and its command are answered
stays_by : (b : ActState) (x : Referenced) (known : Option ℕ) (why : Option Refusal) (r : Refusal) → refusal b.book x.command ≡ why → answer_under b x known ≡ Err r
    → (if is_none known && is_none why then take_on b x else b) ≡ b
stays_by b x None None r e h = (let at = rw e at h in cc)
stays_by b x None (Some other) r e h = refl
stays_by b x (Some n) why r e h = refl

pub act_stays : (b : ActState) (x : Referenced) (r : Refusal) → answer b x ≡ Err r → act b x ≡ b
act_stays b x r h = stays_by b x (number_of b x.reference) (refusal b.book x.command) r refl h

module _ {S T : Type 0} {g : Ghosts S} where
  -- a reply over a state that stays
  pub gives_made : (new : Keeper S T g) (b : ActState) (a : Answer) (closes : Bool) (result : Result ReplyText Fault)
      → Makes a closes result → Ties new b → Gives new b a closes result
  gives_made new b a closes (Ok text) made ties = (made, ties)
  gives_made new b a closes (Err fault) made ties = rw made ties

  -- the reply to an accepted command
  pub gives_accepted : (new : Keeper S T g) (b : ActState) (x : Referenced) (r : Reply) (closes : Bool) (result : Result ReplyText Fault)
      → answer b x ≡ Ok r → Makes (outcome (Ok r)) closes result → Ties new (act b x) → ActGives new b x closes result
  gives_accepted new b x r closes (Ok text) e made ties = (made ∙ ap (λ (o : Result Reply Refusal). answer_text (outcome o) closes) (sym e), ties)
  gives_accepted new b x r closes (Err fault) e made ties = rw made (inr ties)

  -- the reply to a refused one
  pub gives_refused : (new : Keeper S T g) (b : ActState) (x : Referenced) (r : Refusal) (closes : Bool) (result : Result ReplyText Fault)
      → answer b x ≡ Err r → Makes (refused r) closes result → Ties new b → ActGives new b x closes result
  gives_refused new b x r closes (Ok text) e made ties =
      (made ∙ ap (λ (o : Result Reply Refusal). answer_text (outcome o) closes) (sym e), subst (λ s. Ties new s) (sym (act_stays b x r e)) ties)
  gives_refused new b x r closes (Err fault) e made ties = rw made (inl ties)

  -- a body that says a command
  pub answered_said : (new : Keeper S T g) (b : ActState) (said : List ℕ × Command) (body : List ℕ) (closes : Bool) (result : Result ReplyText Fault)
      → IsJsonCommand body (Ok said) → ActGives new b (under said.0 said.1) closes result
      → RouteAnswered new b methods.Post (Some routes.Commands) body closes result
  answered_said new b said body closes (Ok text) says h =
      (outcome (answer b (under said.0 said.1)), act b (under said.0 said.1), (Ok said, says, (refl, refl)), h.0, h.1)
  answered_said new b said body closes (Err OutOfMemory) says (inl ties) = inl ties
  answered_said new b said body closes (Err OutOfMemory) says (inr ties) = inr (under said.0 said.1, says, ties)
  answered_said new b said body closes (Err Store) says h = (under said.0 said.1, says, h.0, h.1)
  answered_said new b said body closes (Err Reopen) says h = absurd h
  answered_said new b said body closes (Err Input) says h = absurd h
  answered_said new b said body closes (Err Output) says h = absurd h

  -- a body that says none
  pub answered_unsaid : (new : Keeper S T g) (b : ActState) (r : Refusal) (body : List ℕ) (closes : Bool) (result : Result ReplyText Fault)
      → IsJsonCommand body (Err r) → Makes (refused r) closes result → Ties new b
      → RouteAnswered new b methods.Post (Some routes.Commands) body closes result
  answered_unsaid new b r body closes (Ok text) says made ties = (refused r, b, (Err r, says, (refl, refl)), made, ties)
  answered_unsaid new b r body closes (Err fault) says made ties = rw made (inl ties)

  -- a GET of a route
  pub answered_got : (new : Keeper S T g) (b : ActState) (route : Route) (body : List ℕ) (closes : Bool) (result : Result ReplyText Fault)
      → Gives new b (got b route) closes result → RouteAnswered new b methods.Get (Some route) body closes result
  answered_got new b route body closes (Ok text) h = (got b route, b, (refl, refl), h.0, h.1)
  answered_got new b route body closes (Err OutOfMemory) h = h
  answered_got new b route body closes (Err Store) h = h
  answered_got new b route body closes (Err Reopen) h = absurd h
  answered_got new b route body closes (Err Input) h = absurd h
  answered_got new b route body closes (Err Output) h = absurd h

  -- a body that asks for a plan
  pub answered_planned : (new : Keeper S T g) (b : ActState) (body : List ℕ) (a : Answer) (closes : Bool) (result : Result ReplyText Fault)
      → IsPlanAnswer b.book body a → Makes a closes result → Ties new b → RouteAnswered new b methods.Post (Some routes.Plan) body closes result
  answered_planned new b body a closes (Ok text) is made ties = (a, b, (is, refl), made, ties)
  answered_planned new b body a closes (Err fault) is made ties = rw made ties

  -- an import that was reported
  pub answered_report : (new : Keeper S T g) (b : ActState) (body : List ℕ) (report : ImportReport) (closes : Bool) (result : Result ReplyText Fault)
      → Imported new b (Some (rows_of body)) (Ok report) → Makes (report_answer report.added report.again report.stopped) closes result
      → RouteAnswered new b methods.Post (Some routes.Import) body closes result
  answered_report new b body report closes (Ok text) (rows, same, (c, imports, (ties, is))) made =
      (reported (import_as c report), c, (import_as c report, subst (λ (r : List Fields). ImportsBody b (after_header r) (import_as c report)) same imports, refl, refl), made, ties)
  answered_report new b body report closes (Err fault) (rows, same, (c, imports, (ties, is))) made =
      rw made (inr (import_as c report, subst (λ (r : List Fields). ImportsBody b (after_header r) (import_as c report)) same imports, ties))

  -- an import that a fault stopped
  pub answered_stop : (new : Keeper S T g) (b : ActState) (body : List ℕ) (fault : Fault) (added again : ℕ) (closes : Bool) → HasCause fault ⊥
      → (rows : List Fields) → rows ≡ rows_of body → Breaks new b (unwrap_or (after_header rows) []) fault added again
      → RouteAnswered new b methods.Post (Some routes.Import) body closes (Err fault)
  answered_stop new b body OutOfMemory added again closes cause rows same h =
      inl (added, again, subst (λ (r : List Fields). Breaks new b (unwrap_or (after_header r) []) OutOfMemory added again) same h)
  answered_stop new b body Store added again closes cause rows same h =
      (added, again, subst (λ (r : List Fields). Breaks new b (unwrap_or (after_header r) []) Store added again) same h)
  answered_stop new b body Reopen added again closes cause rows same h = absurd cause
  answered_stop new b body Input added again closes cause rows same h = absurd cause
  answered_stop new b body Output added again closes cause rows same h = absurd cause
