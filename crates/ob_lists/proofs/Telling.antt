-- Each command that is acknowledged is in the book.
use Rattle.std.proofs.Common.{◌≡◌, inl, inr, ℕ, zero, suc, ◌+◌, ◌-◌, ◌<◌, ◌++◌, Bool, true, false, List, [], ◌∷◌, length, Option, Some, None, Result, Ok, Err, Contains, refl, sym, ap, subst, ◌∙◌, arith, get_or, length-append, slice_get, position, bytes_eq, true≢false, is_none, option_map, ◌&&◌, if◌then◌else◌}
use Rattle.std.specs.Prelude.{unwrap_or}
use Rattle.std.specs.List.{AllByRecursion}
use Rattle.std.specs.Option.{option_map_or}
use Rattle.std.specs.Result.{is_ok}
use Rattle.std.proofs.lemmas.List.Quantifiers.{position-Some}
use Rattle.std.proofs.lemmas.List.Sums.{fold-append}
use Rattle.std.proofs.lemmas.Slice.Eq.{bytes_eq-Decides}
use Rattle.ob_base.specs.declared.stop.Fault.{Fault}
use Rattle.ob_base.specs.declared.stop.Fault.TheVariants.{OutOfMemory, Store, Reopen, Input, Output}
use Rattle.ob_base.specs.declared.stop.Refusal.{Refusal}
use Rattle.ob_base.specs.declared.stop.Refusal.TheVariants.{RefConflict}
use Rattle.ob_csv.specs.Rows.{Fields, rows_of}
use Rattle.ob_command.specs.Commands.{body_text}
use Rattle.ob_state.specs.Refusals.{refusal}
use Rattle.ob_book.specs.Acts.{ActState, Referenced, Reply, act, acts, answer, answer_again, answer_new, answer_under, is_accepted, is_repeat, is_same, reply_of, take_on}
use Rattle.ob_import.specs.Imports.{AreAnswered, Begins, Import, ImportsBody, Say, Taken, after_header}
use Rattle.ob_import.specs.Reports.{AreRows, import_as}
use Rattle.ob_http_requests.specs.Continue.{interim_text}
use Rattle.ob_http_requests.specs.Message.{Message, path_of}
use Rattle.ob_http_requests.specs.declared.framing.Method.{Method}
use Rattle.ob_http_requests.specs.declared.framing.Method.TheVariants as methods
use Rattle.ob_http_routes.specs.Answering.{body_rows}
use Rattle.ob_http_routes.specs.Answers.{Answers, RequestsAreAnsweredOneThing, RouteAnswers, outcome}
use Rattle.ob_http_routes.specs.Routes.{route_of}
use Rattle.ob_http_routes.specs.declared.routes.Route.{Route}
use Rattle.ob_http_routes.specs.declared.routes.Route.TheVariants as routes
use Rattle.ob_desk.specs.Exchanges.{Replies}
use Rattle.ob_desk.specs.declared.stream.Served.{Served}
use Rattle.ob_desk.proofs.CrashLemmas.{replies-act}
use Rattle.ob_lists.specs.Importing.{BreaksOff, Ended, Makes, body_of, counted}
use Rattle.ob_lists.specs.Streaming.{Accepts, AnswersStream, BreaksStream, EndsStream, IsAnswered, IsUnwritten, LeavesLost, LeavesShort, LeavesUnanswered, Posts, Stream}
use Rattle.ob_lists.specs.Standing.{MayBe, Told, acknowledged, doubted, imported, served, streamed}
use Rattle.ob_lists.specs.Going.{Holds, HoldsRow, HoldsRows, RowsLaw, StreamsLaw, ToldLaw}

get_or_front : {X : Type 0} (xs ys : List X) (i : ℕ) (d : X) → i < length xs → get_or (xs ++ ys) i d ≡ get_or xs i d
get_or_front [] ys i d l = absurd (omega (arith, l))
get_or_front (x ∷ xs) ys zero d l = refl
get_or_front (x ∷ xs) ys (suc i) d l = get_or_front xs ys i d (omega (arith, l))

get_or_last : {X : Type 0} (xs : List X) (y : X) → get_or (xs ++ y ∷ []) (length xs) y ≡ y
get_or_last [] y = refl
get_or_last (x ∷ xs) y = get_or_last xs y

stays_in : {X : Type 0} (xs ys : List X) (x : X) → Contains xs x → Contains (xs ++ ys) x
stays_in xs ys x has = (has.0, omega (arith, has.1, length-append xs ys), get_or_front xs ys has.0 x has.1 ∙ has.2)

-- what a book holds it holds after any command
pub holds_on : (b : ActState) (c a : Referenced) → Holds b a → Holds (act b c) a
holds_on b c a has = elim (is_accepted b c) as (λ t. Holds (if t then take_on b c else b) a) [
  | true ↦ (has.0, stays_in b.accepted (c ∷ []) has.0 has.1, has.2, has.3)
  | false ↦ has
]

-- ---- a command that is answered
-- an item that passes at a place
item_at : {X : Type 0} (xs : List X) (i : ℕ) (test : X → Bool) → option_map_or test (slice_get xs i) false ≡ true
    → (x : X) × Contains xs x × (test x ≡ true) × ((d : X) → get_or xs i d ≡ x)
item_at [] i test passes = absurd (true≢false (sym passes))
item_at (x ∷ xs) zero test passes = (x, (zero, omega (arith), refl), passes, λ d. refl)
item_at (x ∷ xs) (suc i) test passes =
    let it = item_at xs i test passes in
    (it.0, (suc it.1.0, omega (arith, it.1.1), it.1.2), it.2, λ d. it.3 d)

holds_repeated : (b : ActState) (a : Referenced) (place : ℕ) → position (λ c. bytes_eq c.reference a.reference) b.accepted ≡ Some place
    → is_repeat b (place + 1) a.command ≡ true → Holds b a
holds_repeated b a place found again =
    let same : option_map_or (λ (c : Referenced). is_same c.command a.command) (slice_get b.accepted place) false ≡ true =
    subst (λ n. option_map_or (λ (c : Referenced). is_same c.command a.command) (slice_get b.accepted n) false ≡ true) (omega (arith)) again in
    let it = item_at b.accepted place (λ (c : Referenced). is_same c.command a.command) same in
    let under = position-Some (λ (c : Referenced). bytes_eq c.reference a.reference) b.accepted place a found in
    (it.0, it.1, (bytes_eq-Decides it.0.reference a.reference).0 (subst (λ (c : Referenced). bytes_eq c.reference a.reference ≡ true) (it.3 a) under.1), it.2)

in_last : {X : Type 0} (xs : List X) (x : X) → Contains (xs ++ x ∷ []) x
in_last xs x = (length xs, omega (arith, length-append xs (x ∷ [])), get_or_last xs x)

holds_new : (b : ActState) (a : Referenced) (o : Option Refusal) (reply : Reply) → answer_new b a.command o ≡ Ok reply → Holds (if true && is_none o then take_on b a else b) a
holds_new b a None reply answered = (a, in_last b.accepted a, refl, (bytes_eq-Decides (body_text a.command) (body_text a.command)).1 refl)
holds_new b a (Some refusal) reply answered = absurd cc

holds_again : (b : ActState) (a : Referenced) (place : ℕ) (reply : Reply) → position (λ c. bytes_eq c.reference a.reference) b.accepted ≡ Some place
    → answer_again b a.command (place + 1) ≡ Ok reply → Holds b a
holds_again b a place reply found = elim (is_repeat b (place + 1) a.command) as (λ t. is_repeat b (place + 1) a.command ≡ t
    → (if t then Ok (reply_of b (place + 1)) else Err (RefConflict (place + 1))) ≡ Ok reply → Holds b a) [
      | true ↦ λ again answered. holds_repeated b a place found again
      | false ↦ λ again answered. absurd cc
    ] refl

pub holds_answered : (b : ActState) (a : Referenced) → IsAnswered b a → Holds (act b a) a
holds_answered b a (reply, answered) = elim (position (λ c. bytes_eq c.reference a.reference) b.accepted) as (λ o.
    position (λ c. bytes_eq c.reference a.reference) b.accepted ≡ o → answer_under b a (option_map (λ place. place + 1) o) ≡ Ok reply
    → Holds (if is_none (option_map (λ place. place + 1) o) && is_none (refusal b.book a.command) then take_on b a else b) a) [
      | None ↦ λ found answered. holds_new b a (refusal b.book a.command) reply answered
      | Some place ↦ λ found answered. holds_again b a place reply found answered
    ] refl answered

-- ---- the commands of rows
-- what a book holds it holds after any commands
pub holds_after : (b : ActState) (list : List Referenced) (a : Referenced) → Holds b a → Holds (acts b list) a
holds_after b [] a has = has
holds_after b (c ∷ list) a has = holds_after (act b c) list a (holds_on b c a has)

is_answered : (b : ActState) (a : Referenced) → is_ok (answer b a) ≡ true → IsAnswered b a
is_answered b a ok = elim (answer b a) as (λ r. is_ok r ≡ true → (reply : Reply) × (r ≡ Ok reply)) [
  | Ok reply ↦ λ ok. (reply, refl)
  | Err refusal ↦ λ ok. absurd (true≢false (sym ok))
] ok

rows_after : (b : ActState) (list : List Referenced) (rows : List Fields) → AllByRecursion (HoldsRow b) rows → AllByRecursion (HoldsRow (acts b list)) rows
rows_after b list [] all = tt
rows_after b list (row ∷ rows) all = ((all.0.0, all.0.1, holds_after b list all.0.0 all.0.2), rows_after b list rows all.1)

rows_said : (b : ActState) (rows : List Fields) (commands : List Referenced) → Say rows commands → AreAnswered b commands → AllByRecursion (HoldsRow (acts b commands)) rows
rows_said b [] [] say answered = tt
rows_said b (row ∷ rows) (a ∷ list) say answered =
    ((a, say.0, holds_after (act b a) list a (holds_answered b a (is_answered b a answered.0))), rows_said (act b a) rows list say.1 answered.1)
rows_said b [] (a ∷ list) say answered = absurd say
rows_said b (row ∷ rows) [] say answered = absurd say

rows_taken : (b c : ActState) (rows : List Fields) (added again : ℕ) → Taken b c rows added again → AllByRecursion (HoldsRow c) rows
rows_taken b c rows added again taken = subst (λ s. AllByRecursion (HoldsRow s) rows) (sym taken.state) (rows_said b rows taken.commands taken.say taken.answered)

-- ---- what an import makes of a book
one_more : (b c x : ActState) (list : List Referenced) (a : Referenced) → c ≡ acts b list → x ≡ act c a → x ≡ acts b (list ++ a ∷ [])
one_more b c x list a was is = is ∙ ap (λ s. act s a) was ∙ sym (fold-append act b list (a ∷ []))

pub imports_act : (b : ActState) (body : Option (List Fields)) (i : Import) → ImportsBody b body i → (commands : List Referenced) × (i.state ≡ acts b commands)
imports_act b None i is = ([], ap (λ j. j.state) is)
imports_act b (Some rows) i (later, begins, stopped) = (begins.2.commands, begins.2.state)

breaks_act : (b : ActState) (rows : List Fields) (fault : Fault) (added again : ℕ) (x : ActState) → BreaksOff b rows fault added again x
    → (commands : List Referenced) × (x ≡ acts b commands)
breaks_act b rows OutOfMemory added again x (later, begins) = (begins.2.commands, begins.2.state)
breaks_act b rows Input added again x (later, begins) = (begins.2.commands, begins.2.state)
breaks_act b rows Store added again x (c, later, begins, inl same) = (begins.2.commands, same ∙ begins.2.state)
breaks_act b rows Store added again x (c, later, begins, inr (a, says, is)) =
    (begins.2.commands ++ a ∷ [], one_more b c x begins.2.commands a begins.2.state is)
breaks_act b rows Reopen added again x broken = absurd broken
breaks_act b rows Output added again x broken = absurd broken

makes_act : (b : ActState) (rows : List Fields) (ended : Ended) (x : ActState) → Makes b rows ended x → (commands : List Referenced) × (x ≡ acts b commands)
makes_act b rows (Ok report) x makes = imports_act b (after_header rows) (import_as x report) makes
makes_act b rows (Err e) x makes = breaks_act b (body_of rows) e.fault e.added e.again x makes

-- so many of these rows, the first, say commands of the book
abbrev HoldsFirst : ActState → List Fields → ℕ → Type 0
HoldsFirst b rows count = (done : List Fields) × (later : List Fields) × (rows ≡ done ++ later) × (length done ≡ count) × AllByRecursion (HoldsRow b) done

begins_hold : (b c : ActState) (rows later : List Fields) (added again : ℕ) → Begins b c rows later added again → HoldsFirst c rows (added + again)
begins_hold b c rows later added again (done, is, taken) = (done, later, is, sym taken.all, rows_taken b c done added again taken)

first_after : (b : ActState) (list : List Referenced) (rows : List Fields) (count : ℕ) → HoldsFirst b rows count → HoldsFirst (acts b list) rows count
first_after b list rows count (done, later, is, long, all) = (done, later, is, long, rows_after b list done all)

imports_hold : (b : ActState) (body : Option (List Fields)) (i : Import) → ImportsBody b body i → HoldsFirst i.state (unwrap_or body []) (i.added + i.again)
imports_hold b None i is = ([], [], refl, sym (ap (λ j. j.added + j.again) is), tt)
imports_hold b (Some rows) i (later, begins, stopped) = begins_hold b i.state rows later i.added i.again begins

breaks_hold : (b : ActState) (rows : List Fields) (fault : Fault) (added again : ℕ) (x : ActState) → BreaksOff b rows fault added again x
    → HoldsFirst x rows (added + again)
breaks_hold b rows OutOfMemory added again x (later, begins) = begins_hold b x rows later added again begins
breaks_hold b rows Input added again x (later, begins) = begins_hold b x rows later added again begins
breaks_hold b rows Store added again x (c, later, begins, inl same) =
    subst (λ s. HoldsFirst s rows (added + again)) (sym same) (begins_hold b c rows later added again begins)
breaks_hold b rows Store added again x (c, later, begins, inr (a, says, is)) =
    subst (λ s. HoldsFirst s rows (added + again)) (sym is) (first_after c (a ∷ []) rows (added + again) (begins_hold b c rows later added again begins))
breaks_hold b rows Reopen added again x broken = absurd broken
breaks_hold b rows Output added again x broken = absurd broken

makes_hold : (b : ActState) (rows : List Fields) (ended : Ended) (x : ActState) → Makes b rows ended x → HoldsRows x rows (counted ended)
makes_hold b rows (Ok report) x makes = imports_hold b (after_header rows) (import_as x report) makes
makes_hold b rows (Err e) x makes = breaks_hold b (body_of rows) e.fault e.added e.again x makes

-- ---- what a stream makes of a book
some_same : (x y : ActState) → Some x ≡ Some y → x ≡ y
some_same x y e = cc

pub replies_act : (allowed : ℕ) (b c : ActState) (ms : List Message) (text : List ℕ) → Replies allowed (Some b) ms text (Some c)
    → (commands : List Referenced) × (c ≡ acts b commands)
replies_act allowed b c ms text replies =
    let so = replies-act allowed (Some b) (Some c) ms text replies in (so.0, some_same c (acts b so.0) so.1)

-- what a request leaves that a fault kept from its answer
short_act : (b : ActState) (method : Method) (route : Option Route) (body : List ℕ) (x : ActState) → LeavesShort b method route body x
    → (commands : List Referenced) × (x ≡ acts b commands)
short_act b method None body x h = absurd h
short_act b methods.Get (Some route) body x same = ([], same)
short_act b methods.Post (Some routes.Commands) body x (inl same) = ([], same)
short_act b methods.Post (Some routes.Commands) body x (inr (a, says, is)) = (a ∷ [], is)
short_act b methods.Post (Some routes.Import) body x (inl (added, again, broke)) = breaks_act b (body_rows body) OutOfMemory added again x broke
short_act b methods.Post (Some routes.Import) body x (inr (i, imports, is)) =
    let so = imports_act b (after_header (rows_of body)) i imports in (so.0, is ∙ so.1)
short_act b methods.Post (Some routes.Plan) body x same = ([], same)
short_act b methods.Post (Some (routes.Command number)) body x h = absurd h
short_act b methods.Post (Some (routes.View view)) body x h = absurd h

lost_act : (b : ActState) (method : Method) (route : Option Route) (body : List ℕ) (x : ActState) → LeavesLost b method route body x
    → (commands : List Referenced) × (x ≡ acts b commands)
lost_act b method None body x h = absurd h
lost_act b methods.Get (Some route) body x same = ([], same)
lost_act b methods.Post (Some routes.Commands) body x (a, says, inl same) = ([], same)
lost_act b methods.Post (Some routes.Commands) body x (a, says, inr is) = (a ∷ [], is)
lost_act b methods.Post (Some routes.Import) body x (added, again, broke) = breaks_act b (body_rows body) Store added again x broke
lost_act b methods.Post (Some routes.Plan) body x h = absurd h
lost_act b methods.Post (Some (routes.Command number)) body x h = absurd h
lost_act b methods.Post (Some (routes.View view)) body x h = absurd h

unanswered_act : (b : ActState) (m : Message) (fault : Fault) (x : ActState) → LeavesUnanswered b m fault x → (commands : List Referenced) × (x ≡ acts b commands)
unanswered_act b m OutOfMemory x h = short_act b m.method (route_of (path_of m.target)) m.body x h
unanswered_act b m Store x h = lost_act b m.method (route_of (path_of m.target)) m.body x h
unanswered_act b m Reopen x h = ([], h.1)
unanswered_act b m Input x h = absurd h
unanswered_act b m Output x h = absurd h

unwritten_act : (allowed : ℕ) (rest : Option (List ℕ)) (part : List ℕ) (b x : ActState) → IsUnwritten allowed rest part b x
    → (commands : List Referenced) × (x ≡ acts b commands)
unwritten_act allowed rest part b x it =
    replies_act allowed b x (it.message ∷ []) (interim_text it.message.waits ++ (it.reply ++ [])) (it.reply, [], Some x, it.answers, refl, (refl, refl))

pub broken_act : (allowed : ℕ) (rest : Option (List ℕ)) (part : List ℕ) (b : ActState) (fault : Fault) (x : ActState)
    → BreaksStream allowed rest part b fault x → (commands : List Referenced) × (x ≡ acts b commands)
broken_act allowed rest part b OutOfMemory x (inl unread) = ([], unread.1)
broken_act allowed rest part b OutOfMemory x (inr it) = unanswered_act b it.message OutOfMemory x it.leaves
broken_act allowed rest part b Store x it = unanswered_act b it.message Store x it.leaves
broken_act allowed rest part b Reopen x it = unanswered_act b it.message Reopen x it.leaves
broken_act allowed rest part b Input x unread = ([], unread.1)
broken_act allowed rest part b Output x (inl interim) = ([], interim.1)
broken_act allowed rest part b Output x (inr (inl (refusal, refused, front, same))) = ([], same)
broken_act allowed rest part b Output x (inr (inr it)) = unwritten_act allowed rest part b x it

ends_act : (bytes : Option (List ℕ)) (requests : List Message) (part : List ℕ) (b x : ActState) (ended : Result Served Fault)
    → EndsStream bytes requests part b ended x → (commands : List Referenced) × (x ≡ acts b commands)
ends_act bytes requests part b x (Ok done) ends = ([], ends.4)
ends_act bytes requests part b x (Err fault) ends = broken_act (1000 - length requests) ends.0 part b fault x ends.3

stream_acts : (b : ActState) (s : Stream) (x : ActState) → AnswersStream b s x → (commands : List Referenced) × (x ≡ acts b commands)
stream_acts b s x it =
    let first = replies_act 1000 b it.book it.requests it.text it.answered in
    let more = ends_act s.bytes it.requests it.part it.book x s.ended it.ends in
    (first.0 ++ more.0, more.1 ∙ ap (λ c. acts c more.0) first.1 ∙ sym (fold-append act b first.0 more.0))

-- what answers a request that posts a command
pub posted : (b : ActState) (m : Message) (a : Referenced) → Posts m a → Answers b m (outcome (answer b a)) (act b a)
posted b m a (post, commands, says) =
    subst (λ method. RouteAnswers b method (route_of (path_of m.target)) m.body (outcome (answer b a)) (act b a)) (sym post)
    (subst (λ route. RouteAnswers b methods.Post route m.body (outcome (answer b a)) (act b a)) (sym commands) (Ok (a.reference, a.command), says, (refl, refl)))

accepted_in : RequestsAreAnsweredOneThing → (allowed : ℕ) (b c : ActState) (ms : List Message) (text : List ℕ) (a : Referenced)
    → Replies allowed (Some b) ms text (Some c) → Accepts b ms a → Holds c a
accepted_in law allowed b c [] text a replies accepts = absurd accepts
accepted_in law allowed b c (m ∷ ms) text a (reply, more, None, answers, is, rest) accepts = absurd answers
accepted_in law allowed b c (m ∷ ms) text a (reply, more, Some d, answers, is, rest) (inl posts) =
    let so = replies_act (allowed - 1) d c ms more rest in
    let same = (law b m answers.0 (outcome (answer b a)) d (act b a) answers.1 (posted b m a posts.0)).1 in
    subst (λ s. Holds s a) (sym so.1) (holds_after d so.0 a (subst (λ s. Holds s a) (sym same) (holds_answered b a posts.1)))
accepted_in law allowed b c (m ∷ ms) text a (reply, more, Some d, answers, is, rest) (inr later) =
    let same = (law b m answers.0 later.0 d later.1 answers.1 later.2).1 in
    accepted_in law (allowed - 1) d c ms more a rest (subst (λ s. Accepts s ms a) (sym same) later.3)

-- ---- what was told
-- whatever was told last, the book has some commands more than before it
pub goes_on : (b x : ActState) (t : Told) (before : List Told) → MayBe b (t ∷ before) x
    → (y : ActState) × MayBe b before y × (commands : List Referenced) × (x ≡ acts y commands)
goes_on b x (acknowledged a) before (y, was, answered, is) = (y, was, a ∷ [], is)
goes_on b x (doubted a) before (y, was, inl same) = (y, was, [], same)
goes_on b x (doubted a) before (y, was, inr taken) = (y, was, a ∷ [], taken)
goes_on b x (imported known ended) before (y, was, (rows, are, makes)) = let so = makes_act y rows ended x makes in (y, was, so.0, so.1)
goes_on b x (streamed stream) before (y, was, answers) = let so = stream_acts y stream x answers in (y, was, so.0, so.1)
goes_on b x served before may = may

pub told_in : ToldLaw
told_in b x [] a may has = absurd (omega (arith, has.1))
told_in b x (t ∷ before) a may (suc k, within, there) =
    let on = goes_on b x t before may in
    subst (λ s. Holds s a) (sym on.3) (holds_after on.0 on.2 a (told_in b on.0 before a on.1 (k, omega (arith, within), there)))
told_in b x (acknowledged c ∷ before) a may (zero, within, here) =
    let this : acknowledged c ≡ acknowledged a = here in
    let same : c ≡ a = cc in
    subst (λ s. Holds s a) (sym may.3) (subst (λ r. Holds (act may.0 c) r) same (holds_answered may.0 c may.2))
told_in b x (doubted c ∷ before) a may (zero, within, here) = let this : doubted c ≡ acknowledged a = here in absurd cc
told_in b x (imported known ended ∷ before) a may (zero, within, here) = let this : imported known ended ≡ acknowledged a = here in absurd cc
told_in b x (streamed stream ∷ before) a may (zero, within, here) = let this : streamed stream ≡ acknowledged a = here in absurd cc
told_in b x (served ∷ before) a may (zero, within, here) = let this : served ≡ acknowledged a = here in absurd cc

-- the rows that an import counts
abbrev CountsRows : ActState → Option (List Fields) → Ended → Type 0
CountsRows x known ended = (rows : List Fields) × AreRows known rows × HoldsRows x rows (counted ended)

pub rows_in : RowsLaw
rows_in b x [] known ended may has = absurd (omega (arith, has.1))
rows_in b x (t ∷ before) known ended may (suc k, within, there) =
    let on = goes_on b x t before may in
    let was = rows_in b on.0 before known ended on.1 (k, omega (arith, within), there) in
    (was.0, was.1, subst (λ s. HoldsRows s was.0 (counted ended)) (sym on.3) (first_after on.0 on.2 (body_of was.0) (counted ended) was.2))
rows_in b x (imported those end ∷ before) known ended may (zero, within, here) =
    let this : imported those end ≡ imported known ended = here in
    let same : those ≡ known = cc in
    let so : end ≡ ended = cc in
    subst (λ e. CountsRows x known e) so (subst (λ o. CountsRows x o end) same (may.2.0, may.2.1, makes_hold may.0 may.2.0 end x may.2.2))
rows_in b x (acknowledged c ∷ before) known ended may (zero, within, here) = let this : acknowledged c ≡ imported known ended = here in absurd cc
rows_in b x (doubted c ∷ before) known ended may (zero, within, here) = let this : doubted c ≡ imported known ended = here in absurd cc
rows_in b x (streamed stream ∷ before) known ended may (zero, within, here) = let this : streamed stream ≡ imported known ended = here in absurd cc
rows_in b x (served ∷ before) known ended may (zero, within, here) = let this : served ≡ imported known ended = here in absurd cc

-- the commands that a stream's requests posted and that were answered a reply
abbrev HoldsStream : ActState → Stream → Type 0
HoldsStream x stream =
    (y : ActState) × (z : ActState) × (it : AnswersStream y stream z) × ((a : Referenced) → Accepts y it.requests a → Holds x a)

pub streams_in : RequestsAreAnsweredOneThing → StreamsLaw
streams_in law b x [] stream may has = absurd (omega (arith, has.1))
streams_in law b x (t ∷ before) stream may (suc k, within, there) =
    let on = goes_on b x t before may in
    let was = streams_in law b on.0 before stream on.1 (k, omega (arith, within), there) in
    (was.0, was.1, was.2, λ a accepts. subst (λ s. Holds s a) (sym on.3) (holds_after on.0 on.2 a (was.3 a accepts)))
streams_in law b x (streamed those ∷ before) stream may (zero, within, here) =
    let this : streamed those ≡ streamed stream = here in
    let same : those ≡ stream = cc in
    let it = may.2 in
    let more = ends_act those.bytes it.requests it.part it.book x those.ended it.ends in
    subst (λ s. HoldsStream x s) same (
      may.0,
      x,
      it,
      λ a accepts.
          subst (λ s. Holds s a) (sym more.1)
          (holds_after it.book more.0 a (accepted_in law 1000 may.0 it.book it.requests it.text a it.answered accepts)),
    )
streams_in law b x (acknowledged c ∷ before) stream may (zero, within, here) = let this : acknowledged c ≡ streamed stream = here in absurd cc
streams_in law b x (doubted c ∷ before) stream may (zero, within, here) = let this : doubted c ≡ streamed stream = here in absurd cc
streams_in law b x (imported known ended ∷ before) stream may (zero, within, here) =
    let this : imported known ended ≡ streamed stream = here in absurd cc
streams_in law b x (served ∷ before) stream may (zero, within, here) = let this : served ≡ streamed stream = here in absurd cc
