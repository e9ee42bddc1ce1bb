-- What a fault of a stream leaves of the book that answered its requests.
use Rattle.std.proofs.Common.{◌≡◌, ◌⊎◌, inl, inr, ℕ, Bool, List, [], Option, None, Some, IfSome, Err, refl}
use Rattle.ob_base.specs.declared.stop.Fault.{Fault}
use Rattle.ob_base.specs.declared.stop.Fault.TheVariants.{OutOfMemory, Store, Reopen, Input, Output}
use Rattle.ob_stream.specs.Watching.{HasJustFailed}
use Rattle.ob_stream.specs.declared.watched.Watched.{Watched}
use Rattle.ob_book.specs.Acts.{ActState, act}
use Rattle.ob_store.specs.Keepers.{Ghosts, StoresEither, Ties, book_of}
use Rattle.ob_store.specs.declared.keeper.Keeper.{Keeper}
use Rattle.ob_http_requests.specs.Continue.{interim_text}
use Rattle.ob_http_requests.specs.Message.{IsCutBody, Message, path_of}
use Rattle.ob_http_requests.specs.Reading.{AfterHead}
use Rattle.ob_http_requests.specs.Stream.{ends}
use Rattle.ob_http_requests.specs.declared.framing.Framing.{Framing}
use Rattle.ob_http_requests.specs.declared.framing.Method.{Method}
use Rattle.ob_http_requests.specs.declared.framing.Method.TheVariants as methods
use Rattle.ob_http_routes.specs.Answering.{Answered, StandsLost, StandsShort}
use Rattle.ob_http_routes.specs.Answers.{BooklessAnswersStay}
use Rattle.ob_http_routes.specs.Routes.{route_of}
use Rattle.ob_http_routes.specs.declared.routes.Route.{Route}
use Rattle.ob_http_routes.specs.declared.routes.Route.TheVariants as routes
use Rattle.ob_desk.specs.Exchanges.{AnswersAt}
use Rattle.ob_desk.specs.Serving.{Breaks, BreaksAnswer, BreaksReply, IsFront, IsWritten, WritesCut, WritesHead, WritesSoFar}
use Rattle.ob_desk.specs.Standing.{Stands as Has}
use Rattle.ob_lists.specs.Streaming.{BreaksStream, IsUnanswered, IsUnwritten, LeavesLost, LeavesShort, LeavesUnanswered}
use Rattle.ob_lists.specs.Standing.{Stands}
use Rattle.ob_lists.proofs.Standings.{tie_none}

-- ---- what is written
as_part : {W : Type 0} (writer : Watched W) (front text : List ℕ) → IsWritten writer front text → (front ≡ text) ⊎ IsFront front text
as_part writer front text (inl whole) = inl whole
as_part writer front text (inr less) = inr less.0

-- a cut body comes after its head
after_cut : (rest : Option (List ℕ)) (part : List ℕ) (framing : Framing) → IfSome rest (λ bytes. IsCutBody bytes framing) → part ≡ interim_text framing.waits
    → AfterHead rest (λ f. part ≡ interim_text f.waits)
after_cut None part framing cut is = (framing, [], None, tt, is)
after_cut (Some bytes) part framing cut is = (framing, cut.target, Some cut.after, cut.starts, is)

cut_head : (rest : Option (List ℕ)) (part : List ℕ) → WritesCut rest part → WritesHead rest part
cut_head rest part (inl cut) = inl cut.1
cut_head rest part (inr (framing, cut, is)) = inr (after_cut rest part framing cut is)

so_far_head : (rest left : Option (List ℕ)) (part : List ℕ) → WritesSoFar rest left part → WritesHead rest part
so_far_head rest left part (inl stops) = inl stops.1
so_far_head rest left part (inr after) = inr after

input_head : {R : Type 0} (reader : Watched R) (rest left : Option (List ℕ)) (part : List ℕ)
    → (HasJustFailed reader × WritesSoFar rest left part) ⊎ WritesCut rest part → WritesHead rest part
input_head reader rest left part (inl failed) = so_far_head rest left part failed.1
input_head reader rest left part (inr cut) = cut_head rest part cut

module _ {S T : Type 0} {g : Ghosts S} (new : Keeper S T g) where
  -- ---- over a book
  module _ (c : ActState) (Is : ActState → Type 0) where
    one : (x : ActState) → Is x → Ties new x → Stands Is new
    one x is ties = inl (record { book = x; is = is; ties = ties })

    either : (x y : ActState) → Is x → Is y → StoresEither new x y → book_of new ≡ None → Stands Is new
    either x y is other keeps none = inr (inl (record { book = x; other = y; is = is; other_is = other; keeps = keeps; lost = none }))

    short_stands : (method : Method) (route : Option Route) (body : List ℕ) → ((x : ActState) → LeavesShort c method route body x → Is x)
        → StandsShort new c method route body → Stands Is new
    short_stands method None body may h = absurd h
    short_stands methods.Get (Some route) body may ties = one c (may c refl) ties
    short_stands methods.Post (Some routes.Commands) body may (inl ties) = one c (may c (inl refl)) ties
    short_stands methods.Post (Some routes.Commands) body may (inr (a, says, ties)) = one (act c a) (may (act c a) (inr (a, says, refl))) ties
    short_stands methods.Post (Some routes.Import) body may (inl (added, again, (d, later, begins, holds))) =
        one d (may d (inl (added, again, (later, begins)))) holds.0
    short_stands methods.Post (Some routes.Import) body may (inr (i, imports, ties)) = one i.state (may i.state (inr (i, imports, refl))) ties
    short_stands methods.Post (Some routes.Plan) body may ties = one c (may c refl) ties
    short_stands methods.Post (Some (routes.Command number)) body may h = absurd h
    short_stands methods.Post (Some (routes.View view)) body may h = absurd h

    lost_stands : (method : Method) (route : Option Route) (body : List ℕ) → ((x : ActState) → LeavesLost c method route body x → Is x)
        → StandsLost new c method route body → Stands Is new
    lost_stands method None body may h = absurd h
    lost_stands methods.Get (Some route) body may (keeps, none) = one c (may c refl) (tie_none new new c keeps none)
    lost_stands methods.Post (Some routes.Commands) body may (a, says, keeps, none) =
        either c (act c a) (may c (a, says, inl refl)) (may (act c a) (a, says, inr refl)) keeps none
    lost_stands methods.Post (Some routes.Import) body may (added, again, (d, later, a, begins, next, keeps, none)) =
        either d (act d a) (may d (added, again, (d, later, begins, inl refl))) (may (act d a) (added, again, (d, later, begins, inr (a, next, refl)))) keeps none
    lost_stands methods.Post (Some routes.Plan) body may h = absurd h
    lost_stands methods.Post (Some (routes.Command number)) body may h = absurd h
    lost_stands methods.Post (Some (routes.View view)) body may h = absurd h

    unanswered_stands : (m : Message) (closes : Bool) (fault : Fault) → ((x : ActState) → LeavesUnanswered c m fault x → Is x)
        → Answered new c m closes (Err fault) → Stands Is new
    unanswered_stands m closes OutOfMemory may h = short_stands m.method (route_of (path_of m.target)) m.body may h
    unanswered_stands m closes Store may h = lost_stands m.method (route_of (path_of m.target)) m.body may h
    unanswered_stands m closes Reopen may h = absurd h
    unanswered_stands m closes Input may h = absurd h
    unanswered_stands m closes Output may h = absurd h

    module _ {R W : Type 0} (reader : Watched R) (writer : Watched W) (allowed : ℕ) (rest left : Option (List ℕ)) (part : List ℕ) where
      unanswered : (fault : Fault) → ((x : ActState) → IsUnanswered rest part c fault x → Is x) → BreaksAnswer writer allowed rest part new (Some c) fault
          → Stands Is new
      unanswered fault may h = unanswered_stands h.message (ends allowed h.message) fault (λ x leaves. may x (record {
        message = h.message;
        left = h.left;
        read = h.read;
        front = h.front;
        unavailable = as_part writer h.front _ h.unavailable;
        written = h.written;
        leaves = leaves;
      })) h.leaves

      -- a reply could not be written whole
      unwritten : ((x : ActState) → IsUnwritten allowed rest part c x → Is x) → BreaksReply allowed rest part new (Some c) → Stands Is new
      unwritten may h = by_next h.next h.answers h.stands
        where
          by_next : (y : Option ActState) → AnswersAt (Some c) h.message (ends allowed h.message) h.reply y → Has new y → Stands Is new
          by_next None answers stands = absurd answers
          by_next (Some d) answers stands = one d (may d (record {
            message = h.message;
            left = h.left;
            read = h.read;
            reply = h.reply;
            answers = answers;
            front = h.front;
            less = h.less;
            written = h.written;
          })) stands.0

      pub breaks_stand : (fault : Fault) → ((x : ActState) → BreaksStream allowed rest part c fault x → Is x)
          → Breaks reader writer allowed rest left part new (Some c) fault → Stands Is new
      breaks_stand OutOfMemory may (inl reading) = one c (may c (inl (reading.0, refl))) reading.1.0
      breaks_stand OutOfMemory may (inr answer) = unanswered OutOfMemory (λ x it. may x (inr it)) answer
      breaks_stand Store may answer = unanswered Store may answer
      breaks_stand Reopen may answer = unanswered Reopen may answer
      breaks_stand Input may h = one c (may c (input_head reader rest left part h.0, refl)) h.1.0
      breaks_stand Output may (inl interim) = one c (may c (inl (interim.0, refl))) interim.1.0
      breaks_stand Output may (inr (inl (refusal, refused, front, stands))) = one c (may c (inr (inl (refusal, refused, front, refl)))) stands.0
      breaks_stand Output may (inr (inr reply)) = unwritten (λ x it. may x (inr (inr it))) reply

  -- ---- without one: whatever book there is stays
  module _ (law : BooklessAnswersStay) {R W : Type 0} (reader : Watched R) (writer : Watched W) (allowed : ℕ) (rest left : Option (List ℕ)) (part : List ℕ) (x : ActState) where
    bookless_unwritten : BreaksReply allowed rest part new None → IsUnwritten allowed rest part x x
    bookless_unwritten h = by_next h.next h.answers
      where
        by_next : (y : Option ActState) → AnswersAt None h.message (ends allowed h.message) h.reply y → IsUnwritten allowed rest part x x
        by_next (Some d) answers = absurd answers
        by_next None answers = record {
          message = h.message;
          left = h.left;
          read = h.read;
          reply = h.reply;
          answers = (answers.0, law x h.message answers.0 answers.1, answers.2);
          front = h.front;
          less = h.less;
          written = h.written;
        }

    bookless_unanswered : BreaksAnswer writer allowed rest part new None Reopen → IsUnanswered rest part x Reopen x
    bookless_unanswered h = record {
      message = h.message;
      left = h.left;
      read = h.read;
      front = h.front;
      unavailable = as_part writer h.front _ h.unavailable;
      written = h.written;
      leaves = (h.leaves.1, refl);
    }

    pub bookless_breaks : (fault : Fault) → Breaks reader writer allowed rest left part new None fault → BreaksStream allowed rest part x fault x
    bookless_breaks OutOfMemory (inl reading) = inl (reading.0, refl)
    bookless_breaks OutOfMemory (inr answer) = let no : OutOfMemory ≡ Reopen = answer.leaves.0 in absurd cc
    bookless_breaks Store answer = let no : Store ≡ Reopen = answer.leaves.0 in absurd cc
    bookless_breaks Reopen answer = bookless_unanswered answer
    bookless_breaks Input h = (input_head reader rest left part h.0, refl)
    bookless_breaks Output (inl interim) = inl (interim.0, refl)
    bookless_breaks Output (inr (inl (refusal, refused, front, stands))) = inr (inl (refusal, refused, front, refl))
    bookless_breaks Output (inr (inr reply)) = inr (inr (bookless_unwritten reply))
