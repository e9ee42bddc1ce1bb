-- What served streams make of a book that the store may have.
use Rattle.std.proofs.Common.{◌≡◌, inl, inr, ℕ, ◌-◌, List, [], ◌∷◌, ◌++◌, length, Option, None, Some, Result, Ok, Err, IfErr, refl, sym, subst}
use Rattle.std.specs.Prelude.{⊤, ◌↔◌, IfOk}
use Rattle.std.proofs.lemmas.List.Sums.{fold-append}
use Rattle.ob_base.specs.declared.stop.Fault.{Fault}
use Rattle.ob_base.specs.declared.stop.Fault.TheVariants.{OutOfMemory, Store, Reopen, Input, Output}
use Rattle.ob_stream.specs.declared.watched.Watched.{Watched}
use Rattle.ob_book.specs.Acts.{ActState, Referenced, act, acts}
use Rattle.ob_store.specs.Keepers.{Ghosts, IsClean, Ties, book_of}
use Rattle.ob_store.specs.declared.keeper.Keeper.{Keeper}
use Rattle.ob_http_requests.specs.Message.{Message}
use Rattle.ob_http_routes.specs.Answers.{BooklessAnswersStay}
use Rattle.ob_desk.specs.Crashes.{IsLeft}
use Rattle.ob_desk.specs.Exchanges.{Replies, ending_text}
use Rattle.ob_desk.specs.Listening.{LeavesKeeper, last_fault}
use Rattle.ob_desk.specs.Serving.{Breaks, Fails, Serves}
use Rattle.ob_desk.specs.Standing.{Stands as Has}
use Rattle.ob_desk.specs.declared.listen.Unserved.{Unserved}
use Rattle.ob_desk.specs.declared.listen.Unserved.TheVariants as unserved
use Rattle.ob_desk.specs.declared.stream.Served.{Served}
use Rattle.ob_lists.specs.Streaming.{Stream}
use Rattle.ob_lists.specs.Standing.{MayBe, Stands, Told, served, streamed, told_by_stream}
use Rattle.ob_lists.proofs.Breaking.{bookless_breaks, breaks_stand}
use Rattle.ob_lists.proofs.Standings.{by_book, stands_as, tie_none, unmoved}

-- requests that need no book are answered over one as without it
bookless_replies : BooklessAnswersStay → (allowed : ℕ) (ms : List Message) (text : List ℕ) (y : Option ActState) (b : ActState)
    → Replies allowed None ms text y → Replies allowed (Some b) ms text (Some b)
bookless_replies law allowed [] text y b (none, same) = (none, refl)
bookless_replies law allowed (m ∷ ms) text y b (reply, more, None, answers, whole, rest) =
    (reply, more, Some b, (answers.0, law b m answers.0 answers.1, answers.2), whole, bookless_replies law (allowed - 1) ms more y b rest)
bookless_replies law allowed (m ∷ ms) text y b (reply, more, Some c, answers, whole, rest) = absurd answers

-- and leave none
none_after : (allowed : ℕ) (ms : List Message) (text : List ℕ) (y : Option ActState) → Replies allowed None ms text y → y ≡ None
none_after allowed [] text y (none, same) = sym same
none_after allowed (m ∷ ms) text y (reply, more, None, answers, whole, rest) = none_after (allowed - 1) ms more y rest
none_after allowed (m ∷ ms) text y (reply, more, Some c, answers, whole, rest) = absurd answers

lost_by_desk : (r : Result ⊤ Unserved) (P : Type 0) → (P ↔ (r ≡ Err unserved.Store)) → last_fault r ≡ Some Store → P
lost_by_desk (Ok done) P lost is = absurd cc
lost_by_desk (Err unserved.Listener) P lost is = absurd cc
lost_by_desk (Err unserved.Store) P lost is = lost.1 refl
lost_by_desk (Err unserved.Reopen) P lost is = absurd cc

module _ {S T : Type 0} {g : Ghosts S} (old new : Keeper S T g) (b : ActState) (before : List Told) where
  -- some commands more than a book that there may be, of which this is told
  module _ (t : Told) (c : ActState) (may : (commands : List Referenced) → MayBe b (t ∷ before) (acts c commands)) where
    tied : (done : List Referenced) → Ties new (acts c done) → Stands (MayBe b (t ∷ before)) new
    tied done ties = inl (record { book = acts c done; is = may done; ties = ties })

    left_stands : (fault : Option Fault) → IsLeft new c fault → (fault ≡ Some Store → book_of new ≡ None) → Stands (MayBe b (t ∷ before)) new
    left_stands None (done, ties) lost = tied done ties
    left_stands (Some OutOfMemory) (done, ties) lost = tied done ties
    left_stands (Some Store) (done, inl keeps) lost = tied done (tie_none old new (acts c done) keeps (lost refl))
    left_stands (Some Store) (done, inr (a, keeps)) lost = inr (inl (record {
      book = acts c done;
      other = act (acts c done) a;
      is = may done;
      other_is = subst (MayBe b (t ∷ before)) (fold-append act c done (a ∷ [])) (may (done ++ a ∷ []));
      keeps = keeps;
      lost = lost refl;
    }))
    left_stands (Some Reopen) (done, ties) lost = tied done ties
    left_stands (Some Input) (done, ties) lost = tied done ties
    left_stands (Some Output) (done, ties) lost = tied done ties

  -- the streams of a listener
  pub desk_stands : (r : Result ⊤ Unserved) → LeavesKeeper old new r → IsClean new → Stands (MayBe b before) old
      → Stands (MayBe b (served ∷ before)) new
  desk_stands r leaves clean stands = elim (by_book old new (MayBe b before) (book_of old) refl stands) [
    | inl none ↦
        stands_as new (MayBe b before) (MayBe b (served ∷ before)) (λ x is. (x, is, [], refl)) (unmoved old new (MayBe b before) (leaves.unopened none) stands)
    | inr it ↦
        left_stands served it.0 (λ commands. (it.0, it.1, commands, refl)) (last_fault r) (leaves.left clean it.0 it.2 it.3)
        (λ is. lost_by_desk r (book_of new ≡ None) (leaves.dropped it.3) is)
  ]

  -- a stream
  module _ (law : BooklessAnswersStay) (bytes had has : Option (List ℕ)) (unopened : book_of old ≡ None → new ≡ old) (clean : IsClean new) where
    to_its_end : (done : Served) → Serves bytes had has old new done.requests → Stands (MayBe b before) old
        → Stands (MayBe b (told_by_stream bytes had has (Ok done) ++ before)) new
    to_its_end done run stands = elim (by_book old new (MayBe b before) (book_of old) refl stands) [
      | inl none ↦
          let so = run.answered None none in
          stands_as new (MayBe b before) (MayBe b (told_by_stream bytes had has (Ok done) ++ before)) (λ x is. (
            x,
            is,
            record {
              requests = run.requests;
              text = so.0;
              part = ending_text run.ending;
              book = x;
              answered = bookless_replies law 1000 run.requests so.0 so.1 x so.2;
              written = so.3;
              ends = (run.ending, run.read, run.counted, refl, refl);
            },
          )) (unmoved old new (MayBe b before) (unopened none) stands)
      | inr it ↦
          let so = run.answered (Some it.0) (clean, it.2, it.3) in
          let stood : Has new (Some (acts it.0 so.5.0)) = subst (Has new) so.5.1 so.4 in
          inl (record {
            book = acts it.0 so.5.0;
            is = (
              it.0,
              it.1,
              record {
                requests = run.requests;
                text = so.0;
                part = ending_text run.ending;
                book = acts it.0 so.5.0;
                answered = subst (λ y. Replies 1000 (Some it.0) run.requests so.0 y) so.5.1 so.2;
                written = so.3;
                ends = (run.ending, run.read, run.counted, refl, refl);
              },
            );
            ties = stood.0;
          })
    ]

    until_a_fault : {R W : Type 0} (reader : Watched R) (writer : Watched W) (left : Option (List ℕ)) (fault : Fault)
        → Fails bytes left had has reader writer old new fault
        → Stands (MayBe b before) old → Stands (MayBe b (told_by_stream bytes had has (Err fault) ++ before)) new
    until_a_fault reader writer left fault run stands = elim (by_book old new (MayBe b before) (book_of old) refl stands) [
      | inl none ↦
          let so = run.answered None none in
          stands_as new (MayBe b before) (MayBe b (told_by_stream bytes had has (Err fault) ++ before)) (λ x is. (
            x,
            is,
            record {
              requests = run.requests;
              text = so.0;
              part = so.1;
              book = x;
              answered = bookless_replies law 1000 run.requests so.0 so.2 x so.3;
              written = so.4;
              ends = (
                run.rest,
                run.read,
                run.few,
                bookless_breaks new law reader writer (1000 - length run.requests) run.rest left so.1 x fault
                    (subst (λ y. Breaks reader writer (1000 - length run.requests) run.rest left so.1 new y fault) (none_after 1000 run.requests so.0 so.2 so.3) so.5),
              );
            },
          )) (unmoved old new (MayBe b before) (unopened none) stands)
      | inr it ↦
          let so = run.answered (Some it.0) (clean, it.2, it.3) in
          let stream : Stream = record { bytes = bytes; had = had; has = has; ended = Err fault } in
          let c : ActState = acts it.0 so.6.0 in
          breaks_stand new c (MayBe b (streamed stream ∷ before)) reader writer (1000 - length run.requests) run.rest left so.1 fault (λ x broke. (
            it.0,
            it.1,
            record {
              requests = run.requests;
              text = so.0;
              part = so.1;
              book = c;
              answered = subst (λ y. Replies 1000 (Some it.0) run.requests so.0 y) so.6.1 so.3;
              written = so.4;
              ends = (run.rest, run.read, run.few, broke);
            },
          )) (subst (λ y. Breaks reader writer (1000 - length run.requests) run.rest left so.1 new y fault) so.6.1 so.5)
    ]

    pub stream_stands : {R W : Type 0} (reader : Watched R) (writer : Watched W) (left : Option (List ℕ)) (r : Result Served Fault)
        → IfOk r (λ done. Serves bytes had has old new done.requests)
        → IfErr r (Fails bytes left had has reader writer old new) → Stands (MayBe b before) old
        → Stands (MayBe b (told_by_stream bytes had has r ++ before)) new
    stream_stands reader writer left (Ok done) serves fails stands = to_its_end done serves stands
    stream_stands reader writer left (Err fault) serves fails stands = until_a_fault reader writer left fault fails stands
