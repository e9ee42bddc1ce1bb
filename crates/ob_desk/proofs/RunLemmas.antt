-- A run, one turn more.
use Rattle.std.proofs.Common.{◌≡◌, ℕ, ◌+◌, ◌-◌, ◌≤◌, Bool, true, false, List, [], ◌∷◌, ◌++◌, length, Option, None, Some, refl, sym, ap, subst, ◌∙◌, append-nil, arith, length-append, inl}
use Rattle.std.specs.Prelude.{◌==◌, ◌||◌}
use Rattle.std.proofs.lemmas.Bool.Decides.{nat_tests}
use Rattle.std.specs.Io.KnownBytes.{Appends}
use Rattle.ob_base.specs.declared.stop.Fault.{Fault}
use Rattle.ob_base.specs.declared.stop.Fault.TheVariants.{OutOfMemory, Store, Reopen, Input, Output}
use Rattle.ob_stream.specs.declared.watched.Watched.{Watched}
use Rattle.ob_book.specs.Acts.{ActState}
use Rattle.ob_store.specs.Calls.{WasClean}
use Rattle.ob_store.specs.Keepers.{Ghosts}
use Rattle.ob_store.specs.declared.keeper.Keeper.{Keeper}
use Rattle.ob_http_requests.specs.Continue.{interim_text}
use Rattle.ob_http_requests.specs.Message.{Message}
use Rattle.ob_http_requests.specs.Stream.{AfterKnown, ends}
use Rattle.ob_http_requests.specs.Unread.{unread}
use Rattle.ob_http_requests.specs.declared.framing.HeadRefusal.{HeadRefusal}
use Rattle.ob_desk.specs.Crashes.{IsActed}
use Rattle.ob_desk.specs.Exchanges.{AnswersAt, Replies, refusal_text}
use Rattle.ob_desk.specs.Serving.{Breaks, Fails, HasCause, Serves}
use Rattle.ob_desk.specs.Standing.{IsKept, Over, Stands}
use Rattle.ob_desk.specs.Turns.{TurnAnswers, TurnFails, TurnIs}
use Rattle.ob_desk.specs.declared.turn.Turn.TheVariants as turns
use Rattle.ob_desk.proofs.RequestLemmas.{known-start, known-then, known-last, known-end}
use Rattle.ob_desk.proofs.CrashLemmas.{breaks-outlast, replies-act}
use Rattle.ob_desk.proofs.ReplyLemmas.{replies-then}
use Rattle.ob_desk.proofs.StandLemmas.{none-before, over-before, over-stands, over-then}
use Rattle.ob_desk.proofs.WriteLemmas.{Appends-then, Appends-nothing, Keeps-same}

-- where the connection goes on, one request more is allowed
goes-on : (allowed : ℕ) (m : Message) → 1 ≤ allowed → ends allowed m ≡ false → 1 ≤ allowed - 1
goes-on allowed m some e = not-last allowed some (or-false m.closes (allowed == 1) e)
  where
    or-false : (a b : Bool) → (a || b) ≡ false → b ≡ false
    or-false true b e = cc
    or-false false b e = e

    not-last : (n : ℕ) → 1 ≤ n → (n == 1) ≡ false → 1 ≤ n - 1
    not-last n some e = grind (arith, nat_tests)

same-allowed : (allowed : ℕ) (ms : List Message) → allowed + length ms ≡ 1000 → 1000 - length ms ≡ allowed
same-allowed allowed ms count = omega (arith, count)

module _ {S T : Type 0} {g : Ghosts S} where
  -- the requests so far were read and answered, and after none of them the connection ends
  pub record SoFar (stream now had has : Option (List ℕ)) (old new : Keeper S T g) (allowed : ℕ) : Type 0 where
    pub requests : List Message
    pub read : AfterKnown 1000 stream requests now
    pub count : allowed + length requests ≡ 1000
    pub some : 1 ≤ allowed
    pub answered : (x : Option ActState) → Over old new x → (text : List ℕ) × (y : Option ActState) × Replies 1000 x requests text y × Appends had has text × Stands new y

  -- what is written and stands after one answer more
  one-more : (stream now left had mid has : Option (List ℕ)) (old at new : Keeper S T g) (allowed : ℕ) (ended : Bool) → WasClean at new
      → (run : SoFar stream now had mid old at allowed) (turn : TurnAnswers allowed now left mid has at new ended)
      → (x : Option ActState) → Over old new x → (text : List ℕ) × (y : Option ActState) × Replies 1000 x (run.requests ++ turn.message ∷ []) text y × Appends had has text × Stands new y
  one-more stream now left had mid has old at new allowed ended clean run turn x over =
      let so = run.answered x (over-before old at new x clean over) in
      let more = turn.answered so.1 (over-then old at new x so.1 1000 run.requests so.0 so.2 over so.4) in
      let is : ended ≡ ends (1000 - length run.requests) turn.message = turn.last ∙ ap (λ n. ends n turn.message) (sym (same-allowed allowed run.requests run.count)) in (
        so.0 ++ (interim_text turn.message.waits ++ more.0),
        more.1,
        replies-then 1000 x so.1 more.1 run.requests so.0 more.0 turn.message so.2 (subst (λ e. AnswersAt so.1 turn.message e more.0 more.1) is more.2),
        Appends-then had mid has so.0 _ so.3 more.3,
        more.4,
      )

  -- no request so far
  pub run-starts : (stream had : Option (List ℕ)) (old : Keeper S T g) → SoFar stream (unread [] stream) had had old old 1000
  run-starts stream had old = record {
    requests = [];
    read = known-start 1000 stream;
    count = omega arith;
    some = omega arith;
    answered = λ x over. ([], x, (refl, refl), Appends-nothing had had (Keeps-same had), over-stands old old x over);
  }

  -- the connection goes on
  pub run-goes : (stream now left had mid has : Option (List ℕ)) (old at new : Keeper S T g) (allowed : ℕ) (ended : Bool) → WasClean at new → ended ≡ false
      → SoFar stream now had mid old at allowed → TurnAnswers allowed now left mid has at new ended
      → SoFar stream left had has old new (allowed - 1)
  run-goes stream now left had mid has old at new allowed ended clean on run turn =
      let goes : ends allowed turn.message ≡ false = sym turn.last ∙ on in record {
        requests = run.requests ++ turn.message ∷ [];
        read = known-then 1000 stream now left run.requests turn.message run.read turn.read
            (ap (λ n. ends n turn.message) (same-allowed allowed run.requests run.count) ∙ goes);
        count = omega (arith, run.count, run.some, length-append run.requests (turn.message ∷ []));
        some = goes-on allowed turn.message run.some goes;
        answered = one-more stream now left had mid has old at new allowed ended clean run turn;
      }

  -- the connection ends after this request
  pub run-ended : (stream now left had mid has : Option (List ℕ)) (old at new : Keeper S T g) (allowed : ℕ) (ended : Bool) → WasClean at new → ended ≡ true
      → SoFar stream now had mid old at allowed → TurnAnswers allowed now left mid has at new ended
      → Serves stream had has old new (1000 - allowed + 1)
  run-ended stream now left had mid has old at new allowed ended clean on run turn =
      let more = one-more stream now left had mid has old at new allowed ended clean run turn in record {
        requests = run.requests ++ turn.message ∷ [];
        ending = None;
        read = known-last 1000 stream now left run.requests turn.message run.read turn.read
            (ap (λ n. ends n turn.message) (same-allowed allowed run.requests run.count) ∙ sym turn.last ∙ on);
        counted = omega (arith, run.count, run.some, length-append run.requests (turn.message ∷ []));
        most = omega (arith, run.count, run.some, length-append run.requests (turn.message ∷ []));
        answered = λ x over. let so = more x over in
            (so.0, so.1, so.2, subst (Appends had has) (sym (append-nil so.0)) so.3, so.4, replies-act 1000 x so.1 _ so.0 so.2);
      }

  -- the stream has no byte more, or bytes that are refused: the keeper stays
  ends-so : (stream now had mid has : Option (List ℕ)) (old at new : Keeper S T g) (allowed : ℕ) (ending : Option HeadRefusal) (tail : List ℕ) → new ≡ at
      → (run : SoFar stream now had mid old at allowed) → Appends mid has tail
      → (x : Option ActState) → Over old new x → (text : List ℕ) × (y : Option ActState) × Replies 1000 x run.requests text y × Appends had has (text ++ tail) × Stands new y × IsActed x y
  ends-so stream now had mid has old at new allowed ending tail same run more x over =
      let so = run.answered x (subst (λ k. Over old k x) same over) in
      (so.0, so.1, so.2, Appends-then had mid has so.0 tail so.3 more, subst (λ k. Stands k so.1) (sym same) so.4, replies-act 1000 x so.1 run.requests so.0 so.2)

  pub run-closed : (stream now left had mid has : Option (List ℕ)) (old at new : Keeper S T g) (allowed : ℕ) → SoFar stream now had mid old at allowed
      → TurnIs allowed now left mid has at new turns.Closed
      → Serves stream had has old new (1000 - allowed)
  run-closed stream now left had mid has old at new allowed run (none, kept, same) = record {
    requests = run.requests;
    ending = None;
    read = known-end 1000 stream now run.requests None run.read none;
    counted = omega (arith, run.count);
    most = omega (arith, run.count);
    answered = ends-so stream now had mid has old at new allowed None [] same run (Appends-nothing mid has kept);
  }

  pub run-refused : (stream now left had mid has : Option (List ℕ)) (old at new : Keeper S T g) (allowed : ℕ) → SoFar stream now had mid old at allowed
      → TurnIs allowed now left mid has at new turns.Refused
      → Serves stream had has old new (1000 - allowed + 1)
  run-refused stream now left had mid has old at new allowed run (refusal, refused, more, same) = record {
    requests = run.requests;
    ending = Some refusal;
    read = known-end 1000 stream now run.requests (Some refusal) run.read refused;
    counted = omega (arith, run.count);
    most = omega (arith, run.count);
    answered = ends-so stream now had mid has old at new allowed (Some refusal) (refusal_text refusal) same run more;
  }

  -- there was no book at the beginning where there is none now
  cause-before : {R W : Type 0} (rest : Option (List ℕ)) (reader : Watched R) (writer : Watched W) (old at : Keeper S T g) (fault : Fault) → IsKept old at None
      → HasCause rest reader writer at fault → HasCause rest reader writer old fault
  cause-before rest reader writer old at OutOfMemory kept h = tt
  cause-before rest reader writer old at Store kept h = tt
  cause-before rest reader writer old at Reopen kept h = none-before old at kept h
  cause-before rest reader writer old at Input kept h = h
  cause-before rest reader writer old at Output kept h = h

  -- memory was refused before the first request
  pub fails-first : {R W : Type 0} (stream left had : Option (List ℕ)) (reader : Watched R) (writer : Watched W) (k : Keeper S T g) → Fails stream left had had reader writer k k OutOfMemory
  fails-first stream left had reader writer k = record {
    requests = [];
    rest = stream;
    read = known-none stream;
    few = omega arith;
    cause = tt;
    answered = λ x over.
        let stands = over-stands k k x over in (
          [],
          [],
          x,
          (refl, refl),
          Appends-nothing had had (Keeps-same had),
          inl (inl refl, stands),
          replies-act 1000 x x [] [] (refl, refl),
          breaks-outlast reader writer 1000 stream left [] k x OutOfMemory (inl (inl refl, stands)),
        );
  }
    where
      known-none : (stream : Option (List ℕ)) → AfterKnown 1000 stream [] stream
      known-none None = tt
      known-none (Some bytes) = refl

  -- a fault ends the stream
  pub run-fails : {R W : Type 0} (stream now left had mid has : Option (List ℕ)) (reader : Watched R) (writer : Watched W) (old at new : Keeper S T g) (allowed : ℕ) (fault : Fault)
      → WasClean at new → IsKept old at None
      → SoFar stream now had mid old at allowed → TurnFails allowed now left mid has reader writer at new fault
      → Fails stream left had has reader writer old new fault
  run-fails stream now left had mid has reader writer old at new allowed fault clean kept run turn = record {
    requests = run.requests;
    rest = now;
    read = run.read;
    few = omega (arith, run.count, run.some);
    cause = cause-before now reader writer old at fault kept turn.cause;
    answered = λ x over.
        let so = run.answered x (over-before old at new x clean over) in
        let broken = turn.broken so.1 (over-then old at new x so.1 1000 run.requests so.0 so.2 over so.4) in (
          so.0,
          broken.0,
          so.1,
          so.2,
          Appends-then had mid has so.0 broken.0 so.3 broken.1,
          subst (λ n. Breaks reader writer n now left broken.0 new so.1 fault) (sym (same-allowed allowed run.requests run.count)) broken.2,
          replies-act 1000 x so.1 run.requests so.0 so.2,
          breaks-outlast reader writer allowed now left broken.0 new so.1 fault broken.2,
        );
  }
