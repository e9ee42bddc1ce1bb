-- One turn, from what was read of it and what was written.
use Rattle.std.proofs.Common.{◌≡◌, ℕ, Bool, List, [], ◌++◌, take, Option, None, Some, IfSome, refl, subst, inl, inr}
use Rattle.std.specs.Io.KnownBytes.{Appends, Keeps}
use Rattle.ob_base.specs.declared.stop.Fault.{Fault}
use Rattle.ob_base.specs.declared.stop.Fault.TheVariants.{OutOfMemory, Store, Reopen, Input, Output}
use Rattle.ob_stream.specs.Streams.{AppendsFront}
use Rattle.ob_stream.specs.Watching.{HasJustFailed}
use Rattle.ob_stream.specs.declared.watched.Watched.{Watched}
use Rattle.ob_book.specs.Acts.{ActState}
use Rattle.ob_store.specs.Keepers.{Ghosts}
use Rattle.ob_store.specs.declared.keeper.Keeper.{Keeper}
use Rattle.ob_http_requests.specs.Continue.{interim_text}
use Rattle.ob_http_requests.specs.Head.{IsCutHead}
use Rattle.ob_http_requests.specs.Message.{Message, IsCut, IsCutBody, IsRefused, ReadsKnown}
use Rattle.ob_http_requests.specs.Reading.{Reads, Stops, WritesInTime, WritesInterim}
use Rattle.ob_http_requests.specs.Stream.{ends}
use Rattle.ob_http_requests.specs.declared.framing.Framing.{Framing}
use Rattle.ob_http_requests.specs.declared.framing.HeadRefusal.{HeadRefusal}
use Rattle.ob_http_requests.specs.declared.request.Next.TheVariants as nexts
use Rattle.ob_desk.specs.Exchanges.{AnswersAt, refusal_text, unavailable_text}
use Rattle.ob_desk.specs.Serving.{BreaksAnswer, IsWritten, WritesHead, WritesSoFar}
use Rattle.ob_desk.specs.Standing.{LeftBy, Over, Stands}
use Rattle.ob_desk.specs.Turns.{HasAnswerCause, IsAnswered, IsUnanswered, TurnFails, TurnIs}
use Rattle.ob_desk.specs.declared.turn.Turn.TheVariants as turns
use Rattle.ob_desk.proofs.StandLemmas.{over-stands}
use Rattle.ob_desk.proofs.WriteLemmas.{Appends-then, Appends-nothing}

IfSome-map : (o : Option (List ℕ)) (P Q : List ℕ → Type 0) → ((bytes : List ℕ) → P bytes → Q bytes) → IfSome o P → IfSome o Q
IfSome-map None P Q f h = tt
IfSome-map (Some x) P Q f h = f x h

writes-head : (unread had has : Option (List ℕ)) → WritesInterim unread had has → (part : List ℕ) × Appends had has part × WritesHead unread part
writes-head unread had has written = elim written [
  | inl kept ↦ ([], Appends-nothing had has kept, inl refl)
  | inr (framing, target, left, starts, interim) ↦ (interim_text framing.waits, interim, inr (framing, target, left, starts, refl))
]

writes-so-far : (unread left had has : Option (List ℕ)) → WritesInTime unread left had has → (part : List ℕ) × Appends had has part × WritesSoFar unread left part
writes-so-far unread left had has written = elim written [
  | inl (stops, kept) ↦ ([], Appends-nothing had has kept, inl (stops, refl))
  | inr (framing, target, after, starts, interim) ↦ (interim_text framing.waits, interim, inr (framing, target, after, starts, refl))
]

module _ {S T : Type 0} {g : Ghosts S} where
  -- nothing more is read
  pub turn-stops : {R W : Type 0} (allowed : ℕ) (unread left had has : Option (List ℕ)) (reader : Watched R) (writer : Watched W) (k : Keeper S T g) (fault : Fault)
      → Stops unread left had has reader writer fault → TurnFails allowed unread left had has reader writer k k fault
  turn-stops allowed unread left had has reader writer k OutOfMemory stops = record {
    cause = tt;
    broken = λ x over. let so = writes-head unread had has stops in (so.0, so.1, inl (so.2, over-stands k k x over));
  }
  turn-stops allowed unread left had has reader writer k Store stops = absurd stops
  turn-stops allowed unread left had has reader writer k Reopen stops = absurd stops
  turn-stops allowed unread left had has reader writer k Input (failed, stops) = record {
    cause = inl failed;
    broken = λ x over. let so = writes-so-far unread left had has stops in (so.0, so.1, (inl (failed, so.2), over-stands k k x over));
  }
  turn-stops allowed unread left had has reader writer k Output (failed, (framing, target, after, starts, front)) = record {
    cause = failed;
    broken = λ x over. (
      take front.count (interim_text framing.waits),
      front.appends,
      inl ((framing, target, after, starts, (front.count, front.fewer, refl)), over-stands k k x over),
    );
  }

  -- the stream ends inside a request
  pub turn-cut : {R W : Type 0} (allowed : ℕ) (unread after left had has : Option (List ℕ)) (reader : Watched R) (writer : Watched W) (k : Keeper S T g)
      → Reads unread after had has nexts.Cut → TurnFails allowed unread left had has reader writer k k Input
  turn-cut allowed unread after left had has reader writer k reads = elim reads [
    | inl (cut, kept) ↦ record {
      cause = inr (IfSome-map unread IsCutHead IsCut (λ bytes h. inl h) cut);
      broken = λ x over. ([], Appends-nothing had has kept, (inr (inl (cut, refl)), over-stands k k x over));
    }
    | inr (framing, cut, interim) ↦ record {
      cause = inr (IfSome-map unread (λ bytes. IsCutBody bytes framing) IsCut (λ bytes h. inr (framing, h)) cut);
      broken = λ x over. (interim_text framing.waits, interim, (inr (inr (framing, cut, refl)), over-stands k k x over));
    }
  ]

  -- bytes are refused, and that can't be written whole
  pub turn-unrefused : {R W : Type 0} (allowed : ℕ) (unread left had mid has : Option (List ℕ)) (reader : Watched R) (writer : Watched W) (k : Keeper S T g) (refusal : HeadRefusal)
      → IfSome unread (λ bytes. IsRefused bytes refusal) → Keeps had mid → AppendsFront mid has (refusal_text refusal) → HasJustFailed writer
      → TurnFails allowed unread left had has reader writer k k Output
  turn-unrefused allowed unread left had mid has reader writer k refusal refused kept front failed = record {
    cause = failed;
    broken = λ x over. (
      take front.count (refusal_text refusal),
      Appends-then had mid has [] _ (Appends-nothing had mid kept) front.appends,
      inr (inl (refusal, refused, (front.count, front.fewer, refl), over-stands k k x over)),
    );
  }

  -- bytes are refused
  pub turn-refused : (allowed : ℕ) (unread left had mid has : Option (List ℕ)) (k : Keeper S T g) (refusal : HeadRefusal)
      → IfSome unread (λ bytes. IsRefused bytes refusal) → Keeps had mid → Appends mid has (refusal_text refusal)
      → TurnIs allowed unread left had has k k turns.Refused
  turn-refused allowed unread left had mid has k refusal refused kept more =
      (refusal, refused, Appends-then had mid has [] _ (Appends-nothing had mid kept) more, refl)

  -- a request is answered
  pub turn-answered : (allowed : ℕ) (unread left had mid has : Option (List ℕ)) (old new : Keeper S T g) (m : Message) (ended : Bool)
      → ReadsKnown unread m left → Appends had mid (interim_text m.waits) → ended ≡ ends allowed m
      → IsAnswered mid has old new m ended → TurnIs allowed unread left had has old new (turns.Answered ended)
  turn-answered allowed unread left had mid has old new m ended read interim last answered = record {
    message = m;
    read = read;
    last = last;
    answered = λ x over. let so = answered x over in (so.0, so.1, so.2, Appends-then had mid has (interim_text m.waits) so.0 interim so.3, so.4);
  }

  -- one isn't
  pub turn-unanswered : {R W : Type 0} (allowed : ℕ) (unread after left had mid has : Option (List ℕ)) (reader : Watched R) (writer : Watched W) (old new : Keeper S T g) (m : Message) (ended : Bool) (fault : Fault)
      → ReadsKnown unread m after → Appends had mid (interim_text m.waits) → ended ≡ ends allowed m
      → IsUnanswered writer mid has old new m ended fault → HasAnswerCause writer old fault
      → TurnFails allowed unread left had has reader writer old new fault
  turn-unanswered allowed unread after left had mid has reader writer old new m ended fault read interim last unanswered cause = by-fault fault unanswered cause
    where
      no-answer : (f : Fault) → ((x : Option ActState) → Over old new x → (front : List ℕ) × IsWritten writer front unavailable_text × Appends mid has front × LeftBy new x m ended f)
          → (x : Option ActState) → Over old new x → (part : List ℕ) × Appends had has part × BreaksAnswer writer allowed unread part new x f
      no-answer f broken x over = let so = broken x over in (
        interim_text m.waits ++ so.0,
        Appends-then had mid has (interim_text m.waits) so.0 interim so.2,
        record {
          message = m;
          left = after;
          read = read;
          front = so.0;
          unavailable = so.1;
          written = refl;
          leaves = subst (λ e. LeftBy new x m e f) last so.3;
        },
      )

      by-fault : (f : Fault) → IsUnanswered writer mid has old new m ended f → HasAnswerCause writer old f
          → TurnFails allowed unread left had has reader writer old new f
      by-fault OutOfMemory broken c = record { cause = tt; broken = λ x over. let so = no-answer OutOfMemory broken x over in (so.0, so.1, inr so.2) }
      by-fault Store broken c = record { cause = tt; broken = no-answer Store broken }
      by-fault Reopen broken c = record { cause = c; broken = no-answer Reopen broken }
      by-fault Input broken c = absurd c
      by-fault Output broken c = record {
        cause = c;
        broken = λ x over. let so = broken x over in (
          interim_text m.waits ++ take so.3.count so.0,
          Appends-then had mid has (interim_text m.waits) _ interim so.3.appends,
          inr (inr (record {
            message = m;
            left = after;
            read = read;
            reply = so.0;
            next = so.1;
            answers = subst (λ e. AnswersAt x m e so.0 so.1) last so.2;
            front = take so.3.count so.0;
            less = (so.3.count, so.3.fewer, refl);
            written = refl;
            stands = so.4;
          })),
        );
      }
