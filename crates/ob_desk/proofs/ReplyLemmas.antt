-- The replies to requests, one reply more.
use Rattle.std.proofs.Common.{◌≡◌, ℕ, ◌-◌, List, [], ◌∷◌, ◌++◌, length, Option, refl, sym, ap, subst, ◌∙◌, append_assoc, append-nil, arith}
use Rattle.ob_book.specs.Acts.{ActState}
use Rattle.ob_http_requests.specs.Continue.{interim_text}
use Rattle.ob_http_requests.specs.Message.{Message}
use Rattle.ob_http_requests.specs.Stream.{ends}
use Rattle.ob_desk.specs.Exchanges.{AnswersAt, Replies}

pub replies-then : (allowed : ℕ) (x y z : Option ActState) (ms : List Message) (text reply : List ℕ) (m : Message)
    → Replies allowed x ms text y → AnswersAt y m (ends (allowed - length ms) m) reply z
    → Replies allowed x (ms ++ m ∷ []) (text ++ (interim_text m.waits ++ reply)) z
replies-then allowed x y z [] text reply m (none, same) more = (
  reply,
  [],
  z,
  subst (λ s. AnswersAt s m (ends allowed m) reply z) (sym same) (subst (λ n. AnswersAt y m (ends n m) reply z) (omega arith) more),
  ap (λ t. t ++ (interim_text m.waits ++ reply)) none ∙ ap (λ t. interim_text m.waits ++ t) (sym (append-nil reply)),
  (refl, refl),
)
replies-then allowed x y z (k ∷ ms) text reply m (one, others, next, answers, is, rest) more = (
  one,
  others ++ (interim_text m.waits ++ reply),
  next,
  answers,
  ap (λ t. t ++ (interim_text m.waits ++ reply)) is ∙ append_assoc (interim_text k.waits) (one ++ others) (interim_text m.waits ++ reply)
      ∙ ap (λ t. interim_text k.waits ++ t) (append_assoc one others (interim_text m.waits ++ reply)),
  replies-then (allowed - 1) next y z ms others reply m rest (subst (λ n. AnswersAt y m (ends n m) reply z) (fewer allowed k ms) more),
)
  where
    fewer : (allowed : ℕ) (m : Message) (ms : List Message) → allowed - length (m ∷ ms) ≡ allowed - 1 - length ms
    fewer allowed m ms = omega arith
