-- A stream has one list of requests.
use Rattle.std.proofs.Common.{◌≡◌, ℕ, ◌-◌, Bool, true, false, List, [], ◌∷◌, Option, None, MatchBool, refl, sym, ◌∙◌, subst, inl, inr}
use Rattle.std.specs.Prelude.{◌⊎◌}
use Rattle.ob_http_requests.specs.Message.{Message, ReadsMessage, asked}
use Rattle.ob_http_requests.specs.Stream.{EndsWith, Requests, ends}
use Rattle.ob_http_requests.specs.Laws.{IsEither}
use Rattle.ob_http_requests.specs.declared.framing.HeadRefusal.{HeadRefusal}
use Rattle.ob_http_requests.proofs.MessageLemmas.{one-message, one-ending, start-or-ending}

-- the same requests, and then one ending, or two that the rest may have
abbrev Same : List Message → List Message → Option HeadRefusal → Option HeadRefusal → Type 0
Same ms ns one other = (ms ≡ ns) × ((one ≡ other) ⊎ ((rest : List ℕ) × EndsWith rest one × EndsWith rest other × IsEither rest one other))

message-or-ending : (bytes : List ℕ) (m : Message) (rest : List ℕ) (ending : Option HeadRefusal) → ReadsMessage bytes m rest → EndsWith bytes ending → ⊥
message-or-ending bytes m rest ending x y = start-or-ending bytes (asked m) m.target x.after x.starts ending y

-- after one request, by whether the connection ends
same-rest : (stops : Bool) (P Q : Type 0) (ms ns : List Message) (one other : Option HeadRefusal)
    → MatchBool stops ((ms ≡ []) × (one ≡ None)) P → MatchBool stops ((ns ≡ []) × (other ≡ None)) Q → (P → Q → Same ms ns one other) → Same ms ns one other
same-rest true P Q ms ns one other x y more = (x.0 ∙ sym y.0, inl (x.1 ∙ sym y.1))
same-rest false P Q ms ns one other x y more = more x y

with-front : (m n : Message) (ms ns : List Message) (one other : Option HeadRefusal) → m ≡ n → Same ms ns one other → Same (m ∷ ms) (n ∷ ns) one other
with-front m n ms ns one other first same = ((λ i. first i ∷ same.0 i), same.1)

pub one-stream : (allowed : ℕ) (bytes : List ℕ) (ms ns : List Message) (one other : Option HeadRefusal) → Requests allowed bytes ms one → Requests allowed bytes ns other → Same ms ns one other
one-stream allowed bytes [] [] one other x y =
    (refl, elim (one-ending bytes one other x y) [ inl same ↦ inl same | inr either ↦ inr (bytes, x, y, either) ])
one-stream allowed bytes [] (n ∷ ns) one other x (tail, reads, more) = absurd (message-or-ending bytes n tail one reads x)
one-stream allowed bytes (m ∷ ms) [] one other (rest, reads, more) y = absurd (message-or-ending bytes m rest other reads y)
one-stream allowed bytes (m ∷ ms) (n ∷ ns) one other (rest, reads, more) (tail, reads', more') =
    let same = one-message bytes m n rest tail reads reads' in
    let second : MatchBool (ends allowed m) ((ns ≡ []) × (other ≡ None)) (Requests (allowed - 1) rest ns other) =
    subst (λ k. MatchBool (ends allowed k) ((ns ≡ []) × (other ≡ None)) (Requests (allowed - 1) rest ns other)) (sym same.0)
    (subst (λ t. MatchBool (ends allowed n) ((ns ≡ []) × (other ≡ None)) (Requests (allowed - 1) t ns other)) (sym same.1) more') in
    with-front m n ms ns one other same.0
    (same-rest (ends allowed m) _ _ ms ns one other more second (one-stream (allowed - 1) rest ms ns one other))
