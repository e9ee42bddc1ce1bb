-- The requests of a stream, read in turn: one request more.
use Rattle.std.proofs.Common.{◌≡◌, ℕ, ◌+◌, ◌-◌, ◌<◌, Bool, true, false, List, [], ◌∷◌, ◌++◌, length, Option, None, Some, IfSome, MatchBool, refl, sym, ap, subst, ◌∙◌, arith}
use Rattle.std.specs.Prelude.{◌==◌, ◌||◌}
use Rattle.std.proofs.lemmas.Bool.Decides.{nat_tests}
use Rattle.ob_http_requests.specs.Message.{Message, ReadsMessage, ReadsKnown}
use Rattle.ob_http_requests.specs.Stream.{After, AfterKnown, EndsWith, Requests, ends}
use Rattle.ob_http_requests.specs.Unread.{unread}
use Rattle.ob_http_requests.specs.declared.framing.HeadRefusal.{HeadRefusal}

match-true : (b : Bool) (P Q : Type 0) → b ≡ true → P → MatchBool b P Q
match-true b P Q e p = subst (λ t. MatchBool t P Q) (sym e) p

match-false : (b : Bool) (P Q : Type 0) → b ≡ false → Q → MatchBool b P Q
match-false b P Q e q = subst (λ t. MatchBool t P Q) (sym e) q

-- how many are allowed after one more
fewer : (allowed : ℕ) (m : Message) (ms : List Message) → allowed - length (m ∷ ms) ≡ allowed - 1 - length ms
fewer allowed m ms = omega arith

after-then : (allowed : ℕ) (bytes rest mid : List ℕ) (ms : List Message) (m : Message) → After allowed bytes ms rest → ReadsMessage rest m mid
    → ends (allowed - length ms) m ≡ false → After allowed bytes (ms ++ m ∷ []) mid
after-then allowed bytes rest mid [] m same reads goes =
    (mid, subst (λ t. ReadsMessage t m mid) (sym same) reads, subst (λ n. ends n m ≡ false) (omega arith) goes, refl)
after-then allowed bytes rest mid (k ∷ ms) m (at, first, on, more) reads goes =
    (at, first, on, after-then (allowed - 1) at rest mid ms m more reads (subst (λ n. ends n m ≡ false) (fewer allowed k ms) goes))

after-last : (allowed : ℕ) (bytes rest mid : List ℕ) (ms : List Message) (m : Message) → After allowed bytes ms rest → ReadsMessage rest m mid
    → ends (allowed - length ms) m ≡ true → Requests allowed bytes (ms ++ m ∷ []) None
after-last allowed bytes rest mid [] m same reads stops =
    (mid, subst (λ t. ReadsMessage t m mid) (sym same) reads, match-true _ _ _ (subst (λ n. ends n m ≡ true) (omega arith) stops) (refl, refl))
after-last allowed bytes rest mid (k ∷ ms) m (at, first, on, more) reads stops =
    (at, first, match-false _ _ _ on (after-last (allowed - 1) at rest mid ms m more reads (subst (λ n. ends n m ≡ true) (fewer allowed k ms) stops)))

after-end : (allowed : ℕ) (bytes rest : List ℕ) (ms : List Message) (ending : Option HeadRefusal) → After allowed bytes ms rest → EndsWith rest ending → Requests allowed bytes ms ending
after-end allowed bytes rest [] ending same h = subst (λ t. EndsWith t ending) (sym same) h
after-end allowed bytes rest (k ∷ ms) ending (at, first, on, more) h = (at, first, match-false _ _ _ on (after-end (allowed - 1) at rest ms ending more h))

-- ---- of bytes that may not be known

-- no request so far, and no byte read ahead
pub known-start : (allowed : ℕ) (stream : Option (List ℕ)) → AfterKnown allowed stream [] (unread [] stream)
known-start allowed None = tt
known-start allowed (Some bytes) = refl

-- one request more, after which the connection goes on
pub known-then : (allowed : ℕ) (stream now rest : Option (List ℕ)) (ms : List Message) (m : Message) → AfterKnown allowed stream ms now → ReadsKnown now m rest
    → ends (allowed - length ms) m ≡ false → AfterKnown allowed stream (ms ++ m ∷ []) rest
known-then allowed None now rest ms m h r e = tt
known-then allowed (Some xs) None rest ms m h r e = absurd h
known-then allowed (Some xs) (Some ys) None ms m h r e = absurd r
known-then allowed (Some xs) (Some ys) (Some zs) ms m h r e = after-then allowed xs ys zs ms m h r e

-- one request more, after which the connection ends
pub known-last : (allowed : ℕ) (stream now rest : Option (List ℕ)) (ms : List Message) (m : Message) → AfterKnown allowed stream ms now → ReadsKnown now m rest
    → ends (allowed - length ms) m ≡ true → IfSome stream (λ bytes. Requests allowed bytes (ms ++ m ∷ []) None)
known-last allowed None now rest ms m h r e = tt
known-last allowed (Some xs) None rest ms m h r e = absurd h
known-last allowed (Some xs) (Some ys) None ms m h r e = absurd r
known-last allowed (Some xs) (Some ys) (Some zs) ms m h r e = after-last allowed xs ys zs ms m h r e

-- no request more
pub known-end : (allowed : ℕ) (stream now : Option (List ℕ)) (ms : List Message) (ending : Option HeadRefusal) → AfterKnown allowed stream ms now
    → IfSome now (λ bytes. EndsWith bytes ending) → IfSome stream (λ bytes. Requests allowed bytes ms ending)
known-end allowed None now ms ending h e = tt
known-end allowed (Some xs) None ms ending h e = absurd h
known-end allowed (Some xs) (Some ys) ms ending h e = after-end allowed xs ys ms ending h e

-- whether the connection ends after a request, by how many were answered before it
pub ends-test : (most : ℕ) (ms : List Message) (m : Message) (answered : ℕ) → answered < most → answered ≡ length ms → ends (most - length ms) m ≡ (m.closes || (answered + 1 == most))
ends-test most ms m answered few long =
    ap (λ t. m.closes || t) (ap (λ k. most - k == 1) (sym long) ∙ last most answered few)
  where
    last : (most n : ℕ) → n < most → (most - n == 1) ≡ (n + 1 == most)
    last most n few = grind (arith, nat_tests)

-- where the connection goes on, one request more is allowed
pub goes-on : (most answered : ℕ) (closes : Bool) → answered < most → (closes || (answered + 1 == most)) ≡ false → answered + 1 < most
goes-on most answered true few e = cc
goes-on most answered false few e = grind (arith, nat_tests)
