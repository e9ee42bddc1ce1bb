-- Bytes begin with one head at most, and with one request.
use Rattle.std.proofs.Common.{◌≡◌, ℕ, ◌<◌, ◌+◌, ◌-◌, zero, suc, List, [], ◌∷◌, ◌++◌, length, take, drop, refl, sym, ap, ◌∙◌, subst, take_at, drop_at, append-nil, arith, length-append, inl, inr}
use Rattle.std.proofs.Math.Seq.{take-append-add}
use Rattle.std.proofs.lemmas.List.{take_all}
use Rattle.std.proofs.lemmas.Str.{IsUtf8-from_ascii}
use Rattle.std.specs.Prelude.{Result, Ok, Err, Option, None, Some, ◌⊎◌, All, IsTrue}
use Rattle.std.specs.Str.{IsAscii}
use Rattle.httparse.specs.Grammar.{lf, RequestHead, IsRequestHead, ReadsRequest, print_request, is_token_byte, is_uri_byte, HasNoRequest, NeverHasRequest, MayBecomeRequest, EndsInTarget}
use Rattle.httparse.proofs.GrammarLemmas.{request_unique}
use Rattle.ob_http_requests.specs.Framing.{framing_of}
use Rattle.ob_http_requests.specs.Head.{BeginsWithHead, IsNoHead, IsLongHead, IsCutHead}
use Rattle.ob_http_requests.specs.Message.{Message, ReadsMessage, StartsMessage, IsRefused, IsCut, asked}
use Rattle.ob_http_requests.specs.Stream.{EndsWith}
use Rattle.ob_http_requests.specs.Laws.{IsEither}
use Rattle.ob_http_requests.specs.declared.framing.Framing.{Framing}
use Rattle.ob_http_requests.specs.declared.framing.HeadRefusal.{HeadRefusal}
use Rattle.ob_http_requests.specs.declared.framing.HeadRefusal.TheVariants.{BadRequest}
use Rattle.ob_http_requests.proofs.HeadLemmas.{print_request-length}

same-ok : (f g : Framing) → (let r : Result Framing HeadRefusal = Ok f in r) ≡ Ok g → f ≡ g
same-ok f g e = cc

same-err : (s t : HeadRefusal) → (let r : Result Framing HeadRefusal = Err s in r) ≡ Err t → s ≡ t
same-err s t e = cc

not-both : (f : Framing) (s : HeadRefusal) → (let r : Result Framing HeadRefusal = Ok f in r) ≡ Err s → ⊥
not-both f s e = cc

-- ---- heads

pub one-head : (bytes : List ℕ) (h k : RequestHead) (a b : List ℕ) → BeginsWithHead bytes h a → BeginsWithHead bytes k b → (h ≡ k) × (a ≡ b)
one-head bytes h k a b x y = request_unique bytes h k a b x.reads y.reads

-- a head within the bound stands in the first bytes
in-front : (bytes : List ℕ) (h : RequestHead) (after : List ℕ) → BeginsWithHead bytes h after → ReadsRequest (take 16384 bytes) h (take (16384 - length (print_request h)) after)
in-front bytes h after x =
    let n = 16384 - length (print_request h) in
    let room : 16384 ≡ length (print_request h) + n = omega (arith, x.short) in
    (x.reads.0, ap (take 16384) x.reads.1 ∙ ap (λ k. take k (print_request h ++ after)) room ∙ take-append-add (print_request h) after n)

some-bytes : (bytes : List ℕ) (h : RequestHead) (after : List ℕ) → BeginsWithHead bytes h after → 0 < length bytes
some-bytes bytes h after x =
    let long = print_request-length h x.reads.0.fields in
    let whole = simp length-append at (ap length x.reads.1) in
    omega arith

never : (bytes : List ℕ) → NeverHasRequest bytes → HasNoRequest bytes
never bytes h = subst HasNoRequest (append-nil bytes) (h [])

pub head-or-none : (bytes : List ℕ) (h : RequestHead) (after : List ℕ) → BeginsWithHead bytes h after → IsNoHead bytes → ⊥
head-or-none bytes h after x refused = never (take 16384 bytes) refused h _ (in-front bytes h after x)

pub head-or-long : (bytes : List ℕ) (h : RequestHead) (after : List ℕ) → BeginsWithHead bytes h after → IsLongHead bytes → ⊥
head-or-long bytes h after x long = long.1.0 h _ (in-front bytes h after x)

pub head-or-cut : (bytes : List ℕ) (h : RequestHead) (after : List ℕ) → BeginsWithHead bytes h after → IsCutHead bytes → ⊥
head-or-cut bytes h after x cut = cut.2.0 h after x.reads

all-one : {X : Type 0} (P : X → Type 0) (x : X) → P x → All P (x ∷ [])
all-one P x h zero d inside = h
all-one P x h (suc k) d inside = absurd (omega arith)

-- a head: "G / HTTP/1.0" and an empty line
abbrev least : RequestHead
least = record { blank = []; method = 71 ∷ []; target = 47 ∷ []; minor = 0; line_end = lf; fields = []; last = lf }

least-is-head : IsRequestHead least
unfolding is_token_byte
least-is-head = record {
  method = (omega arith, all-one (λ b. IsTrue (is_token_byte b)) 71 refl);
  target = (omega arith, all-one (λ b. IsTrue (is_uri_byte b)) 47 refl);
  target_text = IsUtf8-from_ascii (47 ∷ []) ascii;
  minor = omega arith;
  fields = λ k d inside. absurd (omega arith);
}
  where
    ascii : IsAscii (47 ∷ [])
    ascii zero = omega arith
    ascii (suc i) = omega arith

-- no byte is the front of some head
pub none-is-front : IsNoHead [] → ⊥
none-is-front refused = refused (print_request least) least [] (least-is-head, sym (append-nil _))

-- what may still become a head isn't refused, but for bytes that end inside a target
unfinished-or-never : (bytes : List ℕ) → MayBecomeRequest bytes → NeverHasRequest bytes → EndsInTarget bytes
unfinished-or-never bytes may refused = elim may [ inl (more, h, reads) ↦ absurd (refused more h [] reads) | inr ends ↦ ends ]

-- ---- requests

pub one-start : (bytes : List ℕ) (f g : Framing) (t u a b : List ℕ) → StartsMessage bytes f t a → StartsMessage bytes g u b → (f ≡ g) × (t ≡ u) × (a ≡ b)
one-start bytes f g t u a b x y =
    let same = one-head bytes x.head y.head a b x.begins y.begins in (
      same-ok f g (sym x.asks ∙ ap framing_of same.0 ∙ y.asks),
      sym x.of_target ∙ ap (λ h. h.target) same.0 ∙ y.of_target,
      same.1,
    )

pub one-message : (bytes : List ℕ) (m n : Message) (rest tail : List ℕ) → ReadsMessage bytes m rest → ReadsMessage bytes n tail → (m ≡ n) × (rest ≡ tail)
one-message bytes m n rest tail x y =
    let (asks, target, same) = one-start bytes (asked m) (asked n) m.target n.target x.after y.after x.starts y.starts in
    let size : length m.body ≡ length n.body = ap (λ f. f.length) asks in
    let joined : m.body ++ rest ≡ n.body ++ tail = sym x.body ∙ same ∙ y.body in
    let body : m.body ≡ n.body = sym (take_at m.body rest (length m.body) refl) ∙ ap (take (length m.body)) joined ∙ take_at n.body tail (length m.body) (sym size) in
    let after : rest ≡ tail = sym (drop_at m.body rest (length m.body) refl) ∙ ap (drop (length m.body)) joined ∙ drop_at n.body tail (length m.body) (sym size) in
    (λ i. record { method = (asks i).method; target = target i; body = body i; waits = (asks i).waits; closes = (asks i).closes }, after)

-- a head that asks something is refused by no status
start-or-refused : (bytes : List ℕ) (f : Framing) (t a : List ℕ) (s : HeadRefusal) → StartsMessage bytes f t a → IsRefused bytes s → ⊥
start-or-refused bytes f t a s x refused = elim refused [
  | inl none ↦ head-or-none bytes x.head a x.begins none.1
  | inr (inl long) ↦ head-or-long bytes x.head a x.begins long.1
  | inr (inr y) ↦
      let same = one-head bytes x.head y.head a y.after x.begins y.begins in
      not-both f s (sym x.asks ∙ ap framing_of same.0 ∙ y.asks)
]

pub start-or-ending : (bytes : List ℕ) (f : Framing) (t a : List ℕ) → StartsMessage bytes f t a → (ending : Option HeadRefusal) → EndsWith bytes ending → ⊥
start-or-ending bytes f t a x None none =
    let some = some-bytes bytes x.head a x.begins in
    let zero_long = ap length none in
    omega arith
start-or-ending bytes f t a x (Some s) refused = start-or-refused bytes f t a s x refused

pub message-or-cut : (bytes : List ℕ) (m : Message) (rest : List ℕ) → ReadsMessage bytes m rest → IsCut bytes → ⊥
message-or-cut bytes m rest x cut = elim cut [
  | inl head ↦ head-or-cut bytes x.starts.head x.after x.starts.begins head
  | inr (f, body) ↦
      let (asks, target, same) = one-start bytes (asked m) f m.target body.target x.after body.after x.starts body.starts in
      let size : length m.body ≡ f.length = ap (λ g. g.length) asks in
      let long = ap length (sym same ∙ x.body) in
      let short = body.short in
      omega (arith, length-append m.body rest)
]

-- ---- endings

none-or-refused : (s : HeadRefusal) → IsRefused [] s → ⊥
none-or-refused s refused = elim refused [
  | inl none ↦ none-is-front none.1
  | inr (inl long) ↦ omega (arith, long.1.0)
  | inr (inr x) ↦ let some = some-bytes [] x.head x.after x.begins in omega arith
]

one-refusal : (bytes : List ℕ) (s t : HeadRefusal) → IsRefused bytes s → IsRefused bytes t → ((let r : Option HeadRefusal = Some s in r) ≡ Some t) ⊎ IsEither bytes (Some s) (Some t)
one-refusal bytes s t x y = elim x [
  | inl none ↦ elim y [
    | inl none' ↦ inl (ap Some (none.0 ∙ sym none'.0))
    | inr (inl long') ↦ inr (unfinished-or-never (take 16384 bytes) long'.1.1.1 none.1, inl (ap Some none.0), inr (ap Some long'.0))
    | inr (inr head') ↦ absurd (head-or-none bytes head'.head head'.after head'.begins none.1)
  ]
  | inr (inl long) ↦ elim y [
    | inl none' ↦ inr (unfinished-or-never (take 16384 bytes) long.1.1.1 none'.1, inr (ap Some long.0), inl (ap Some none'.0))
    | inr (inl long') ↦ inl (ap Some (long.0 ∙ sym long'.0))
    | inr (inr head') ↦ absurd (head-or-long bytes head'.head head'.after head'.begins long.1)
  ]
  | inr (inr head) ↦ elim y [
    | inl none' ↦ absurd (head-or-none bytes head.head head.after head.begins none'.1)
    | inr (inl long') ↦ absurd (head-or-long bytes head.head head.after head.begins long'.1)
    | inr (inr head') ↦
        let same = one-head bytes head.head head'.head head.after head'.after head.begins head'.begins in
        inl (ap Some (same-err s t (sym head.asks ∙ ap framing_of same.0 ∙ head'.asks)))
  ]
]

pub one-ending : (bytes : List ℕ) (one other : Option HeadRefusal) → EndsWith bytes one → EndsWith bytes other → (one ≡ other) ⊎ IsEither bytes one other
one-ending bytes None None x y = inl refl
one-ending bytes None (Some t) x y = absurd (none-or-refused t (subst (λ b. IsRefused b t) x y))
one-ending bytes (Some s) None x y = absurd (none-or-refused s (subst (λ b. IsRefused b s) y x))
one-ending bytes (Some s) (Some t) x y = one-refusal bytes s t x y

refused-or-cut : (bytes : List ℕ) (s : HeadRefusal) → IsRefused bytes s → IsCutHead bytes → ((let r : Option HeadRefusal = Some s in r) ≡ Some BadRequest) × EndsInTarget bytes
refused-or-cut bytes s x cut = elim x [
  | inl none ↦
      let whole : take 16384 bytes ≡ bytes = take_all 16384 bytes (omega (arith, cut.1)) in
      (ap Some none.0, unfinished-or-never bytes cut.2.1 (subst NeverHasRequest whole none.1))
  | inr (inl long) ↦ absurd (omega (arith, long.1.0, cut.1))
  | inr (inr head) ↦ absurd (head-or-cut bytes head.head head.after head.begins cut)
]

pub ending-or-cut : (bytes : List ℕ) (ending : Option HeadRefusal) → EndsWith bytes ending → IsCut bytes → (ending ≡ Some BadRequest) × EndsInTarget bytes
ending-or-cut bytes None x cut = elim cut [
  | inl head ↦ let empty = ap length x in absurd (omega (arith, head.0))
  | inr (f, body) ↦ absurd (start-or-ending bytes f body.target body.after body.starts None x)
]
ending-or-cut bytes (Some s) x cut = elim cut [
  | inl head ↦ refused-or-cut bytes s x head
  | inr (f, body) ↦ absurd (start-or-ending bytes f body.target body.after body.starts (Some s) x)
]
