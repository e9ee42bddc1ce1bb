-- Where a reply ends in the bytes that follow one another, and which status it has, is seen from these alone.
use Rattle.std.proofs.Common.{◌≡◌, ◌≢◌, ◌⊎◌, inl, inr, ℕ, zero, suc, ◌+◌, ◌-◌, ◌*◌, ◌/◌, ◌%◌, ◌<◌, ◌≤◌, ◌^◌, ◌++◌, if◌then◌else◌, nat_lt, Bool, true, false, List, [], ◌∷◌, length, refl, sym, ap, subst, ◌∙◌, arith, get_or, append_assoc}
use Rattle.std.specs.Prelude.{⊤, ◌==◌, codes, decimal, drop}
use Rattle.std.specs.Fmt.{digit_glyph, digits, digits_onto}
use Rattle.std.specs.Str.Parse.{digits_value}
use Rattle.std.proofs.lemmas.Bool.Decides.{nat_tests}
use Rattle.std.proofs.Math.Seq.{drop-append_seam}
use Rattle.std.proofs.lemmas.Fmt.{length-decimal-le, decimal_is_IsNumeral, decimal_is_IsNumeral_wide}
use Rattle.std.proofs.lemmas.List.{append_cancel_left}
use Rattle.http.specs.StatusCode.{status_text}
use Rattle.ob_http_replies.specs.Reply.{allow, connection, content_length, content_type, crlf, reply_text, status_line}
use Rattle.ob_http_replies.specs.Status.{status_code}
use Rattle.ob_http_replies.specs.declared.reply.MediaType.{MediaType}
use Rattle.ob_http_replies.specs.declared.reply.MediaType.TheVariants as types
use Rattle.ob_http_replies.specs.declared.status.Allow.{Allow}
use Rattle.ob_http_replies.specs.declared.status.Allow.TheVariants.{Get, Post}
use Rattle.ob_http_replies.specs.declared.status.Status.{Status}
use Rattle.ob_http_replies.specs.declared.status.Status.TheVariants as statuses
use Rattle.ob_http_replies.proofs.OnLiterals.{replies_on_literals}

in_pieces : (a b c d e f g t : List ℕ) → a ++ b ++ c ++ d ++ e ++ f ++ g ++ t ≡ a ++ (b ++ (c ++ (d ++ (e ++ (f ++ (g ++ t))))))
in_pieces a b c d e f g t =
    append_assoc (a ++ b ++ c ++ d ++ e ++ f) g t
    ∙ append_assoc (a ++ b ++ c ++ d ++ e) f (g ++ t)
    ∙ append_assoc (a ++ b ++ c ++ d) e (f ++ (g ++ t))
    ∙ append_assoc (a ++ b ++ c) d (e ++ (f ++ (g ++ t)))
    ∙ append_assoc (a ++ b) c (d ++ (e ++ (f ++ (g ++ t))))
    ∙ append_assoc a b (c ++ (d ++ (e ++ (f ++ (g ++ t)))))

-- ---- the status line
-- the number that is read at the place of a code
abbrev pub code_at : List ℕ → ℕ
code_at text = get_or text 9 0 * 100 + get_or text 10 0 * 10 + get_or text 11 0 - 5328

pub code_of_line : (s : Status) (rest : List ℕ) → code_at (status_line s ++ rest) ≡ status_code s
unfolding replies_on_literals
code_of_line statuses.Ok rest = refl
code_of_line statuses.BadRequest rest = refl
code_of_line statuses.NotFound rest = refl
code_of_line (statuses.MethodNotAllowed it) rest = refl
code_of_line statuses.Conflict rest = refl
code_of_line statuses.LengthRequired rest = refl
code_of_line statuses.PayloadTooLarge rest = refl
code_of_line statuses.UnprocessableEntity rest = refl
code_of_line statuses.RequestHeaderFieldsTooLarge rest = refl
code_of_line statuses.NotImplemented rest = refl
code_of_line statuses.ServiceUnavailable rest = refl

same_line : (s p : Status) → status_code s ≡ status_code p → status_line s ≡ status_line p
unfolding status_line
same_line s p same = ap (λ n. codes "HTTP/1.1 " ++ (status_text n ++ crlf)) same

-- ---- the body's type
type_then : (m n : MediaType) (b d : List ℕ) (v w : List ℕ) → content_type m b ++ (content_length b ++ v) ≡ content_type n d ++ (content_length d ++ w)
    → content_length b ++ v ≡ content_length d ++ w
unfolding content_type content_length
type_then m n [] [] v w e = e
type_then m types.Json [] (y ∷ d) v w e = let at : 76 ≡ 84 = ap (λ x. get_or x 8 0) e in absurd (omega (arith, at))
type_then m types.PlainText [] (y ∷ d) v w e = let at : 76 ≡ 84 = ap (λ x. get_or x 8 0) e in absurd (omega (arith, at))
type_then types.Json n (x ∷ b) [] v w e = let at : 84 ≡ 76 = ap (λ x. get_or x 8 0) e in absurd (omega (arith, at))
type_then types.PlainText n (x ∷ b) [] v w e = let at : 84 ≡ 76 = ap (λ x. get_or x 8 0) e in absurd (omega (arith, at))
type_then types.Json types.Json (x ∷ b) (y ∷ d) v w e = append_cancel_left (content_type types.Json (x ∷ b)) (content_length (x ∷ b) ++ v) (content_length (y ∷ d) ++ w) e
type_then types.PlainText types.PlainText (x ∷ b) (y ∷ d) v w e =
    append_cancel_left (content_type types.PlainText (x ∷ b)) (content_length (x ∷ b) ++ v) (content_length (y ∷ d) ++ w) e
type_then types.Json types.PlainText (x ∷ b) (y ∷ d) v w e = let at : 97 ≡ 116 = ap (λ x. get_or x 14 0) e in absurd (omega (arith, at))
type_then types.PlainText types.Json (x ∷ b) (y ∷ d) v w e = let at : 116 ≡ 97 = ap (λ x. get_or x 14 0) e in absurd (omega (arith, at))

-- ---- the body's length
first_same : (x y : ℕ) (xs ys : List ℕ) → x ∷ xs ≡ y ∷ ys → x ≡ y
first_same x y xs ys e = ap (λ l. get_or l 0 0) e

later_same : (x y : ℕ) (xs ys : List ℕ) → x ∷ xs ≡ y ∷ ys → xs ≡ ys
later_same x y xs ys e = ap (λ l. drop 1 l) e

-- none of these bytes is that of a line's end
abbrev Visible : List ℕ → Type 0
Visible [] = ⊤
Visible (c ∷ cs) = (48 ≤ c) × Visible cs

glyph_visible : (d : ℕ) → 48 ≤ digit_glyph false d
glyph_visible d = elim (nat_lt d 10) as (λ t. 48 ≤ (if t then 48 + d else (if false then 55 + d else 87 + d))) [
  | true ↦ omega (arith)
  | false ↦ omega (arith)
]

onto_visible : (k n : ℕ) (acc : List ℕ) → Visible acc → Visible (digits_onto k 10 false n acc)
onto_visible zero n acc visible = visible
onto_visible (suc k) n acc visible = elim (n / 10 == 0) as (λ t. Visible (if t then digit_glyph false (n % 10) ∷ acc else digits_onto k 10 false (n / 10) (digit_glyph false (n % 10) ∷ acc))) [
  | true ↦ (glyph_visible (n % 10), visible)
  | false ↦ onto_visible k (n / 10) (digit_glyph false (n % 10) ∷ acc) (glyph_visible (n % 10), visible)
]

decimal_visible : (n : ℕ) → Visible (decimal n)
unfolding digits
decimal_visible n = onto_visible 64 n [] tt

-- the powers of ten
tens : ℕ → ℕ
tens zero = 1
tens (suc k) = 10 * tens k

tens_some : (k : ℕ) → 1 ≤ tens k
unfolding tens
tens_some zero = omega (arith)
tens_some (suc k) = omega (arith, tens_some k)

-- a number that is too long is written by as many digits as there are
onto_long : (k n : ℕ) (acc : List ℕ) → tens k ≤ n → length (digits_onto k 10 false n acc) ≡ k + length acc
unfolding tens
onto_long zero n acc long = omega (arith)
onto_long (suc k) n acc long =
    let less : tens k ≤ n / 10 = omega (arith, long) in
    elim (n / 10 == 0) as (λ t. (n / 10 == 0) ≡ t
    → length (if t then digit_glyph false (n % 10) ∷ acc else digits_onto k 10 false (n / 10) (digit_glyph false (n % 10) ∷ acc)) ≡ suc k + length acc) [
      | true ↦ λ none. absurd (grind (arith, nat_tests, none, less, tens_some k))
      | false ↦ λ some. omega (arith, onto_long k (n / 10) (digit_glyph false (n % 10) ∷ acc) less)
    ] refl

decimal_long : (n : ℕ) → 10 ^ 64 ≤ n → length (decimal n) ≡ 64
unfolding digits tens
decimal_long n long = let so : length (digits_onto 64 10 false n []) ≡ 64 + 0 = onto_long 64 n [] long in omega (arith, so)

decimal_one : (n k : ℕ) → n < 2 ^ 64 → decimal n ≡ decimal k → n ≡ k
decimal_one n k small e = elim (nat_lt k (10 ^ 64)) as (λ t. nat_lt k (10 ^ 64) ≡ t → n ≡ k) [
  | true ↦ λ less. sym (decimal_is_IsNumeral n small).1 ∙ ap (digits_value 10) e ∙ (decimal_is_IsNumeral_wide k (grind (arith, nat_tests, less))).1
  | false ↦ λ long. absurd (omega (arith, ap length e, decimal_long k (grind (arith, nat_tests, long)), length-decimal-le 20 n (omega (arith)) (omega (arith, small)) small))
] refl

digits_then : (ds es v w : List ℕ) → Visible ds → Visible es → ds ++ 13 ∷ v ≡ es ++ 13 ∷ w → (ds ≡ es) × (v ≡ w)
digits_then [] [] v w all digits e = (refl, later_same 13 13 v w e)
digits_then [] (y ∷ es) v w all digits e = absurd (omega (arith, first_same 13 y v (es ++ 13 ∷ w) e, digits.0))
digits_then (x ∷ ds) [] v w all digits e = absurd (omega (arith, first_same x 13 (ds ++ 13 ∷ v) w e, all.0))
digits_then (x ∷ ds) (y ∷ es) v w all digits e =
    let so = digits_then ds es v w all.1 digits.1 (later_same x y (ds ++ 13 ∷ v) (es ++ 13 ∷ w) e) in
    (ap (λ z. z ∷ ds) (first_same x y (ds ++ 13 ∷ v) (es ++ 13 ∷ w) e) ∙ ap (λ l. y ∷ l) so.0, so.1)

length_then : (b d v w : List ℕ) → length b < 2 ^ 64 → content_length b ++ v ≡ content_length d ++ w → (length b ≡ length d) × (v ≡ w)
unfolding content_length
length_then b d v w small e =
    let flat : (l u : List ℕ) → codes "Content-Length: " ++ (decimal (length l) ++ crlf) ++ u ≡ codes "Content-Length: " ++ (decimal (length l) ++ 13 ∷ 10 ∷ u) =
    λ l u. append_assoc (codes "Content-Length: ") (decimal (length l) ++ crlf) u ∙ ap (λ z. codes "Content-Length: " ++ z) (append_assoc (decimal (length l)) crlf u) in
    let bare = append_cancel_left (codes "Content-Length: ") (decimal (length b) ++ 13 ∷ 10 ∷ v) (decimal (length d) ++ 13 ∷ 10 ∷ w) (sym (flat b v) ∙ e ∙ flat d w) in
    let so = digits_then (decimal (length b)) (decimal (length d)) (10 ∷ v) (10 ∷ w) (decimal_visible (length b)) (decimal_visible (length d)) bare in
    (decimal_one (length b) (length d) small so.0, later_same 10 10 v w so.1)

-- ---- the method that is taken
-- a status that names a method has a code of its own
names_method : (s : Status) → ((status_code s ≢ 405) × (allow s ≡ [])) ⊎ ((it : Allow) × (s ≡ statuses.MethodNotAllowed it))
unfolding allow
names_method statuses.Ok = inl (λ e. absurd (omega (arith, e)), refl)
names_method statuses.BadRequest = inl (λ e. absurd (omega (arith, e)), refl)
names_method statuses.NotFound = inl (λ e. absurd (omega (arith, e)), refl)
names_method (statuses.MethodNotAllowed it) = inr (it, refl)
names_method statuses.Conflict = inl (λ e. absurd (omega (arith, e)), refl)
names_method statuses.LengthRequired = inl (λ e. absurd (omega (arith, e)), refl)
names_method statuses.PayloadTooLarge = inl (λ e. absurd (omega (arith, e)), refl)
names_method statuses.UnprocessableEntity = inl (λ e. absurd (omega (arith, e)), refl)
names_method statuses.RequestHeaderFieldsTooLarge = inl (λ e. absurd (omega (arith, e)), refl)
names_method statuses.NotImplemented = inl (λ e. absurd (omega (arith, e)), refl)
names_method statuses.ServiceUnavailable = inl (λ e. absurd (omega (arith, e)), refl)

same_method : (it other : Allow) (v w : List ℕ) → allow (statuses.MethodNotAllowed it) ++ v ≡ allow (statuses.MethodNotAllowed other) ++ w → v ≡ w
unfolding allow
same_method Get Get v w e = append_cancel_left (codes "Allow: GET" ++ crlf) v w e
same_method Post Post v w e = append_cancel_left (codes "Allow: POST" ++ crlf) v w e
same_method Get Post v w e = let at : 71 ≡ 80 = ap (λ x. get_or x 7 0) e in absurd (omega (arith, at))
same_method Post Get v w e = let at : 80 ≡ 71 = ap (λ x. get_or x 7 0) e in absurd (omega (arith, at))

allow_then : (s p : Status) (v w : List ℕ) → status_code s ≡ status_code p → allow s ++ v ≡ allow p ++ w → v ≡ w
allow_then s p v w same e = elim (names_method s) [
  | inl plain ↦ elim (names_method p) [
    | inl bare ↦ subst (λ l. l ++ v ≡ w) plain.1 (subst (λ l. allow s ++ v ≡ l ++ w) bare.1 e)
    | inr other ↦ absurd (plain.0 (same ∙ ap status_code other.1))
  ]
  | inr it ↦ elim (names_method p) [
    | inl bare ↦ absurd (bare.0 (sym same ∙ ap status_code it.1))
    | inr other ↦ same_method it.0 other.0 v w (subst (λ z. allow z ++ v ≡ allow (statuses.MethodNotAllowed other.0) ++ w) it.1 (subst (λ z. allow s ++ v ≡ allow z ++ w) other.1 e))
  ]
]

-- ---- whether the connection ends
connection_then : (closes ends : Bool) (v w : List ℕ) → connection closes ++ (crlf ++ v) ≡ connection ends ++ (crlf ++ w) → v ≡ w
unfolding connection
connection_then false false v w e = append_cancel_left crlf v w e
connection_then true true v w e = append_cancel_left crlf v w (append_cancel_left (codes "Connection: close" ++ crlf) (crlf ++ v) (crlf ++ w) e)
connection_then false true v w e = let at : 13 ≡ 67 = ap (λ x. get_or x 0 0) e in absurd (omega (arith, at))
connection_then true false v w e = let at : 67 ≡ 13 = ap (λ x. get_or x 0 0) e in absurd (omega (arith, at))

-- ---- a reply
body_then : (b d t u : List ℕ) → length b ≡ length d → b ++ t ≡ d ++ u → t ≡ u
body_then b d t u same e = sym (drop-append_seam b t) ∙ ap (λ l. drop (length b) l) e ∙ ap (λ n. drop n (d ++ u)) same ∙ drop-append_seam d u

pub code_of_reply : (s : Status) (m : MediaType) (b : List ℕ) (closes : Bool) (t : List ℕ) → code_at (reply_text s m b closes ++ t) ≡ status_code s
code_of_reply s m b closes t =
    ap code_at (in_pieces (status_line s) (content_type m b) (content_length b) (allow s) (connection closes) crlf b t)
    ∙ code_of_line s (content_type m b ++ (content_length b ++ (allow s ++ (connection closes ++ (crlf ++ (b ++ t))))))

-- replies that are the front of the same bytes have the same code, and end at the same place
pub one_reply :
    (s p : Status) (m n : MediaType) (b d : List ℕ) (closes ends : Bool) (t u : List ℕ) → length b < 2 ^ 64
    → reply_text s m b closes ++ t ≡ reply_text p n d ends ++ u → (status_code s ≡ status_code p) × (t ≡ u)
one_reply s p m n b d closes ends t u small e =
    let pieces = in_pieces (status_line s) (content_type m b) (content_length b) (allow s) (connection closes) crlf b t in
    let others = in_pieces (status_line p) (content_type n d) (content_length d) (allow p) (connection ends) crlf d u in
    let same : status_code s ≡ status_code p = sym (code_of_reply s m b closes t) ∙ ap code_at e ∙ code_of_reply p n d ends u in
    let after : List ℕ = content_type m b ++ (content_length b ++ (allow s ++ (connection closes ++ (crlf ++ (b ++ t))))) in
    let behind : List ℕ = content_type n d ++ (content_length d ++ (allow p ++ (connection ends ++ (crlf ++ (d ++ u))))) in
    let lines : status_line p ++ after ≡ status_line p ++ behind = subst (λ l. l ++ after ≡ status_line p ++ behind) (same_line s p same) (sym pieces ∙ e ∙ others) in
    let typed = append_cancel_left (status_line p) after behind lines in
    let sized = type_then m n b d (allow s ++ (connection closes ++ (crlf ++ (b ++ t)))) (allow p ++ (connection ends ++ (crlf ++ (d ++ u)))) typed in
    let long = length_then b d (allow s ++ (connection closes ++ (crlf ++ (b ++ t)))) (allow p ++ (connection ends ++ (crlf ++ (d ++ u)))) small sized in
    let allowed = allow_then s p (connection closes ++ (crlf ++ (b ++ t))) (connection ends ++ (crlf ++ (d ++ u))) same long.1 in
    (same, body_then b d t u long.0 (connection_then closes ends (b ++ t) (d ++ u) allowed))
