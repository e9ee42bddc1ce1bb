-- What is known of a stream's bytes, from those read ahead.
use Rattle.std.proofs.Common.{◌≡◌, ℕ, List, [], ◌++◌, Option, None, Some, IfSome, sym, subst, append-nil, ◌∙◌, ap, append_assoc, take, drop, take-append-drop, length, ◌≤◌, ◌+◌, ◌∷◌, min, arith, length-append, length-take-le}
use Rattle.std.proofs.lemmas.List.{take_all, drop_all}
use Rattle.std.specs.Io.KnownBytes.{Keeps, Consumes}
use Rattle.ob_http_requests.specs.Unread.{unread}

-- what holds of the bytes read ahead, whatever follows, holds of the stream's bytes
pub through-ahead : (before ahead : List ℕ) (had left : Option (List ℕ)) (P : List ℕ → Type 0)
    → Keeps (unread before had) (unread ahead left) → ((rest : List ℕ) → P (ahead ++ rest)) → IfSome (unread before had) P
through-ahead before ahead None left P same h = tt
through-ahead before ahead (Some xs) None P same h = absurd same
through-ahead before ahead (Some xs) (Some ys) P same h = subst P same (h ys)

-- the first bytes of what was read ahead
pub Consumes-front : (ahead rest : List ℕ) (left : Option (List ℕ)) (n : ℕ) → rest ≡ drop n ahead → Consumes (unread ahead left) (unread rest left) (take n ahead)
Consumes-front ahead rest None n e = tt
Consumes-front ahead rest (Some xs) n e =
    ap (λ t. t ++ xs) (sym (take-append-drop n ahead)) ∙ append_assoc (take n ahead) (drop n ahead) xs
    ∙ ap (λ t. take n ahead ++ (t ++ xs)) (sym e)

-- a body: what was read ahead of it, up to its size, and then what reads gave
pub whole-body : (ahead rest body more : List ℕ) (had left : Option (List ℕ)) (front size : ℕ) → front ≡ min (length ahead) size → rest ≡ drop front ahead
    → body ≡ take front ahead ++ more → Consumes had left more → length body ≡ size → Consumes (unread ahead had) (unread rest left) body
whole-body ahead rest body more None left front size f r b h s = tt
whole-body ahead rest body more (Some xs) None front size f r b h s = absurd h
whole-body ahead rest body [] (Some xs) (Some ys) front size f r b h s =
    ap (λ t. ahead ++ t) h ∙ Consumes-front ahead rest (Some ys) front r ∙ ap (λ t. t ++ (rest ++ ys)) (sym (b ∙ append-nil (take front ahead)))
whole-body ahead rest body (m ∷ more) (Some xs) (Some ys) front size f r b h s =
    let long : length (take front ahead) + length (m ∷ more) ≡ size = sym (length-append (take front ahead) (m ∷ more)) ∙ sym (ap length b) ∙ s in
    let taken : length (take front ahead) ≡ front = length-take-le front ahead (omega (arith, f)) in
    let all : length ahead ≤ front = omega (arith, f, long, taken) in
    let body_is : body ≡ ahead ++ m ∷ more = b ∙ ap (λ t. t ++ m ∷ more) (take_all front ahead all) in
    let none : rest ≡ [] = r ∙ drop_all front ahead all in
    ap (λ t. ahead ++ t) h ∙ sym (append_assoc ahead (m ∷ more) ys) ∙ ap (λ t. t ++ ys) (sym body_is) ∙ ap (λ t. body ++ (t ++ ys)) (sym none)
