-- How long a head is at least.
use Rattle.std.proofs.Common.{◌≡◌, ℕ, ◌+◌, ◌*◌, ◌≤◌, List, [], ◌∷◌, ◌++◌, length, ◌-◌, take, drop, arith, ap, sym, ◌∙◌, length-append, append_assoc, subst}
use Rattle.std.proofs.Math.Seq.{take-append-add, take-append_seam, drop-append-le}
use Rattle.std.specs.Prelude.{All}
use Rattle.std.specs.List.{flat_map}
use Rattle.std.proofs.lemmas.List.Elements.{All-head, All-tail}
use Rattle.httparse.specs.Grammar.{LineEnd, crlf, lf, print_end, Field, IsField, print_field, RequestHead, print_request, ReadsRequest, HasNoRequest, NeverHasRequest}
use Rattle.httparse.specs.Spans.{RequestExceeds, IsRequestWithin, IsRequestOf}
use Rattle.httparse.specs.declared.spans.HeaderSpan.{HeaderSpan}
use Rattle.httparse.specs.declared.spans.RequestSpans.{RequestSpans}
use Rattle.httparse.proofs.GrammarLemmas.{ReadsRequest-append}
use Rattle.ob_http_requests.specs.Head.{IsUnfinished, BeginsWithHead}

print_end-length : (e : LineEnd) → 1 ≤ length (print_end e)
print_end-length crlf = omega arith
print_end-length lf = omega arith

print_field-length : (f : Field) → IsField f → 3 ≤ length (print_field f)
print_field-length f h =
    let named = h.name.0 in
    let ended = print_end-length f.end in
    simp length-append (omega arith)

fields-length : (fs : List Field) → All IsField fs → 3 * length fs ≤ length (flat_map print_field fs)
fields-length [] h = omega arith
fields-length (f ∷ fs) h =
    let first = print_field-length f (All-head IsField f fs h) in
    let others = fields-length fs (All-tail IsField f fs h) in
    let joined = length-append (print_field f) (flat_map print_field fs) in
    omega arith

pub print_request-length : (h : RequestHead) → All IsField h.fields → 3 * length h.fields + 1 ≤ length (print_request h)
unfolding print_request
print_request-length h each =
    let lines = fields-length h.fields each in
    let ended = print_end-length h.last in
    simp length-append (omega arith)

-- a head with more field lines than there is room for is longer than the bound
pub short-never-exceeds : (bytes : List ℕ) (room : ℕ) → 5461 ≤ room → length bytes ≤ 16384 → RequestExceeds room bytes → ⊥
short-never-exceeds bytes room many short (front, rest, cut, h, reads, over) =
    let long = print_request-length h reads.0.fields in
    let whole = simp length-append at (ap length reads.1) in
    let all = simp length-append at (ap length cut) in
    omega arith

-- what is refused stays so, whatever follows
pub refused-more : (bytes more : List ℕ) → NeverHasRequest bytes → NeverHasRequest (bytes ++ more)
refused-more bytes more h =
    λ others. subst HasNoRequest (sym (append_assoc bytes more others)) (h (more ++ others))

-- the bytes read ahead are refused, so the first 16,384 are
pub refused-front : (ahead rest : List ℕ) → length ahead ≤ 16384 → NeverHasRequest ahead → NeverHasRequest (take 16384 (ahead ++ rest))
refused-front ahead rest short h =
    let n = 16384 - length ahead in
    let room : 16384 ≡ length ahead + n = omega arith in
    let split : take 16384 (ahead ++ rest) ≡ ahead ++ take n rest = ap (λ k. take k (ahead ++ rest)) room ∙ take-append-add ahead rest n in
    subst NeverHasRequest (sym split) (refused-more ahead (take n rest) h)

-- 16,384 bytes were read ahead, and hold no whole head
pub too-long : (ahead rest : List ℕ) → length ahead ≡ 16384 → IsUnfinished ahead → (16384 ≤ length (ahead ++ rest)) × IsUnfinished (take 16384 (ahead ++ rest))
too-long ahead rest long h =
    let front : take 16384 (ahead ++ rest) ≡ ahead = ap (λ k. take k (ahead ++ rest)) (sym long) ∙ take-append_seam ahead rest in
    (omega (arith, length-append ahead rest), subst IsUnfinished (sym front) h)

-- a whole head was read ahead
pub whole-head : (ahead rest : List ℕ) (headers : List HeaderSpan) (spans : RequestSpans) → length ahead ≤ 16384 → IsRequestWithin ahead headers spans → IsRequestOf ahead headers spans
    → (head : RequestHead) × BeginsWithHead (ahead ++ rest) head (drop spans.len (ahead ++ rest))
whole-head ahead rest headers spans short within (head, found) =
    let fits = within.section.len_fits in
    let joined = ReadsRequest-append ahead head (drop spans.len ahead) rest found.reads in (
      head,
      record { short = omega (arith, found.len); reads = subst (ReadsRequest (ahead ++ rest) head) (sym (drop-append-le spans.len ahead rest fits)) joined },
    )
