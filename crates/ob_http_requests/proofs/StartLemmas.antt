-- From the bytes read ahead to the stream's.
use Rattle.std.proofs.Common.{◌≡◌, ℕ, ◌≤◌, List, ◌++◌, length, drop, Option, None, Some, IfSome, sym, subst, ◌∙◌, arith, inr}
use Rattle.std.specs.Prelude.{Ok, Err, IsUtf8}
use Rattle.std.specs.Io.KnownBytes.{Keeps}
use Rattle.httparse.specs.Grammar.{RequestHead, ReadsRequest}
use Rattle.httparse.specs.Spans.{IsRequestAt, IsRequestOf, IsRequestWithin, span_bytes}
use Rattle.httparse.specs.declared.spans.HeaderSpan.{HeaderSpan}
use Rattle.httparse.specs.declared.spans.RequestSpans.{RequestSpans}
use Rattle.httparse.proofs.GrammarLemmas.{ReadsRequest-append}
use Rattle.ob_http_requests.specs.Unread.{unread}
use Rattle.ob_http_requests.specs.Framing.{framing_of}
use Rattle.ob_http_requests.specs.declared.framing.Framing.{Framing}
use Rattle.ob_http_requests.specs.declared.framing.HeadRefusal.{HeadRefusal}
use Rattle.ob_http_requests.specs.Message.{StartsKnown, IsRefused}
use Rattle.ob_http_requests.proofs.UnreadLemmas.{through-ahead}

pub IfSome-map : (o : Option (List ℕ)) (P Q : List ℕ → Type 0) → ((bytes : List ℕ) → P bytes → Q bytes) → IfSome o P → IfSome o Q
IfSome-map None P Q f h = tt
IfSome-map (Some x) P Q f h = f x h

-- the target of a head is a text
pub target-text : (ahead target : List ℕ) (headers : List HeaderSpan) (spans : RequestSpans) → IsRequestOf ahead headers spans → target ≡ span_bytes ahead spans.path → IsUtf8 target
target-text ahead target headers spans (head, found) is = subst IsUtf8 (sym (is ∙ found.path)) found.reads.0.target_text

pub refused-head : (before ahead : List ℕ) (had left : Option (List ℕ)) (headers : List HeaderSpan) (spans : RequestSpans) (status : HeadRefusal)
    → Keeps (unread before had) (unread ahead left) → length ahead ≤ 16384 → IsRequestWithin ahead headers spans → IsRequestOf ahead headers spans
    → ((head : RequestHead) → IsRequestAt ahead headers spans head → Err status ≡ framing_of head)
    → IfSome (unread before had) (λ bytes. IsRefused bytes status)
refused-head before ahead had left headers spans status same short within (head, found) refuses =
    through-ahead before ahead had left (λ bytes. IsRefused bytes status) same (λ rest.
    inr (inr (record {
      head = head;
      after = drop spans.len ahead ++ rest;
      begins = record { short = omega (arith, found.len, within.section.len_fits); reads = ReadsRequest-append ahead head _ rest found.reads };
      asks = sym (refuses head found);
    })))

pub starts-known : (before ahead rest target : List ℕ) (had left : Option (List ℕ)) (headers : List HeaderSpan) (spans : RequestSpans) (framing : Framing)
    → Keeps (unread before had) (unread ahead left) → length ahead ≤ 16384 → IsRequestWithin ahead headers spans → IsRequestOf ahead headers spans
    → ((head : RequestHead) → IsRequestAt ahead headers spans head → Ok framing ≡ framing_of head)
    → rest ≡ drop spans.len ahead → target ≡ span_bytes ahead spans.path
    → StartsKnown (unread before had) framing target (unread rest left)
starts-known before ahead rest target None left headers spans framing same short within found asks left_is target_is = tt
starts-known before ahead rest target (Some xs) None headers spans framing same short within found asks left_is target_is = absurd same
starts-known before ahead rest target (Some xs) (Some ys) headers spans framing same short within (head, found) asks left_is target_is =
    record {
      head = head;
      begins = record {
        short = omega (arith, found.len, within.section.len_fits);
        reads = subst (λ bytes. ReadsRequest bytes head (rest ++ ys)) same
            (subst (λ t. ReadsRequest (ahead ++ ys) head (t ++ ys)) (sym left_is) (ReadsRequest-append ahead head _ ys found.reads));
      };
      asks = sym (asks head found);
      of_target = sym (target_is ∙ found.path);
    }
