-- The head that a stream goes on with, looked for in the first 16,384 bytes by the grammar of RFC 9112.
use Rattle.std.specs.Prelude.{◌≡◌, ℕ, ◌<◌, ◌≤◌, List, [], length, take, drop}
use Rattle.httparse.specs.Grammar.{RequestHead, ReadsRequest, print_request, HasNoRequest, NeverHasRequest, MayBecomeRequest}
use Rattle.httparse.specs.declared.spans.RequestSpans.{RequestSpans}
use Rattle.ob_http_requests.specs.declared.head.Parsed.{Parsed}
use Rattle.ob_http_requests.specs.declared.head.Parsed.TheVariants.{Whole, Unfinished, Refused}
use Rattle.ob_http_requests.specs.declared.head.NextHead.{NextHead}
use Rattle.ob_http_requests.specs.declared.head.NextHead.TheVariants.{Head, End, Cut, NoHead, TooLong}

-- the most bytes of a head, the empty lines before it among them
abbrev pub head_bound : ℕ
head_bound = 16_384

-- no prefix of the bytes is a head, and they may still become one
abbrev pub IsUnfinished : List ℕ → Type 0
IsUnfinished bytes = HasNoRequest bytes × MayBecomeRequest bytes

-- the bytes begin with this head, within the bound, and after follows it
pub record BeginsWithHead (bytes : List ℕ) (head : RequestHead) (after : List ℕ) : Type 0 where
  pub short : length (print_request head) ≤ head_bound
  pub reads : ReadsRequest bytes head after

-- no head can begin with them
abbrev pub IsNoHead : List ℕ → Type 0
IsNoHead bytes = NeverHasRequest (take head_bound bytes)

-- they are the front of a head past the bound
abbrev pub IsLongHead : List ℕ → Type 0
IsLongHead bytes = (head_bound ≤ length bytes) × IsUnfinished (take head_bound bytes)

-- they end inside a head
abbrev pub IsCutHead : List ℕ → Type 0
IsCutHead bytes = (0 < length bytes) × (length bytes < head_bound) × IsUnfinished bytes

-- what the bytes up to the stream's end begin with
abbrev pub BeginsWith : List ℕ → NextHead → Type 0
BeginsWith bytes (Head spans) = (head : RequestHead) × BeginsWithHead bytes head (drop spans.len bytes)
BeginsWith bytes End = bytes ≡ []
BeginsWith bytes Cut = IsCutHead bytes
BeginsWith bytes NoHead = IsNoHead bytes
BeginsWith bytes TooLong = IsLongHead bytes

-- P of the spans of a whole head
abbrev pub IfWhole : Parsed → (RequestSpans → Type 0) → Type 0
IfWhole (Whole spans) P = P spans
IfWhole Unfinished P = Unit {0}
IfWhole Refused P = Unit {0}

-- P of the spans, where the next bytes are a whole head
abbrev pub IfHead : NextHead → (RequestSpans → Type 0) → Type 0
IfHead (Head spans) P = P spans
IfHead End P = Unit {0}
IfHead Cut P = Unit {0}
IfHead NoHead P = Unit {0}
IfHead TooLong P = Unit {0}
