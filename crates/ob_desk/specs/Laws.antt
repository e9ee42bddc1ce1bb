-- What is written for requests is determined.
use Rattle.std.specs.Prelude.{◌≡◌, ℕ, List, Option}
use Rattle.ob_book.specs.Acts.{ActState}
use Rattle.ob_http_requests.specs.Message.{Message}
use Rattle.ob_desk.specs.Exchanges.{Replies}

-- requests are answered by one text, which leaves one book
abbrev pub RepliesAreOneThing : Type 0
RepliesAreOneThing =
    (allowed : ℕ) (x y z : Option ActState) (ms : List Message) (text other : List ℕ)
    → Replies allowed x ms text y → Replies allowed x ms other z → (text ≡ other) × (y ≡ z)
