-- The interim reply that a client waits for before it sends the body (RFC 9110, section 15.2.1).
use Rattle.std.specs.Prelude.{ℕ, Bool, true, false, List, [], ◌∷◌, ◌++◌, codes}

-- its status line and the empty line, each ended by CRLF
unfoldable pub continue_text : List ℕ
continue_text = codes "HTTP/1.1 100 Continue" ++ 13 ∷ 10 ∷ 13 ∷ 10 ∷ []

-- what is written before the body is read
abbrev pub interim_text : Bool → List ℕ
interim_text false = []
interim_text true = continue_text
