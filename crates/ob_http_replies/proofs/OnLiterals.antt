-- What computes the reply of a status on its literal.
use Rattle.std.specs.Prelude.{⊤}
use Rattle.std.specs.Fmt.{digits}
use Rattle.ob_http_replies.specs.Reply.{status_line, content_type, content_length, allow, connection}

unfoldable pub replies_on_literals : ⊤
unfolding digits status_line content_type content_length allow connection
replies_on_literals = tt
