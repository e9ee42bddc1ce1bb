-- What commands are in each version of the book, and what a list of them leads to.
use Rattle.std.specs.Prelude.{◌≡◌, ℕ, Bool, true, List, Option, is_none}
use Rattle.ob_command.specs.Commands.{IsCommand, body_text}
use Rattle.ob_command.specs.declared.command.Command.{Command}
use Rattle.ob_state.specs.Next.{next_all}
use Rattle.ob_state.specs.Refusals.{refusal}
use Rattle.ob_state.specs.State.{BookState}
use Rattle.ob_book.specs.Acts.{Referenced}
use Rattle.ob_record.specs.Naming.{IsReferenced}
use Rattle.ob_sql_rows.specs.declared.version.Version.{Version}
use Rattle.ob_sql_rows.specs.declared.version.Version.TheVariants.{One, Two}
use Rattle.ob_upgrade.specs.Old.{is_old, old_accepts, old_body_text, old_next_all}

-- the body text that a command has
abbrev pub body_in : Version → Command → List ℕ
body_in One command = old_body_text command
body_in Two command = body_text command

-- the version has the command
abbrev pub IsCommandIn : Version → Command → Type 0
IsCommandIn One command = IsCommand command × (is_old command ≡ true)
IsCommandIn Two command = IsCommand command

-- and the reference is one
abbrev pub IsReferencedIn : Version → Referenced → Type 0
IsReferencedIn One a = IsReferenced a × (is_old a.command ≡ true)
IsReferencedIn Two a = IsReferenced a

-- the version accepts the command
abbrev pub accepts_in : Version → BookState → Command → Bool
accepts_in One b command = old_accepts b command
accepts_in Two b command = is_none (refusal b command)

-- the state after commands, each of which the version accepts in its turn; None where it doesn't accept one
abbrev pub next_all_in : Version → BookState → List Command → Option BookState
next_all_in One b list = old_next_all b list
next_all_in Two b list = next_all b list
