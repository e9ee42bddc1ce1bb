-- A year of a book as a text of its commands.
use Rattle.std.specs.Prelude.{◌≡◌, ℕ, List, [], ◌∷◌, ◌++◌, Some, None, codes}
use Rattle.std.specs.List.{All, flat_map}
use Rattle.ob_time.specs.Calendar.{Calendar}
use Rattle.ob_time.specs.Period.{IsPeriodText}
use Rattle.ob_command.specs.Commands.{body_text, IsCommand}
use Rattle.ob_command.specs.declared.command.Command.{Command}
use Rattle.ob_state.specs.State.{BookState}
use Rattle.ob_state.specs.Refusals.{refusal}
use Rattle.ob_state.specs.Next.{after, next}

-- the line of a command: its body text and a line feed
abbrev pub line_of : Command → List ℕ
line_of command = body_text command ++ 10 ∷ []

-- the lines of some commands
abbrev pub lines_of : List Command → List ℕ
lines_of commands = flat_map line_of commands

-- the 366 days from the first of January 2024 in Coordinated Universal Time
abbrev pub IsYear2024 : Calendar → Type 0
IsYear2024 period = IsPeriodText (codes "2024-01-01") 366 (codes "UTC0") period

-- the text has the lines of commands that lead a new book of the year to this state, each accepted in its turn
abbrev pub IsYear : List ℕ → BookState → Type 0
IsYear text b =
    (period : Calendar) × (commands : List Command) × IsYear2024 period × All IsCommand commands × (text ≡ lines_of commands) × (after period commands ≡ Some b)

-- the line's command is accepted, and leads from the one state to the other
abbrev pub IsStep : List ℕ → BookState → BookState → Type 0
IsStep line b c = (command : Command) × IsCommand command × (line ≡ body_text command) × (refusal b command ≡ None) × (c ≡ next b command)
