-- The laws that join version 1 of the book and today's.
use Rattle.std.specs.Prelude.{◌≡◌, ◌↔◌, ℕ, ◌&&◌, true, List, [], ◌∷◌, ◌++◌, Some, is_none, map, if◌then◌else◌}
use Rattle.ob_net.specs.Network.{AreWhole}
use Rattle.ob_post.specs.declared.Dim.{Dim}
use Rattle.ob_post.specs.declared.Moved.{Moved}
use Rattle.ob_time.specs.Calendar.{Calendar}
use Rattle.ob_index.specs.declared.figures.Which.{Which}
use Rattle.ob_command.specs.Commands.{IsCommand, body_text}
use Rattle.ob_command.specs.Devices.{plain_end}
use Rattle.ob_command.specs.declared.command.Command.{Command}
use Rattle.ob_state.specs.Amounts.{amount, moves}
use Rattle.ob_state.specs.Next.{next, next_all}
use Rattle.ob_state.specs.Refusals.{refusal}
use Rattle.ob_state.specs.State.{BookState, empty_book}
use Rattle.ob_book.specs.Acts.{ActState, acts, start}
use Rattle.ob_book.specs.Views.{counts_of_book}
use Rattle.ob_upgrade.specs.Old.{is_old, is_device, fits_old, old_accepts, old_acts, old_body_text, old_next_all}
use Rattle.ob_upgrade.specs.OldFigures.{old_amount, old_counts_of_book, old_moves}

-- each device of the state lives without end from the first second on
abbrev pub LiveAlways : BookState → Type 0
LiveAlways b = AreWhole b.network.devices

-- where devices live always, amounts and counts are those of version 1
abbrev pub SameFigures : Type 0
SameFigures =
    (b : BookState) → LiveAlways b
    → ((dim : Dim) (key : ℕ) → amount b dim key ≡ old_amount b dim key)
    × ((which : Which) → counts_of_book b which ≡ old_counts_of_book b which)

-- what each command of a list moves
abbrev pub moved_by : BookState → List Command → List (List Moved)
moved_by b [] = []
moved_by b (command ∷ commands) = moves b (next b command) ∷ moved_by (next b command) commands

-- what each command of a list moved by version 1
abbrev pub old_moved_by : BookState → List Command → List (List Moved)
old_moved_by b [] = []
old_moved_by b (command ∷ commands) = old_moves b (next b command) ∷ old_moved_by (next b command) commands

-- a list that version 1 accepted is accepted, leads to the same book, whose devices live always, and moves the same
abbrev pub AcceptedByBoth : Type 0
AcceptedByBoth =
    (list : List Command) (b c : BookState) → LiveAlways b → old_next_all b list ≡ Some c
    → (next_all b list ≡ Some c) × LiveAlways c × (moved_by b list ≡ old_moved_by b list)

-- version 1 accepted exactly what is accepted today, commands that it hadn't and parts of a sealed network aside
abbrev pub AcceptedButForParts : Type 0
AcceptedButForParts =
    (b : BookState) (command : Command) → old_accepts b command ≡ (fits_old b.entries command && is_none (refusal b command))

-- a book is one of version 1 exactly where it is one of today, and version 1 accepted each of its commands in its turn
abbrev pub ReachedByBoth : Type 0
ReachedByBoth =
    (p : Calendar) (b : ActState) → (old_acts (start p) b.accepted ≡ b)
    ↔ ((acts (start p) b.accepted ≡ b) × (old_next_all (empty_book p) (map (λ a. a.command) b.accepted) ≡ Some b.book))

-- the body text of a command of version 1 is the one that it had, for a device with the end that a plain one has
abbrev pub BodiesGrow : Type 0
BodiesGrow =
    (command : Command) → is_old command ≡ true
    → body_text command ≡ old_body_text command ++ (if is_device command then plain_end else [])

-- two commands of version 1 had two body texts
abbrev pub OldBodiesDiffer : Type 0
OldBodiesDiffer =
    (c d : Command) → IsCommand c → IsCommand d → is_old c ≡ true → is_old d ≡ true → old_body_text c ≡ old_body_text d → c ≡ d
