-- The columns that are left say the same as all of them.
use Rattle.std.proofs.Common.{◌≡◌, map, Ok}
use Rattle.ob_total.specs.Commands.{with_unused}
use Rattle.ob_total.proofs.command.complete.Given as goal

abbrev pub invariant-loop-number : goal.invariant-loop-number
invariant-loop-number g l =
    with_unused (map (λ f. f.now) l.row) l.number (Ok l.value) ≡ with_unused (map (λ f. f.now) l.row) l.first (Ok l.value)
