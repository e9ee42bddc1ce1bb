-- What deciding on a command may cost, and how a refusal is passed on.
use Rattle.std.proofs.Common.{◌≡◌, ◌↔◌, ℕ, ◌+◌, ◌≤◌, List, Result, Err, ap, subst, arith}
use Rattle.ob_net.specs.Network.{Network}
use Rattle.ob_sheet.specs.declared.Entry.{Entry}
use Rattle.ob_sweep.specs.declared.change.Change.{Change}
use Rattle.ob_time.specs.Calendar.{Calendar}
use Rattle.ob_command.specs.declared.command.Command.{Command}
use Rattle.ob_state.specs.declared.resolved.Resolved.{Resolved}
use Rattle.ob_state.specs.Resolved.{Resolves, searches_by}
use Rattle.ob_state.specs.Searches.{most_searches}
use Rattle.ob_state.specs.States.{BookValue}
use Rattle.ob_state.proofs.Resolving.{same_searches}

-- what may be searched for what a command comes to may be for the command
pub searched_for : (bound : Network → List Entry → Calendar → Change → ℕ) (v w : BookValue) (command : Command) (r : Resolved) (n : ℕ) → v ≡ w → Resolves v.state command r → n ≤ v.searches + searches_by bound v.state r
    → n ≤ w.searches + most_searches bound w.state command
searched_for bound v w command r n e is few =
    subst (λ (u : BookValue). n ≤ u.searches + most_searches bound u.state command) e (omega (arith, same_searches bound v.state command r is, few))

unpacked : {X E : Type 0} (x y : E) → ◌≡◌ {A = Result X E} (Err x) (Err y) → x ≡ y
unpacked x y e = cc

-- what an error says is the same of an answer of another type
pub passed_on : {X Y E R : Type 0} (x : E) (of : R → E) (P : R → Type 0) → ((r : R) → ◌≡◌ {A = Result X E} (Err x) (Err (of r)) ↔ P r)
    → (r : R) → ◌≡◌ {A = Result Y E} (Err x) (Err (of r)) ↔ P r
passed_on x of P said r = (λ e. (said r).0 (ap Err (unpacked x (of r) e)), λ p. ap Err (unpacked x (of r) ((said r).1 p)))
