-- What holds of the commands of either version.
use Rattle.std.proofs.Common.{◌≡◌, Bool, true, false, List, [], ◌∷◌, Option, Some, None, is_none, if◌then◌else◌, ◌&&◌, IsTrue, refl, sym, ap, ap₂, ◌∙◌, true≢false}
use Rattle.ob_base.specs.Identifier.{is_identifier}
use Rattle.ob_base.specs.declared.stop.Refusal.{Refusal}
use Rattle.ob_command.specs.Commands.{BodiesDiffer}
use Rattle.ob_command.specs.declared.command.Command.{Command}
use Rattle.ob_state.specs.State.{BookState}
use Rattle.ob_state.specs.Next.{next}
use Rattle.ob_book.specs.Acts.{Referenced}
use Rattle.ob_sql_rows.specs.declared.version.Version.{Version}
use Rattle.ob_sql_rows.specs.declared.version.Version.TheVariants.{One, Two}
use Rattle.ob_upgrade.specs.Laws.{OldBodiesDiffer}
use Rattle.ob_sql_read.specs.Versioned.{IsCommandIn, IsReferencedIn, accepts_in, body_in, next_all_in}

-- ---- bodies
-- two commands of a version have two bodies
abbrev pub BodiesDifferIn : Version → Type 0
BodiesDifferIn version = (c d : Command) → IsCommandIn version c → IsCommandIn version d → body_in version c ≡ body_in version d → c ≡ d

pub bodies_differ : BodiesDiffer → OldBodiesDiffer → (version : Version) → BodiesDifferIn version
bodies_differ today old One c d is so same = old c d is.0 so.0 is.1 so.1 same
bodies_differ today old Two c d is so same = today c d is so same

pub command_in : (version : Version) (a : Referenced) → IsReferencedIn version a → IsCommandIn version a.command
command_in One a is = (is.0.1, is.1)
command_in Two a is = is.1

pub reference_in : (version : Version) (a : Referenced) → IsReferencedIn version a → is_identifier 40 a.reference ≡ true
reference_in One a is = is.0.0
reference_in Two a is = is.0

pub referenced_in : (version : Version) (a : Referenced) → is_identifier 40 a.reference ≡ true → IsCommandIn version a.command → IsReferencedIn version a
referenced_in One a reference is = ((reference, is.0), is.1)
referenced_in Two a reference is = (reference, is)

-- ---- what a version accepts is what it lets through and today accepts
pub unfit : (accepts lets : Bool) (r : Option Refusal) → accepts ≡ (lets && is_none r) → lets ≡ false → IsTrue accepts → ⊥
unfit accepts lets r is never so = true≢false (sym so ∙ is ∙ ap (λ b. b && is_none r) never)

pub unrefused : (accepts lets : Bool) (r : Option Refusal) → accepts ≡ (lets && is_none r) → IsTrue accepts → r ≡ None
unrefused accepts lets None is so = refl
unrefused accepts true (Some r) is so = absurd (true≢false (sym so ∙ is))
unrefused accepts false (Some r) is so = absurd (true≢false (sym so ∙ is))

pub accepted : (accepts lets : Bool) (r : Option Refusal) → accepts ≡ (lets && is_none r) → lets ≡ true → r ≡ None → IsTrue accepts
accepted accepts lets r is through none = is ∙ ap₂ (λ b (o : Option Refusal). b && is_none o) through none

-- ---- where the commands lead
pub led : (version : Version) (b : BookState) (c : Command) (more : List Command) → next_all_in version b (c ∷ more) ≡ (if accepts_in version b c then next_all_in version (next b c) more else None)
led One b c more = refl
led Two b c more = refl

pub led_here : (version : Version) (b : BookState) → next_all_in version b [] ≡ Some b
led_here One b = refl
led_here Two b = refl
