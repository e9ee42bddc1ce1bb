-- A command that is refused leads nowhere.
use Rattle.std.proofs.Common.{◌≡◌, ◌∙◌, sym, ap, refl, ℕ, ◌+◌, ◌<◌, List, ◌∷◌, drop, get_or, length, Option, Some, None, is_none, if◌then◌else◌, true≢false}
use Rattle.std.specs.Prelude.{IsSome, is_some}
use Rattle.ob_base.specs.declared.stop.Refusal.{Refusal}
use Rattle.ob_state.specs.State.{BookState}
use Rattle.ob_state.specs.Refusals.{refusal}
use Rattle.ob_state.specs.Next.{next}
use Rattle.ob_sql_rows.specs.declared.version.Version.TheVariants.{Two}
use Rattle.ob_sql_read.specs.declared.filed.Filed.{Filed}
use Rattle.ob_sql_read.proofs.Rowing.{leads, drop_one}

first_accepted : (b : BookState) (f : Filed) (rest : List Filed) (r : Option Refusal) → refusal b f.command ≡ r → IsSome (leads Two b (f ∷ rest)) → r ≡ None
first_accepted b f rest None is some = refl
first_accepted b f rest (Some r) is some =
    let none : leads Two b (f ∷ rest) ≡ None = ap (λ (o : Option Refusal). if is_none o then leads Two (next b f.command) rest else None) is in
    absurd (true≢false (sym some ∙ ap (λ (o : Option BookState). is_some o) none))

-- where the commands lead somewhere, the next of them is accepted
pub next_accepted : (b first : BookState) (list : List Filed) (i : ℕ) (f : Filed) → i < length list → f ≡ get_or list i f
    → leads Two b (drop i list) ≡ leads Two first list → IsSome (leads Two first list) → refusal b f.command ≡ None
next_accepted b first list i f low e leading some =
    let here = sym (ap (leads Two b) (drop_one list i f low e)) ∙ leading in
    first_accepted b f (drop (i + 1) list) (refusal b f.command) refl (ap (λ (o : Option BookState). is_some o) here ∙ some)

-- commands that lead to a state lead somewhere
pub some_led : (o : Option BookState) (c : BookState) → o ≡ Some c → IsSome o
some_led o c is = ap (λ (s : Option BookState). is_some s) is
