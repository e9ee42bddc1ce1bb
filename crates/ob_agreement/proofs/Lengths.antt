-- A row of eight fields, or of another number: then `total` and a book both refuse it as a whole.
use Rattle.std.proofs.Common.{◌≡◌, refl, ℕ, ◌<◌, ◌==◌, false, List, [], ◌∷◌, length, Result, Err, arith, if◌then◌else◌}
use Rattle.std.proofs.lemmas.Bool.Decides.{nat_tests}
use Rattle.ob_base.specs.declared.stop.Refusal.{Refusal}
use Rattle.ob_base.specs.declared.stop.Refusal.TheVariants.{BadField}
use Rattle.ob_csv.specs.Rows.{Fields}
use Rattle.ob_command.specs.Fields.{IsRow}
use Rattle.ob_command.specs.declared.command.Command.{Command as BookCommand}
use Rattle.ob_total.specs.Commands.{command_of}
use Rattle.ob_total.specs.declared.command.Command.{Command}

too_long : (n : ℕ) (rest : Result Command Refusal) → 8 < n → (if n == 8 then rest else Err (BadField 0)) ≡ Err (BadField 0)
too_long n rest long = let other : (n == 8) ≡ false = grind (arith, nat_tests, long) in rw other refl

-- what holds of rows of eight fields, and of those that both refuse, holds of all
pub by_length : (P : Fields → Type 0) → ((kind reference f1 f2 f3 f4 f5 f6 : List ℕ) → P (kind ∷ reference ∷ f1 ∷ f2 ∷ f3 ∷ f4 ∷ f5 ∷ f6 ∷ []))
    → ((row : Fields) → command_of row ≡ Err (BadField 0) → ((said : Result (List ℕ × BookCommand) Refusal) → IsRow row said → said ≡ Err (BadField 0)) → P row)
    → (row : Fields) → P row
by_length P eight other [] = other [] refl (λ said is. is)
by_length P eight other (a ∷ []) = other (a ∷ []) refl (λ said is. is)
by_length P eight other (a ∷ b ∷ []) = other (a ∷ b ∷ []) refl (λ said is. is)
by_length P eight other (a ∷ b ∷ c ∷ []) = other (a ∷ b ∷ c ∷ []) refl (λ said is. is)
by_length P eight other (a ∷ b ∷ c ∷ d ∷ []) = other (a ∷ b ∷ c ∷ d ∷ []) refl (λ said is. is)
by_length P eight other (a ∷ b ∷ c ∷ d ∷ e ∷ []) = other (a ∷ b ∷ c ∷ d ∷ e ∷ []) refl (λ said is. is)
by_length P eight other (a ∷ b ∷ c ∷ d ∷ e ∷ f ∷ []) = other (a ∷ b ∷ c ∷ d ∷ e ∷ f ∷ []) refl (λ said is. is)
by_length P eight other (a ∷ b ∷ c ∷ d ∷ e ∷ f ∷ g ∷ []) = other (a ∷ b ∷ c ∷ d ∷ e ∷ f ∷ g ∷ []) refl (λ said is. is)
by_length P eight other (a ∷ b ∷ c ∷ d ∷ e ∷ f ∷ g ∷ h ∷ []) = eight a b c d e f g h
by_length P eight other (a ∷ b ∷ c ∷ d ∷ e ∷ f ∷ g ∷ h ∷ i ∷ more) =
    let row : Fields = a ∷ b ∷ c ∷ d ∷ e ∷ f ∷ g ∷ h ∷ i ∷ more in
    other row (too_long (length row) _ (omega arith)) (λ said is. is)
