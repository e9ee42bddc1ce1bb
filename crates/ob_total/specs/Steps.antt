-- What a step answers of what a definition says, memory aside.
use Rattle.std.specs.Prelude.{ℕ, ◌≡◌, Option, Some, None, Result, Ok, Err}
use Rattle.ob_base.specs.declared.stop.Fault.TheVariants.{OutOfMemory}
use Rattle.ob_base.specs.declared.stop.Refusal.{Refusal}
use Rattle.ob_base.specs.declared.stop.Stop.{Stop}
use Rattle.ob_base.specs.declared.stop.Stop.TheVariants as stops
use Rattle.ob_total.specs.Worlds.{WorldState}

-- the refusal is the one that is said, or memory was refused
abbrev pub IsRefusedAs : Stop → Result WorldState Refusal → Type 0
IsRefusedAs (stops.Refused refusal) said = said ≡ Err refusal
IsRefusedAs (stops.Fault fault) said = fault ≡ OutOfMemory

-- the new world is the one that is said
abbrev pub StepsAs : Result (Unit {0}) Stop → WorldState → Result WorldState Refusal → Type 0
StepsAs (Ok done) new said = said ≡ Ok new
StepsAs (Err stop) new said = IsRefusedAs stop said

-- the refusal is the one that is said, at this row, or memory was refused and there is no row
abbrev pub StopsAtRow : {A : Type 0} → Stop → Option ℕ → ℕ → Result A Refusal → Type 0
StopsAtRow (stops.Refused refusal) row number said = (said ≡ Err refusal) × (row ≡ Some number)
StopsAtRow (stops.Fault fault) row number said = (fault ≡ OutOfMemory) × (row ≡ None)
