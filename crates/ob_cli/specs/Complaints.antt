-- The line on standard error that the program tells of a stop.
use Rattle.std.specs.Prelude.{ℕ, List, ◌∷◌, ◌++◌, Option, Some, None, codes}
use Rattle.std.specs.Fmt.{decimal}
use Rattle.ob_base.specs.declared.stop.Fault.{Fault}
use Rattle.ob_base.specs.declared.stop.Refusal.{Refusal}
use Rattle.ob_base.specs.declared.stop.Stop.{Stop}
use Rattle.ob_base.specs.declared.stop.Stop.TheVariants as stops
use Rattle.ob_base.specs.Stop.{fault_name, fault_number, refusal_detail, refusal_name, refusal_number}

-- the name, and then the detail and the row, where there are these
abbrev pub with_detail : List ℕ → Option ℕ → Option ℕ → List ℕ
with_detail name None None = name
with_detail name None (Some row) = name ++ (codes " row " ++ decimal row)
with_detail name (Some detail) None = name ++ (32 ∷ decimal detail)
with_detail name (Some detail) (Some row) = name ++ (32 ∷ (decimal detail ++ (codes " row " ++ decimal row)))

-- `refused`, the number, the name, the detail and the row
abbrev pub refused_line : Refusal → Option ℕ → List ℕ
refused_line refusal row =
    codes "refused " ++ (decimal (refusal_number refusal) ++ (32 ∷ with_detail (refusal_name refusal) (refusal_detail refusal) row))

-- `fault`, the number and the name
abbrev pub fault_line : Fault → List ℕ
fault_line fault = codes "fault " ++ (decimal (fault_number fault) ++ (32 ∷ fault_name fault))

abbrev pub complaint_line : Stop → Option ℕ → List ℕ
complaint_line (stops.Refused refusal) row = refused_line refusal row
complaint_line (stops.Fault fault) row = fault_line fault
