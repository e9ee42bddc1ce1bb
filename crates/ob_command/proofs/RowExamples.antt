-- Worked examples of rows.
use Rattle.std.proofs.Common.{refl, inl, inr, [], ◌∷◌, Some, Ok, Err, codes, arith, None}
use Rattle.ob_base.specs.declared.stop.Refusal.TheVariants.{BadField}
use Rattle.ob_base.specs.declared.Pos.TheVariants.{Opened}
use Rattle.ob_time.specs.Moment.{IsSecondText}
use Rattle.ob_command.specs.Commands.{operation_of}
use Rattle.ob_command.specs.Fields.{IsRow}
use Rattle.ob_command.specs.Spellings.{Gives}
use Rattle.ob_command.specs.declared.command.Command.TheVariants.{Cause, Switch}

-- leading zeros are read
a_cause : IsRow (codes "cause" ∷ codes "R1" ∷ codes "03" ∷ codes "STORM" ∷ [] ∷ [] ∷ [] ∷ [] ∷ []) (Ok (codes "R1", Cause 3 (codes "STORM")))
a_cause = (Ok (Cause 3 (codes "STORM")), refl, refl)

a_code_too_great : IsRow (codes "cause" ∷ codes "R1" ∷ codes "64" ∷ codes "STORM" ∷ [] ∷ [] ∷ [] ∷ [] ∷ []) (Err (BadField 3))
a_code_too_great = (Err (BadField 3), refl, refl)

a_name_too_long : IsRow (codes "cause" ∷ codes "R1" ∷ codes "3" ∷ codes "AAAAAAAAAAAAAAAAAAAAAAAAA" ∷ [] ∷ [] ∷ [] ∷ [] ∷ []) (Err (BadField 4))
a_name_too_long = (Err (BadField 4), refl, refl)

seven_fields : IsRow (codes "cause" ∷ codes "R1" ∷ codes "3" ∷ codes "STORM" ∷ [] ∷ [] ∷ [] ∷ []) (Err (BadField 0))
seven_fields = refl

-- an empty text names none
no_second : Gives IsSecondText [] None
no_second s = (
  λ e. absurd (cc),
  λ h. elim h [
    | inl unix ↦ absurd (cc)
    | inr civil ↦ absurd (omega (arith, civil.long))
  ],
)

ends_that_are_one : IsRow (codes "device" ∷ codes "R1" ∷ codes "X1" ∷ codes "S1" ∷ codes "S1" ∷ codes "open" ∷ [] ∷ [] ∷ []) (Err (BadField 5))
ends_that_are_one = (Err (BadField 5), (None, None, no_second, no_second, refl), refl)

an_unknown_kind : IsRow (codes "fuse" ∷ [] ∷ [] ∷ [] ∷ [] ∷ [] ∷ [] ∷ [] ∷ []) (Err (BadField 1))
an_unknown_kind = refl

a_bad_reference : IsRow (codes "bus" ∷ codes "r1" ∷ [] ∷ [] ∷ [] ∷ [] ∷ [] ∷ [] ∷ []) (Err (BadField 2))
a_bad_reference = refl

-- a text of four digits names one second
the_second : Gives IsSecondText (codes "3600") (Some 3600)
the_second s = (
  λ e. inl e,
  λ h. elim h [
    | inl unix ↦ unix
    | inr civil ↦ absurd (omega (arith, civil.long))
  ],
)

an_unused_field : IsRow (codes "switch" ∷ codes "R1" ∷ codes "B1" ∷ codes "open" ∷ codes "3600" ∷ codes "3" ∷ codes "K1" ∷ codes "x" ∷ []) (Err (BadField 8))
an_unused_field = (Err (BadField 8), (Some 3600, the_second, refl), refl)

an_operation : IsRow (codes "switch" ∷ codes "R1" ∷ codes "B1" ∷ codes "open" ∷ codes "3600" ∷ codes "3" ∷ codes "K1" ∷ [] ∷ []) (Ok (codes "R1", Switch (codes "B1") (operation_of Opened 3600 3 (codes "K1"))))
an_operation = (Ok (Switch (codes "B1") (operation_of Opened 3600 3 (codes "K1"))), (Some 3600, the_second, refl), refl)
