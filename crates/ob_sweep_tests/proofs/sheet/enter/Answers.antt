use Rattle.std.proofs.Common.{refl}
use Rattle.ob_sheet.specs.Revisions.{corrected, withdrawn}
use Rattle.ob_sweep_tests.proofs.Asked.{named_after, lie_after}
use Rattle.ob_sweep_tests.proofs.sheet.enter.Goals as goal

pub returns-in_ok-correct-in-Correct-clause-devices : goal.returns-in_ok-correct-in-Correct-clause-devices
returns-in_ok-correct-in-Correct-clause-devices c =
    named_after _ _ _ _ (corrected _ _ _ _) (λ _. refl) c.in_ok-correct-in-Correct.ensures.ok c.requires.devices

pub returns-in_ok-correct-in-Correct-clause-all : goal.returns-in_ok-correct-in-Correct-clause-all
returns-in_ok-correct-in-Correct-clause-all c =
    lie_after _ _ _ _ _ (corrected _ _ _ _) (λ _ _. c.in_ok-second-in-Correct.ensures) c.in_ok-correct-in-Correct.ensures.ok c.requires.all

pub returns-in_ok-withdraw-in-Withdraw-clause-devices : goal.returns-in_ok-withdraw-in-Withdraw-clause-devices
returns-in_ok-withdraw-in-Withdraw-clause-devices c =
    named_after _ _ _ _ withdrawn (λ _. refl) c.in_ok-withdraw-in-Withdraw.ensures.ok c.requires.devices

pub returns-in_ok-withdraw-in-Withdraw-clause-all : goal.returns-in_ok-withdraw-in-Withdraw-clause-all
returns-in_ok-withdraw-in-Withdraw-clause-all c =
    lie_after _ _ _ _ _ withdrawn (λ _ h. h) c.in_ok-withdraw-in-Withdraw.ensures.ok c.requires.all
