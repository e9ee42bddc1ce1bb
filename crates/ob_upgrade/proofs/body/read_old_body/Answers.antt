use Rattle.std.proofs.Common.{subst, sym, ◌∙◌}
use Rattle.ob_upgrade.proofs.Bodies.{of_other, ReadsAsOld}
use Rattle.ob_upgrade.proofs.body.read_old_body.Goals as goal

pub returns-clause-read : goal.returns-clause-read
returns-clause-read c =
    let text = c.args.text.now in
    subst (λ f. ReadsAsOld text f) (sym c.other_alone.ensures) (of_other text c.read_body.result (sym c.is_of_device.ensures ∙ c.if-is_of_device.false) c.read_body.ensures)
