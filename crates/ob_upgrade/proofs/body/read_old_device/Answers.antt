use Rattle.std.proofs.Common.{◌≡◌, ◌++◌, subst, sym}
use Rattle.ob_command.specs.Devices.{plain_end}
use Rattle.ob_upgrade.proofs.Bodies.{of_device, ReadsAs, ReadsAsOld}
use Rattle.ob_upgrade.proofs.body.read_old_device.Goals as goal

pub returns-clause-read : goal.returns-clause-read
returns-clause-read c =
    let text = c.args.text.now in
    let whole : c.deref.result.now ≡ text ++ plain_end = cc (c.deref.ensures.value, c.in_ok-extend_from_slice.ensures.items, c.plain_end.ensures, c.in_ok-whole.ensures.items) in
    let read : ReadsAs (text ++ plain_end) c.read_body.result = subst (λ t. ReadsAs t c.read_body.result) whole c.read_body.ensures in
    subst (λ f. ReadsAsOld text f) (sym c.device_alone.ensures) (of_device text c.read_body.result c.requires read)
