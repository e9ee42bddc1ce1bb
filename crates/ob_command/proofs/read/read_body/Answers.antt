use Rattle.std.proofs.Common.{sym}
use Rattle.ob_command.proofs.BodyLaws.{kept, no-kind, refused, uncut}
use Rattle.ob_command.proofs.read.read_body.Goals as goal

pub returns-in_err-kind : goal.returns-in_err-kind
returns-in_err-kind c = rw c.from_residual.ensures (uncut c.args.text.now (sym c.in_err-kind.ensures))

pub returns-in_err-kind-2 : goal.returns-in_err-kind-2
returns-in_err-kind-2 c =
    let kind = c.in_ok-kind.kind.now in
    rw c.from_residual-in_err-kind-2.ensures (no-kind c.args.text.now kind c.in_ok-kind.fields (sym c.in_ok-kind.ensures) (sym c.in_err-kind-2.ensures))

pub returns-in-Ok : goal.returns-in-Ok
returns-in-Ok c =
    let kind = c.in_ok-kind.kind.now in
    kept c.args.text.now kind c.in_ok-kind-2.kind c.in_ok-kind.fields c.in-Ok.command (sym c.in_ok-kind.ensures) (sym c.in_ok-kind-2.ensures) c.in-Ok.ensures

pub returns-in-Err : goal.returns-in-Err
returns-in-Err c =
    let kind = c.in_ok-kind.kind.now in
    refused c.args.text.now kind c.in_ok-kind-2.kind c.in_ok-kind.fields c.in-Err.field-0 (sym c.in_ok-kind.ensures) (sym c.in_ok-kind-2.ensures) c.in-Err.ensures
