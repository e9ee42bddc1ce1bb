use Rattle.std.proofs.Common.{◌<◌, ◌^◌, ◌∙◌, arith, rules, w64, FitsSigned, to_z-of_z}
use Rattle.std.proofs.lemmas.Result.{IfOk-weaker}
use Rattle.ob_jobs.proofs.Plain.{moved_record}
use Rattle.ob_jobs.proofs.line.line_of.Goals as goal

pub returns : goal.returns
returns c =
    let m = c.args.m.now in
    let few : c.args.cmd < 2 ^ 64 = omega (arith, c.ranges.cmd.fits) in
    let low : m.key < 2 ^ 64 = omega arith in
    let fits : FitsSigned w64 m.delta = search rules in
    let text = rw (c.as_slice.ensures, c.as_bytes.ensures.value, c.as_bytes-2.ensures.value, c.as_bytes-3.ensures.value, c.name_of.ensures, c.in_ok-cmd.ensures, c.in_ok-key.ensures, c.in_ok-delta.ensures, c.from.ensures, to_z-of_z fits) at c.record_text.ensures in
    IfOk-weaker c.record_text.result _ _ (λ t is. is ∙ moved_record c.args.cmd m.dim m.key m.delta few low fits) text
