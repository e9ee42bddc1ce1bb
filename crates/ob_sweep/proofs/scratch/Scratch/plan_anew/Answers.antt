use Rattle.std.proofs.Common.{◌≡◌, length, ap, ◌∙◌, arith}
use Rattle.std.proofs.lemmas.Result.{IfOk-weaker}
use Rattle.ob_sheet.specs.Order.{in_order}
use Rattle.ob_sweep.specs.Deltas.{IsDelta}
use Rattle.ob_sweep.specs.Runs.{history, runs_between}
use Rattle.ob_sweep.proofs.Replanned.{are_steps, is_delta_in_order, length-in_order, whole_part}
use Rattle.ob_sweep.proofs.scratch.Scratch.plan_anew.Goals as goal

pub plan_steps-requires-clause-steps : goal.plan_steps-requires-clause-steps
plan_steps-requires-clause-steps c =
    let entries = c.args.sheet.now.entries in
    let steps : c.deref.result.now ≡ in_order entries = c.deref.ensures.value ∙ c.in_ok-steps.ensures.entries ∙ whole_part (in_order c.args.sheet.now.entries) c.in_order.result.now c.in_order.ensures.numbers in
    are_steps entries (length c.args.net.now.network.devices) c.args.first c.args.end c.deref.result.now c.in_order.ensures.numbered c.requires.between c.requires.devices steps

pub returns-clause-delta : goal.returns-clause-delta
returns-clause-delta c =
    let net = c.args.net.now.network in
    let entries = c.args.sheet.now.entries in
    let steps : c.deref.result.now ≡ in_order entries = c.deref.ensures.value ∙ c.in_ok-steps.ensures.entries ∙ whole_part (in_order c.args.sheet.now.entries) c.in_order.result.now c.in_order.ensures.numbers in
    IfOk-weaker c.plan_steps.result (λ delta. IsDelta net delta c.args.self.now (λ v. runs_between v (history net c.deref.result.now v) c.args.first c.args.end))
    (λ delta. IsDelta net delta c.args.self.now (λ v. runs_between v (history net entries v) c.args.first c.args.end))
    (λ delta is. is_delta_in_order net entries c.deref.result.now c.args.first c.args.end delta c.args.self.now c.in_order.ensures.numbered c.requires.some steps is)
    c.plan_steps.ensures.delta

pub returns-clause-searches : goal.returns-clause-searches
returns-clause-searches c =
    let entries = c.args.sheet.now.entries in
    let steps : c.deref.result.now ≡ in_order entries = c.deref.ensures.value ∙ c.in_ok-steps.ensures.entries ∙ whole_part (in_order c.args.sheet.now.entries) c.in_order.result.now c.in_order.ensures.numbers in
    omega (arith, c.plan_steps.ensures.searches, ap length steps, length-in_order entries)
