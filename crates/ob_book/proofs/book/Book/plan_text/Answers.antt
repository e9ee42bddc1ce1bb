use Rattle.std.proofs.Common.{◌≡◌, Some}
use Rattle.std.proofs.lemmas.Result.{err_from_is_err_and}
use Rattle.ob_base.specs.declared.stop.Stop.{Stop}
use Rattle.ob_state.specs.Refusals.{refusal}
use Rattle.ob_book.proofs.Deciding.{passed_on}
use Rattle.ob_book.proofs.book.Book.plan_text.Goals as goal

pub returns-in_err-plan-clause-refused : goal.returns-in_err-plan-clause-refused
returns-in_err-plan-clause-refused g c =
    let p = err_from_is_err_and c.from_residual.result c.from_residual.ensures.1 in
    rw (p.1, p.2)
    (passed_on c.in_err-plan.field-0.0 Stop.Refused (λ r. refusal c.args.self.now.state c.args.command.now ≡ Some r) c.in_err-plan.ensures.refused)
