use Rattle.ob_json.proofs.Planning.{forecast_has_none}
use Rattle.ob_json.proofs.plan.forecast_text.Goals as goal

pub returns-clause-text : goal.returns-clause-text
returns-clause-text c =
    let text = rw c.in_ok-forecast.ensures at c.in_ok-to_vec.ensures.text in
    text (forecast_has_none (record { moved = c.args.moved.now; sections = c.args.sections.now }))
