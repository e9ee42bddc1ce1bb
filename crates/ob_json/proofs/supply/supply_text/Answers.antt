use Rattle.ob_json.proofs.Supplying.{supply_has_none}
use Rattle.ob_json.proofs.supply.supply_text.Goals as goal

pub returns-clause-text : goal.returns-clause-text
returns-clause-text c =
    let text = rw c.in_ok-supply.ensures at c.in_ok-to_vec.ensures.text in
    text (supply_has_none (record { second = c.args.second; sections = c.args.sections.now; devices = c.args.devices.now }))
