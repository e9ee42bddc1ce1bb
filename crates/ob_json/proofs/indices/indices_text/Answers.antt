use Rattle.ob_json.proofs.Indexed.{both_have_none}
use Rattle.ob_json.proofs.indices.indices_text.Goals as goal

pub returns-clause-text : goal.returns-clause-text
returns-clause-text c =
    let text = rw c.in_ok-both.ensures at c.in_ok-to_vec.ensures.text in
    text (both_have_none c.args.all.now c.args.unmarked.now)
