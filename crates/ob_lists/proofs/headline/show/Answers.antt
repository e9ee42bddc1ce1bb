use Rattle.ob_lists.proofs.Headlines.{shows}
use Rattle.ob_lists.proofs.headline.show.Goals as goal

pub returns-clause-shows : goal.returns-clause-shows
returns-clause-shows g c =
    λ b told stands. shows c.next_law.ensures.period c.told_law.ensures.commands b told c.args.keeper.now c.args.dim c.args.key c.args.which
    c.shown.result c.shown.ensures.headline c.shown.ensures.none stands
