use Rattle.ob_sql_write.proofs.Turns.{eight_amounts}
use Rattle.ob_sql_write.proofs.moves.amounts_of.Goals as goal

pub returns : goal.returns
returns c =
    rw (
      c.amount_of.ensures,
      c.amount_of-2.ensures,
      c.amount_of-3.ensures,
      c.amount_of-4.ensures,
      c.amount_of-5.ensures,
      c.amount_of-6.ensures,
      c.amount_of-7.ensures,
      c.amount_of-8.ensures,
    ) (eight_amounts _ c.args.moves.now c.requires)
