use Rattle.std.proofs.Common.{rules}
use Rattle.ob_index_tests.proofs.Small.{small_moves_fit}
use Rattle.ob_index_tests.proofs.postings.small_moves.Goals as goal

pub moves-requires-clause-fits : goal.moves-requires-clause-fits
moves-requires-clause-fits c =
    small_moves_fit c.args.taken.now c.args.given.now (search rules) (search rules) (search rules) (search rules)
