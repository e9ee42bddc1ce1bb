use Rattle.ob_net.specs.Supplies.{IsOf}
use Rattle.ob_words_tests.proofs.networks.one_switching_after_another.Given as goal

abbrev pub invariant-loop-switching : goal.invariant-loop-switching
invariant-loop-switching g l = IsOf l.net.network l.supply
