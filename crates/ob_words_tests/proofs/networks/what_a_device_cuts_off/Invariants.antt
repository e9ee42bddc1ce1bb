use Rattle.ob_net.specs.Traces.{IsTracerOf}
use Rattle.ob_words_tests.proofs.networks.what_a_device_cuts_off.Given as goal

abbrev pub invariant-loop-line : goal.invariant-loop-line
invariant-loop-line g l = IsTracerOf l.net.network l.tracer
