use Rattle.std.specs.Str.Parse.{ExplainsUnsignedError, HasUnsignedDigitsIfOk, ParsesUnsigned}
use Rattle.clap.proofs.WalkLemmas.{one_text-rows}
use Rattle.ob_cli.proofs.Numbers.{sixty_four_read}
use Rattle.ob_cli.proofs.matched.count_of.Goals as goal

pub returns : goal.returns
returns c =
    rw (← one_text-rows _ c.args.name.now)
    (sixty_four_read _ (λ t r. ParsesUnsigned 64 10 t r × ExplainsUnsignedError 10 t r × HasUnsignedDigitsIfOk t r)
    _ c.get_one.result (λ t x h. h.0) c.get_one.ensures.none c.get_one.ensures.value)
