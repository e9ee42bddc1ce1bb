use Rattle.std.proofs.Common.{rules}
use Rattle.clap.proofs.WalkLemmas.{first_value-rows}
use Rattle.ob_cli.proofs.matched.flag_of.Goals as goal

pub returns-in-Some : goal.returns-in-Some
returns-in-Some c = rw (← first_value-rows _ c.args.name.now) (search rules)

pub returns-in-None : goal.returns-in-None
returns-in-None c = rw (← first_value-rows _ c.args.name.now) (search rules)
