use Rattle.std.proofs.Common.{List, get_or, ◌∙◌}
use Rattle.std.proofs.lemmas.List.{set-get_or, set-set}
use Rattle.ob_base.specs.declared.Pos.{Pos}
use Rattle.ob_base.specs.declared.Pos.TheVariants.{Opened}
use Rattle.ob_net.proofs.tracer.Tracer.cut_off.Goals as goal

pub returns-clause-positions : goal.returns-clause-positions
returns-clause-positions c =
    let old : List Pos = c.args.positions.now in
    let k = c.from-device.result in
    set-set old k Opened (get_or old k Opened) ∙ set-get_or old k Opened
