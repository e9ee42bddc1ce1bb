use Rattle.std.proofs.Common.{sym, ◌∙◌}
use Rattle.std.proofs.lemmas.Bool.{cond-true, cond-false}
use Rattle.ob_base.specs.Life.{is_alive}
use Rattle.ob_base.specs.declared.Pos.TheVariants.{Opened}
use Rattle.ob_sweep.proofs.Moved.{moved_as_of}
use Rattle.ob_sweep.proofs.sweep.position_at.Goals as goal

pub returns-then-holds : goal.returns-then-holds
returns-then-holds c = λ ps.
    let life = c.life_of.result in
    moved_as_of c.args.net.now.network.devices c.args.second ps c.args.device c.args.pos c.args.pos life c.life_of.ensures.life
    (sym (cond-true (is_alive life c.args.second) c.args.pos Opened (sym c.holds.ensures ∙ c.if-holds.true)))

pub returns-else-holds : goal.returns-else-holds
returns-else-holds c = λ ps.
    let life = c.life_of.result in
    moved_as_of c.args.net.now.network.devices c.args.second ps c.args.device c.args.pos Opened life c.life_of.ensures.life
    (sym (cond-false (is_alive life c.args.second) c.args.pos Opened (sym c.holds.ensures ∙ c.if-holds.false)))
