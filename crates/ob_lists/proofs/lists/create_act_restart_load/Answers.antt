use Rattle.std.proofs.Common.{[], ◌++◌}
use Rattle.ob_store.specs.Acting.{under}
use Rattle.ob_store.proofs.Restarting.{numbers_after}
use Rattle.ob_lists.specs.Standing.{told_by}
use Rattle.ob_lists.proofs.Numbering.{begun_numbered}
use Rattle.ob_lists.proofs.lists.create_act_restart_load.Goals as goal

pub returns-clause-begun : goal.returns-clause-begun
returns-clause-begun g c =
    λ clean.
    let sent = c.act-sent.new.keeper in
    let next = c.restart-next in
    let goes = c.restart_law.ensures sent next.result next.ensures in
    let opened = c.load.ensures.goes.clean clean in
    let told = told_by (under c.args.reference c.args.command) c.act-sent.result in
    begun_numbered c.args.keeper c.create-made.new.self c.load.new.keeper c.args.first.now c.args.days c.args.zone.now told c.create-made.result
    c.create-made.ensures.created c.create-made.ensures.numbered
    (λ b stands numbers. (
      c.load.ensures.goes.stands clean b (told ++ []) (goes.stands opened b (told ++ []) (c.act-sent.ensures.goes.stands (goes.clean opened) b [] stands)),
      c.load.ensures.numbered (numbers_after sent next.result next.ensures.opens c.crash_law.ensures (c.act-sent.ensures.numbered b [] stands numbers)),
    ))

pub returns-clause-created : goal.returns-clause-created
returns-clause-created g c = (c.create-made.new.self, c.create-made.ensures.created)
