use Rattle.std.proofs.Common.{[], ◌++◌}
use Rattle.std.specs.Prelude.{Some}
use Rattle.ob_csv.specs.Rows.{rows_of}
use Rattle.ob_store.proofs.Restarting.{numbers_after}
use Rattle.ob_lists.specs.Standing.{told_by_import}
use Rattle.ob_lists.proofs.Numbering.{begun_numbered}
use Rattle.ob_lists.proofs.lists.create_import_restart_load.Goals as goal

pub returns-clause-begun : goal.returns-clause-begun
returns-clause-begun g c =
    λ clean.
    let done = c.import_text-done.new.keeper in
    let next = c.restart-next in
    let goes = c.restart_law.ensures done next.result next.ensures in
    let opened = c.load.ensures.goes.clean clean in
    let told = told_by_import (Some (rows_of c.args.text.now)) c.import_text-done.result in
    begun_numbered c.args.keeper c.create-made.new.self c.load.new.keeper c.args.first.now c.args.days c.args.zone.now told c.create-made.result
    c.create-made.ensures.created c.create-made.ensures.numbered
    (λ b stands numbers. (
      c.load.ensures.goes.stands clean b (told ++ []) (goes.stands opened b (told ++ []) (c.import_text-done.ensures.goes.stands (goes.clean opened) b [] stands)),
      c.load.ensures.numbered (numbers_after done next.result next.ensures.opens c.crash_law.ensures (c.import_text-done.ensures.tells.numbered b [] stands numbers)),
    ))

pub returns-clause-created : goal.returns-clause-created
returns-clause-created g c = (c.create-made.new.self, c.create-made.ensures.created)
