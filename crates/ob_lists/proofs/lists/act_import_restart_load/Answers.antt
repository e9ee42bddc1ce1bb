use Rattle.std.specs.Prelude.{◌++◌, Some}
use Rattle.ob_csv.specs.Rows.{rows_of}
use Rattle.ob_store.specs.Acting.{under}
use Rattle.ob_lists.specs.Standing.{MayBe, told_by, told_by_import}
use Rattle.ob_lists.proofs.Standings.{finds}
use Rattle.ob_lists.proofs.lists.act_import_restart_load.Goals as goal

pub returns : goal.returns
returns g c =
    λ clean b told stands.
    let next = c.restart-next in
    let goes = c.restart_law.ensures c.import_text-done.new.keeper next.result next.ensures in
    let opened = c.load-found.ensures.goes.clean clean in
    let left = goes.clean opened in
    let first = told_by (under c.args.reference c.args.command) c.act-sent.result ++ told in
    let all = told_by_import (Some (rows_of c.args.text.now)) c.import_text-done.result ++ first in
    let sent = c.act-sent.ensures.goes.stands (c.import_text-done.ensures.goes.clean left) b told stands in
    let was = goes.stands opened b all (c.import_text-done.ensures.goes.stands left b first sent) in
    finds (MayBe b all) next.result c.load-found.new.keeper c.load-found.result was c.load-found.ensures.load (c.load-found.ensures.loads clean b all was)
