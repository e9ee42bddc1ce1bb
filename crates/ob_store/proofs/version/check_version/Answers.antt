use Rattle.std.proofs.Common.{Ok}
use Rattle.ob_sql_rows.specs.declared.version.Version.TheVariants.{Two}
use Rattle.ob_store.proofs.Asking.{asked_more, asked_once, told_none, told_then}
use Rattle.ob_store.proofs.OldTelling.{looked_shape}
use Rattle.ob_store.proofs.Reading.{on_ok}
use Rattle.ob_store.proofs.version.check_version.Goals as goal

pub returns-clause-tells : goal.returns-clause-tells
returns-clause-tells g c = told_then g.S.Store c.args.conn.now c.look_at.new.conn c.tell_version.new.conn c.in-Ok.ensures c.tell_version.result c.tell_version.ensures.tells

pub returns-clause-asks : goal.returns-clause-asks
returns-clause-asks g c =
    asked_more g.S.Store c.args.conn.now c.look_at.new.conn (Ok tt) c.in-Ok.ensures tt c.in-Ok.ensures.empty c.tell_version.new.conn c.tell_version.result c.tell_version.ensures.tells.clean c.tell_version.ensures.kept

pub returns-clause-shape : goal.returns-clause-shape
returns-clause-shape g c clean =
    on_ok c.tell_version.result c.tell_version.ensures.shape
    (λ so. looked_shape g.S.Store Two c.args.conn.now c.look_at.new.conn c.in-Ok.ensures (c.tell_version.ensures.tells.clean clean) (c.has_shape-is_book.ensures.0 so))

pub returns-in-Err-clause-tells : goal.returns-in-Err-clause-tells
returns-in-Err-clause-tells g c = told_none g.S.Store c.args.conn.now c.look_at.new.conn c.in-Err.stop c.in-Err.ensures

pub returns-in-Err-clause-asks : goal.returns-in-Err-clause-asks
returns-in-Err-clause-asks g c = asked_once g.S.Store c.args.conn.now c.look_at.new.conn _ c.in-Err.ensures
