use Rattle.std.proofs.Common.{Ok, Err}
use Rattle.ob_sql_rows.specs.declared.version.Version.TheVariants.{One}
use Rattle.ob_store.proofs.Asking.{asked_err, asked_more, open_keeps}
use Rattle.ob_store.proofs.OldTelling.{looked_err, looked_shape, looked_then, looked_told}
use Rattle.ob_store.proofs.Reading.{if_ok}
use Rattle.ob_store.proofs.migrating.tells_new.Goals as goal

pub returns-in-Err-clause-finds : goal.returns-in-Err-clause-finds
returns-in-Err-clause-finds g c v = looked_err g.S.Store v c.args.conn.now c.look_at.new.conn c.in-Err.stop c.in-Err.ensures

pub returns-in-Err-clause-asks : goal.returns-in-Err-clause-asks
returns-in-Err-clause-asks g c = asked_err g.S.Store c.args.conn.now c.look_at.new.conn c.in-Err.stop c.in-Err.ensures

pub returns-clause-finds : goal.returns-clause-finds
returns-clause-finds g c v = looked_then g.S.Store v c.args.conn.now c.look_at.new.conn c.tell_heading.new.conn c.tell_heading.result c.in-Ok.ensures (c.tell_heading.ensures.finds v)

pub returns-clause-asks : goal.returns-clause-asks
returns-clause-asks g c =
    asked_more g.S.Store c.args.conn.now c.look_at.new.conn (Ok tt) c.in-Ok.ensures tt c.in-Ok.ensures.empty c.tell_heading.new.conn c.tell_heading.result (c.tell_heading.ensures.finds One).clean (λ v. (c.tell_heading.ensures.finds v).kept)

pub returns-in-Err-clause-first : goal.returns-in-Err-clause-first
returns-in-Err-clause-first g c opened v t u keeps = open_keeps g.S.Store c.args.conn.now c.look_at.new.conn (Err c.in-Err.stop) c.in-Err.ensures v t u opened keeps

pub returns-clause-first : goal.returns-clause-first
returns-clause-first g c opened v t u keeps = open_keeps g.S.Store c.args.conn.now c.look_at.new.conn (Ok tt) c.in-Ok.ensures v t u opened keeps

pub returns-clause-shape : goal.returns-clause-shape
returns-clause-shape g c clean =
    if_ok c.tell_heading.result c.tell_heading.ensures.shape
    (λ is so no. looked_shape g.S.Store One c.args.conn.now c.look_at.new.conn c.in-Ok.ensures ((c.tell_heading.ensures.finds One).clean clean) (c.has_shape-is_old.ensures.0 (so no)))

pub returns-clause-told : goal.returns-clause-told
returns-clause-told g c clean =
    let late = (c.tell_heading.ensures.finds One).clean clean in
    looked_told g.S.Store c.args.conn.now c.look_at.new.conn c.tell_heading.new.conn c.tell_heading.result c.in-Ok.ensures late (c.tell_heading.ensures.told clean)
