use Rattle.std.proofs.Common.{List, is_some, true≢false, sym, ap, subst, ◌∙◌}
use Rattle.ob_sql_read.specs.declared.filed.Filed.{Filed}
use Rattle.ob_sql_read.specs.Listing.{filed_of}
use Rattle.ob_sql_read.specs.Distinct.{AreDistinct}
use Rattle.ob_store.specs.declared.led.Led.{Led}
use Rattle.ob_store.proofs.OldBooks.{lead_at, lead_fails, lead_no_memory, lead_off, lead_twice, lead_uncounted}
use Rattle.ob_store.proofs.migrating.lead_old.Goals as goal

pub returns-then-not-named-clause-finds : goal.returns-then-not-named-clause-finds
returns-then-not-named-clause-finds g c first read =
    lead_uncounted g.S.Store c.old_books_law.ensures c.upgrade_law.ensures.reached c.args.named.now (λ (l : Led g.row.T.Denot). l.book.state) first c.args.conn.now read c.if-not-named.true

pub returns-in-Ok-false-clause-finds : goal.returns-in-Ok-false-clause-finds
returns-in-Ok-false-clause-finds g c first read =
    lead_twice g.S.Store c.old_books_law.ensures c.upgrade_law.ensures.reached c.args.named.now (λ (l : Led g.row.T.Denot). l.book.state) first c.args.conn.now read
    (λ distinct. absurd (true≢false (sym (c.in-Ok-false.ensures.distinct.1 (subst (λ (l : List Filed). AreDistinct (filed_of l)) (sym c.deref.ensures.value) distinct)) ∙ c.in-Ok-false.field-0-test)))

pub returns-in-Err-clause-finds : goal.returns-in-Err-clause-finds
returns-in-Err-clause-finds g c first read =
    lead_no_memory g.S.Store c.old_books_law.ensures c.upgrade_law.ensures.reached c.args.named.now (λ (l : Led g.row.T.Denot). l.book.state) first c.args.conn.now read c.in-Err.stop c.in-Err.ensures.faults

pub returns-in-Ok-Some-clause-finds : goal.returns-in-Ok-Some-clause-finds
returns-in-Ok-Some-clause-finds g c first read =
    let it = c.args.named.now in
    let led = rw c.in-Ok-Some.field-0-is at c.in-Ok-Some.ensures.led in
    let distinct : AreDistinct (filed_of it.commands.items) = subst (λ (l : List Filed). AreDistinct (filed_of l)) c.deref.ensures.value (c.in-Ok-true.ensures.distinct.0 c.in-Ok-true.field-0-test) in
    lead_at g.S.Store c.old_books_law.ensures c.upgrade_law.ensures.reached it (λ (l : Led g.row.T.Denot). l.book.state) first c.args.conn.now read c.follow.new.conn c.in-Ok-Some.field-0 (ap is_some c.in-Ok-Some.field-0-is) c.in-Ok-Some.ensures.finds distinct c.if-not-named.false c.in-Ok-Some.led led.0

pub returns-in-Ok-None-clause-finds : goal.returns-in-Ok-None-clause-finds
returns-in-Ok-None-clause-finds g c first read =
    lead_off g.S.Store c.old_books_law.ensures c.upgrade_law.ensures.reached c.args.named.now (λ (l : Led g.row.T.Denot). l.book.state) first c.args.conn.now read c.follow.new.conn c.in-Ok-None.field-0 (ap is_some c.in-Ok-None.field-0-is) c.in-Ok-None.ensures.finds

pub returns-in-Err-follow-clause-finds : goal.returns-in-Err-follow-clause-finds
returns-in-Err-follow-clause-finds g c first read =
    lead_fails g.S.Store c.old_books_law.ensures c.upgrade_law.ensures.reached c.args.named.now (λ (l : Led g.row.T.Denot). l.book.state) first c.args.conn.now read c.follow.new.conn c.in-Err-follow.stop c.in-Err-follow.ensures.finds
