use Rattle.std.proofs.Common.{true, Ok, refl}
use Rattle.ob_sql_rows.specs.declared.version.Version.TheVariants.{One}
use Rattle.ob_store.specs.declared.led.Led.{Led}
use Rattle.ob_store.specs.Finding.{HasNoBookIn, IsNamed}
use Rattle.ob_store.specs.Leading.{IsLedIn}
use Rattle.ob_store.specs.Migrating.{HoldsNoOldBook}
use Rattle.ob_store.specs.Upgrading.{Upgradable}
use Rattle.ob_store.proofs.OldBooks.{check_fails, found_or, names_none}
use Rattle.ob_store.proofs.Reading.{fails, find_as}
use Rattle.ob_store.proofs.migrating.find_old.Goals as goal

pub returns-in-Err : goal.returns-in-Err
returns-in-Err g c =
    fails g.S.Store One (IsNamed One) (HasNoBookIn One) Upgradable HoldsNoOldBook c.args.conn.now c.read_named.new.conn c.in-Err.stop
    (λ trees none. names_none c.old_books_law.ensures c.upgrade_law.ensures.reached trees none) c.in-Err.ensures.finds

pub returns-in-Err-lead_old : goal.returns-in-Err-lead_old
returns-in-Err-lead_old g c =
    let it = c.in-Ok.named in
    let old = c.args.conn.now in
    let first = find_as g.S.Store One (IsNamed One) (IsNamed One) (HasNoBookIn One) HoldsNoOldBook old c.read_named.new.conn (Ok it) (λ trees x named. named) (λ trees none. names_none c.old_books_law.ensures c.upgrade_law.ensures.reached trees none) c.in-Ok.ensures.finds in
    fails g.S.Store One (λ trees (l : Led g.row.T.Denot). IsNamed One trees it × IsLedIn One trees l.book.state true true) HoldsNoOldBook Upgradable HoldsNoOldBook old c.lead_old.new.conn c.in-Err-lead_old.stop (λ trees none. none) (c.in-Err-lead_old.ensures.finds old first)

pub returns : goal.returns
returns g c =
    let it = c.in-Ok.named in
    let l = c.in-Ok-lead_old.led in
    let old = c.args.conn.now in
    let first = find_as g.S.Store One (IsNamed One) (IsNamed One) (HasNoBookIn One) HoldsNoOldBook old c.read_named.new.conn (Ok it) (λ trees x named. named) (λ trees none. names_none c.old_books_law.ensures c.upgrade_law.ensures.reached trees none) c.in-Ok.ensures.finds in
    check_fails g.S.Store c.old_books_law.ensures c.upgrade_law.ensures.reached it c.upgrade_law.ensures.alike l.book.state (λ (x : Led g.row.T.Denot). x.book.state) l refl old c.lead_old.new.conn c.check_old.new.conn
    (c.in-Ok-lead_old.ensures.finds old first) c.in-Err-check_old.stop c.in-Err-check_old.ensures

pub returns-in-Ok-check_old : goal.returns-in-Ok-check_old
returns-in-Ok-check_old g c =
    let it = c.in-Ok.named in
    let l = c.in-Ok-lead_old.led in
    let old = c.args.conn.now in
    let first = find_as g.S.Store One (IsNamed One) (IsNamed One) (HasNoBookIn One) HoldsNoOldBook old c.read_named.new.conn (Ok it) (λ trees x named. named) (λ trees none. names_none c.old_books_law.ensures c.upgrade_law.ensures.reached trees none) c.in-Ok.ensures.finds in
    found_or g.S.Store c.old_books_law.ensures c.upgrade_law.ensures.reached it c.upgrade_law.ensures.alike l.book.state (λ (x : Led g.row.T.Denot). x.book.state) l refl old c.lead_old.new.conn c.check_old.new.conn
    (c.in-Ok-lead_old.ensures.finds old first) c.upgrade_law.ensures.upgraded c.upgrade_law.ensures.lets c.in-Ok-check_old.ensures c.upgrade_of.result c.upgrade_of.ensures.texts c.upgrade_of.ensures.devices c.upgrade_of.ensures.faults
