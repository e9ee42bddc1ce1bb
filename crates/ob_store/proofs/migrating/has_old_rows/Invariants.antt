use Rattle.ob_store.proofs.OldParts.{Begun}
use Rattle.ob_store.proofs.migrating.has_old_rows.Given as goal

-- the tables so far were found to be those of the book
abbrev pub invariant-parts : goal.invariant-parts
invariant-parts g l = Begun g.S.Store l.led.book.state l.at l.fn.conn l.conn
