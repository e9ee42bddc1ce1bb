use Rattle.std.proofs.Common.{◌≡◌}
use Rattle.ob_book.specs.Acts.{ActState}
use Rattle.ob_store.proofs.Differing.{Begun}
use Rattle.ob_store.proofs.off.first_part_off.Given as goal

-- the tables so far were found to be those of the book
abbrev pub invariant-parts : goal.invariant-parts
invariant-parts g l = (b : ActState) → b.book ≡ l.led.book.state → Begun g.S.Store b l.at l.fn.conn l.conn
