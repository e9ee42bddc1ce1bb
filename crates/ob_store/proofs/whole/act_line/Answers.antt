use Rattle.std.proofs.Common.{◌≤◌, ◌+◌, sym, subst}
use Rattle.sqlite.specs.Held.{state}
use Rattle.ob_sql_rows.proofs.Silence.{silent_same}
use Rattle.ob_store.specs.Searching.{searches_of_line}
use Rattle.ob_store.specs.Whole.{Tries}
use Rattle.ob_store.proofs.whole.act_line.Goals as goal

pub returns-in-Ok-clause-tries : goal.returns-in-Ok-clause-tries
returns-in-Ok-clause-tries g c clean b shows same =
    subst (λ x. Tries (state g.S.Store c.args.tx.now.conn.now) (state g.S.Store c.act_within.new.tx.conn.now) c.act_within.new.book.state b x c.act_within.result) (sym c.in-Ok.is)
    (c.act_within.ensures.tries clean b shows same)

pub returns-in-Err-clause-silent : goal.returns-in-Err-clause-silent
returns-in-Err-clause-silent g c = silent_same (state g.S.Store c.args.tx.now.conn.now)

pub returns-in-Ok-clause-searched : goal.returns-in-Ok-clause-searched
returns-in-Ok-clause-searched g c clean b shows same =
    subst (λ x. c.act_within.new.book.searches ≤ c.args.book.now.searches + searches_of_line g.T.Timeline.bound b x) (sym c.in-Ok.is)
    (c.act_within.ensures.searched clean b shows same)
