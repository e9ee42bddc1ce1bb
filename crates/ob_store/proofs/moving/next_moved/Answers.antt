use Rattle.std.proofs.Common.{◌≡◌, ◌++◌, [], ◌∷◌, None, Some, is_some, map, true≢false, sym, ap, subst, ◌∙◌, arith}
use Rattle.sqlite.specs.Held.{state}
use Rattle.sqlite.specs.State.{HasCleanDisk}
use Rattle.ob_record.specs.Tables.{tables_of}
use Rattle.ob_sql_read.proofs.Failing.{cause_of_error}
use Rattle.ob_store.specs.MovingOut.{row_of_move}
use Rattle.ob_store.proofs.Handing.{row_of}
use Rattle.sqlite.specs.Given.{GivesOn, HasGiven, row_if}
use Rattle.ob_sql_read.specs.Moves.{moved_listing}
use Rattle.ob_sql_read.proofs.Listing.{whole_list}
use Rattle.ob_sql_read.proofs.Rowing.{moved_is}
use Rattle.ob_sql_rows.specs.declared.version.Version.TheVariants.{Two}
use Rattle.ob_store.proofs.moving.next_moved.Goals as goal

pub returns-in-Some-read_moved-clause-next : goal.returns-in-Some-read_moved-clause-next
returns-in-Some-read_moved-clause-next g c clean has given it =
    let old = c.args.rows.now.conn.now in
    let new = c.advance.new.rows.conn.now in
    let at : row_if c.advance.new.rows.has_row new ≡ Some c.in-Some.row.now = sym (rw c.in-Some.is at c.get.ensures) in
    let more = subst (GivesOn g.S.Store moved_listing.text [] old new given) at (c.in_ok-advance.ensures.goes clean moved_listing.text [] given it) in
    subst (λ r. HasGiven g.S.Store moved_listing.text [] new (given ++ r ∷ [])) c.in-Some-read_moved.ensures.told more

pub returns-in-None-clause-next : goal.returns-in-None-clause-next
returns-in-None-clause-next g c clean has given it =
    let old = c.args.rows.now.conn.now in
    let new = c.advance.new.rows.conn.now in
    let at : row_if c.advance.new.rows.has_row new ≡ None = sym (rw c.in-None.is at c.get.ensures) in
    let shown = subst (GivesOn g.S.Store moved_listing.text [] old new given) at (c.in_ok-advance.ensures.goes clean moved_listing.text [] given it) in
    whole_list g.S.Store moved_listing (moved_is Two) old new has (c.in_ok-advance.ensures.same clean) given shown

pub returns-in_err-advance-clause-cause : goal.returns-in_err-advance-clause-cause
returns-in_err-advance-clause-cause g c clean b few keeps live front it =
    let old = state g.S.Store c.args.rows.now.conn.now in
    let new = state g.S.Store c.advance.new.rows.conn.now in
    let first : HasCleanDisk old = omega (arith, c.advance.ensures.survives.clean, clean) in
    cause_of_error old new c.from_residual.result _ c.from_residual.ensures.1 (c.in_err-advance.ensures.cause clean (keeps.kept.settled first live).schema (map row_of_move front) it)

pub returns-in-None-read_moved-clause-cause : goal.returns-in-None-read_moved-clause-cause
returns-in-None-read_moved-clause-cause g c clean b few keeps live front it =
    let old = c.args.rows.now.conn.now in
    let new = c.advance.new.rows.conn.now in
    let row = c.in-Some.row.now in
    let at : row_if c.advance.new.rows.has_row new ≡ Some row = sym (rw c.in-Some.is at c.get.ensures) in
    let more = subst (GivesOn g.S.Store moved_listing.text [] old new (map row_of_move front)) at (c.in_ok-advance.ensures.goes clean moved_listing.text [] (map row_of_move front) it) in
    let is = row_of g.S.Store b new few (c.advance.ensures.kept (tables_of b) keeps.kept) clean (c.in_ok-advance.ensures.same clean).0.is_open front row more in
    let some = c.read_moved.ensures.readable is.0.0 is.0.1 is.1.0 is.1.1 is.2 in
    absurd (true≢false (sym (ap is_some some) ∙ ap is_some c.in-None-read_moved.is))
