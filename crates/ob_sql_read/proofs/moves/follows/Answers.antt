use Rattle.std.proofs.Common.{◌≡◌, ◌<◌, ◌≤◌, ◌+◌, ◌++◌, Ok, IsTrue, drop, get_or, length, sym, ap, subst, ◌∙◌, arith, true≢false}
use Rattle.sqlite.specs.Effect.{Database}
use Rattle.sqlite.specs.State.{HasCleanDisk}
use Rattle.sqlite.specs.Held.{state}
use Rattle.sqlite.proofs.Callers.{unchanged_then}
use Rattle.ob_sql_rows.specs.Versions.{schema_of}
use Rattle.ob_sql_read.specs.declared.filed.Filed.{Filed}
use Rattle.ob_state.specs.State.{BookState}
use Rattle.ob_state.specs.Next.{next}
use Rattle.ob_state.specs.Amounts.{moves}
use Rattle.ob_record.specs.Tables.{rows_of_moves}
use Rattle.ob_sql_read.specs.Listing.{IsOff}
use Rattle.ob_sql_read.specs.Moves.{moved_listing}
use Rattle.ob_sql_read.specs.Versioned.{accepts_in}
use Rattle.ob_sql_write.proofs.Steps.{on_ok}
use Rattle.ob_sql_read.proofs.Listing.{still_then, goes_off, goes_given}
use Rattle.ob_sql_read.proofs.Passing.{clean_before, no_is_no, unchanged_after}
use Rattle.ob_sql_read.proofs.Rowing.{leads, expected, leads_on, front_more, leads_here, all_given, off_all, over, if_ok_and, moved_is}
use Rattle.ob_sql_read.proofs.Failing.{answered_over, cause_of_error}
use Rattle.ob_sql_rows.proofs.Failing.{cause_after, failed_after}
use Rattle.ob_sql_read.proofs.Searching.{left_from, left_on, left_one}
use Rattle.ob_sql_read.proofs.moves.follows.Goals as goal

pub overflow_cast-no : goal.overflow_cast-no
overflow_cast-no g c = omega (arith, c.commands.invariant.3, c.accepted.ensures.few, c.accepted.ensures.accepted)

pub commands-preserved : goal.commands-preserved
commands-preserved g c =
    let b = c.commands.book.state in
    let list = c.args.commands.now in
    let f = get_or list c.commands.at c.index-commands-at.result in
    let here : f ≡ get_or list c.commands.at f = ap (λ (d : Filed). get_or list c.commands.at d) c.index-commands-at.is in
    let first = c.args.book.now.state in
    let old = state g.S.Store c.args.rows.now.conn.now in
    let mid = state g.S.Store c.commands.rows.conn.now in
    let new = c.takes_on.new.rows.conn.now in
    let step = c.takes_on.ensures in
    let low : c.commands.at < length list = omega (arith, c.commands-test.true) in
    let taken = step.book (c.in_ok-takes_on.was ∙ ap Ok c.if-not-branch.false) in
    let next_is : c.takes_on.new.book.state ≡ next b f.command = taken.1 in (
      step.same_reference ∙ c.commands.invariant.0,
      still_then old mid (state g.S.Store new) c.commands.invariant.1 step.survives,
      λ idle. step.mode (c.commands.invariant.2 idle),
      ap (λ (s : BookState). s.accepted) next_is ∙ ap (λ n. n + 1) c.commands.invariant.3 ∙ omega arith,
      ap (λ (s : BookState). leads c.args.version s (drop (c.commands.at + 1) list)) next_is ∙ leads_on c.args.version b list c.commands.at f low here taken.0 ∙ c.commands.invariant.4,
      λ noted. step.noted (c.in_ok-takes_on.was ∙ ap Ok c.if-not-branch.false) (c.commands.invariant.5 noted),
      λ late.
          let early : HasCleanDisk mid = omega (arith, step.survives.clean, late) in
          let was = c.commands.invariant.6 early in (
            λ live. unchanged_then old mid (state g.S.Store new) (was.0 live) (c.in_ok-takes_on.ensures.same late (was.0 live).0.is_open),
            λ live v has given.
                let at = was.1 live v has given in
                let there = ap (λ (d : Database). d.schema) (was.0 live).0.now_is ∙ has in
                let rows = rows_of_moves (c.commands.at + 1) (moves b (next b f.command)) in
                let goes = c.in_ok-takes_on.ensures.goes late (was.0 live).0.is_open v there at.0 at.1 taken.0 in (
                  at.0 ++ rows,
                  goes_given g.S.Store moved_listing new at.0 rows c.in_ok-takes_on.field-0 goes c.if-not-branch.false,
                  ap (λ (s : BookState). (at.0 ++ rows) ++ expected s (c.commands.at + 1 + 1) (drop (c.commands.at + 1) list)) next_is
                      ∙ front_more b first (c.commands.at + 1) c.commands.at list f at.0 low here at.2,
                ),
          ),
      λ v t keeps. step.kept v t (c.commands.invariant.7 v t keeps),
      (let one = left_on g.T.Timeline.bound b list c.commands.at f low here in
          let others = left_from g.T.Timeline.bound c.takes_on.new.book.state (next b f.command) (drop (c.commands.at + 1) list) next_is in
          omega (arith, one, others, step.searches, c.commands.invariant.8)),
    )

pub returns-then-not-branch-clause-moved : goal.returns-then-not-branch-clause-moved
returns-then-not-branch-clause-moved g c late live v has given table shows =
    let b = c.commands.book.state in
    let list = c.args.commands.now in
    let f = get_or list c.commands.at c.index-commands-at.result in
    let here : f ≡ get_or list c.commands.at f = ap (λ (d : Filed). get_or list c.commands.at d) c.index-commands-at.is in
    let first = c.args.book.now.state in
    let old = state g.S.Store c.args.rows.now.conn.now in
    let mid = state g.S.Store c.commands.rows.conn.now in
    let new = c.takes_on.new.rows.conn.now in
    let step = c.takes_on.ensures in
    let low : c.commands.at < length list = omega (arith, c.commands-test.true) in
    let early : HasCleanDisk mid = omega (arith, step.survives.clean, late) in
    let was = c.commands.invariant.6 early in
    let at = was.1 live v has given in
    let live_mid = (was.0 live).0.is_open in
    let there = ap (λ (d : Database). d.schema) (was.0 live).0.now_is ∙ has in
    let db : (state g.S.Store new).now ≡ old.now = (c.in_ok-takes_on.ensures.same late live_mid).0.now_is ∙ (was.0 live).0.now_is in
    let rows = rows_of_moves (c.commands.at + 1) (moves b (next b f.command)) in
    let off : IsTrue (accepts_in c.args.version b f.command) → IsOff moved_listing old.now at.0 rows = λ so. subst (λ (d : Database). IsOff moved_listing d at.0 rows) db
    (goes_off g.S.Store moved_listing new at.0 rows c.in_ok-takes_on.field-0 (c.in_ok-takes_on.ensures.goes late live_mid v there at.0 at.1 so) c.if-not-branch.true) in
    (λ e. absurd (true≢false (sym e)), λ it. absurd (off_all c.args.version old.now b first (c.commands.at + 1) c.commands.at list f at.0 table low here c.commands.invariant.4 at.2 off shows it))

pub returns-clause-moved : goal.returns-clause-moved
returns-clause-moved g c late =
    let b = c.commands.book.state in
    let list = c.args.commands.now in
    let first = c.args.book.now.state in
    let mid = c.commands.rows.conn.now in
    let new = c.is_over.new.rows.conn.now in
    let step = c.is_over.ensures in
    let end : length list ≤ c.commands.at = omega (arith, c.commands-test.false) in
    let early : HasCleanDisk (state g.S.Store mid) = omega (arith, step.survives.clean, late) in
    let was = c.commands.invariant.6 early in
    if_ok_and c.is_over.result (step.over late) (step.same late) (λ is ends same live v has given table shows.
    let at = was.1 live v has given in
    let there = ap (λ (d : Database). d.schema) (was.0 live).0.now_is ∙ has in
    let all = all_given b first (c.commands.at + 1) c.commands.at list at.0 end at.2 in
    let leading = sym c.commands.invariant.4 ∙ leads_here c.args.version b list c.commands.at end in
    over g.S.Store c.args.version c.args.rows.now.conn.now new first b list at.0 table is (same.0.now_is ∙ (was.0 live).0.now_is) leading all shows (ends (schema_of v) moved_listing (moved_is v) there at.0 at.1))

pub returns-then-not-branch-clause-same_reference : goal.returns-then-not-branch-clause-same_reference
returns-then-not-branch-clause-same_reference g c = c.takes_on.ensures.same_reference ∙ c.commands.invariant.0

pub returns-then-not-branch-clause-survives : goal.returns-then-not-branch-clause-survives
returns-then-not-branch-clause-survives g c = still_then (state g.S.Store c.args.rows.now.conn.now) (state g.S.Store c.commands.rows.conn.now) (state g.S.Store c.takes_on.new.rows.conn.now) c.commands.invariant.1 c.takes_on.ensures.survives

pub returns-then-not-branch-clause-kept : goal.returns-then-not-branch-clause-kept
returns-then-not-branch-clause-kept g c v t keeps = c.takes_on.ensures.kept v t (c.commands.invariant.7 v t keeps)

pub returns-then-not-branch-clause-mode : goal.returns-then-not-branch-clause-mode
returns-then-not-branch-clause-mode g c idle = c.takes_on.ensures.mode (c.commands.invariant.2 idle)

pub returns-then-not-branch-clause-same : goal.returns-then-not-branch-clause-same
returns-then-not-branch-clause-same g c late live =
    let old = state g.S.Store c.args.rows.now.conn.now in
    let mid = state g.S.Store c.commands.rows.conn.now in
    let new = state g.S.Store c.takes_on.new.rows.conn.now in
    let was = (c.commands.invariant.6 (clean_before mid new c.takes_on.ensures.survives late)).0 in
    unchanged_then old mid new (was live) (c.in_ok-takes_on.ensures.same late (was live).0.is_open)

pub returns-then-not-branch-clause-book : goal.returns-then-not-branch-clause-book
returns-then-not-branch-clause-book g c e = absurd (no_is_no e)

pub returns-then-not-branch-clause-noted : goal.returns-then-not-branch-clause-noted
returns-then-not-branch-clause-noted g c e = absurd (no_is_no e)

pub returns-clause-same_reference : goal.returns-clause-same_reference
returns-clause-same_reference g c = c.is_over.ensures.same_reference ∙ c.commands.invariant.0

pub returns-clause-survives : goal.returns-clause-survives
returns-clause-survives g c = still_then (state g.S.Store c.args.rows.now.conn.now) (state g.S.Store c.commands.rows.conn.now) (state g.S.Store c.is_over.new.rows.conn.now) c.commands.invariant.1 c.is_over.ensures.survives

pub returns-clause-kept : goal.returns-clause-kept
returns-clause-kept g c v t keeps = c.is_over.ensures.kept v t (c.commands.invariant.7 v t keeps)

pub returns-clause-mode : goal.returns-clause-mode
returns-clause-mode g c idle = c.is_over.ensures.mode (c.commands.invariant.2 idle)

pub returns-clause-faults : goal.returns-clause-faults
returns-clause-faults g c = c.is_over.ensures.faults

pub returns-clause-same : goal.returns-clause-same
returns-clause-same g c late =
    let old = state g.S.Store c.args.rows.now.conn.now in
    let mid = state g.S.Store c.commands.rows.conn.now in
    let new = state g.S.Store c.is_over.new.rows.conn.now in
    let was = (c.commands.invariant.6 (clean_before mid new c.is_over.ensures.survives late)).0 in
    on_ok c.is_over.result (c.is_over.ensures.same late) (λ step. unchanged_after old mid new was step)

pub returns-clause-book : goal.returns-clause-book
returns-clause-book g c e =
    let list = c.args.commands.now in
    let end : length list ≤ c.commands.at = omega (arith, c.commands-test.false) in
    sym c.commands.invariant.4 ∙ leads_here c.args.version c.commands.book.state list c.commands.at end

pub returns-clause-noted : goal.returns-clause-noted
returns-clause-noted g c e noted = c.commands.invariant.5 noted

pub returns-in_err-takes_on-clause-cause : goal.returns-in_err-takes_on-clause-cause
returns-in_err-takes_on-clause-cause g c late live v has given =
    let old = state g.S.Store c.args.rows.now.conn.now in
    let mid = state g.S.Store c.commands.rows.conn.now in
    let new = state g.S.Store c.takes_on.new.rows.conn.now in
    let early : HasCleanDisk mid = clean_before mid new c.takes_on.ensures.survives late in
    let was = c.commands.invariant.6 early in
    let at = was.1 live v has given in
    let there = ap (λ (d : Database). d.schema) (was.0 live).0.now_is ∙ has in
    cause_of_error old new c.from_residual.result _ c.from_residual.ensures.1
    (λ store. failed_after old mid new _ _ c.commands.invariant.1 early c.takes_on.ensures.survives
    (c.in_err-takes_on.ensures.cause late (was.0 live).0.is_open v there at.0 at.1 store))

pub returns-clause-cause : goal.returns-clause-cause
returns-clause-cause g c late live v has given =
    let old = state g.S.Store c.args.rows.now.conn.now in
    let mid = state g.S.Store c.commands.rows.conn.now in
    let new = state g.S.Store c.is_over.new.rows.conn.now in
    let early : HasCleanDisk mid = clean_before mid new c.is_over.ensures.survives late in
    let was = c.commands.invariant.6 early in
    let at = was.1 live v has given in
    let there = ap (λ (d : Database). d.schema) (was.0 live).0.now_is ∙ has in
    cause_after old mid new _ _ c.is_over.result c.commands.invariant.1 early c.is_over.ensures.survives
    (c.is_over.ensures.cause late moved_listing.text (answered_over moved_listing (moved_is v) there) at.0 at.1)

pub returns-then-not-branch-clause-searches : goal.returns-then-not-branch-clause-searches
returns-then-not-branch-clause-searches g c =
    let list = c.args.commands.now in
    let f = get_or list c.commands.at c.index-commands-at.result in
    let here : f ≡ get_or list c.commands.at f = ap (λ (d : Filed). get_or list c.commands.at d) c.index-commands-at.is in
    let low : c.commands.at < length list = omega (arith, c.commands-test.true) in
    omega (arith, left_one g.T.Timeline.bound c.commands.book.state list c.commands.at f low here, c.takes_on.ensures.searches, c.commands.invariant.8)

pub returns-in_err-takes_on-clause-searches : goal.returns-in_err-takes_on-clause-searches
returns-in_err-takes_on-clause-searches g c =
    let list = c.args.commands.now in
    let f = get_or list c.commands.at c.index-commands-at.result in
    let here : f ≡ get_or list c.commands.at f = ap (λ (d : Filed). get_or list c.commands.at d) c.index-commands-at.is in
    let low : c.commands.at < length list = omega (arith, c.commands-test.true) in
    omega (arith, left_one g.T.Timeline.bound c.commands.book.state list c.commands.at f low here, c.takes_on.ensures.searches, c.commands.invariant.8)

pub returns-clause-searches : goal.returns-clause-searches
returns-clause-searches g c = omega (arith, c.commands.invariant.8)
