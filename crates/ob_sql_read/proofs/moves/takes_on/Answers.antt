use Rattle.std.proofs.Common.{◌≡◌, arith, List, [], ◌++◌, Ok, is_some, sym, ap, ap₂, subst, ◌∙◌, true≢false}
use Rattle.sqlite.specs.Held.{state}
use Rattle.sqlite.specs.Given.{HasGiven}
use Rattle.ob_book.specs.Plans.{PlanState}
use Rattle.ob_command.specs.declared.command.Command.{Command}
use Rattle.ob_post.specs.declared.Moved.{Moved}
use Rattle.ob_state.specs.State.{BookState}
use Rattle.ob_state.specs.Refusals.{refusal}
use Rattle.ob_state.specs.Next.{next}
use Rattle.ob_state.specs.Amounts.{moves}
use Rattle.ob_record.specs.Tables.{rows_of_moves}
use Rattle.ob_sql_read.specs.Listing.{IsOff}
use Rattle.ob_sql_read.specs.Moves.{moved_listing}
use Rattle.ob_sql_read.proofs.Listing.{still, goes_off, goes_given}
use Rattle.ob_sql_read.proofs.Passing.{no_is_no}
use Rattle.ob_sql_read.proofs.Texts.{same_state}
use Rattle.ob_sql_read.proofs.Versions.{accepted, unfit, unrefused}
use Rattle.ob_sql_read.proofs.Failing.{cause_of_error}
use Rattle.ob_sql_read.proofs.moves.takes_on.Goals as goal

-- what a plan moves is what its command moves
moved_by : (ms : List Moved) (plan : PlanState) (b : BookState) (x : Command) (a : BookState) → ms ≡ plan.moved → plan.moved ≡ moves a (next a plan.command) → a ≡ b → plan.command ≡ x → ms ≡ moves b (next b x)
moved_by ms plan b x a has moved state command = has ∙ moved ∙ ap₂ (λ (s : BookState) (k : Command). moves s (next s k)) state command

-- a command that the version doesn't let through
pub returns-then-not-fits-clause-goes : goal.returns-then-not-fits-clause-goes
returns-then-not-fits-clause-goes g c late live v has given it so =
    absurd (unfit _ c.fits.result (refusal c.args.book.now.state c.args.command.now) c.fits.ensures c.if-not-fits.true so)

pub returns-then-not-fits-clause-survives : goal.returns-then-not-fits-clause-survives
returns-then-not-fits-clause-survives g c = still (state g.S.Store c.args.rows.now.conn.now)

pub returns-then-not-fits-clause-kept : goal.returns-then-not-fits-clause-kept
returns-then-not-fits-clause-kept g c v t keeps = keeps

pub returns-then-not-fits-clause-mode : goal.returns-then-not-fits-clause-mode
returns-then-not-fits-clause-mode g c idle = idle

pub returns-then-not-fits-clause-same : goal.returns-then-not-fits-clause-same
returns-then-not-fits-clause-same g c late live = same_state (state g.S.Store c.args.rows.now.conn.now) live

pub returns-then-not-fits-clause-book : goal.returns-then-not-fits-clause-book
returns-then-not-fits-clause-book g c e = absurd (no_is_no e)

pub returns-then-not-fits-clause-noted : goal.returns-then-not-fits-clause-noted
returns-then-not-fits-clause-noted g c e = absurd (no_is_no e)

pub returns-then-not-branch-clause-goes : goal.returns-then-not-branch-clause-goes
returns-then-not-branch-clause-goes g c late live v has given it so =
    let b = c.args.book.now.state in
    let x = c.args.command.now in
    let new = c.matches.new.rows.conn.now in
    let is = rw c.in-Some.is at c.in_ok-plan.ensures in
    let moved_is : c.moves.result.now ≡ moves b (next b x) = moved_by c.moves.result.now c.in-Some.plan b x c.decide_noting.new.book.state c.moves.ensures is.plan.moved c.decide_noting.ensures.state is.command in
    let off = goes_off g.S.Store moved_listing new given (rows_of_moves c.args.no c.moves.result.now) c.in_ok-matches.field-0 (c.in_ok-matches.ensures.goes late live v has given it) c.if-not-branch.true in
    subst (λ ms. IsOff moved_listing (state g.S.Store new).now given (rows_of_moves c.args.no ms)) moved_is off

pub returns-then-not-branch-clause-same_reference : goal.returns-then-not-branch-clause-same_reference
returns-then-not-branch-clause-same_reference g c = c.matches.ensures.same_reference

pub returns-then-not-branch-clause-survives : goal.returns-then-not-branch-clause-survives
returns-then-not-branch-clause-survives g c = c.matches.ensures.survives

pub returns-then-not-branch-clause-kept : goal.returns-then-not-branch-clause-kept
returns-then-not-branch-clause-kept g c = c.matches.ensures.kept

pub returns-then-not-branch-clause-mode : goal.returns-then-not-branch-clause-mode
returns-then-not-branch-clause-mode g c = c.matches.ensures.mode

pub returns-then-not-branch-clause-same : goal.returns-then-not-branch-clause-same
returns-then-not-branch-clause-same g c = c.in_ok-matches.ensures.same

pub returns-then-not-branch-clause-book : goal.returns-then-not-branch-clause-book
returns-then-not-branch-clause-book g c e = absurd (no_is_no e)

pub returns-then-not-branch-clause-noted : goal.returns-then-not-branch-clause-noted
returns-then-not-branch-clause-noted g c e = absurd (no_is_no e)

pub returns-clause-same_reference : goal.returns-clause-same_reference
returns-clause-same_reference g c = c.matches.ensures.same_reference

pub returns-clause-survives : goal.returns-clause-survives
returns-clause-survives g c = c.matches.ensures.survives

pub returns-clause-kept : goal.returns-clause-kept
returns-clause-kept g c = c.matches.ensures.kept

pub returns-clause-mode : goal.returns-clause-mode
returns-clause-mode g c = c.matches.ensures.mode

pub returns-clause-same : goal.returns-clause-same
returns-clause-same g c = c.in_ok-matches.ensures.same

pub returns-clause-goes : goal.returns-clause-goes
returns-clause-goes g c late live v has given it so =
    let b = c.args.book.now.state in
    let x = c.args.command.now in
    let new = c.matches.new.rows.conn.now in
    let is = rw c.in-Some.is at c.in_ok-plan.ensures in
    let moved_is : c.moves.result.now ≡ moves b (next b x) = moved_by c.moves.result.now c.in-Some.plan b x c.decide_noting.new.book.state c.moves.ensures is.plan.moved c.decide_noting.ensures.state is.command in
    let rows = rows_of_moves c.args.no c.moves.result.now in
    let on = goes_given g.S.Store moved_listing new given rows c.in_ok-matches.field-0 (c.in_ok-matches.ensures.goes late live v has given it) c.if-not-branch.false in
    subst (λ ms. HasGiven g.S.Store moved_listing.text [] new (given ++ rows_of_moves c.args.no ms)) moved_is on

pub returns-clause-book : goal.returns-clause-book
returns-clause-book g c e =
    let is = rw c.in-Some.is at c.in_ok-plan.ensures in
    let state = c.decide_noting.ensures.state in (
      accepted _ c.fits.result (refusal c.args.book.now.state c.args.command.now) c.fits.ensures c.if-not-fits.false (sym (ap₂ refusal state is.command) ∙ is.plan.accepted),
      c.adopt.ensures.state ∙ ap₂ next state is.command,
    )

pub returns-clause-noted : goal.returns-clause-noted
returns-clause-noted g c e noted =
    let is = rw c.in-Some.is at c.in_ok-plan.ensures in
    is.noted noted ∙ ap (λ (s : BookState). s.network) (sym (c.adopt.ensures.state ∙ ap₂ next c.decide_noting.ensures.state is.command))

pub adopt-requires-clause-room : goal.adopt-requires-clause-room
adopt-requires-clause-room g c = (rw c.in-Some.is at c.in_ok-plan.ensures).room

pub adopt-requires-clause-plan : goal.adopt-requires-clause-plan
adopt-requires-clause-plan g c = (rw c.in-Some.is at c.in_ok-plan.ensures).plan

-- a command that the book refuses
pub returns-in_default-clause-goes : goal.returns-in_default-clause-goes
returns-in_default-clause-goes g c late live v has given it so =
    let some = c.decide_noting.ensures.refused (c.in_ok-plan.was ∙ ap Ok c.in_default.is) in
    let none = unrefused _ c.fits.result (refusal c.args.book.now.state c.args.command.now) c.fits.ensures so in
    absurd (true≢false (sym some ∙ ap is_some none))

pub returns-in_default-clause-survives : goal.returns-in_default-clause-survives
returns-in_default-clause-survives g c = still (state g.S.Store c.args.rows.now.conn.now)

pub returns-in_default-clause-kept : goal.returns-in_default-clause-kept
returns-in_default-clause-kept g c v t keeps = keeps

pub returns-in_default-clause-mode : goal.returns-in_default-clause-mode
returns-in_default-clause-mode g c idle = idle

pub returns-in_default-clause-same : goal.returns-in_default-clause-same
returns-in_default-clause-same g c late live = same_state (state g.S.Store c.args.rows.now.conn.now) live

pub returns-in_default-clause-book : goal.returns-in_default-clause-book
returns-in_default-clause-book g c e = absurd (no_is_no e)

pub returns-in_default-clause-noted : goal.returns-in_default-clause-noted
returns-in_default-clause-noted g c e = absurd (no_is_no e)

pub returns-in_err-matches-clause-cause : goal.returns-in_err-matches-clause-cause
returns-in_err-matches-clause-cause g c late live v has given it =
    cause_of_error (state g.S.Store c.args.rows.now.conn.now) (state g.S.Store c.matches.new.rows.conn.now) c.from_residual-in_err-matches.result _ c.from_residual-in_err-matches.ensures.1
    (c.in_err-matches.ensures.cause late live v has given it)

pub returns-then-not-fits-clause-searches : goal.returns-then-not-fits-clause-searches
returns-then-not-fits-clause-searches g c = omega arith

pub returns-in_default-clause-searches : goal.returns-in_default-clause-searches
returns-in_default-clause-searches g c = c.decide_noting.ensures.searches

pub returns-then-not-branch-clause-searches : goal.returns-then-not-branch-clause-searches
returns-then-not-branch-clause-searches g c = c.decide_noting.ensures.searches

pub returns-in_err-matches-clause-searches : goal.returns-in_err-matches-clause-searches
returns-in_err-matches-clause-searches g c = c.decide_noting.ensures.searches

pub returns-clause-searches : goal.returns-clause-searches
returns-clause-searches g c = omega (arith, c.adopt.ensures.searches, c.decide_noting.ensures.searches)
