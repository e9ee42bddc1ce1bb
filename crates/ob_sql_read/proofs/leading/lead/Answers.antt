use Rattle.std.proofs.Common.{◌≡◌, ◌<◌, ◌+◌, Option, None, is_none, Ok, drop, get_or, length, sym, ap, ◌∙◌, arith, refl, true≢false}
use Rattle.ob_state.specs.State.{BookState}
use Rattle.ob_base.specs.declared.stop.Refusal.{Refusal}
use Rattle.ob_sql_rows.specs.declared.version.Version.TheVariants.{Two}
use Rattle.ob_state.specs.Refusals.{refusal}
use Rattle.ob_state.specs.Next.{next}
use Rattle.ob_sql_read.specs.declared.filed.Filed.{Filed}
use Rattle.ob_sql_read.proofs.Led.{next_accepted, some_led}
use Rattle.ob_sql_read.proofs.Rowing.{leads, leads_on, leads_here}
use Rattle.ob_sql_read.proofs.Searching.{left_from, left_on, left_one}
use Rattle.ob_sql_read.proofs.leading.lead.Goals as goal

pub commands-preserved : goal.commands-preserved
commands-preserved g c =
    let b = c.commands.book.state in
    let list = c.args.commands.now in
    let f = get_or list c.commands.at c.index-commands-at.result in
    let here : f ≡ get_or list c.commands.at f = ap (λ (d : Filed). get_or list c.commands.at d) c.index-commands-at.is in
    let low : c.commands.at < length list = omega (arith, c.commands-test.true) in
    let was = c.in_ok-adopts.was ∙ ap Ok c.if-not-branch.false in
    let taken : refusal b f.command ≡ None = c.in_ok-adopts.ensures.accepted.0 c.if-not-branch.false in
    let next_is : c.adopts.new.book.state ≡ next b f.command = c.adopts.ensures.book was in (
      ap (λ (s : BookState). leads Two s (drop (c.commands.at + 1) list)) next_is ∙ leads_on Two b list c.commands.at f low here (ap (λ (r : Option Refusal). is_none r) taken) ∙ c.commands.invariant.0,
      λ noted. c.adopts.ensures.noted was (c.commands.invariant.1 noted),
      (let one = left_on g.T.Timeline.bound b list c.commands.at f low here in
          let others = left_from g.T.Timeline.bound c.adopts.new.book.state (next b f.command) (drop (c.commands.at + 1) list) next_is in
          omega (arith, one, others, c.adopts.ensures.searches, c.commands.invariant.2)),
    )

pub returns-then-not-branch-clause-accepted : goal.returns-then-not-branch-clause-accepted
returns-then-not-branch-clause-accepted g c =
    let list = c.args.commands.now in
    let f = get_or list c.commands.at c.index-commands-at.result in
    let here : f ≡ get_or list c.commands.at f = ap (λ (d : Filed). get_or list c.commands.at d) c.index-commands-at.is in
    let low : c.commands.at < length list = omega (arith, c.commands-test.true) in (
      λ e. absurd (true≢false (sym e)),
      λ some. absurd (true≢false (sym (c.in_ok-adopts.ensures.accepted.1 (next_accepted c.commands.book.state c.args.book.now.state list c.commands.at f low here c.commands.invariant.0 some)) ∙ c.if-not-branch.true)),
    )

pub returns-clause-accepted : goal.returns-clause-accepted
returns-clause-accepted g c =
    let list = c.args.commands.now in
    let led = sym c.commands.invariant.0 ∙ leads_here Two c.commands.book.state list c.commands.at (omega (arith, c.commands-test.false)) in
    (λ _. some_led (leads Two c.args.book.now.state list) c.commands.book.state led, λ _. refl)

pub returns-clause-book : goal.returns-clause-book
returns-clause-book g c _ = sym c.commands.invariant.0 ∙ leads_here Two c.commands.book.state c.args.commands.now c.commands.at (omega (arith, c.commands-test.false))

-- the command that is looked at costs no more than all that are left
pub returns-then-not-branch-clause-searches : goal.returns-then-not-branch-clause-searches
returns-then-not-branch-clause-searches g c =
    let list = c.args.commands.now in
    let f = get_or list c.commands.at c.index-commands-at.result in
    let here : f ≡ get_or list c.commands.at f = ap (λ (d : Filed). get_or list c.commands.at d) c.index-commands-at.is in
    let low : c.commands.at < length list = omega (arith, c.commands-test.true) in
    omega (arith, left_one g.T.Timeline.bound c.commands.book.state list c.commands.at f low here, c.adopts.ensures.searches, c.commands.invariant.2)

pub returns-in_err-adopts-clause-searches : goal.returns-in_err-adopts-clause-searches
returns-in_err-adopts-clause-searches g c =
    let list = c.args.commands.now in
    let f = get_or list c.commands.at c.index-commands-at.result in
    let here : f ≡ get_or list c.commands.at f = ap (λ (d : Filed). get_or list c.commands.at d) c.index-commands-at.is in
    let low : c.commands.at < length list = omega (arith, c.commands-test.true) in
    omega (arith, left_one g.T.Timeline.bound c.commands.book.state list c.commands.at f low here, c.adopts.ensures.searches, c.commands.invariant.2)

pub returns-clause-searches : goal.returns-clause-searches
returns-clause-searches g c = omega (arith, c.commands.invariant.2)
