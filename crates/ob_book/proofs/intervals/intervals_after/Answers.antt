use Rattle.std.proofs.Common.{◌≡◌, ◌∙◌, sym, ap, List, Option, map, true, false}
use Rattle.std.proofs.lemmas.Result.{IfOk-weaker}
use Rattle.ob_net.specs.Network.{Network}
use Rattle.ob_sheet.specs.declared.Entry.{Entry}
use Rattle.ob_state.specs.Next.{next}
use Rattle.ob_state.specs.declared.resolved.Resolved.{Resolved}
use Rattle.ob_state.specs.declared.retiming.Retiming.{Retiming}
use Rattle.ob_book.specs.Intervals.{entry_said, interval_then, is_section_then, runs_then}
use Rattle.ob_book.proofs.PlannedIntervals.{has_list_then, none_next, runs_next}
use Rattle.ob_book.proofs.intervals.intervals_after.Goals as goal

pub returns-then-not-is_section_after-clause-intervals : goal.returns-then-not-is_section_after-clause-intervals
returns-then-not-is_section_after-clause-intervals g c =
    let b = c.args.state.now.state in
    let p = c.args.plan.now in
    let v = c.args.node in
    let out : is_section_then b.network p.resolved v ≡ false =
    ap (λ (n : Network). is_section_then n p.resolved v) (sym c.net.ensures.network)
    ∙ ap (λ (r : Resolved). is_section_then c.net.result.now.network r v) (sym c.resolved-resolved.ensures)
    ∙ sym c.is_section_after.ensures ∙ c.if-not-is_section_after.true in
    c.new.ensures.items ∙ none_next b (next b p.command) p.resolved v c.requires.plan.resolves.takes c.requires.plan.resolves.next out

pub runs_after-runs-requires : goal.runs_after-runs-requires
runs_after-runs-requires g c =
    let b = c.args.state.now.state in
    let p = c.args.plan.now in
    has_list_then b (next b p.command) p.retiming (g.T.Timeline.content c.args.timeline.now) c.args.node c.requires.runs c.requires.plan.retiming c.requires.node

pub returns-clause-intervals : goal.returns-clause-intervals
returns-clause-intervals g c =
    let b = c.args.state.now.state in
    let p = c.args.plan.now in
    let v = c.args.node in
    let lists = (g.T.Timeline.content c.args.timeline.now) in
    let section : is_section_then b.network p.resolved v ≡ true =
    ap (λ (n : Network). is_section_then n p.resolved v) (sym c.net.ensures.network)
    ∙ ap (λ (r : Resolved). is_section_then c.net.result.now.network r v) (sym c.resolved-resolved.ensures)
    ∙ sym c.is_section_after.ensures ∙ c.if-not-is_section_after.false in
    IfOk-weaker c.with_causes.result _ _
    (λ list h. h ∙ ap (λ (es : List Entry). map (interval_then es c.entry_of.result) c.runs_after-runs.result.now) c.sheet.ensures
    ∙ ap (λ (said : Option Entry). map (interval_then b.entries said) c.runs_after-runs.result.now) (c.entry_of.ensures ∙ ap entry_said c.resolved-resolved.ensures)
    ∙ ap (map (interval_then b.entries (entry_said p.resolved))) (c.runs_after-runs.ensures ∙ ap (λ (r : Retiming). runs_then r lists v) c.retiming.ensures)
    ∙ runs_next b (next b p.command) p.resolved p.retiming lists v c.cause_laws.ensures.entered c.cause_laws.ensures.changed c.cause_laws.ensures.same c.accepted.ensures.sound.numbered
    c.requires.plan.resolves.takes c.requires.plan.resolves.next c.requires.runs c.requires.plan.retiming section)
    c.with_causes.ensures.intervals
