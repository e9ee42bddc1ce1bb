use Rattle.std.proofs.Common.{◌≡◌, sym, subst, ◌<◌, ◌≤◌, List}
use Rattle.std.proofs.lemmas.Result.{IfOk-weaker}
use Rattle.std.proofs.lemmas.List.Elements.{All-filter}
use Rattle.ob_sheet.specs.declared.Entry.{Entry}
use Rattle.ob_sweep.specs.Changed.{changed}
use Rattle.ob_sweep.specs.Deltas.{IsDelta}
use Rattle.ob_sweep.specs.Runs.{history, runs_between}
use Rattle.ob_time.specs.Calendar.{first_second_of, end_second_of}
use Rattle.ob_state.specs.Retimings.{runs_in}
use Rattle.ob_state.specs.States.{BookValue}
use Rattle.ob_state.proofs.parts.plan_change.Goals as goal

pub plan-requires-clause-between : goal.plan-requires-clause-between
plan-requires-clause-between g c =
    rw c.deref.ensures (All-filter (λ (e : Entry). e.kept) (λ (e : Entry). (first_second_of c.state.inside.period ≤ e.second) × (e.second < end_second_of c.state.inside.period)) c.state.inside.sheet.entries c.state.invariant.between)

pub plan-requires-clause-changed_between : goal.plan-requires-clause-changed_between
plan-requires-clause-changed_between g c =
    let i = c.state.inside in
    let part = subst (λ (s : BookValue). changed c.args.change.now s.state.entries ≡ s.state.entries) (sym c.state.view_is) c.requires.part in
    rw (c.deref.ensures, part) (All-filter (λ (e : Entry). e.kept) (λ (e : Entry). (first_second_of i.period ≤ e.second) × (e.second < end_second_of i.period)) i.sheet.entries c.state.invariant.between)

pub plan-requires-clause-changed_devices : goal.plan-requires-clause-changed_devices
plan-requires-clause-changed_devices g c =
    let i = c.state.inside in
    let part = subst (λ (s : BookValue). changed c.args.change.now s.state.entries ≡ s.state.entries) (sym c.state.view_is) c.requires.part in
    rw part c.state.invariant.devices

pub returns-clause-delta : goal.returns-clause-delta
returns-clause-delta g c =
    let i = c.state.inside in
    let lists = g.T.Timeline.content c.args.timeline.now in
    let part = subst (λ (s : BookValue). changed c.args.change.now s.state.entries ≡ s.state.entries) (sym c.state.view_is) c.requires.part in
    IfOk-weaker c.plan.result _ _
    (λ delta is. subst (λ (s : BookValue). IsDelta s.state.network delta lists (runs_in s.state)) c.state.view_is
    (subst (λ (es : List Entry). IsDelta i.net.network delta lists (λ v. runs_between v (history i.net.network es v) (first_second_of i.period) (end_second_of i.period))) part is))
    (rw c.deref.ensures at c.plan.ensures.delta)
