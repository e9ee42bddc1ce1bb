use Rattle.std.proofs.Common.{◌≡◌, List, length, map, sym, ap, ◌∙◌, arith, subst}
use Rattle.std.proofs.lemmas.List.{length-map}
use Rattle.ob_net.specs.Network.{Network}
use Rattle.ob_sweep.specs.Deltas.{IsDelta}
use Rattle.ob_sweep.specs.Timeline.{AreOfNode, runs_at}
use Rattle.ob_sweep.specs.declared.Run.{Run}
use Rattle.ob_sweep.proofs.Related.{all_of_nodes}
use Rattle.ob_sweep.proofs.Replanned.{is_delta_now}
use Rattle.ob_sweep.proofs.Sweeps.{length-all_runs}
use Rattle.ob_sweep.proofs.scratch.Scratch.plan_steps.Goals as goal

pub sweep-requires-clause-kept : goal.sweep-requires-clause-kept
sweep-requires-clause-kept c = c.requires.steps.kept

pub sweep-requires-clause-ordered : goal.sweep-requires-clause-ordered
sweep-requires-clause-ordered c = c.requires.steps.ordered

pub sweep-requires-clause-earlier : goal.sweep-requires-clause-earlier
sweep-requires-clause-earlier c = λ k d none. absurd (omega (arith, none))

pub sweep-requires-clause-between : goal.sweep-requires-clause-between
sweep-requires-clause-between c = c.requires.steps.between

pub sweep-requires-clause-devices : goal.sweep-requires-clause-devices
sweep-requires-clause-devices c = c.requires.steps.named

pub between-requires-clause-new : goal.between-requires-clause-new
between-requires-clause-new c =
    sym (length-map c.in_ok-lists.lists.items (λ r. r.items))
    ∙ ap length c.in_ok-lists.ensures.runs
    ∙ length-all_runs c.args.net.now.network c.args.steps.now c.args.first c.args.end
    ∙ ap (λ (n : Network). length n.nodes) (sym c.sweep.ensures.network)

pub between-requires-clause-of_nodes : goal.between-requires-clause-of_nodes
between-requires-clause-of_nodes c =
    λ v.
    subst (λ (lists : List (List Run)). AreOfNode v (runs_at lists v)) (sym c.in_ok-lists.ensures.runs)
    (all_of_nodes c.args.net.now.network c.args.steps.now c.args.first c.args.end v)

pub returns-clause-delta : goal.returns-clause-delta
returns-clause-delta c =
    let net = c.args.net.now.network in
    let delta = c.in_ok-between.field-0 in
    let new : List (List Run) = map (λ r. r.items) c.in_ok-lists.lists.items in
    let old : map (λ r. r.items) c.deref.result.now ≡ c.args.self.now = ap (map (λ r. r.items)) c.deref.ensures.value ∙ c.self.view_is in
    is_delta_now net c.args.steps.now c.args.first c.args.end delta c.args.self.now new c.in_ok-lists.ensures.runs
    (subst (λ (lists : List (List Run)). IsDelta net delta lists (runs_at new)) old
    (subst (λ (n : Network). IsDelta n delta (map (λ r. r.items) c.deref.result.now) (runs_at new)) c.sweep.ensures.network c.in_ok-between.ensures.delta))
