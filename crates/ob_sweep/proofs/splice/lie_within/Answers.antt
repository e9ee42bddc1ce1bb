use Rattle.std.proofs.Common.{◌≤◌, List, None, subst, take}
use Rattle.std.specs.List.{All}
use Rattle.std.proofs.lemmas.List.{take_all, take_more}
use Rattle.std.proofs.lemmas.List.Elements.{All-push}
use Rattle.ob_sweep.specs.declared.Run.{Run}
use Rattle.ob_sweep.proofs.splice.lie_within.Goals as goal

pub loop-run-preserved : goal.loop-run-preserved
loop-run-preserved c =
    let P : Run → Type 0 = λ r. (c.args.first ≤ r.since) × (r.until ≤ c.args.end) in
    let no_run : Run = record { section = 0; since = 0; until = 0; cutter = None } in
    rw (take_more c.args.runs.now c.loop-run.run-index no_run c.loop-run-test.true)
    (All-push P (take c.loop-run.run-index c.args.runs.now) _ c.loop-run.invariant (c.if-run-first.false, c.if-end-run.false))

pub returns : goal.returns
returns c t =
    subst (λ (rs : List Run). All (λ r. (c.args.first ≤ r.since) × (r.until ≤ c.args.end)) rs) (take_all c.loop-run.run-index c.args.runs.now c.loop-run-test.false) c.loop-run.invariant
