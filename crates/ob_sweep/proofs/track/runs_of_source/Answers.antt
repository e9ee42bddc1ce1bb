use Rattle.std.proofs.Common.{◌≡◌, ◌<◌, IfOk, List, map, sym, ◌∙◌, ap, arith, subst}
use Rattle.ob_sweep.specs.declared.Run.{Run}
use Rattle.ob_sweep.proofs.Touching.{none_between, touching}
use Rattle.ob_sweep.proofs.track.runs_of_source.Goals as goal

pub returns-then-end-first : goal.returns-then-end-first
returns-then-end-first c =
    c.new.ensures.items
    ∙ sym (ap (map {A = Run} (λ r. record r { section = c.args.section })) (none_between c.args.first c.args.end c.args.runs.now c.if-end-first.true))

pub returns : goal.returns
returns c =
    let told = c.places_touching-from.ensures in
    let some : c.args.first < c.args.end = omega arith in
    subst (λ (rs : List Run). IfOk c.cut_to.result (λ part. part.items ≡ rs))
    (touching c.args.section c.args.first c.args.end c.args.runs.now c.places_touching-from.result.0 c.places_touching-from.result.1 c.requires.some c.requires.rising some told.rise told.before told.after)
    c.cut_to.ensures
