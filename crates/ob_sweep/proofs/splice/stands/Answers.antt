use Rattle.std.proofs.Common.{Bool, sym, ◌∙◌, refl}
use Rattle.std.specs.Cmp.Lexicographic.{pointwise}
use Rattle.std.proofs.lemmas.Slice.Eq.{slice_eq-Decides}
use Rattle.ob_sweep.specs.contracts.RunPartialEq.TheImpl as same
use Rattle.ob_sweep.proofs.Touched.{runs_Decides}
use Rattle.ob_sweep.proofs.Within.{within_same}
use Rattle.ob_sweep.proofs.splice.stands.Goals as goal

pub returns-then-eq : goal.returns-then-eq
returns-then-eq c t =
    let equal : Bool = pointwise same.eq-value.it c.args.touched.now c.args.window.now in
    let decided = slice_eq-Decides runs_Decides c.args.touched.now c.args.window.now equal refl in
    within_same c.args.first c.args.end c.args.touched.now c.args.window.now (decided.0 (sym c.eq.ensures ∙ c.if-eq.true)) (c.lie_within.ensures t)
