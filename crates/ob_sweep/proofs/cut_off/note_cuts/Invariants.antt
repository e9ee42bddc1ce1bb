use Rattle.std.proofs.Common.{◌≡◌, ◌<◌, ◌≤◌, ◌&&◌, ℕ, false, not, cond, Option, Some, length, get_or}
use Rattle.ob_sweep.proofs.cut_off.note_cuts.Given as goal

abbrev pub invariant-loop-place : goal.invariant-loop-place
invariant-loop-place l = record {
  count : length l.cutters ≡ length l.fn.cutters;
  done : (k : ℕ) (d : Option ℕ) → k < l.place → get_or l.cutters k d ≡ cond (get_or l.before k false && not (get_or l.after k false)) (Some l.number) (get_or l.fn.cutters k d);
  rest : (k : ℕ) (d : Option ℕ) → l.place ≤ k → get_or l.cutters k d ≡ get_or l.fn.cutters k d;
}
