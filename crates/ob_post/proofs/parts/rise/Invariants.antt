use Rattle.std.proofs.Common.{◌≡◌, drop}
use Rattle.ob_post.specs.Parts.{rise_from}
use Rattle.ob_post.proofs.parts.rise.Given as goal

abbrev pub invariant-loop-run : goal.invariant-loop-run
invariant-loop-run l = rise_from 0 l.runs ≡ rise_from l.end (drop l.run-index l.runs)
