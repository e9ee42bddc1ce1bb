use Rattle.std.proofs.Common.{◌≡◌, map, take}
use Rattle.ob_cust.proofs.roll.without_section.Given as goal

abbrev pub invariant-loop-b : goal.invariant-loop-b
invariant-loop-b l = l.plain.items ≡ map (λ b. b.block) (take l.b-index l.blocks)
