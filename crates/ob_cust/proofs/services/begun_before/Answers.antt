use Rattle.std.proofs.Common.{◌≡◌, true, false, rules, of_calls}
use Rattle.std.specs.List.Sorted.{IsPartitionPoint}
use Rattle.std.proofs.lemmas.Fn.{always_returns_same}
use Rattle.ob_cust.specs.declared.SectionBlock.{SectionBlock}
use Rattle.ob_cust.specs.Services.{begins_before}
use Rattle.ob_cust.proofs.Keyed.{begun_parts}
use Rattle.ob_cust.proofs.services.begun_before.Goals as goal

point : (c : goal.After-partition_point) → IsPartitionPoint (λ (b : SectionBlock). begins_before c.args.section c.args.x b ≡ true) (λ (b : SectionBlock). begins_before c.args.section c.args.x b ≡ false) c.args.blocks.now c.partition_point.result
point c =
    c.partition_point.ensures.partitioned (begins_before c.args.section c.args.x) (always_returns_same _ _ _ (λ a r f k. search (rules, of_calls))) (begun_parts c.args.section c.args.x c.args.blocks.now c.requires.ordered)

pub returns-clause-below : goal.returns-clause-below
returns-clause-below c = (point c).0

pub returns-clause-above : goal.returns-clause-above
returns-clause-above c = (point c).1
