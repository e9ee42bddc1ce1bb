use Rattle.std.proofs.Common.{◌≡◌, nat_le, true, false, rules, of_calls}
use Rattle.std.specs.List.Sorted.{IsPartitionPoint}
use Rattle.std.proofs.lemmas.Fn.{always_returns_same}
use Rattle.std.proofs.lemmas.List.Sorted.{IsPartitionedBy-leb}
use Rattle.ob_cust.specs.declared.SectionBlock.{SectionBlock}
use Rattle.ob_cust.proofs.Keyed.{sections_rise, le_is, not_le}
use Rattle.ob_cust.proofs.services.end_of.Goals as goal

point : (c : goal.After-partition_point) → IsPartitionPoint (λ (b : SectionBlock). nat_le b.section c.args.section ≡ true) (λ (b : SectionBlock). nat_le b.section c.args.section ≡ false) c.args.blocks.now c.partition_point.result
point c =
    c.partition_point.ensures.partitioned (λ (b : SectionBlock). nat_le b.section c.args.section) (always_returns_same _ _ _ (λ a r f k. search (rules, of_calls))) (IsPartitionedBy-leb (λ (b : SectionBlock). b.section) c.args.blocks.now c.args.section (sections_rise c.args.blocks.now c.requires.ordered))

pub returns-clause-below : goal.returns-clause-below
returns-clause-below c = λ k d l m. le_is _ _ ((point c).0 k d l m)

pub returns-clause-above : goal.returns-clause-above
returns-clause-above c = λ k d l m. not_le _ _ ((point c).1 k d l m)
