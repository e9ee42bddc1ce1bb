use Rattle.std.proofs.Common.{ℕ, leb, leb-true, leb-false, arith, rules}
use Rattle.std.proofs.lemmas.List.Sorted.{IsPartitionPoint-from_clause, IsPartitionedBy-leb}
use Rattle.ob_time.proofs.PeriodLemmas.{IsNonDecreasingBy-increasing}
use Rattle.ob_time.proofs.bounds.bounds_up_to.Goals as goal

pub returns-clause-low : goal.returns-clause-low
returns-clause-low c =
    let parted = IsPartitionedBy-leb (λ (y : ℕ). y) _ c.args.second (IsNonDecreasingBy-increasing _ c.requires) in
    let point = IsPartitionPoint-from_clause (λ (y : ℕ). leb y c.args.second) _ _ c.partition_point.ensures.partitioned parted (λ a r q k. search rules) in
    λ k h. leb-true _ _ (point.0 k 0 (omega arith) h)

pub returns-clause-high : goal.returns-clause-high
returns-clause-high c =
    let parted = IsPartitionedBy-leb (λ (y : ℕ). y) _ c.args.second (IsNonDecreasingBy-increasing _ c.requires) in
    let point = IsPartitionPoint-from_clause (λ (y : ℕ). leb y c.args.second) _ _ c.partition_point.ensures.partitioned parted (λ a r q k. search rules) in
    λ k h lt. leb-false _ _ (point.1 k 0 h lt)
