-- Those counted so far are those of the customers so far.
use Rattle.std.proofs.Common.{◌≡◌, ◌≤◌, not, false, slice_index_or, take}
use Rattle.std.specs.List.{count_by}
use Rattle.ob_cust.specs.WithoutSupply.{is_without_supply}
use Rattle.ob_total.proofs.count.count_without.Given as goal

abbrev pub invariant-loop-customer : goal.invariant-loop-customer
invariant-loop-customer l = record {
  few : l.count ≤ l.customer-index;
  counted : l.count ≡ count_by (λ c. is_without_supply (λ v s. not (slice_index_or l.supplied v false)) c l.second) (take l.customer-index l.customers);
}
