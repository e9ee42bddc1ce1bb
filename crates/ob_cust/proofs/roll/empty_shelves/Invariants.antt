use Rattle.std.proofs.Common.{◌≡◌, length}
use Rattle.std.specs.List.{All}
use Rattle.ob_cust.specs.Shelves.{IsEmpty}
use Rattle.ob_cust.proofs.roll.empty_shelves.Given as goal

abbrev pub invariant-loop : goal.invariant-loop
invariant-loop l = record {
  len : length l.shelves.items ≡ l.counter;
  empty : All IsEmpty l.shelves.items;
}
