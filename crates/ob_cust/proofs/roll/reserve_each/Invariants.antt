use Rattle.std.proofs.Common.{◌≡◌, ◌≤◌, ℕ, length, slice_index_or}
use Rattle.std.specs.List.{All, AllWithin}
use Rattle.ob_cust.specs.declared.shelf.Shelf.{Shelf}
use Rattle.ob_cust.specs.declared.TheConstants.{MOST_CUSTOMERS}
use Rattle.ob_cust.specs.Shelves.{IsRoomier, HasRoom}
use Rattle.ob_cust.proofs.roll.reserve_each.Given as goal

abbrev pub invariant-loop-shelf : goal.invariant-loop-shelf
invariant-loop-shelf l = record {
  len : length l.shelves ≡ length l.fn.shelves;
  kept : (k : ℕ) (d : Shelf) → IsRoomier (slice_index_or l.fn.shelves k d) (slice_index_or l.shelves k d);
  ok : AllWithin HasRoom l.shelves 0 l.shelf;
  few : All (λ s. s.customers ≤ MOST_CUSTOMERS) l.shelves;
}
