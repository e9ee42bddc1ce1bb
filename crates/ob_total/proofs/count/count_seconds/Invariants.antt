-- The total over the seconds so far, and what the entries before the place entered.
use Rattle.std.proofs.Common.{◌≡◌, ◌-◌, ◌*◌, ◌≤◌, ℕ, length, take}
use Rattle.ob_base.specs.Seconds.{seconds}
use Rattle.ob_sheet.specs.Order.{in_order, upto}
use Rattle.ob_sheet.specs.Positions.{entered}
use Rattle.ob_sheet.specs.Supply.{is_deenergized}
use Rattle.ob_cust.specs.WithoutSupply.{seconds_without_supply}
use Rattle.ob_cust.specs.declared.TheConstants.{MOST_CUSTOMERS}
use Rattle.ob_total.proofs.count.count_seconds.Given as goal

abbrev pub invariant-loop-second : goal.invariant-loop-second
invariant-loop-second l = record {
  network : l.net.network ≡ l.fn.net.network;
  place : l.place ≤ length (in_order l.sheet.entries);
  before : (t : ℕ) → l.second ≤ t → l.place ≤ length (upto l.sheet.entries t);
  entered : l.entered ≡ entered l.fn.net.network (take l.place (in_order l.sheet.entries));
  small : l.total ≤ (l.second - l.fn.span.first) * MOST_CUSTOMERS;
  total : l.total ≡ seconds_without_supply (is_deenergized l.fn.net.network l.sheet.entries) (seconds l.fn.span.first l.second) l.customers;
}
