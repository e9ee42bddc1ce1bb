use Rattle.std.proofs.Common.{◌≡◌, ◌+◌, ◌<◌, ◌≤◌, ℕ, true}
use Rattle.ob_selections.specs.Listed.{is_same_month}
use Rattle.ob_selections.proofs.months.month_end.Given as goal

-- the days so far are of the month
abbrev pub invariant-loop-next : goal.invariant-loop-next
invariant-loop-next g l = record {
  after : l.day + 1 ≤ l.next;
  same : (t : ℕ) → l.day + 1 ≤ t → t < l.next → is_same_month l.book.state l.day t ≡ true;
}
