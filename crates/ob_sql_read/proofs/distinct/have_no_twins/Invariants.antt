use Rattle.std.proofs.Common.{◌≢◌, ℕ, ◌+◌, ◌<◌, List, slice_index_or}
use Rattle.std.specs.Borrow.{Bor}
use Rattle.ob_sql_read.proofs.distinct.have_no_twins.Given as goal

-- so far no text is that of its neighbour
abbrev pub invariant-places : goal.invariant-places
invariant-places l = (k : ℕ) (d : Bor (List ℕ)) → k + 1 < l.at → (slice_index_or l.sorted k d).now ≢ (slice_index_or l.sorted (k + 1) d).now
