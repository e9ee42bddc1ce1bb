-- Words of the functions that find rows from outage intervals: whether an interval is one of the section, and the row of its part in a
-- service.
use Rattle.std.specs.Prelude.{◌≡◌, ℕ, ◌≤◌, ◌<◌, List, [], ◌∷◌, if◌then◌else◌}
use Rattle.ob_base.specs.declared.interval.Interval.{Interval}
use Rattle.std.specs.List.{flat_map}
use Rattle.ob_cust.specs.Blocks.{service_of}
use Rattle.ob_cust.specs.declared.SectionBlock.{SectionBlock}
use Rattle.ob_sweep.specs.declared.Run.{Run}
use Rattle.ob_index.specs.Tallies.{has_second, part_in_service}
use Rattle.ob_state.specs.State.{BookState}
use Rattle.ob_rows.specs.Services.{Service}
use Rattle.ob_rows.specs.Rows.{customer_with, entry_at, row_of}
use Rattle.ob_rows.specs.declared.row.InterruptionRow.{InterruptionRow}

-- at each second of it, the entry that cut the section off is its cutter
abbrev pub IsOutage : BookState → ℕ → Run → Type 0
IsOutage b v r = (s : ℕ) → r.since ≤ s → s < r.until → entry_at b v s ≡ r.cutter

-- the part of an outage interval at which customers with a service are in service
abbrev pub part_of_run : ℕ → Service → Run → Interval
part_of_run v s r = part_in_service (customer_with v s) r.since r.until

-- its row; none where it has no second
abbrev pub rows_of_run : BookState → ℕ → ℕ → Service → Run → List InterruptionRow
rows_of_run b v feeder s r = if has_second (part_of_run v s r) then row_of b v feeder s (part_of_run v s r) ∷ [] else []

-- the rows of outage intervals of a section for a block of its customers
abbrev pub rows_of_block : BookState → ℕ → ℕ → List Run → SectionBlock → List InterruptionRow
rows_of_block b v feeder runs c = flat_map (rows_of_run b v feeder (service_of c.block)) runs
