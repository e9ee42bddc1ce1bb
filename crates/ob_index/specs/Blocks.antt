-- What the customers of a section's blocks add to the counts.
use Rattle.std.specs.Prelude.{ℕ, ◌*◌, List, Option}
use Rattle.std.specs.List.{count_by, sum_by}
use Rattle.ob_base.specs.Seconds.{seconds}
use Rattle.ob_cust.specs.declared.Customer.{Customer}
use Rattle.ob_cust.specs.declared.SectionBlock.{SectionBlock}
use Rattle.ob_cust.specs.Service.{in_service}
use Rattle.ob_sweep.specs.declared.Run.{Run}
use Rattle.ob_time.specs.Calendar.{Calendar, first_second_of, end_second_of}
use Rattle.ob_index.specs.Tallies.{tally_by_runs}
use Rattle.ob_index.specs.declared.figures.Which.{Which}
use Rattle.ob_index.specs.declared.tally.Tally.{Tally}

-- a customer in service from since up to until, or without end; no tally asks for its number or its section
abbrev pub customer_in_service : ℕ → Option ℕ → Customer
customer_in_service since until = record { «no» = 0; section = 0; since = since; until = until }

-- a number of each customer's tally, summed over the customers of a section's blocks
abbrev pub sum_of_tallies : (Tally → ℕ) → Calendar → List (Option (List ℕ)) → Which → List Run → List SectionBlock → ℕ
sum_of_tallies number period marks which runs blocks =
    sum_by (λ b. b.block.count * number (tally_by_runs period marks which runs (customer_in_service b.block.since b.block.until))) blocks

-- the seconds of the period at which each is in service, summed over the customers of blocks
abbrev pub seconds_of_blocks : Calendar → List SectionBlock → ℕ
seconds_of_blocks period blocks =
    sum_by (λ b. b.block.count * count_by (in_service (customer_in_service b.block.since b.block.until)) (seconds (first_second_of period) (end_second_of period))) blocks
