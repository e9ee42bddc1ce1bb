-- What the rows of a change of the switching log are computed from.
use Rattle.std.specs.Prelude.{◌≤◌, ◌<◌, ℕ, List, Option}
use Rattle.ob_sweep.specs.Changed.{changed}
use Rattle.ob_sweep.specs.declared.change.Change.{Change}
use Rattle.ob_sweep.specs.declared.Run.{Run}
use Rattle.ob_time.specs.Calendar.{days_of, first_second_of, end_second_of}
use Rattle.ob_post.specs.Parts.{amount_of_part}
use Rattle.ob_post.specs.SectionAmounts.{amount_of_runs, LieWithin}
use Rattle.ob_post.specs.declared.Dim.{Dim}
use Rattle.ob_post.specs.declared.basis.Basis.{Basis}

-- the customer-seconds of runs, under the causes of the log
abbrev pub old_amount : Basis → List Run → Dim → ℕ → ℕ
old_amount basis runs = amount_of_runs basis.sheet.now.entries basis.roll.now.customers (days_of basis.period.now) basis.feeder runs

-- the customer-seconds of runs, under the causes of the log after a change
abbrev pub new_amount : Basis → Change → List Run → Dim → ℕ → ℕ
new_amount basis change runs = amount_of_runs (changed change basis.sheet.now.entries) basis.roll.now.customers (days_of basis.period.now) basis.feeder runs

-- the customer-seconds of a part of a run, if there is one, under its cause in the log
abbrev pub old_part_amount : Basis → Option Run → Dim → ℕ → ℕ
old_part_amount basis part = amount_of_part basis.sheet.now.entries basis.roll.now.customers (days_of basis.period.now) basis.feeder part

-- the customer-seconds of a part of a run, if there is one, under its cause in the log after a change
abbrev pub new_part_amount : Basis → Change → Option Run → Dim → ℕ → ℕ
new_part_amount basis change part = amount_of_part (changed change basis.sheet.now.entries) basis.roll.now.customers (days_of basis.period.now) basis.feeder part

-- the runs have seconds and lie within the period
abbrev pub LieInPeriod : Basis → List Run → Type 0
LieInPeriod basis runs = LieWithin (first_second_of basis.period.now) (end_second_of basis.period.now) runs

-- the run has seconds and lies within the period
abbrev pub LiesInPeriod : Basis → Run → Type 0
LiesInPeriod basis r = (first_second_of basis.period.now ≤ r.since) × (r.since < r.until) × (r.until ≤ end_second_of basis.period.now)
