-- What the runs add up to once devices have other lives.
use Rattle.std.specs.Prelude.{◌≡◌, ℕ, ◌+◌, ◌==◌, List, ◌∷◌, Some, None, if◌then◌else◌, length}
use Rattle.ob_base.specs.declared.life.Life.{Life}
use Rattle.ob_net.specs.Network.{with_life}
use Rattle.ob_sheet.specs.Sheet.{NameDevices}
use Rattle.ob_sweep.specs.Timeline.{AreRuns, LieBetween}
use Rattle.ob_sweep.specs.declared.Run.{Run}
use Rattle.ob_time.specs.Calendar.{first_second_of, end_second_of}
use Rattle.bench_calls.specs.Builds.{Case, IsCase, year_seconds}
use Rattle.bench_calls.specs.Networks.{AreSections}

-- the life that begins and ends so many seconds after a first one; it has no end where that is the greatest number of 32 bits
abbrev pub life_from : ℕ → ℕ → ℕ → Life
life_from first since until =
    record { since = first + since; until = if until == 4294967295 then None else Some (first + until) }

-- the case, where a device has another life
abbrev pub with_one_life : Case → ℕ → Life → Case
with_one_life case device life = record case { net = with_life case.net device life }

-- the case, where one device after the other is given such a life, its seconds counted from the year's first one
abbrev pub with_lives : Case → List ℕ → List ℕ → List ℕ → Case
with_lives case (device ∷ devices) (since ∷ sinces) (until ∷ untils) =
    with_lives (with_one_life case device (life_from (first_second_of case.year) since until)) devices sinces untils
with_lives case _ _ _ = case

-- the lists hold the runs of the case over its year, in which its entries lie; each node but GRID is a section
pub record HasRuns (case : Case) (lists : List (List Run)) : Type 0 where
  pub between : LieBetween (first_second_of case.year) (end_second_of case.year) case.entries
  pub devices : NameDevices (length case.net.devices) case.entries
  pub sections : AreSections case.net.nodes
  pub runs : AreRuns case.net case.entries (first_second_of case.year) (end_second_of case.year) lists

-- the sum is that of the seconds without supply in such a case, where devices were given other lives
abbrev pub AddsUpLives : ℕ → List ℕ → List ℕ → List ℕ → List ℕ → List ℕ → List ℕ → List ℕ → List ℕ → List ℕ → ℕ → Type 0
AddsUpLives nodes from to closed devices closes seconds lived sinces untils sum =
    (case : Case) × IsCase nodes from to closed devices closes seconds case × (sum ≡ year_seconds (with_lives case lived sinces untils))
