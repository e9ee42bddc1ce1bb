-- The dimensions and keys that customer-seconds are kept by.
use Rattle.std.specs.Prelude.{ℕ, ◌<◌, ◌≤◌, List, codes}
use Rattle.std.specs.List.{range_with_len}
use Rattle.ob_post.specs.declared.Dim.{Dim}
use Rattle.ob_post.specs.declared.Dim.TheVariants.{Cause, Feeder, Day}

-- the number of a dimension
abbrev pub dim_number : Dim → ℕ
dim_number Cause = 1
dim_number Feeder = 2
dim_number Day = 3

-- the word for a dimension in texts
abbrev pub dim_word : Dim → List ℕ
dim_word Cause = codes "cause"
dim_word Feeder = codes "feeder"
dim_word Day = codes "day"

-- with this many days, amounts are kept under this key of the dimension: causes 0 to 63, feeders 1 to 255, days from 0
abbrev pub IsKey : ℕ → Dim → ℕ → Type 0
IsKey days Cause code = code < 64
IsKey days Feeder feeder = (1 ≤ feeder) × (feeder < 256)
IsKey days Day day = day < days

-- with this many days, the keys of a dimension, rising
unfoldable pub keys : ℕ → Dim → List ℕ
keys days Cause = range_with_len 0 64
keys days Feeder = range_with_len 1 255
keys days Day = range_with_len 0 days
