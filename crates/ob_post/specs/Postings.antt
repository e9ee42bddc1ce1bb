-- The amounts that postings keep.
use Rattle.std.specs.Prelude.{ℕ, ◌-◌, ℤ, pos, ◌+ℤ◌, List, length, slice_index}
use Rattle.std.specs.List.{sum_by}
use Rattle.std.specs.Int.RustNames.{unsigned_abs}
use Rattle.ob_post.specs.declared.Dim.{Dim}
use Rattle.ob_post.specs.declared.Dim.TheVariants.{Cause, Feeder, Day}
use Rattle.ob_post.specs.declared.Moved.{Moved}
use Rattle.ob_post.specs.Keys.{keys}
use Rattle.ob_post.specs.Moved.{delta_of}

-- amounts by cause from 0, by feeder from 1 and by day from 0
pub record PostedAmounts : Type 0 where
  pub causes : List ℕ
  pub feeders : List ℕ
  pub days : List ℕ

-- the amount under a key of a dimension
abbrev pub amount_of : PostedAmounts → Dim → ℕ → ℕ
amount_of a Cause code = slice_index a.causes code
amount_of a Feeder feeder = slice_index a.feeders (feeder - 1)
amount_of a Day day = slice_index a.days day

-- how many days there are
abbrev pub day_count : PostedAmounts → ℕ
day_count a = length a.days

-- the amounts under all keys of a dimension
abbrev pub total_of : PostedAmounts → Dim → ℕ
total_of a dim = sum_by (amount_of a dim) (keys (day_count a) dim)

-- the amount under a key of a dimension once these rows have moved it
abbrev pub amount_after : PostedAmounts → List Moved → Dim → ℕ → ℤ
amount_after a moved dim key = pos (amount_of a dim key) +ℤ delta_of moved dim key

-- the amounts under all keys of a dimension then, where none has fallen below 0
abbrev pub total_after : PostedAmounts → List Moved → Dim → ℕ
total_after a moved dim = sum_by (λ key. unsigned_abs (amount_after a moved dim key)) (keys (day_count a) dim)
