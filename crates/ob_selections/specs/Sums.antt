-- The figures of a selection, as sums of the tallies of its customers.
use Rattle.std.specs.Prelude.{◌≡◌, ◌≤◌, ◌<◌, ℕ, ◌+◌, if◌then◌else◌, length, nat_le, slice_index}
use Rattle.ob_selections.specs.declared.figures.Figures.{Figures}
use Rattle.ob_selections.specs.declared.figures.Tally.{Tally}

-- one where there are n or more sustained interruptions
abbrev pub at_least : ℕ → Tally → ℕ
at_least n t = if nat_le n t.sustained then 1 else 0

-- the figures m are k with a sum more, which is given for each number of a tally
pub record AreMore (total : (Tally → ℕ) → ℕ) (k m : Figures) : Type 0 where
  pub sustained : m.counts.ci ≡ k.counts.ci + total (λ t. t.sustained)
  pub seconds : m.counts.csi ≡ k.counts.csi + total (λ t. t.seconds)
  pub momentary : m.counts.mi ≡ k.counts.mi + total (λ t. t.momentary)
  pub customers : m.counts.cn ≡ k.counts.cn + total (at_least 1)
  pub places : length m.counts.cn_n ≡ length k.counts.cn_n
  pub each : (j : ℕ) → j < 10 → slice_index m.counts.cn_n j ≡ slice_index k.counts.cn_n j + total (at_least (1 + j))
  pub served : m.served ≡ k.served + total (λ t. t.served)
  pub length : m.length ≡ k.length

-- no count is above the bound
pub record AreAtMost (bound : ℕ) (k : Figures) : Type 0 where
  pub sustained : k.counts.ci ≤ bound
  pub seconds : k.counts.csi ≤ bound
  pub momentary : k.counts.mi ≤ bound
  pub customers : k.counts.cn ≤ bound
  pub each : (j : ℕ) → j < 10 → slice_index k.counts.cn_n j ≤ bound
  pub served : k.served ≤ bound

-- nor is a number of a tally
pub record IsAtMost (bound : ℕ) (t : Tally) : Type 0 where
  pub sustained : t.sustained ≤ bound
  pub seconds : t.seconds ≤ bound
  pub momentary : t.momentary ≤ bound
  pub served : t.served ≤ bound
