-- From rows that are taken and given to moves, and from moves to new amounts.
use Rattle.std.specs.Prelude.{◌≡◌, ℕ, ◌+◌, ◌^◌, ◌<◌, ◌≤◌, ℤ, pos, ◌+ℤ◌, ◌-ℤ◌, ◌≤ℤ◌, List, [], FitsSigned}
use Rattle.std.specs.Int.{w64}
use Rattle.std.specs.List.{All, AllPairs, Contains, range_with_len, sum_by}
use Rattle.ob_post.specs.Keys.{IsKey, keys}
use Rattle.ob_post.specs.Moved.{delta_of, AreInOrder, HaveKeys, moves_by}
use Rattle.ob_post.specs.Postings.{PostedAmounts, amount_of, day_count, amount_after, total_after}
use Rattle.ob_post.specs.declared.Dim.{Dim}
use Rattle.ob_post.specs.declared.Moved.{Moved}

-- by how much new amounts differ from old ones
abbrev pub change_from : (Dim → ℕ → ℕ) → (Dim → ℕ → ℕ) → Dim → ℕ → ℤ
change_from old new dim key = pos (new dim key) -ℤ pos (old dim key)

-- each amount is below 2^63
abbrev pub AreSmall : (Dim → ℕ → ℕ) → Type 0
AreSmall amount = (dim : Dim) (key : ℕ) → amount dim key < 2 ^ 63

-- with this many days, what is given less what is taken is the change of each amount that is kept
abbrev pub AreOfChange : ℕ → List Moved → List Moved → (Dim → ℕ → ℤ) → Type 0
AreOfChange days taken given change = (dim : Dim) (key : ℕ) → IsKey days dim key → delta_of given dim key -ℤ delta_of taken dim key ≡ change dim key

-- of the first n nodes, each with an old and a new amount under each key: what is given less what is taken is by how much
-- their amounts together change
abbrev pub AreReposted : (ℕ → Dim → ℕ → ℕ) → (ℕ → Dim → ℕ → ℕ) → ℕ → List Moved → List Moved → Type 0
AreReposted old new n taken given =
    (dim : Dim) (key : ℕ)
    → delta_of given dim key -ℤ delta_of taken dim key ≡ pos (sum_by (λ v. new v dim key) (range_with_len 0 n)) -ℤ pos (sum_by (λ v. old v dim key) (range_with_len 0 n))

-- of no node nothing is taken or given
abbrev pub NoneReposted : Type 0
NoneReposted = (old new : ℕ → Dim → ℕ → ℕ) → AreReposted old new 0 [] []

-- of a further node whose amounts stay, nothing has to be
abbrev pub NodeStays : Type 0
NodeStays =
    (old new : ℕ → Dim → ℕ → ℕ) (n : ℕ) (taken given : List Moved) → AreReposted old new n taken given → ((dim : Dim) (key : ℕ) → new n dim key ≡ old n dim key)
    → AreReposted old new (n + 1) taken given

-- of any further node its old amounts are taken and its new ones given
abbrev pub NodeReposted : Type 0
NodeReposted =
    (old new : ℕ → Dim → ℕ → ℕ) (n : ℕ) (taken given taken_more given_more : List Moved) → AreReposted old new n taken given
    → ((dim : Dim) (key : ℕ) → delta_of taken_more dim key ≡ delta_of taken dim key +ℤ pos (old n dim key))
    → ((dim : Dim) (key : ℕ) → delta_of given_more dim key ≡ delta_of given dim key +ℤ pos (new n dim key)) → AreReposted old new (n + 1) taken_more given_more

-- with more days, rows have keys as well
abbrev pub HaveKeysOfMore : Type 0
HaveKeysOfMore = (m n : ℕ) (rows : List Moved) → m ≤ n → HaveKeys m rows → HaveKeys n rows

-- where two sums differ at these terms alone, the sums differ by what these terms do
abbrev pub RepostedDiffer : Type 0
RepostedDiffer =
    (old new : ℕ → ℕ) (vs : List ℕ) (n : ℕ) → AllPairs (λ v w. v < w) vs → All (λ v. v < n) vs → ((v : ℕ) → v < n → (Contains vs v → ⊥) → new v ≡ old v)
    → pos (sum_by new (range_with_len 0 n)) -ℤ pos (sum_by old (range_with_len 0 n)) ≡ pos (sum_by new vs) -ℤ pos (sum_by old vs)

-- the differences of rows that are of the change from small amounts to small ones fit an i64
abbrev pub DifferencesFit : Type 0
DifferencesFit =
    (days : ℕ) (taken given : List Moved) (old new : Dim → ℕ → ℕ) → HaveKeys days taken → HaveKeys days given → AreOfChange days taken given (change_from old new) → AreSmall old → AreSmall new
    → (dim : Dim) (key : ℕ) → FitsSigned w64 (delta_of given dim key -ℤ delta_of taken dim key)

-- the moves by a change are of amounts that are kept
abbrev pub MovesHaveKeys : Type 0
MovesHaveKeys = (change : Dim → ℕ → ℤ) (days : ℕ) → HaveKeys days (moves_by change days)

-- they rise by dimension and then by key
abbrev pub MovesAreInOrder : Type 0
MovesAreInOrder = (change : Dim → ℕ → ℤ) (days : ℕ) → AreInOrder (moves_by change days)

-- they move each amount that is kept by its change
abbrev pub MovesAreOfChange : Type 0
MovesAreOfChange =
    (change : Dim → ℕ → ℤ) (days : ℕ) (dim : Dim) (key : ℕ)
    → IsKey days dim key → delta_of (moves_by change days) dim key ≡ change dim key

-- the rows lead from these amounts to new ones that postings may keep
pub record LeadTo (a : PostedAmounts) (moved : List Moved) (new : Dim → ℕ → ℕ) : Type 0 where
  pub keys : HaveKeys (day_count a) moved
  pub floor : (dim : Dim) (key : ℕ) → IsKey (day_count a) dim key → pos 0 ≤ℤ amount_after a moved dim key
  pub ceiling : (dim : Dim) → total_after a moved dim < 2 ^ 63
  pub after : (dim : Dim) (key : ℕ) → IsKey (day_count a) dim key → amount_after a moved dim key ≡ pos (new dim key)

-- the moves by the change from the amounts that are kept to new ones lead to the new ones
abbrev pub MovesLeadTo : Type 0
MovesLeadTo =
    (a : PostedAmounts) (old new : Dim → ℕ → ℕ) (moved : List Moved) → ((dim : Dim) (key : ℕ) → IsKey (day_count a) dim key → amount_of a dim key ≡ old dim key)
    → moved ≡ moves_by (change_from old new) (day_count a) → ((dim : Dim) → sum_by (new dim) (keys (day_count a) dim) < 2 ^ 63) → LeadTo a moved new
