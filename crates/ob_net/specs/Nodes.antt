-- A set of nodes: the list of them, each once, in the order in which they were put in.
use Rattle.std.specs.Prelude.{◌≡◌, ◌≢◌, ℕ, ◌+◌, ◌<◌, ◌≤◌, ◌==◌, Bool, List, [], ◌∷◌, ◌++◌, not, if◌then◌else◌, length, count_by}
use Rattle.std.specs.List.{All, AllPairs, list_any}
use Rattle.ob_net.specs.Reach.{is_reached}

-- how many nodes there are, and which are in the set
pub record NodeList : Type 0 where
  pub size : ℕ
  pub nodes : List ℕ

-- the node is among the listed ones
abbrev pub is_among : List ℕ → ℕ → Bool
is_among nodes v = list_any (λ w. w == v) nodes

-- the nodes with one more, which they may have already
abbrev pub with_one : List ℕ → ℕ → List ℕ
with_one nodes v = if is_among nodes v then nodes else nodes ++ v ∷ []

-- the one list begins with the other
abbrev pub IsLonger : List ℕ → List ℕ → Type 0
IsLonger old new = (added : List ℕ) × (new ≡ old ++ added)

-- each listed node is marked and no other, none is listed twice, and there is room for all nodes
pub record AreMarked (marks : List Bool) (nodes : List ℕ) (capacity : ℕ) : Type 0 where
  pub marked : (v : ℕ) → is_reached marks v ≡ is_among nodes v
  pub below : All (λ v. v < length marks) nodes
  pub distinct : AllPairs (λ v w. v ≢ w) nodes
  pub counted : length nodes + count_by not marks ≡ length marks
  pub room : length marks ≤ capacity
