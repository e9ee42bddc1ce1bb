-- By how much amounts move.
use Rattle.std.specs.Prelude.{◌≡◌, ◌≢◌, ℕ, zero, suc, ◌<◌, ◌==◌, ◌&&◌, ◌⊎◌, ℤ, pos, negsuc, ◌+ℤ◌, Bool, true, false, List, [], ◌∷◌, ◌++◌, map, if◌then◌else◌}
use Rattle.std.specs.List.{All, AllPairs, filter}
use Rattle.ob_post.specs.declared.Dim.{Dim}
use Rattle.ob_post.specs.declared.Dim.TheVariants.{Cause, Feeder, Day}
use Rattle.ob_post.specs.declared.Moved.{Moved}
use Rattle.ob_post.specs.Keys.{dim_number, IsKey, keys}

-- the row moves the amount under this key of the dimension
abbrev pub is_under : Dim → ℕ → Moved → Bool
is_under dim key m = dim_number m.dim == dim_number dim && m.key == key

-- by how much the rows together move the amount under a key of a dimension
abbrev pub delta_of : List Moved → Dim → ℕ → ℤ
delta_of [] dim key = pos 0
delta_of (m ∷ ms) dim key = (if is_under dim key m then m.delta else pos 0) +ℤ delta_of ms dim key

-- the rows together move each amount up by this much
abbrev pub AddUpTo : List Moved → (Dim → ℕ → ℕ) → Type 0
AddUpTo moved amount = (dim : Dim) (key : ℕ) → delta_of moved dim key ≡ pos (amount dim key)

-- with this many days, each row moves an amount that is kept
abbrev pub HaveKeys : ℕ → List Moved → Type 0
HaveKeys days moved = All (λ m. IsKey days m.dim m.key) moved

-- by dimension, and within one by key
abbrev pub IsBefore : Moved → Moved → Type 0
IsBefore m n = (dim_number m.dim < dim_number n.dim) ⊎ ((m.dim ≡ n.dim) × (m.key < n.key))

-- the rows rise by dimension and then by key, so that no key of a dimension stands twice
abbrev pub AreInOrder : List Moved → Type 0
AreInOrder moved = AllPairs IsBefore moved

-- no row moves by nothing
abbrev pub HaveNoZero : List Moved → Type 0
HaveNoZero moved = All (λ m. m.delta ≢ pos 0) moved

-- it isn't 0
abbrev pub is_nonzero : ℤ → Bool
is_nonzero (pos zero) = false
is_nonzero (pos (suc n)) = true
is_nonzero (negsuc n) = true

-- one row for each key of a dimension, with the change of its amount
abbrev pub changes_under : (Dim → ℕ → ℤ) → ℕ → Dim → List Moved
changes_under change days dim = map (λ key. record { dim = dim; key = key; delta = change dim key }) (keys days dim)

-- the rows that move each amount by its change: by cause, feeder and day and then by key, zeros left out
abbrev pub moves_by : (Dim → ℕ → ℤ) → ℕ → List Moved
moves_by change days = filter (λ m. is_nonzero m.delta) (changes_under change days Cause ++ changes_under change days Feeder ++ changes_under change days Day)
