-- Shelves of services: where a section's customers are counted.
use Rattle.std.specs.Prelude.{ℕ, ◌≡◌, ◌<◌, ◌≤◌, ◌+◌, ◌%◌, ◌==◌, List, [], Option, None, length, slice_index_or, if◌then◌else◌}
use Rattle.std.specs.List.{sum_by}
use Rattle.std.specs.Option.{option_map_or}
use Rattle.ob_cust.specs.Services.{sum_of, customers_of}
use Rattle.ob_cust.specs.declared.Customer.{Customer}
use Rattle.ob_cust.specs.declared.shelf.Shelf.{Shelf}

-- a number for a service without end that begins where one ends
abbrev pub at_end : (ℕ → ℕ → Option ℕ → ℕ) → ℕ → Option ℕ → ℕ
at_end f section until = option_map_or (λ u. f section u None) until 0

-- a number for each customer that is on shelf k of n, summed
abbrev pub sum_on_shelf : ℕ → ℕ → (Customer → ℕ) → List Customer → ℕ
sum_on_shelf n k f customers = sum_by (λ c. if c.section % n == k then f c else 0) customers

-- shelf k of n, with room for some customers more
pub record IsShelfOf (n k room : ℕ) (customers : List Customer) (s : Shelf) : Type 0 where
  pub services : (f : ℕ → ℕ → Option ℕ → ℕ) → sum_of f s.services.blocks ≡ sum_on_shelf n k (λ c. f c.section c.since c.until) customers
  pub ends : (f : ℕ → ℕ → Option ℕ → ℕ) → sum_of f s.ends.blocks ≡ sum_on_shelf n k (λ c. at_end f c.section c.until) customers
  pub counted : s.customers ≡ customers_of s.services.blocks
  pub room_of_services : s.customers + room ≤ s.services.capacity
  pub room_of_ends : s.customers + room ≤ s.ends.capacity

-- the shelves of a roll
pub record AreShelves (customers : List Customer) (room : ℕ) (shelves : List Shelf) : Type 0 where
  pub some : 0 < length customers + room → 0 < length shelves
  pub each : (k : ℕ) (d : Shelf) → k < length shelves → IsShelfOf (length shelves) k room customers (slice_index_or shelves k d)

-- a shelf with the same services, and no less room
pub record IsRoomier (s t : Shelf) : Type 0 where
  pub services : t.services.blocks ≡ s.services.blocks
  pub ends : t.ends.blocks ≡ s.ends.blocks
  pub customers : t.customers ≡ s.customers
  pub capacity : s.services.capacity ≤ t.services.capacity
  pub capacity_of_ends : s.ends.capacity ≤ t.ends.capacity

-- there is room for one customer more
pub record HasRoom (s : Shelf) : Type 0 where
  pub services : s.customers + 1 ≤ s.services.capacity
  pub ends : s.customers + 1 ≤ s.ends.capacity

-- a shelf of no customer
pub record IsEmpty (s : Shelf) : Type 0 where
  pub services : s.services.blocks ≡ []
  pub ends : s.ends.blocks ≡ []
  pub customers : s.customers ≡ 0
