-- The window of a life that is set anew: the seconds in which it can alter the supply, and how many searches it costs.
use Rattle.std.specs.Prelude.{◌≡◌, ◌<◌, ◌≤◌, ℕ, ◌+◌, ◌-◌, Bool, true, false, not, min, List, Option, Some, length, slice_get, if◌then◌else◌}
use Rattle.std.specs.List.{filter}
use Rattle.std.specs.Option.{option_map_or}
use Rattle.ob_base.specs.Life.{is_alive}
use Rattle.ob_base.specs.Seconds.{seconds}
use Rattle.ob_base.specs.declared.life.Life.{Life}
use Rattle.ob_net.specs.Network.{Network}
use Rattle.ob_sheet.specs.declared.Entry.{Entry}
use Rattle.ob_sweep.specs.Turns.{turns_between}
use Rattle.ob_sweep.specs.Windows.{lies_within}

-- the life that holds no second: that of a device which isn't there
abbrev pub never : Life
never = record { since = 0; until = Some 0 }

-- exactly one of the two lives holds the second
abbrev pub differ_at : Life → Life → ℕ → Bool
differ_at old new s = if is_alive old s then not (is_alive new s) else is_alive new s

-- of the seconds from a up to b, the test holds at those from c up to d alone; there is one
pub record HoldsFrom (test : ℕ → Bool) (a b c d : ℕ) : Type 0 where
  pub from_a : a ≤ c
  pub some : c < d
  pub to_b : d ≤ b
  pub holds : (s : ℕ) → c ≤ s → s < d → test s ≡ true
  pub before : (s : ℕ) → a ≤ s → s < c → test s ≡ false
  pub behind : (s : ℕ) → d ≤ s → s < b → test s ≡ false

-- of the seconds from a up to b, c is the first at which the test holds, and d the one after the last
pub record Bounds (test : ℕ → Bool) (a b c d : ℕ) : Type 0 where
  pub from_a : a ≤ c
  pub some : c < d
  pub to_b : d ≤ b
  pub first : test c ≡ true
  pub last : test (d - 1) ≡ true
  pub before : (s : ℕ) → a ≤ s → s < c → test s ≡ false
  pub behind : (s : ℕ) → d ≤ s → s < b → test s ≡ false

-- the seconds from a up to b, b excluded, that exactly one of the two lives holds, rising
abbrev pub differing : Life → Life → ℕ → ℕ → List ℕ
differing old new a b = filter (differ_at old new) (seconds a b)

-- the first of them; none where both lives hold the same seconds
abbrev pub first_differing : Life → Life → ℕ → ℕ → Option ℕ
first_differing old new a b = slice_get (differing old new a b) 0

-- the last of them
abbrev pub last_differing : Life → Life → ℕ → ℕ → Option ℕ
last_differing old new a b = slice_get (differing old new a b) (length (differing old new a b) - 1)

-- the window's last second: the one after the last of them, at most the last of all
abbrev pub last_lived : Life → Life → ℕ → ℕ → ℕ
last_lived old new a b = option_map_or (λ s. min (s + 1) (b - 1)) (last_differing old new a b) a

-- how many kept entries have a second from a to z
abbrev pub kept_within : List Entry → ℕ → ℕ → ℕ
kept_within entries a z = length (filter (lies_within a z) entries)

-- how many searches a life that is set anew costs at most, where the network is the one after it and the seconds are those from a up to b: none
-- where both lives hold the same of them; else one, one for each kept entry of its window, and one for each beginning or end
-- of a life behind the window's first second and up to its last
abbrev pub life_searches : Network → List Entry → Life → Life → ℕ → ℕ → ℕ
life_searches net entries old new a b =
    option_map_or
    (λ first. 1 + kept_within entries first (last_lived old new a b) + turns_between net first (last_lived old new a b))
    (first_differing old new a b) 0
