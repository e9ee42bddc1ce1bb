-- Beginnings and ends of lives: how many lie in an interval of seconds.
use Rattle.std.specs.Prelude.{ℕ, ◌+◌, ◌&&◌, Bool, nat_le, nat_lt, if◌then◌else◌}
use Rattle.std.specs.List.{sum_by}
use Rattle.std.specs.Option.{option_map_or}
use Rattle.ob_base.specs.declared.life.Life.{Life}
use Rattle.ob_net.specs.Network.{Network}

-- the second lies behind a and up to z
abbrev pub lies_behind : ℕ → ℕ → ℕ → Bool
lies_behind a z s = nat_lt a s && nat_le s z

-- how many of a life's beginning and end lie behind the second a and up to z
abbrev pub turns_of : Life → ℕ → ℕ → ℕ
turns_of life a z =
    (if lies_behind a z life.since then 1 else 0) + option_map_or (λ until. if lies_behind a z until then 1 else 0) life.until 0

-- how many beginnings and ends of lives of the network lie there, each device's each once
abbrev pub turns_between : Network → ℕ → ℕ → ℕ
turns_between net a z = sum_by (λ d. turns_of d.life a z) net.devices
