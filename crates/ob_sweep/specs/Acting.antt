-- Positions as entries act one after another, with lives as of one second.
use Rattle.std.specs.Prelude.{ℕ, ◌==◌, nat_lt, false, List, [], ◌∷◌, map, set, slice_get, if◌then◌else◌}
use Rattle.std.specs.List.{filter}
use Rattle.std.specs.Option.{option_map_or}
use Rattle.ob_base.specs.Life.{is_alive}
use Rattle.ob_base.specs.declared.Pos.{Pos}
use Rattle.ob_base.specs.declared.Pos.TheVariants.{Opened}
use Rattle.ob_net.specs.Network.{Network}
use Rattle.ob_sheet.specs.declared.Entry.{Entry}
use Rattle.ob_sweep.specs.Moments.{Moment, Step}

-- the position that a device has as of the second t where an entry puts it into another: open if it isn't in service
abbrev pub pos_as_of : Network → ℕ → ℕ → Pos → Pos
pos_as_of net t device pos =
    if option_map_or (λ life. is_alive life t) (slice_get (map (λ d. d.life) net.devices) device) false then pos else Opened

-- the positions after an entry
abbrev pub moved : Network → ℕ → List Pos → Entry → List Pos
moved net t positions e = set positions e.device (pos_as_of net t e.device e.pos)

-- the positions after entries, one after another
abbrev pub moved_all : Network → ℕ → List Pos → List Entry → List Pos
moved_all net t positions [] = positions
moved_all net t positions (e ∷ es) = moved_all net t (moved net t positions e) es

-- the steps that the entries are
abbrev pub steps_from : Network → ℕ → List Pos → List Entry → List Step
steps_from net t positions [] = []
steps_from net t positions (e ∷ es) = record { «no» = e.«no»; after = moved net t positions e } ∷ steps_from net t (moved net t positions e) es

-- a second in which the entries act
abbrev pub moment_of : Network → ℕ → List Pos → List Entry → Moment
moment_of net t positions es = record { before = positions; steps = steps_from net t positions es }

-- the second s of entries in order, all from the second t on, with the positions before all of them
abbrev pub moment_at : Network → ℕ → List Pos → List Entry → ℕ → Moment
moment_at net t positions es s =
    moment_of net t (moved_all net t positions (filter (λ e. nat_lt e.second s) es)) (filter (λ e. e.second == s) es)
