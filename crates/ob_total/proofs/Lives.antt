-- A life set anew leaves the number of devices.
use Rattle.std.proofs.Common.{◌≡◌, ℕ, zero, suc, List, [], ◌∷◌, length, refl, ap}
use Rattle.ob_base.specs.declared.life.Life.{Life}
use Rattle.ob_net.specs.declared.net.Device.{Device}
use Rattle.ob_net.specs.Network.{with_life_at}

pub as_many_devices : (ds : List Device) (k : ℕ) (life : Life) → length (with_life_at ds k life) ≡ length ds
as_many_devices [] k life = refl
as_many_devices (d ∷ ds) zero life = refl
as_many_devices (d ∷ ds) (suc k) life = ap suc (as_many_devices ds k life)
