-- The life of a device that isn't there.
use Rattle.std.proofs.Common.{◌≡◌, ℕ, zero, suc, ◌<◌, List, [], ◌∷◌, length, refl, ap, arith}
use Rattle.ob_base.specs.declared.life.Life.{Life}
use Rattle.ob_net.specs.declared.net.Device.{Device}
use Rattle.ob_net.specs.Network.{with_life_at}

-- behind the last device no life is set
pub none_beyond : (ds : List Device) (k : ℕ) (life : Life) → (k < length ds → ⊥) → with_life_at ds k life ≡ ds
none_beyond [] k life beyond = refl
none_beyond (d ∷ ds) zero life beyond = absurd (beyond (omega arith))
none_beyond (d ∷ ds) (suc k) life beyond = ap (λ (l : List Device). d ∷ l) (none_beyond ds k life (λ low. beyond (omega (arith, low))))
