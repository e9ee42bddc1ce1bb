-- One device gets another position: the positions as of a second, and the supply of the nodes.
use Rattle.std.proofs.Common.{◌≡◌, ℕ, suc, zero, cond, List, [], ◌∷◌, refl, sym, ◌∙◌, ap, subst, length, map, slice_get, Some}
use Rattle.std.proofs.Math.ListN.{set}
use Rattle.std.specs.List.{range_with_len}
use Rattle.ob_base.specs.Life.{is_alive}
use Rattle.ob_base.specs.declared.life.Life.{Life}
use Rattle.ob_base.specs.declared.Pos.{Pos}
use Rattle.ob_base.specs.declared.Pos.TheVariants.{Opened}
use Rattle.ob_net.specs.Network.{Network, as_of}
use Rattle.ob_net.specs.Supplies.{IsOf, SupplyState}
use Rattle.ob_net.specs.Walk.{is_supplied}
use Rattle.ob_net.specs.declared.net.Device.{Device}
use Rattle.ob_sweep.specs.Steps.{IsSupplyAt, supplied_nodes}

-- as of a second, a device that is put into a position is in it if it is in service, and else open
pub moved_as_of : (ds : List Device) (s : ℕ) (ps : List Pos) (k : ℕ) (p q : Pos) (life : Life) → slice_get (map (λ d. d.life) ds) k ≡ Some life → q ≡ cond (is_alive life s) p Opened → as_of ds s (set ps k p) ≡ set (as_of ds s ps) k q
moved_as_of [] s ps k p q life is here = absurd cc
moved_as_of (d ∷ ds) s [] k p q life is here = refl
moved_as_of (d ∷ ds) s (x ∷ ps) zero p q life is here =
    let same : d.life ≡ life = cc in
    ap (λ (l : Life). cond (is_alive l s) p Opened ∷ as_of ds s ps) same ∙ ap (λ (r : Pos). r ∷ as_of ds s ps) (sym here)
moved_as_of (d ∷ ds) s (x ∷ ps) (suc k) p q life is here =
    ap (λ (r : List Pos). cond (is_alive d.life s) x Opened ∷ r) (moved_as_of ds s ps k p q life is here)

-- the same supply, where the positions are given by another term
pub supply_as : (net : Network) (ps qs : List Pos) (supply : SupplyState) → ps ≡ qs → IsSupplyAt net ps supply → IsSupplyAt net qs supply
supply_as net ps qs supply e h = subst (λ (r : List Pos). IsSupplyAt net r supply) e h

-- the supply once a device was switched
pub supply_moved : (net : Network) (ps qs : List Pos) (old new : SupplyState) (k : ℕ) (q : Pos) → IsSupplyAt net ps old → IsOf net new → new.positions ≡ set old.positions k q → qs ≡ set ps k q → new.live ≡ map (is_supplied net new.positions) (range_with_len 0 (length net.nodes)) → IsSupplyAt net qs new
supply_moved net ps qs old new k q h is moved here live =
    let now : new.positions ≡ qs = moved ∙ ap (λ (r : List Pos). set r k q) h.entered ∙ sym here in
    record { of = is; entered = now; live = live ∙ ap (supplied_nodes net) now }
