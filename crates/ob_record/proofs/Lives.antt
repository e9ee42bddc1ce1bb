-- The rows of the lives of devices, where one device has another life.
use Rattle.std.proofs.Common.{◌≡◌, ℕ, ◌+◌, ◌<◌, ◌==◌, true, false, zero, suc, List, [], ◌∷◌, filter, length, refl, ap, ap₂, arith}
use Rattle.std.proofs.lemmas.Bool.Decides.{nat_tests}
use Rattle.ob_base.specs.declared.life.Life.{Life as ALife}
use Rattle.ob_net.specs.Network.{with_life_at}
use Rattle.ob_net.specs.declared.net.Device.{Device as NetDevice}
use Rattle.ob_sql_rows.specs.Rows.{Columns, is_key, change_where, relive, device_row, life_row}
use Rattle.ob_record.specs.Tables.{numbered, row_of_life}
use Rattle.ob_record.proofs.Keyed.{key_is}

-- ---- the rows of the devices stay
pub devices_stay : (n : ℕ) (ds : List NetDevice) (k : ℕ) (l : ALife) → numbered device_row n (with_life_at ds k l) ≡ numbered device_row n ds
devices_stay n [] k l = refl
devices_stay n (d ∷ ds) zero l = refl
devices_stay n (d ∷ ds) (suc k) l = ap (λ rows. device_row n d ∷ rows) (devices_stay (n + 1) ds k l)

-- ---- the row of one life
module _ (key : ℕ) where
  keyed : (n : ℕ) (d : NetDevice) → is_key key (row_of_life n d) ≡ (n == key)
  keyed n d = key_is key n (row_of_life n d) refl

  -- past its number no row has the key
  none_past : (n : ℕ) (ds : List NetDevice) → key < n → filter (is_key key) (numbered row_of_life n ds) ≡ []
  none_past n [] past = refl
  none_past n (d ∷ ds) past =
      let other : (n == key) ≡ false = grind (arith, nat_tests) in
      rw (keyed n d, other) (none_past (n + 1) ds (omega (arith, past)))

  all_past : (n : ℕ) (ds : List NetDevice) (change : Columns → Columns) → key < n → change_where (is_key key) change (numbered row_of_life n ds) ≡ numbered row_of_life n ds
  all_past n [] change past = refl
  all_past n (d ∷ ds) change past =
      let other : (n == key) ≡ false = grind (arith, nat_tests) in
      rw (keyed n d, other) (ap (λ rows. row_of_life n d ∷ rows) (all_past (n + 1) ds change (omega (arith, past))))

  -- a device that is there has one row
  pub one_life : (n k : ℕ) (ds : List NetDevice) → n + k ≡ key → k < length ds → (d : NetDevice) × (filter (is_key key) (numbered row_of_life n ds) ≡ row_of_life key d ∷ [])
  one_life n k [] at low = absurd (omega (arith, low))
  one_life n zero (d ∷ ds) at low =
      let same : (n == key) ≡ true = grind (arith, nat_tests) in
      let here : n ≡ key = omega (arith, at) in
      (d, rw (keyed n d, same) (ap₂ (λ (m : ℕ) (rows : List Columns). row_of_life m d ∷ rows) here (none_past (n + 1) ds (omega (arith, at)))))
  one_life n (suc k) (d ∷ ds) at low =
      let other : (n == key) ≡ false = grind (arith, nat_tests) in
      let rest = one_life (n + 1) k ds (omega (arith, at)) (omega (arith, low)) in
      (rest.0, rw (keyed n d, other) rest.1)

  -- it is changed as the life is
  pub lives_changed : (l : ALife) (n k : ℕ) (ds : List NetDevice) → n + k ≡ key
      → change_where (is_key key) (relive l) (numbered row_of_life n ds) ≡ numbered row_of_life n (with_life_at ds k l)
  lives_changed l n k [] at = refl
  lives_changed l n zero (d ∷ ds) at =
      let same : (n == key) ≡ true = grind (arith, nat_tests) in
      rw (keyed n d, same) (ap (λ rows. life_row n l ∷ rows) (all_past (n + 1) ds (relive l) (omega (arith, at))))
  lives_changed l n (suc k) (d ∷ ds) at =
      let other : (n == key) ≡ false = grind (arith, nat_tests) in
      rw (keyed n d, other) (ap (λ rows. row_of_life n d ∷ rows) (lives_changed l (n + 1) k ds (omega (arith, at))))
