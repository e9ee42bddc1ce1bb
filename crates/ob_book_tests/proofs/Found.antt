-- What holds of each entry of a sheet holds of the one with a number.
use Rattle.std.proofs.Common.{◌≡◌, ◌<◌, ◌==◌, ℕ, Bool, List, [], ◌∷◌, Some, inl, inr}
use Rattle.std.specs.List.{find}
use Rattle.std.proofs.lemmas.Bool.{cases_Bool}
use Rattle.std.proofs.lemmas.List.Elements.{All-head, All-tail}
use Rattle.ob_sheet.specs.declared.Entry.{Entry}
use Rattle.ob_sheet.specs.Order.{entry_of}
use Rattle.ob_sheet.specs.Sheet.{NameDevices}

found_device : (devices : ℕ) (test : Entry → Bool) (entries : List Entry) (e : Entry) → find test entries ≡ Some e → NameDevices devices entries → e.device < devices
found_device devices test [] e h ok = cc
found_device devices test (d ∷ ds) e h ok = elim (cases_Bool (test d)) [
  | inl t ↦ (let same : d ≡ e = (let at = rw t at h in cc) in rw (← same) (All-head (λ k. k.device < devices) d ds ok))
  | inr f ↦ (let at = rw f at h in found_device devices test ds e at (All-tail (λ k. k.device < devices) d ds ok))
]

pub device_of_entry : (devices : ℕ) (entries : List Entry) (number : ℕ) (e : Entry) → entry_of entries number ≡ Some e → NameDevices devices entries → e.device < devices
device_of_entry devices entries number e h ok = found_device devices (λ d. d.«no» == number) entries e h ok
