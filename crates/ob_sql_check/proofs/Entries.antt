-- The entries of a sheet, by number.
use Rattle.std.proofs.Common.{◌≡◌, ℕ, zero, suc, ◌+◌, ◌<◌, List, [], ◌∷◌, length, slice_index_or, Some, true, false, refl, arith}
use Rattle.std.specs.Prelude.{◌==◌, slice_get}
use Rattle.std.specs.List.{AllPairs, find}
use Rattle.std.proofs.lemmas.Bool.Decides.{nat_tests}
use Rattle.ob_sheet.specs.declared.Entry.{Entry}
use Rattle.ob_sheet.specs.Order.{entry_of}
use Rattle.ob_sheet.specs.Sheet.{AreNumbered}

abbrev numbered_from : ℕ → List Entry → Type 0
numbered_from n entries = (k : ℕ) (d : Entry) → k < length entries → (slice_index_or entries k d).«no» ≡ n + k

found_from : (n : ℕ) (entries : List Entry) (at number : ℕ) → numbered_from n entries → at < length entries → number ≡ n + at
    → (e : Entry) × (find (λ e. e.«no» == number) entries ≡ Some e) × (slice_get entries at ≡ Some e)
found_from n [] at number all low is = absurd (omega (arith, low))
found_from n (e ∷ es) zero number all low is =
    let here = all 0 e (omega arith) in
    let same : e.«no» ≡ number = omega (arith, here, is) in
    let same_test : (e.«no» == number) ≡ true = grind (arith, nat_tests, same) in
    (e, rw same_test, refl)
found_from n (e ∷ es) (suc at) number all low is =
    let here = all 0 e (omega arith) in
    let other : (e.«no» == number) ≡ false = grind (arith, nat_tests, here, is) in
    let it = found_from (n + 1) es at number (λ k d l. omega (arith, all (suc k) d (omega (arith, l)))) (omega (arith, low)) (omega (arith, is)) in
    (it.0, rw (other, it.1), it.2)

pub entry_found : (entries : List Entry) (at number : ℕ) → AreNumbered entries → at < length entries → number ≡ at + 1
    → (e : Entry) × (entry_of entries number ≡ Some e) × (slice_get entries at ≡ Some e)
entry_found entries at number all low is = found_from 1 entries at number (λ k d l. omega (arith, all k d l)) low (omega (arith, is))

pub entries_rise : (entries : List Entry) → AreNumbered entries → AllPairs (λ a b. a.«no» < b.«no») entries
entries_rise entries all = λ i j d less low. omega (arith, all i d (omega (arith, less, low)), all j d low, less)
