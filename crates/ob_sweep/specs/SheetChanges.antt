-- What one change makes of a sheet.
use Rattle.std.specs.Prelude.{◌≡◌, ◌==◌, ◌+◌, true, not, ℕ, List, [], ◌∷◌, ◌++◌, Some, length}
use Rattle.std.specs.List.{filter}
use Rattle.ob_sheet.specs.declared.Entry.{Entry}
use Rattle.ob_sheet.specs.Order.{entry_of, put_in_order}
use Rattle.ob_sheet.specs.Revisions.{change_entry, withdrawn}
use Rattle.ob_sweep.specs.declared.change.SheetChange.{SheetChange}
use Rattle.ob_sweep.specs.declared.change.SheetChange.TheVariants.{Entered, Corrected, Withdrawn}

-- the entries after the change: one more; the new one in the old one's place; the one that was withdrawn no longer kept
abbrev pub with_change : SheetChange → List Entry → List Entry
with_change (Entered e) entries = entries ++ e ∷ []
with_change (Corrected old new) entries = change_entry old.no (λ _. new) entries
with_change (Withdrawn e) entries = change_entry e.no withdrawn entries

-- the entries of another number
abbrev pub others : ℕ → List Entry → List Entry
others number es = filter (λ e. not (e.«no» == number)) es

-- what the change makes of kept entries in order
abbrev pub changed_order : SheetChange → List Entry → List Entry
changed_order (Entered e) order = put_in_order e order
changed_order (Corrected old new) order = put_in_order new (others old.«no» order)
changed_order (Withdrawn e) order = others e.«no» order

-- the entry is the kept one with its number
pub record IsKeptOn (entries : List Entry) (e : Entry) : Type 0 where
  pub on : entry_of entries e.no ≡ Some e
  pub kept : e.kept ≡ true

-- the change can be made: a kept entry with the next number; another one for a kept one, with its number and
-- device; a kept one
abbrev pub CanChange : SheetChange → List Entry → Type 0
CanChange (Entered e) entries = (e.no ≡ length entries + 1) × (e.kept ≡ true)
CanChange (Corrected old new) entries = IsKeptOn entries old × (new.no ≡ old.no) × (new.device ≡ old.device) × (new.kept ≡ true)
CanChange (Withdrawn e) entries = IsKeptOn entries e
