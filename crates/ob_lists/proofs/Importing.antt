-- What an import makes of a book that the store may have.
use Rattle.std.proofs.Common.{◌≡◌, inl, inr, ℕ, List, ◌++◌, Option, None, Ok, Err, IsSome, refl, sym, subst}
use Rattle.ob_base.specs.declared.stop.Fault.{Fault}
use Rattle.ob_base.specs.declared.stop.Fault.TheVariants.{OutOfMemory, Store, Reopen, Input, Output}
use Rattle.ob_csv.specs.Rows.{Fields}
use Rattle.ob_book.specs.Acts.{ActState, act}
use Rattle.ob_store.specs.Keepers.{Ghosts, Ties, book_of}
use Rattle.ob_store.specs.declared.keeper.Keeper.{Keeper}
use Rattle.ob_import.specs.Reports.{AreRows, Breaks, Imported, no_book}
use Rattle.ob_lists.specs.Importing.{Ended, body_of}
use Rattle.ob_lists.specs.Standing.{MayBe, Stands, Told, told_by_import}
use Rattle.ob_lists.proofs.Standings.{by_book, unmoved}

module _ {S T : Type 0} {g : Ghosts S} (old new : Keeper S T g) (b : ActState) (before : List Told) (known : Option (List Fields)) where
  -- a fault ended it
  broke : (rows : List Fields) (fault : Fault) (added again : ℕ) (x : ActState) → MayBe b before x → AreRows known rows
      → Breaks new x (body_of rows) fault added again
      → Stands (MayBe b (told_by_import known (Err (record { fault = fault; added = added; again = again })) ++ before)) new
  broke rows OutOfMemory added again x is are (c, later, begins, holds) =
      inl (record { book = c; is = (x, is, (rows, are, (later, begins))); ties = holds.0 })
  broke rows Input added again x is are (c, later, begins, holds) =
      inl (record { book = c; is = (x, is, (rows, are, (later, begins))); ties = holds.0 })
  broke rows Store added again x is are (c, later, a, begins, next, keeps, none) = inr (inl (record {
    book = c;
    other = act c a;
    is = (x, is, (rows, are, (c, later, begins, inl refl)));
    other_is = (x, is, (rows, are, (c, later, begins, inr (a, next, refl))));
    keeps = keeps;
    lost = none;
  }))
  broke rows Reopen added again x is are broken = absurd broken
  broke rows Output added again x is are broken = absurd broken

  imported_by : (ended : Ended) (x : ActState) → MayBe b before x → Imported new x known ended → Stands (MayBe b (told_by_import known ended ++ before)) new
  imported_by (Ok report) x is (rows, are, (c, imports, holds)) = inl (record { book = c; is = (x, is, (rows, are, imports)); ties = holds.0 })
  imported_by (Err e) x is (rows, are, breaks) = broke rows e.fault e.added e.again x is are breaks

  pub import_stands : (ended : Ended) → (book_of old ≡ None → ended ≡ no_book) → (book_of old ≡ None → new ≡ old)
      → ((x : ActState) → Ties old x → IsSome (book_of old) → Imported new x known ended) → Stands (MayBe b before) old
      → Stands (MayBe b (told_by_import known ended ++ before)) new
  import_stands ended reopen unopened imports stands = elim (by_book old new (MayBe b before) (book_of old) refl stands) [
    | inl none ↦
        subst (λ r. Stands (MayBe b (told_by_import known r ++ before)) new) (sym (reopen none)) (unmoved old new (MayBe b before) (unopened none) stands)
    | inr it ↦ imported_by ended it.0 it.1 (imports it.0 it.2 it.3)
  ]
