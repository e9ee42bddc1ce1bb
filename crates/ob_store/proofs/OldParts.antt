-- The tables of version 1, found one after another to be those of a book or not.
use Rattle.std.proofs.Common.{◌≡◌, ◌⊎◌, inl, inr, ℕ, zero, suc, ◌+◌, ◌<◌, List, [], ◌∷◌, map, get_or, Bool, true, false, true≢false, Result, Ok, Err, IsTrue, refl, sym, subst, ◌∙◌, arith}
use Rattle.std.specs.Prelude.{◌↔◌, ⊤}
use Rattle.std.proofs.lemmas.List.Sorted.{IsPermutation-refl}
use Rattle.sqlite_trees.specs.declared.store.Store.{Ghosts}
use Rattle.sqlite.specs.Tree.{Trees}
use Rattle.sqlite.specs.Held.{Held, state}
use Rattle.ob_base.specs.declared.stop.Stop.{Stop}
use Rattle.ob_base.specs.declared.stop.Stop.TheVariants.{Fault}
use Rattle.ob_base.specs.declared.stop.Fault.TheVariants.{Store}
use Rattle.ob_state.specs.State.{BookState}
use Rattle.ob_sql_rows.specs.Rows.{shown, tree_of}
use Rattle.ob_sql_rows.specs.Versions.{Has}
use Rattle.ob_sql_rows.specs.declared.table.Table.{Table}
use Rattle.ob_sql_rows.specs.declared.table.Table.TheVariants.{Meta, Cause, Node, Device, Life, Customer, Entry, Mark, Command, Moved, Posting}
use Rattle.ob_sql_rows.specs.declared.version.Version.TheVariants.{One}
use Rattle.ob_record.specs.Tables.{Shows}
use Rattle.ob_sql_read.specs.Parts.{Compares}
use Rattle.ob_sql_read.specs.Reading.{bad_book}
use Rattle.ob_sql_check.specs.Parts.{IsPart, parts_in}
use Rattle.ob_store.specs.Differing.{NoneSo}
use Rattle.ob_store.specs.Finding.{Finds}
use Rattle.ob_store.specs.Upgrading.{HasOldParts, HasOldRows, IsOldPart, bare}
use Rattle.ob_store.proofs.Differing.{below_or_at}
use Rattle.ob_store.proofs.Found.{Apart, not_apart, store_alone}
use Rattle.ob_store.proofs.Reading.{fails, find_as, read_err, read_ok, then_bad, then_fault, then_good, then_more}

-- the tables in their order
abbrev pub old_parts : List Table
old_parts = Meta ∷ Cause ∷ Node ∷ Device ∷ Customer ∷ Entry ∷ Mark ∷ Posting ∷ []

pub is_part : (at : ℕ) → at < 8 → IsPart (get_or old_parts at Meta)
is_part zero low = tt
is_part (suc zero) low = tt
is_part (suc (suc zero)) low = tt
is_part (suc (suc (suc zero))) low = tt
is_part (suc (suc (suc (suc zero)))) low = tt
is_part (suc (suc (suc (suc (suc zero))))) low = tt
is_part (suc (suc (suc (suc (suc (suc zero)))))) low = tt
is_part (suc (suc (suc (suc (suc (suc (suc zero))))))) low = tt
is_part (suc (suc (suc (suc (suc (suc (suc (suc at)))))))) low = absurd (omega (arith, low))

pub is_had : (at : ℕ) → at < 8 → Has One (get_or old_parts at Meta)
is_had zero low = tt
is_had (suc zero) low = tt
is_had (suc (suc zero)) low = tt
is_had (suc (suc (suc zero))) low = tt
is_had (suc (suc (suc (suc zero)))) low = tt
is_had (suc (suc (suc (suc (suc zero))))) low = tt
is_had (suc (suc (suc (suc (suc (suc zero)))))) low = tt
is_had (suc (suc (suc (suc (suc (suc (suc zero))))))) low = tt
is_had (suc (suc (suc (suc (suc (suc (suc (suc at)))))))) low = absurd (omega (arith, low))

is_old : (at : ℕ) → at < 8 → IsOldPart (get_or old_parts at Meta)
is_old zero low = tt
is_old (suc zero) low = tt
is_old (suc (suc zero)) low = tt
is_old (suc (suc (suc zero))) low = tt
is_old (suc (suc (suc (suc zero)))) low = tt
is_old (suc (suc (suc (suc (suc zero))))) low = tt
is_old (suc (suc (suc (suc (suc (suc zero)))))) low = tt
is_old (suc (suc (suc (suc (suc (suc (suc zero))))))) low = tt
is_old (suc (suc (suc (suc (suc (suc (suc (suc at)))))))) low = absurd (omega (arith, low))

-- what is so of each of them
each : (P : Table → Type 0) → ((i : ℕ) → i < 8 → P (get_or old_parts i Meta)) → (table : Table) → IsOldPart table → P table
each P all Meta part = all 0 (omega arith)
each P all Cause part = all 1 (omega arith)
each P all Node part = all 2 (omega arith)
each P all Device part = all 3 (omega arith)
each P all Life part = absurd part
each P all Customer part = all 4 (omega arith)
each P all Entry part = all 5 (omega arith)
each P all Mark part = all 6 (omega arith)
each P all Command part = absurd part
each P all Moved part = absurd part
each P all Posting part = all 7 (omega arith)

module _ {S : Type 0} (g : Ghosts S) (s : BookState) where
  abbrev IsSo : Table → Trees → Type 0
  IsSo t trees = Shows trees t (parts_in One (bare s) t)

  abbrev Decides : Table → Trees → Bool → Type 0
  Decides t trees is = IsTrue is ↔ IsSo t trees

  abbrev UpTo : ℕ → Trees → Type 0
  UpTo n trees = (i : ℕ) → i < n → IsSo (get_or old_parts i Meta) trees

  abbrev pub All : Trees → Bool → Type 0
  All trees is = IsTrue is ↔ HasOldRows trees s

  -- so many were found to be the book's; where none was looked at, nothing was done
  abbrev pub Begun : ℕ → Held S → Held S → Type 0
  Begun n old now = ((n ≡ 0) × (now ≡ old)) ⊎ Finds g One (λ trees (m : ℕ). UpTo m trees) NoneSo old now (Ok n)

  abbrev Next : ℕ → Table → Trees → Bool → Type 0
  Next n t trees is = UpTo n trees × Decides t trees is

  compared : (t : Table) (old new : Held S) (r : Result Bool Stop) → Compares g One t (parts_in One (bare s) t) old new r → Finds g One (Decides t) NoneSo old new r
  compared t old new (Ok is) it =
      let rows = map (shown t) ((state g old).now.trees (tree_of t)) in
      read_ok g One (Decides t) NoneSo old new is it.mode it.survives it.clean it.kept it.same (λ clean has. it.holds clean has rows (IsPermutation-refl rows))
  compared t old new (Err stop) it = read_err g One (Decides t) NoneSo old new stop it.mode it.survives it.clean it.kept it.faults it.cause it.foreign

  goes_on : (n : ℕ) (t : Table) (old mid new : Held S) (r : Result Bool Stop) → Begun n old mid → Finds g One (Decides t) NoneSo mid new r → Finds g One (Next n t) NoneSo old new r
  goes_on n t old mid new r (inl first) it =
      find_as g One (Decides t) (Next n t) NoneSo NoneSo old new r (λ trees is so. (λ i low. absurd (omega (arith, low, first.0)), so)) (λ trees none. none)
      (subst (λ (m : Held S). Finds g One (Decides t) NoneSo m new r) first.1 it)
  goes_on n t old mid new r (inr so) it =
      find_as g One (Next n t) (Next n t) (λ trees. UpTo n trees × NoneSo trees) NoneSo old new r (λ trees is both. both) (λ trees none. none.1)
      (then_more g One (λ trees (m : ℕ). UpTo m trees) NoneSo (Decides t) NoneSo old mid new n r so it)

  one_more : (P : ℕ → Type 0) (n : ℕ) → ((i : ℕ) → i < n → P i) → P n → (i : ℕ) → i < n + 1 → P i
  one_more P n all here i low = elim (below_or_at i n low) [
    | inl less ↦ all i less
    | inr same ↦ subst P (sym same) here
  ]

  module _ (n : ℕ) (old mid new : Held S) (begun : Begun n old mid) where
    abbrev part : Table
    part = get_or old_parts n Meta

    abbrev Compared : Result Bool Stop → Type 0
    Compared r = Compares g One part (parts_in One (bare s) part) mid new r

    found : (r : Result Bool Stop) → Compared r → Finds g One (Next n part) NoneSo old new r
    found r it = goes_on n part old mid new r begun (compared part mid new r it)

    pub part_right : (is : Bool) → is ≡ true → Compared (Ok is) → Begun (n + 1) old new
    part_right is right it = inr (then_good g One (Next n part) NoneSo (λ trees (m : ℕ). UpTo m trees) NoneSo old new is (found (Ok is) it) (n + 1) (λ trees both.
        one_more (λ i. IsSo (get_or old_parts i Meta) trees) n both.0 (both.1.0 right)))

    pub part_wrong : (is : Bool) → is ≡ false → n < 8 → Compared (Ok is) → Finds g One All NoneSo old new (Ok false)
    part_wrong is wrong low it = then_good g One (Next n part) NoneSo All NoneSo old new is (found (Ok is) it) false (λ trees both. (
      λ so. absurd (true≢false (sym so)),
      λ rows. absurd (true≢false (sym (both.1.1 (rows part (is_old n low))) ∙ wrong)),
    ))

    pub part_failed : (stop : Stop) → Compared (Err stop) → Finds g One All NoneSo old new (Err stop)
    part_failed stop it = fails g One (Next n part) NoneSo All NoneSo old new stop (λ trees none. none) (found (Err stop) it)

  pub parts_right : (n : ℕ) (old new : Held S) → n ≡ 8 → Begun n old new → Finds g One All NoneSo old new (Ok true)
  parts_right n old new all (inl first) = absurd (omega (arith, all, first.0))
  parts_right n old new all (inr so) = then_good g One (λ trees (m : ℕ). UpTo m trees) NoneSo All NoneSo old new n so true (λ trees up. (
    λ is table part. each (λ t. IsSo t trees) (λ i low. up i (omega (arith, low, all))) table part,
    λ rows. refl,
  ))

  -- ---- then the numbers of the rows of amounts
  abbrev pub Good : Trees → ⊤ → Type 0
  Good trees done = HasOldParts trees s

  abbrev pub Bad : Trees → Type 0
  Bad trees = ¬ (HasOldRows trees s)

  module _ (old mid : Held S) where
    pub rows_off : (is : Bool) → is ≡ false → Finds g One All NoneSo old mid (Ok is) → Finds g One Good Bad old mid (Err bad_book)
    rows_off is off first = then_bad g One All NoneSo Good Bad old mid is first (λ trees so rows. true≢false (sym (so.1 rows) ∙ off))

    pub rows_failed : (stop : Stop) → Finds g One All NoneSo old mid (Err stop) → Finds g One Good Bad old mid (Err stop)
    rows_failed stop first = fails g One All NoneSo Good Bad old mid stop (λ trees none. absurd none) first

    module _ (is : Bool) (right : is ≡ true) (first : Finds g One All NoneSo old mid (Ok is)) (new : Held S) where
      abbrev Both : Trees → Bool → Type 0
      Both trees apart = All trees is × Apart trees apart

      abbrev Neither : Trees → Type 0
      Neither trees = All trees is × NoneSo trees

      both : (r : Result Bool Stop) → Finds g One Apart NoneSo mid new r → Finds g One Both Neither old new r
      both r second = then_more g One All NoneSo Apart NoneSo old mid new is r first second

      pub rows_apart : (apart : Bool) → apart ≡ true → Finds g One Apart NoneSo mid new (Ok apart) → Finds g One Good Bad old new (Ok tt)
      rows_apart apart so second = then_good g One Both Neither Good Bad old new apart (both (Ok apart) second) tt (λ trees it. (it.0.0 right, it.1.0 so))

      pub rows_broken : (apart : Bool) → apart ≡ false → Finds g One Apart NoneSo mid new (Ok apart) → Finds g One Good Bad old new (Err (Fault Store))
      rows_broken apart off second =
          then_fault g One Both Neither Good Bad old new apart (both (Ok apart) second) (Fault Store) (inl (inr refl)) store_alone (λ store trees it. not_apart trees apart off it.1)

      pub rows_unread : (stop : Stop) → Finds g One Apart NoneSo mid new (Err stop) → Finds g One Good Bad old new (Err stop)
      rows_unread stop second = fails g One Both Neither Good Bad old new stop (λ trees none. absurd none.1) (both (Err stop) second)
