-- Tables that were found, one after another, to be those of a book or not.
use Rattle.std.proofs.Common.{◌≡◌, ◌≢◌, ◌⊎◌, inl, inr, ℕ, zero, suc, ◌+◌, ◌<◌, List, [], ◌∷◌, map, get_or, Bool, true, false, true≢false, Option, Some, None, Result, Ok, Err, IsTrue, refl, sym, ap, subst, ◌∙◌, arith}
use Rattle.std.specs.Prelude.{◌↔◌}
use Rattle.std.proofs.lemmas.List.Sorted.{IsPermutation-refl}
use Rattle.sqlite_trees.specs.declared.store.Store.{Ghosts}
use Rattle.sqlite.specs.Tree.{Trees}
use Rattle.sqlite.specs.Held.{Held, state}
use Rattle.ob_base.specs.declared.stop.Stop.{Stop}
use Rattle.ob_book.specs.Acts.{ActState}
use Rattle.ob_sql_rows.specs.Rows.{shown, tree_of}
use Rattle.ob_sql_rows.specs.declared.table.Table.{Table}
use Rattle.ob_sql_rows.specs.declared.table.Table.TheVariants.{Meta, Cause, Node, Device, Life, Customer, Entry, Mark, Command, Moved, Posting}
use Rattle.ob_record.specs.Tables.{Shows, tables_of}
use Rattle.ob_sql_read.specs.Parts.{Compares}
use Rattle.ob_sql_check.specs.Parts.{parts_in}
use Rattle.ob_sql_rows.specs.declared.version.Version.TheVariants.{Two}
use Rattle.ob_store.specs.Differing.{IsFirstOff, IsFirstOffOf, IsOff, NoneSo}
use Rattle.ob_store.specs.Finding.{Finds, place_of}
use Rattle.ob_store.proofs.Reading.{fails, find_as, read_err, read_ok, then_good, then_more}

-- ---- the tables in their order
abbrev in_order : List Table
in_order = Meta ∷ Cause ∷ Node ∷ Device ∷ Life ∷ Customer ∷ Entry ∷ Mark ∷ Command ∷ Moved ∷ Posting ∷ []

placed : (t : Table) → get_or in_order (place_of t) Meta ≡ t
placed Meta = refl
placed Cause = refl
placed Node = refl
placed Device = refl
placed Life = refl
placed Customer = refl
placed Entry = refl
placed Mark = refl
placed Command = refl
placed Moved = refl
placed Posting = refl

same_place : (t u : Table) → place_of t ≡ place_of u → t ≡ u
same_place t u e = sym (placed t) ∙ ap (λ n. get_or in_order n Meta) e ∙ placed u

one_of_eleven : (t : Table) → place_of t < 11
one_of_eleven Meta = omega arith
one_of_eleven Cause = omega arith
one_of_eleven Node = omega arith
one_of_eleven Device = omega arith
one_of_eleven Life = omega arith
one_of_eleven Customer = omega arith
one_of_eleven Entry = omega arith
one_of_eleven Mark = omega arith
one_of_eleven Command = omega arith
one_of_eleven Moved = omega arith
one_of_eleven Posting = omega arith

pub below_or_at : (i n : ℕ) → i < n + 1 → (i < n) ⊎ (i ≡ n)
below_or_at zero zero low = inr refl
below_or_at zero (suc n) low = inl (omega arith)
below_or_at (suc i) zero low = absurd (omega (arith, low))
below_or_at (suc i) (suc n) low = elim (below_or_at i n (omega (arith, low))) [
  | inl less ↦ inl (omega (arith, less))
  | inr same ↦ inr (ap suc same)
]

-- what is so of the tables before one, and of that one, is so of those up to it
up_to : (P : Table → Type 0) (t : Table) → ((u : Table) → place_of u < place_of t → P u) → P t → (u : Table) → place_of u < place_of t + 1 → P u
up_to P t all here u low = elim (below_or_at (place_of u) (place_of t) low) [
  | inl less ↦ all u less
  | inr same ↦ subst P (same_place t u (sym same)) here
]

-- the tables before that of commands
abbrev pub first_parts : List Table
first_parts = Meta ∷ Cause ∷ Node ∷ Device ∷ Life ∷ Customer ∷ Entry ∷ Mark ∷ []

pub part_at : (at : ℕ) → at < 8 → place_of (get_or first_parts at Meta) ≡ at
part_at zero low = refl
part_at (suc zero) low = refl
part_at (suc (suc zero)) low = refl
part_at (suc (suc (suc zero))) low = refl
part_at (suc (suc (suc (suc zero)))) low = refl
part_at (suc (suc (suc (suc (suc zero))))) low = refl
part_at (suc (suc (suc (suc (suc (suc zero)))))) low = refl
part_at (suc (suc (suc (suc (suc (suc (suc zero))))))) low = refl
part_at (suc (suc (suc (suc (suc (suc (suc (suc at)))))))) low = absurd (omega (arith, low))

module _ {S : Type 0} (g : Ghosts S) where
  module _ (b : ActState) where
    abbrev IsSo : Table → Trees → Type 0
    IsSo t trees = Shows trees t (tables_of b t)

    abbrev Decides : Table → Trees → Bool → Type 0
    Decides t trees is = IsTrue is ↔ IsSo t trees

    -- ---- one table
    rows_are : (t : Table) → parts_in Two b t ≡ tables_of b t
    rows_are Meta = refl
    rows_are Cause = refl
    rows_are Node = refl
    rows_are Device = refl
    rows_are Life = refl
    rows_are Customer = refl
    rows_are Entry = refl
    rows_are Mark = refl
    rows_are Command = refl
    rows_are Moved = refl
    rows_are Posting = refl

    compared : (t : Table) (old new : Held S) (r : Result Bool Stop) → Compares g Two t (tables_of b t) old new r → Finds g Two (Decides t) NoneSo old new r
    compared t old new (Ok is) it =
        let rows = map (shown t) ((state g old).now.trees (tree_of t)) in
        read_ok g Two (Decides t) NoneSo old new is it.mode it.survives it.clean it.kept it.same (λ clean has. it.holds clean has rows (IsPermutation-refl rows))
    compared t old new (Err stop) it =
        read_err g Two (Decides t) NoneSo old new stop it.mode it.survives it.clean it.kept it.faults it.cause it.foreign

    part : (t : Table) (old new : Held S) (r : Result Bool Stop) → Compares g Two t (parts_in Two b t) old new r → Finds g Two (Decides t) NoneSo old new r
    part t old new r it = compared t old new r (subst (λ rows. Compares g Two t rows old new r) (rows_are t) it)

    pub part_right : (t : Table) (old new : Held S) (is : Bool) → is ≡ true → Compares g Two t (parts_in Two b t) old new (Ok is) → Finds g Two (IsOff b t) NoneSo old new (Ok None)
    part_right t old new is right it = then_good g Two (Decides t) NoneSo (IsOff b t) NoneSo old new is (part t old new (Ok is) it) None (λ trees both. both.0 right)

    pub part_wrong : (t : Table) (old new : Held S) (is : Bool) → is ≡ false → Compares g Two t (parts_in Two b t) old new (Ok is) → Finds g Two (IsOff b t) NoneSo old new (Ok (Some t))
    part_wrong t old new is wrong it =
        then_good g Two (Decides t) NoneSo (IsOff b t) NoneSo old new is (part t old new (Ok is) it) (Some t) (λ trees both. (refl, λ shows. absurd (true≢false (sym (both.1 shows) ∙ wrong))))

    pub part_failed : (t : Table) (old new : Held S) (stop : Stop) → Compares g Two t (parts_in Two b t) old new (Err stop) → Finds g Two (IsOff b t) NoneSo old new (Err stop)
    part_failed t old new stop it = fails g Two (Decides t) NoneSo (IsOff b t) NoneSo old new stop (λ trees none. none) (part t old new (Err stop) it)

    -- ---- the first tables
    abbrev pub UpTo : ℕ → Trees → Type 0
    UpTo n trees = IsFirstOffOf n b trees None

    -- so many were found to be the book's; where none was looked at, nothing was done
    abbrev pub Begun : ℕ → Held S → Held S → Type 0
    Begun n old now = ((n ≡ 0) × (now ≡ old)) ⊎ Finds g Two (λ trees (m : ℕ). UpTo m trees) NoneSo old now (Ok n)

    abbrev Next : ℕ → Table → Trees → Option Table → Type 0
    Next n t trees found = UpTo n trees × IsOff b t trees found

    goes_on : (n : ℕ) (t : Table) (old mid new : Held S) (r : Result (Option Table) Stop) → Begun n old mid → Finds g Two (IsOff b t) NoneSo mid new r → Finds g Two (Next n t) NoneSo old new r
    goes_on n t old mid new r (inl first) it =
        find_as g Two (IsOff b t) (Next n t) NoneSo NoneSo old new r (λ trees found off. (λ u low. absurd (omega (arith, low, first.0)), off)) (λ trees none. none)
        (subst (λ (m : Held S). Finds g Two (IsOff b t) NoneSo m new r) first.1 it)
    goes_on n t old mid new r (inr so) it =
        find_as g Two (Next n t) (Next n t) (λ trees. UpTo n trees × NoneSo trees) NoneSo old new r (λ trees found both. both) (λ trees none. none.1)
        (then_more g Two (λ trees (m : ℕ). UpTo m trees) NoneSo (IsOff b t) NoneSo old mid new n r so it)

    module _ (n : ℕ) (t : Table) (place : place_of t ≡ n) (old mid new : Held S) (begun : Begun n old mid) where
      pub one_right : Finds g Two (IsOff b t) NoneSo mid new (Ok None) → Begun (n + 1) old new
      one_right it = inr (then_good g Two (Next n t) NoneSo (λ trees (m : ℕ). UpTo m trees) NoneSo old new None (goes_on n t old mid new (Ok None) begun it) (n + 1) (λ trees both.
          subst (λ (m : ℕ). (u : Table) → place_of u < m + 1 → IsSo u trees) place (up_to (λ u. IsSo u trees) t (subst (λ (m : ℕ). UpTo m trees) (sym place) both.0) both.1)))

      pub one_wrong : (k : ℕ) (u : Table) → Finds g Two (IsOff b t) NoneSo mid new (Ok (Some u)) → Finds g Two (IsFirstOffOf k b) NoneSo old new (Ok (Some u))
      one_wrong k u it = then_good g Two (Next n t) NoneSo (IsFirstOffOf k b) NoneSo old new (Some u) (goes_on n t old mid new (Ok (Some u)) begun it) (Some u) (λ trees both. (
        λ shows. both.1.1 (subst (λ v. IsSo v trees) both.1.0 shows),
        λ o low. both.0 o (subst (λ m. place_of o < m) (ap place_of both.1.0 ∙ place) low),
      ))

      pub one_failed : (k : ℕ) (stop : Stop) → Finds g Two (IsOff b t) NoneSo mid new (Err stop) → Finds g Two (IsFirstOffOf k b) NoneSo old new (Err stop)
      one_failed k stop it = fails g Two (Next n t) NoneSo (IsFirstOffOf k b) NoneSo old new stop (λ trees none. none) (goes_on n t old mid new (Err stop) begun it)

    pub all_right : (n : ℕ) (old new : Held S) → n ≢ 0 → Begun n old new → Finds g Two (IsFirstOffOf n b) NoneSo old new (Ok None)
    all_right n old new some (inl first) = absurd (some first.0)
    all_right n old new some (inr so) = then_good g Two (λ trees (m : ℕ). UpTo m trees) NoneSo (IsFirstOffOf n b) NoneSo old new n so None (λ trees all. all)

    -- ---- all of them
    module _ (counted moved : Bool) (old mid : Held S) where
      pub before_commands : (u : Table) → Finds g Two (IsFirstOffOf 8 b) NoneSo old mid (Ok (Some u)) → Finds g Two (IsFirstOff b counted moved) NoneSo old mid (Ok (Some u))
      before_commands u it = then_good g Two (IsFirstOffOf 8 b) NoneSo (IsFirstOff b counted moved) NoneSo old mid (Some u) it (Some u) (λ trees differs commands amounts. differs)

      pub before_failed : (stop : Stop) → Finds g Two (IsFirstOffOf 8 b) NoneSo old mid (Err stop) → Finds g Two (IsFirstOff b counted moved) NoneSo old mid (Err stop)
      before_failed stop it = fails g Two (IsFirstOffOf 8 b) NoneSo (IsFirstOff b counted moved) NoneSo old mid stop (λ trees none. none) it

      module _ (first : Finds g Two (IsFirstOffOf 8 b) NoneSo old mid (Ok None)) where
        pub commands_off : counted ≡ false → Finds g Two (IsFirstOff b counted moved) NoneSo old mid (Ok (Some Command))
        commands_off is = then_good g Two (IsFirstOffOf 8 b) NoneSo (IsFirstOff b counted moved) NoneSo old mid None first (Some Command) (λ trees all commands amounts. (
          λ shows. absurd (true≢false (sym (commands.1 shows) ∙ is)),
          all,
        ))

        pub moved_off : counted ≡ true → moved ≡ false → Finds g Two (IsFirstOff b counted moved) NoneSo old mid (Ok (Some Moved))
        moved_off so is = then_good g Two (IsFirstOffOf 8 b) NoneSo (IsFirstOff b counted moved) NoneSo old mid None first (Some Moved) (λ trees all commands amounts. (
          λ shows. absurd (true≢false (sym (amounts.1 shows) ∙ is)),
          up_to (λ u. IsSo u trees) Command all (commands.0 so),
        ))

        pub posted : counted ≡ true → moved ≡ true → (new : Held S) (r : Result (Option Table) Stop) → Finds g Two (IsOff b Posting) NoneSo mid new r → Finds g Two (IsFirstOff b counted moved) NoneSo old new r
        posted so is new r it =
            find_as g Two (Next 8 Posting) (IsFirstOff b counted moved) (λ trees. UpTo 8 trees × NoneSo trees) NoneSo old new r last (λ trees none. none.1)
            (then_more g Two (IsFirstOffOf 8 b) NoneSo (IsOff b Posting) NoneSo old mid new None r first it)
          where
            ten : (trees : Trees) → UpTo 8 trees → IsSo Command trees → IsSo Moved trees → (u : Table) → place_of u < 10 → IsSo u trees
            ten trees all commands amounts = up_to (λ u. IsSo u trees) Moved (up_to (λ u. IsSo u trees) Command all commands) amounts

            last : (trees : Trees) (found : Option Table) → Next 8 Posting trees found → IsFirstOff b counted moved trees found
            last trees None both commands amounts = λ u. up_to (λ v. IsSo v trees) Posting (ten trees both.0 (commands.0 so) (amounts.0 is)) both.1 u (one_of_eleven u)
            last trees (Some u) both commands amounts = (
              λ shows. both.1.1 (subst (λ v. IsSo v trees) both.1.0 shows),
              λ o low. ten trees both.0 (commands.0 so) (amounts.0 is) o (subst (λ v. place_of o < place_of v) both.1.0 low),
            )
