-- What was found of the tables once a book was led along their commands.
use Rattle.std.proofs.Common.{◌≡◌, ◌≢◌, inl, inr, Bool, true, false, true≢false, [], Option, Some, None, Result, Ok, Err, refl, sym, subst, ◌∙◌, IsTrue}
use Rattle.std.specs.Prelude.{◌↔◌}
use Rattle.sqlite_trees.specs.declared.store.Store.{Ghosts}
use Rattle.sqlite.specs.Tree.{Trees}
use Rattle.sqlite.specs.Held.{Held}
use Rattle.ob_base.specs.declared.stop.Stop.{Stop}
use Rattle.ob_base.specs.declared.stop.Stop.TheVariants.{Fault}
use Rattle.ob_base.specs.declared.stop.Fault.TheVariants.{Store}
use Rattle.ob_state.specs.State.{BookState}
use Rattle.ob_book.specs.Acts.{ActState}
use Rattle.ob_sql_rows.specs.Rows.{AreApart}
use Rattle.ob_sql_rows.specs.declared.table.Table.{Table}
use Rattle.ob_record.specs.Tables.{Shows, tables_of}
use Rattle.ob_sql_read.specs.Reading.{bad_book}
use Rattle.ob_sql_rows.specs.declared.version.Version.TheVariants.{Two}
use Rattle.ob_store.specs.Finding.{Finds, HasNoBook}
use Rattle.ob_store.specs.Differing.{IsFirstOff, NoneSo}
use Rattle.ob_store.specs.Leading.{IsLed}
use Rattle.ob_store.specs.Keeping.{IsBroken}
use Rattle.ob_store.specs.Loading.{Finding, Holding, HoldsNoBook}
use Rattle.ob_store.proofs.Reading.{fails, then_bad, then_fault, then_good, then_more}

-- no row numbers are told to be the same where there is no such table
abbrev pub Apart : Trees → Bool → Type 0
Apart trees is = IsTrue is ↔ AreApart (trees 14)

pub not_apart : (trees : Trees) (is : Bool) → is ≡ false → Apart trees is → IsBroken trees
not_apart trees is off so apart = true≢false (sym (so.1 apart) ∙ off)

-- a store that is broken is no other book
pub store_alone : Fault Store ≢ bad_book
store_alone bad = absurd cc

-- what is found of each book with a state is found of all of them
module _ {S : Type 0} (g : Ghosts S) {X : Type 0} (P : ActState → Trees → X → Type 0) (s : BookState) (old new : Held S) where
  abbrev bare : ActState
  bare = record { book = s; accepted = [] }

  abbrev pub Each : Trees → X → Type 0
  Each trees x = (b : ActState) → b.book ≡ s → P b trees x

  pub of_each : (r : Result X Stop) → ((b : ActState) → b.book ≡ s → Finds g Two (P b) NoneSo old new r) → Finds g Two Each NoneSo old new r
  of_each (Ok x) it = record {
    mode = (it bare refl).mode;
    clean = (it bare refl).clean;
    survives = (it bare refl).survives;
    kept = (it bare refl).kept;
    faults = tt;
    cause = λ clean schema. tt;
    same = (it bare refl).same;
    same_bad = λ clean. tt;
    good = λ clean schema b is. (it b is).good clean schema;
    bad = λ clean. tt;
  }
  of_each (Err stop) it = record {
    mode = (it bare refl).mode;
    clean = (it bare refl).clean;
    survives = (it bare refl).survives;
    kept = (it bare refl).kept;
    faults = (it bare refl).faults;
    cause = (it bare refl).cause;
    same = λ clean. tt;
    same_bad = (it bare refl).same_bad;
    good = λ clean. tt;
    bad = (it bare refl).bad;
  }

module _ {S : Type 0} (g : Ghosts S) {L : Type 0} (state_of : L → BookState) (counted_of moved_of : L → Bool) (l : L) (old mid new : Held S) (first : Finds g Two (λ trees x. IsLed trees (state_of x) (counted_of x) (moved_of x)) HasNoBook old mid (Ok l)) where
  abbrev Led : Trees → L → Type 0
  Led trees x = IsLed trees (state_of x) (counted_of x) (moved_of x)

  abbrev Off : Trees → Option Table → Type 0
  Off = Each g (λ b. IsFirstOff b (counted_of l) (moved_of l)) (state_of l) mid new

  abbrev Both : Trees → Option Table → Type 0
  Both trees found = Led trees l × Off trees found

  abbrev Neither : Trees → Type 0
  Neither trees = Led trees l × NoneSo trees

  abbrev Compared : Result (Option Table) Stop → Type 0
  Compared r = (b : ActState) → b.book ≡ state_of l → Finds g Two (IsFirstOff b (counted_of l) (moved_of l)) NoneSo mid new r

  both : (r : Result (Option Table) Stop) → Compared r → Finds g Two Both Neither old new r
  both r second = then_more g Two Led HasNoBook Off NoneSo old mid new l r first (of_each g (λ b. IsFirstOff b (counted_of l) (moved_of l)) (state_of l) mid new r second)

  abbrev finding : (trees : Trees) (found : Option Table) → Both trees found → Finding trees found
  finding trees found it = (it.0.book, it.0.is_book, it.0.only, it.1 it.0.book (sym it.0.state) it.0.counts it.0.moves)

  -- the first table that differs
  found_ok : (found : Option Table) → Compared (Ok found) → Finds g Two Finding HasNoBook old new (Ok found)
  found_ok found second = then_good g Two Both Neither Finding HasNoBook old new found (both (Ok found) second) found (λ trees it. finding trees found it)

  -- no table can be told to be no book's any more
  pub found_err : {Y : Type 0} (Good : Trees → Y → Type 0) (Bad : Trees → Type 0) (stop : Stop) → Compared (Err stop) → Finds g Two Good Bad old new (Err stop)
  found_err Good Bad stop second = fails g Two Both Neither Good Bad old new stop (λ trees none. absurd none.1) (both (Err stop) second)

  -- either of both
  pub found_so : (r : Result (Option Table) Stop) → Compared r → Finds g Two Finding HasNoBook old new r
  found_so (Ok found) second = found_ok found second
  found_so (Err stop) second = found_err Finding HasNoBook stop second

  -- a table differs from those of the one book that it could be
  pub found_off : {Y : Type 0} (Good : Trees → Y → Type 0) (table : Table) → Compared (Ok (Some table)) → Finds g Two Good HoldsNoBook old new (Err bad_book)
  found_off Good table second =
      then_bad g Two Both Neither Good HoldsNoBook old new (Some table) (both (Ok (Some table)) second)
      (λ trees it other has.
      let found = finding trees (Some table) it in
      found.3.0 (subst (λ (b : ActState). Shows trees table (tables_of b table)) (it.0.only other has.0) (has.1 table)))

  -- each table is the book's
  module _ (end : Held S) (second : Compared (Ok None)) where
    abbrev All : Trees → Bool → Type 0
    All trees is = Both trees None × Apart trees is

    abbrev Nothing : Trees → Type 0
    Nothing trees = Both trees None × NoneSo trees

    all : (r : Result Bool Stop) → Finds g Two Apart NoneSo new end r → Finds g Two All Nothing old end r
    all r third = then_more g Two Both Neither Apart NoneSo old new end None r (both (Ok None) second) third

    pub apart_err : {Y : Type 0} (Good : Trees → Y → Type 0) (Bad : Trees → Type 0) (stop : Stop) → Finds g Two Apart NoneSo new end (Err stop) → Finds g Two Good Bad old end (Err stop)
    apart_err Good Bad stop third = fails g Two All Nothing Good Bad old end stop (λ trees none. absurd none.1) (all (Err stop) third)

    pub broken : {Y : Type 0} (Good : Trees → Y → Type 0) (Bad : Trees → Type 0) (is : Bool) → is ≡ false → Finds g Two Apart NoneSo new end (Ok is) → Finds g Two Good Bad old end (Err (Fault Store))
    broken Good Bad is off third =
        then_fault g Two All Nothing Good Bad old end is (all (Ok is) third) (Fault Store) (inl (inr refl)) store_alone (λ store trees it. not_apart trees is off it.1)

    pub loads : {B : Type 0} (book_of : B → BookState) (book : B) → book_of book ≡ state_of l → (is : Bool) → is ≡ true → Finds g Two Apart NoneSo new end (Ok is) → Finds g Two (λ trees b. Holding trees (book_of b)) HoldsNoBook old end (Ok book)
    loads book_of book same is so third =
        then_good g Two All Nothing (λ trees b. Holding trees (book_of b)) HoldsNoBook old end is (all (Ok is) third) book
        (λ trees it. let found = finding trees None it.0 in (found.0, (found.1, found.3), it.0.0.only, it.1.0 so, same ∙ it.0.0.state))
