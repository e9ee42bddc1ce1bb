-- What is loaded from what a crash left.
use Rattle.std.proofs.Common.{◌≡◌, ◌⊎◌, inl, inr, ℕ, List, [], ◌∷◌, None, Result, Ok, Err, IsTrue, refl, sym, ap, subst, ◌∙◌, arith}
use Rattle.std.specs.Prelude.{⊤}
use Rattle.std.specs.List.{AllByRecursion}
use Rattle.std.proofs.lemmas.Bool.{cases_Bool}
use Rattle.sqlite_trees.specs.declared.store.Store.{Ghosts}
use Rattle.sqlite.specs.Tree.{Trees}
use Rattle.sqlite.specs.Order.{column}
use Rattle.sqlite.specs.Schema.{Schema}
use Rattle.sqlite.proofs.Callers.{one_permutation}
use Rattle.std.proofs.lemmas.List.Sorted.{IsPermutation-sym, IsPermutation-trans}
use Rattle.ob_time.specs.Calendar.{day_count}
use Rattle.ob_time.specs.Dates.{day_text}
use Rattle.ob_sql_rows.specs.Rows.{Columns, meta_row, number}
use Rattle.ob_sql_read.specs.Version.{HasVersion}
use Rattle.ob_store.proofs.Counting.{rows_counted}
use Rattle.sqlite.specs.Effect.{Database}
use Rattle.sqlite.specs.Held.{Held, state}
use Rattle.sqlite.specs.State.{State, HasCleanDisk, IsLive, Opens}
use Rattle.sqlite_catalog.specs.Listing.{IsSound}
use Rattle.sqlite_catalog.proofs.ReadLemmas.{read_once, reads}
use Rattle.ob_base.specs.declared.stop.Stop.{Stop}
use Rattle.ob_base.specs.declared.stop.Stop.TheVariants.{Refused, Fault}
use Rattle.ob_base.specs.declared.stop.Refusal.{Refusal}
use Rattle.ob_base.specs.declared.stop.Refusal.TheVariants.{BadField, UnknownName, NameTaken, OutOfPeriod, UnknownEntry, Stale, Withdrawn, UnknownCustomer, BadService, RefConflict, Full, MarkedAlready, NotMarked, UnknownCause, BadPeriod, BadBook, BadLife, OldVersion}
use Rattle.ob_book.specs.Acts.{ActState}
use Rattle.ob_sql_rows.specs.Schema.{book_schema}
use Rattle.ob_sql_rows.specs.declared.table.Table.TheVariants.{Meta, Command}
use Rattle.ob_sql_rows.specs.Steps.{HasFaultCause}
use Rattle.ob_sql_rows.specs.declared.version.Version.{Version}
use Rattle.ob_sql_rows.specs.declared.version.Version.TheVariants.{One, Two}
use Rattle.ob_sql_rows.specs.Rules.{AreNumbered}
use Rattle.ob_sql_write.specs.Keeps.{KeepsNumbers, Leaves}
use Rattle.ob_record.specs.Naming.{IsReferenced}
use Rattle.ob_record.specs.Reached.{IsReached, ReachedAreFew}
use Rattle.ob_record.specs.Tables.{tables_of}
use Rattle.ob_store.specs.Keeping.{KeeperValue, KeepsBook, KeepsEitherBook}
use Rattle.ob_store.specs.Finding.{Differs, IsBookOf}
use Rattle.ob_store.specs.Loading.{HoldsNoBook, Loaded, trees_in}
use Rattle.ob_sql_check.specs.Laws.{OldIsReached}
use Rattle.ob_store.specs.Books.{IsReachedIn}
use Rattle.ob_store.specs.Crashing.{CrashLaw, HasLoaded, LeftLaw, LoadLaw, Loads, OpensAfterCrash, Restores}

-- the catalog of a database lists one schema
pub one_schema : (s t : Schema) (trees : Trees) → IsSound s trees → IsSound t trees → s ≡ t
one_schema s t trees one other =
    let it = reads _ s one.lists in
    read_once _ s t it.tables it.indexes it.views (reads _ t other.lists)

-- the tables that a crash left are those of this book
pub book_left : ReachedAreFew → (trees : Trees) (b : ActState) → IsReached b → AllByRecursion IsReferenced b.accepted → Differs trees b None → IsBookOf trees b
book_left few trees b reached valid rows = record {
  reached = reached;
  valid = valid;
  few = few b reached;
  period = (number 1, number 2, rows Meta);
  commands = rows_counted Two b.accepted (rows Command);
}

-- a heading of version 2 is of no other
not_two : (row : Columns) (first_day : List ℕ) (days : ℕ) (zone : List ℕ) → meta_row 2 first_day days zone ∷ [] ≡ row ∷ [] → column row 1 ≡ number 1 → ⊥
not_two row first_day days zone same one =
    let is : meta_row 2 first_day days zone ≡ row = cc in
    let two : number 2 ≡ number 1 = ap (λ r. column r 1) is ∙ one in
    absurd (let n : ◌≡◌ {A = ℕ} 2 1 = cc in omega (arith, n))

module _ {R : Type 0} (h : Ghosts R) (keeper new : KeeperValue R) (Is : ActState → Type 0) (b : ActState) (is : Is b) (of : IsBookOf (trees_in h keeper.conn) b)
    (rows : Differs (trees_in h keeper.conn) b None) where
  not_none : HoldsNoBook (trees_in h keeper.conn) → ⊥
  not_none none = none b (of, rows)

  -- nor are they of version 1
  not_outdated : HasVersion 1 (trees_in h keeper.conn) → ⊥
  not_outdated has =
      let same = one_permutation _ _ (IsPermutation-trans _ _ _ (IsPermutation-sym _ _ has.1) (rows Meta)) in
      not_two (has.0) (day_text b.book.period.first_day) (day_count b.book.period) b.book.period.zone same has.2

  -- no refusal but those of another book's tables and of another version is told, and this one's are there
  not_refused : (r : Refusal) → Loaded h keeper new (Err (Refused r)) → ⊥
  not_refused (BadField at) loaded = loaded
  not_refused UnknownName loaded = loaded
  not_refused NameTaken loaded = loaded
  not_refused OutOfPeriod loaded = loaded
  not_refused UnknownEntry loaded = loaded
  not_refused (Stale revision) loaded = loaded
  not_refused Withdrawn loaded = loaded
  not_refused UnknownCustomer loaded = loaded
  not_refused BadService loaded = loaded
  not_refused (RefConflict id) loaded = loaded
  not_refused (Full most) loaded = loaded
  not_refused MarkedAlready loaded = loaded
  not_refused NotMarked loaded = loaded
  not_refused UnknownCause loaded = loaded
  not_refused BadPeriod loaded = loaded
  not_refused BadBook loaded = not_none loaded.1
  not_refused BadLife loaded = loaded
  not_refused (OldVersion version) loaded = not_outdated loaded.1.0

  -- a load finds this book, since the tables are of no other
  has_loaded : (r : Result ⊤ Stop) → Loaded h keeper new r → HasLoaded h Is new r
  has_loaded (Ok done) loaded = (loaded.0, subst Is (loaded.2 b of) is, loaded.4, loaded.5)
  has_loaded (Err (Refused r)) loaded = not_refused r loaded
  has_loaded (Err (Fault fault)) loaded = tt

-- a connection that was just opened shows the tables of the book
module _ {R : Type 0} (h : Ghosts R) (few : ReachedAreFew) (keeper : KeeperValue R) (opens : Opens (state h keeper.conn)) (live : IsLive (state h keeper.conn)) where
  pub restored : (Is : ActState → Type 0) (b : ActState) → Is b → IsReached b → AllByRecursion IsReferenced b.accepted → Leaves (tables_of b) (trees_in h keeper.conn) → Restores h keeper Is
  restored Is b is reached valid leaves = record {
    schema = one_schema keeper.conn.schema book_schema (trees_in h keeper.conn) (live opens.is_open).0 leaves.sound;
    loads = λ new r loaded. has_loaded h keeper new Is b is (book_left few (trees_in h keeper.conn) b reached valid leaves.holds.rows) leaves.holds.rows r loaded;
  }

-- what either version accepted is reached
reached_now : OldIsReached → (v : Version) (b : ActState) → IsReachedIn v b → IsReached b
reached_now old One b reached = (old b reached).0
reached_now old Two b reached = reached

pub left_law : {R : Type 0} (h : Ghosts R) → ReachedAreFew → OldIsReached → LeftLaw h
left_law h few old keeper v b opens live leaves reached valid = restored h few keeper opens live (λ x. x ≡ b) b refl (reached_now old v b reached) valid leaves

module _ {S R : Type 0} (g : Ghosts S) (h : Ghosts R) (few : ReachedAreFew) (was : Held S) (keeper : KeeperValue R) (opens : OpensAfterCrash g h was keeper.conn) where
  kept : (b : ActState) → KeepsBook (state g was) b → Restores h keeper (λ x. x ≡ b)
  kept b keeps =
      restored h few keeper opens.opens opens.live (λ x. x ≡ b) b refl keeps.reached keeps.valid (keeps.kept.left opens.clean (trees_in h keeper.conn) opens.left)

  either : (b c : ActState) → KeepsEitherBook (state g was) b c → Restores h keeper (λ x. (x ≡ b) ⊎ (x ≡ c))
  either b c keeps = elim (keeps.kept.left opens.clean (trees_in h keeper.conn) opens.left) [
    | inl first ↦ restored h few keeper opens.opens opens.live (λ x. (x ≡ b) ⊎ (x ≡ c)) b (inl refl) keeps.reached keeps.valid first
    | inr other ↦ restored h few keeper opens.opens opens.live (λ x. (x ≡ b) ⊎ (x ≡ c)) c (inr refl) keeps.other_reached keeps.other_valid other
  ]

  -- what was just opened shows what a crash leaves of it
  numbers : (IsTrue (state h keeper.conn).is_open → (trees : Trees) → (state h keeper.conn).may_leave trees → trees ≡ (state h keeper.conn).committed.trees) → KeepsNumbers (state g was) → KeepsNumbers (state h keeper.conn)
  numbers settled left clean trees may =
      let is : trees ≡ trees_in h keeper.conn = settled opens.opens.is_open trees may ∙ ap (λ (d : Database). d.trees) (sym opens.opens.clean) in
      subst AreNumbered (sym is) (left opens.clean (trees_in h keeper.conn) opens.left)

-- what a crash leaves of an open connection is what was committed
abbrev pub IsSettledLaw : {R : Type 0} → Ghosts R → Type 0
IsSettledLaw {R} h = (conn : Held R) → IsTrue (state h conn).is_open → (trees : Trees) → (state h conn).may_leave trees → trees ≡ (state h conn).committed.trees

pub crash_law : {S R : Type 0} (g : Ghosts S) (h : Ghosts R) → ReachedAreFew → IsSettledLaw h → CrashLaw g h
crash_law g h few settled was keeper opens = (kept g h few was keeper opens, either g h few was keeper opens, numbers g h few was keeper opens (settled keeper.conn))

-- a load on the keeper itself
module _ {S : Type 0} (g : Ghosts S) (few : ReachedAreFew) (old new : KeeperValue S) (clean : HasCleanDisk (state g new.conn)) (b c : ActState) (keeps : KeepsEitherBook (state g old.conn) b c) where
  loaded_open : (r : Result ⊤ Stop) → Loads g old new r → IsTrue (state g old.conn).is_open → HasLoaded g (λ x. x ≡ b) new r
  loaded_open r loads opened =
      let it = keeps.kept.settled (loads.clean clean) opened in
      has_loaded g old new (λ x. x ≡ b) b refl (book_left few (trees_in g old.conn) b keeps.reached keeps.valid it.holds.rows) it.holds.rows r (loads.loaded clean it.schema)

  loaded_first : (r : Result ⊤ Stop) → Loads g old new r → HasLoaded g (λ x. x ≡ b) new r
  loaded_first (Ok done) loads = loaded_open (Ok done) loads (loads.answers.live clean tt)
  loaded_first (Err (Refused refusal)) loads = loaded_open (Err (Refused refusal)) loads (loads.answers.live clean tt)
  loaded_first (Err (Fault fault)) loads = tt

  -- the file of a store that keeps a book isn't broken
  loaded_cause : (r : Result ⊤ Stop) → Loads g old new r → HasFaultCause (state g old.conn) (state g new.conn) r
  loaded_cause (Ok done) loads = tt
  loaded_cause (Err stop) loads = λ store. elim (cases_Bool (state g old.conn).is_open) [
    | inl opened ↦
        let it = keeps.kept.settled (loads.clean clean) opened in
        elim (loads.answers.cause clean Two it.schema store) [
          | inl failed ↦ failed
          | inr broken ↦ absurd (broken it.holds.apart)
        ]
    | inr shut ↦ inr (inl shut)
  ]

-- a book is the first of two that are the same
as_either : (s : State) (b : ActState) → KeepsBook s b → KeepsEitherBook s b b
as_either s b keeps = record {
  kept = record { settled = keeps.kept.settled; left = λ clean trees may. inl (keeps.kept.left clean trees may) };
  reached = keeps.reached;
  other_reached = keeps.reached;
  valid = keeps.valid;
  other_valid = keeps.valid;
}

pub load_law : {S : Type 0} (g : Ghosts S) → ReachedAreFew → LoadLaw g
load_law g few old new r loads clean = (
  λ b keeps. loaded_first g few old new clean b b (as_either (state g old.conn) b keeps) r loads,
  λ b c keeps. loaded_first g few old new clean b c keeps r loads,
  λ b keeps. loaded_cause g few old new clean b b (as_either (state g old.conn) b keeps) r loads,
  λ b c keeps. loaded_cause g few old new clean b c keeps r loads,
)
