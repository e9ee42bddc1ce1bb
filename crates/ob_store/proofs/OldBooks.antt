-- The book of version 1 that the tables hold, and what makes it one of version 2.
use Rattle.std.proofs.Common.{◌≡◌, ◌≢◌, inr, ℕ, true, false, true≢false, List, [], ◌∷◌, length, map, Option, is_some, Result, Ok, Err, refl, sym, ap, subst, ◌∙◌}
use Rattle.std.specs.Prelude.{⊤, IfOk, IfErr}
use Rattle.std.specs.List.{AllByRecursion}
use Rattle.std.specs.List.Sorted.{IsPermutation}
use Rattle.std.proofs.lemmas.List.Sorted.{IsPermutation-refl}
use Rattle.sqlite_trees.specs.declared.store.Store.{Ghosts}
use Rattle.sqlite.specs.Tree.{Trees}
use Rattle.sqlite.specs.Held.{Held}
use Rattle.ob_base.specs.Stop.{out_of_memory}
use Rattle.ob_base.specs.declared.stop.Stop.{Stop}
use Rattle.ob_state.specs.State.{BookState}
use Rattle.ob_book.specs.Acts.{ActState, Referenced}
use Rattle.ob_sql_rows.specs.Rows.{number, shown, tree_of}
use Rattle.ob_sql_rows.specs.Versions.{Has}
use Rattle.ob_sql_rows.specs.declared.table.Table.{Table}
use Rattle.ob_sql_rows.specs.declared.table.Table.TheVariants.{Meta, Cause, Node, Device, Life, Customer, Entry, Mark, Command, Moved, Posting}
use Rattle.ob_sql_rows.specs.declared.version.Version.TheVariants.{One}
use Rattle.ob_sql_write.specs.Upgrade.{CanUpgrade, LetsUpgrade, with_upgrade}
use Rattle.ob_record.specs.Naming.{IsReferenced}
use Rattle.ob_record.specs.Tables.{Shows, moved_rows, tables_of}
use Rattle.ob_sql_read.specs.Distinct.{AreDistinct}
use Rattle.ob_sql_read.specs.Listing.{filed_of}
use Rattle.ob_sql_read.specs.Reading.{bad_book, command_rows}
use Rattle.ob_sql_read.specs.Version.{HasVersion}
use Rattle.ob_sql_read.specs.Versioned.{IsReferencedIn}
use Rattle.ob_sql_check.specs.Laws.{IsOldCommand, LetsUpgraded as LetsLaw, OldIsReached, TablesAreAlike, Upgraded as UpgradedLaw}
use Rattle.ob_sql_check.specs.OldTables.{HasOldBook, IsOldReached, new_texts, old_tables_of, texts_of}
use Rattle.ob_sql_check.specs.Parts.{parts_in}
use Rattle.ob_store.specs.declared.migrating.Upgrade.{Upgrade}
use Rattle.ob_store.specs.declared.named.Named.{Named}
use Rattle.ob_store.specs.Finding.{Finds, HasNoBookIn, IsBookIn, IsNamed}
use Rattle.ob_store.specs.Leading.{HasNoPeriodOf, IsLedBy, IsLedIn, MovesAre}
use Rattle.ob_store.specs.Migrating.{HoldsNoOldBook}
use Rattle.ob_store.specs.Upgrading.{HasOldParts, HasOldRows, IsOldPart, IsUpgradeOf, Upgradable, bare}
use Rattle.ob_store.proofs.Counting.{rows_counted}
use Rattle.ob_store.specs.Laws.{Laws}
use Rattle.ob_store.proofs.Leading.{commands_are, is_led, led_is, moved_is, no_period, twice}
use Rattle.ob_store.proofs.Failing.{no_store}
use Rattle.ob_store.proofs.Reading.{fails, read_fault, then_bad, then_fault, then_good, then_more}

-- ---- a book of version 1 that trees hold is one that they name
valid_old : (list : List Referenced) → AllByRecursion IsReferenced list → AllByRecursion IsOldCommand list → AllByRecursion (IsReferencedIn One) list
valid_old [] valid old = tt
valid_old (a ∷ list) valid old = ((valid.0, old.0), valid_old list valid.1 old.1)

pub as_book : Laws One → OldIsReached → (trees : Trees) (b : ActState) → HasOldBook trees b → IsBookIn One trees b
as_book laws old trees b has = record {
  reached = has.reached;
  valid = valid_old b.accepted has.valid (old b has.reached).1;
  few = laws.few b has.reached;
  period = (number 1, number 1, has.tables Meta tt);
  commands = rows_counted One b.accepted (has.tables Command tt);
}

-- and the heading tells version 1
pub has_one : (trees : Trees) (b : ActState) → HasOldBook trees b → HasVersion 1 trees
has_one trees b has = (_, has.tables Meta tt, refl)

-- where the heading and the commands are those of no book of version 1, so are the tables
pub names_none : Laws One → OldIsReached → (trees : Trees) → HasNoBookIn One trees → HoldsNoOldBook trees
names_none laws old trees none b has = none b (as_book laws old trees b has)

-- ---- led along its commands
module _ (laws : Laws One) (old : OldIsReached) (trees : Trees) (it : Named) (named : IsNamed One trees it) where
  pub uncounted : it.counted ≡ false → HoldsNoOldBook trees
  uncounted off b has =
      let same : b.accepted ≡ filed_of it.commands.items = commands_are One laws trees it named b (as_book laws old trees b has) in
      let shows : Shows trees Command (command_rows One (filed_of it.commands.items)) =
      subst (λ (l : List Referenced). Shows trees Command (command_rows One l)) same (has.tables Command tt) in
      true≢false (sym (named.counts.1 shows) ∙ off)

  pub twice_old : ¬ (AreDistinct (filed_of it.commands.items)) → HoldsNoOldBook trees
  twice_old same = names_none laws old trees (twice One laws trees it named same)

  pub no_period_old : HasNoPeriodOf it.heading → HoldsNoOldBook trees
  no_period_old none = names_none laws old trees (no_period One laws trees it named none)

  pub unmoved : MovesAre One it trees false → HoldsNoOldBook trees
  unmoved at b has =
      let of = as_book laws old trees b has in
      let rows = map (shown Moved) (trees (tree_of Moved)) in
      let here = at.2 rows (IsPermutation-refl rows) in
      let moved : IsPermutation rows (moved_rows at.0 1 (filed_of it.commands.items)) = subst (IsPermutation rows) (sym (moved_is One laws trees it named b of at.0 at.1)) (has.tables Moved tt) in
      true≢false (sym (here.1 (b.book, led_is One laws trees it named b of at.0 at.1, moved)))

memory_alone : (stop : Stop) → stop ≡ out_of_memory → stop ≢ bad_book
memory_alone stop memory bad = absurd (let e : out_of_memory ≡ bad_book = sym memory ∙ bad in cc)

module _ {S : Type 0} (g : Ghosts S) (laws : Laws One) (old_law : OldIsReached) (it : Named) where
  module _ {L : Type 0} (state_of : L → BookState) (old mid : Held S) (first : Finds g One (IsNamed One) HoldsNoOldBook old mid (Ok it)) where
    abbrev Good : Trees → L → Type 0
    Good trees l = IsNamed One trees it × IsLedIn One trees (state_of l) true true

    abbrev Follows : Trees → Option L → Type 0
    Follows trees found = MovesAre One it trees (is_some found)

    abbrev Lost : Trees → Type 0
    Lost trees = HasNoPeriodOf it.heading

    abbrev Both : Trees → Option L → Type 0
    Both trees found = IsNamed One trees it × Follows trees found

    abbrev Neither : Trees → Type 0
    Neither trees = IsNamed One trees it × Lost trees

    pub lead_uncounted : it.counted ≡ false → Finds g One Good HoldsNoOldBook old mid (Err bad_book)
    lead_uncounted off = then_bad g One (IsNamed One) HoldsNoOldBook Good HoldsNoOldBook old mid it first (λ trees named. uncounted laws old_law trees it named off)

    pub lead_twice : ¬ (AreDistinct (filed_of it.commands.items)) → Finds g One Good HoldsNoOldBook old mid (Err bad_book)
    lead_twice same = then_bad g One (IsNamed One) HoldsNoOldBook Good HoldsNoOldBook old mid it first (λ trees named. twice_old laws old_law trees it named same)

    pub lead_no_memory : (stop : Stop) → stop ≡ out_of_memory → Finds g One Good HoldsNoOldBook old mid (Err stop)
    lead_no_memory stop memory = then_fault g One (IsNamed One) HoldsNoOldBook Good HoldsNoOldBook old mid it first stop (read_fault stop (inr memory)) (memory_alone stop memory) (no_store stop (inr memory))

    module _ (new : Held S) where
      both : (r : Result (Option L) Stop) → Finds g One Follows Lost mid new r → Finds g One Both Neither old new r
      both r second = then_more g One (IsNamed One) HoldsNoOldBook Follows Lost old mid new it r first second

      pub lead_fails : (stop : Stop) → Finds g One Follows Lost mid new (Err stop) → Finds g One Good HoldsNoOldBook old new (Err stop)
      lead_fails stop second = fails g One Both Neither Good HoldsNoOldBook old new stop (λ trees none. no_period_old laws old_law trees it none.0 none.1) (both (Err stop) second)

      pub lead_off : (found : Option L) → is_some found ≡ false → Finds g One Follows Lost mid new (Ok found) → Finds g One Good HoldsNoOldBook old new (Err bad_book)
      lead_off found off second =
          then_bad g One Both Neither Good HoldsNoOldBook old new found (both (Ok found) second) (λ trees so. unmoved laws old_law trees it so.0 (subst (MovesAre One it trees) off so.1))

      pub lead_at : (found : Option L) → is_some found ≡ true → Finds g One Follows Lost mid new (Ok found) → AreDistinct (filed_of it.commands.items) → it.counted ≡ true → (l : L) → IsLedBy One it (state_of l)
          → Finds g One Good HoldsNoOldBook old new (Ok l)
      lead_at found is second distinct counted l by =
          then_good g One Both Neither Good HoldsNoOldBook old new found (both (Ok found) second) l
          (λ trees so. (so.0, is_led One laws trees it so.0 distinct (state_of l) by true (sym counted) true (subst (MovesAre One it trees) is so.1)))

  -- ---- and its other tables
  module _ (alike : TablesAreAlike) (s : BookState) where
    abbrev Led : Trees → Type 0
    Led trees = IsNamed One trees it × IsLedIn One trees s true true

    -- the rows of a table that was compared
    part_is : (b : ActState) → IsOldReached b → s ≡ b.book → (table : Table) → IsOldPart table → parts_in One (bare s) table ≡ old_tables_of b table
    part_is b reached is Meta part = ap (λ (x : BookState). parts_in One (bare x) Meta) is
    part_is b reached is Cause part = ap (λ (x : BookState). parts_in One (bare x) Cause) is
    part_is b reached is Node part = ap (λ (x : BookState). parts_in One (bare x) Node) is
    part_is b reached is Device part = ap (λ (x : BookState). parts_in One (bare x) Device) is
    part_is b reached is Life part = absurd part
    part_is b reached is Customer part = ap (λ (x : BookState). parts_in One (bare x) Customer) is
    part_is b reached is Entry part = ap (λ (x : BookState). parts_in One (bare x) Entry) is
    part_is b reached is Mark part = ap (λ (x : BookState). parts_in One (bare x) Mark) is
    part_is b reached is Command part = absurd part
    part_is b reached is Moved part = absurd part
    part_is b reached is Posting part = ap (λ (x : BookState). parts_in One (bare x) Posting) is ∙ sym (alike b reached Posting tt)

    module _ (trees : Trees) (led : Led trees) where
      abbrev b : ActState
      b = led.1.book

      shows_part : HasOldRows trees s → (table : Table) → IsOldPart table → Shows trees table (old_tables_of b table)
      shows_part rows table part = subst (λ r. Shows trees table r) (part_is b led.1.is_book.reached led.1.state table part) (rows table part)

      shows : HasOldRows trees s → (table : Table) → Has One table → Shows trees table (old_tables_of b table)
      shows rows Meta has = shows_part rows Meta tt
      shows rows Cause has = shows_part rows Cause tt
      shows rows Node has = shows_part rows Node tt
      shows rows Device has = shows_part rows Device tt
      shows rows Life has = absurd has
      shows rows Customer has = shows_part rows Customer tt
      shows rows Entry has = shows_part rows Entry tt
      shows rows Mark has = shows_part rows Mark tt
      shows rows Command has = led.1.counts.0 refl
      shows rows Moved has = led.1.moves.0 refl
      shows rows Posting has = shows_part rows Posting tt

      valid_now : (list : List Referenced) → AllByRecursion (IsReferencedIn One) list → AllByRecursion IsReferenced list
      valid_now [] valid = tt
      valid_now (a ∷ list) valid = (valid.0.0, valid_now list valid.1)

      has_book : HasOldRows trees s → HasOldBook trees b
      has_book rows = record { reached = led.1.is_book.reached; valid = valid_now b.accepted led.1.is_book.valid; tables = shows rows }

      only_one : (other : ActState) → HasOldBook trees other → other ≡ b
      only_one other has = led.1.only other (as_book laws old_law trees other has)

      -- a table differs from those of the one book that it could be
      pub other_rows : ¬ (HasOldRows trees s) → HoldsNoOldBook trees
      other_rows off other has =
          let same = only_one other has in
          let here : HasOldBook trees b = subst (HasOldBook trees) same has in
          off (λ table part. subst (λ r. Shows trees table r) (sym (part_is b led.1.is_book.reached led.1.state table part)) (here.tables table (had table part)))
        where
          had : (table : Table) → IsOldPart table → Has One table
          had Meta part = tt
          had Cause part = tt
          had Node part = tt
          had Device part = tt
          had Life part = part
          had Customer part = tt
          had Entry part = tt
          had Mark part = tt
          had Command part = tt
          had Moved part = tt
          had Posting part = tt

      -- each table is the book's, and this makes it one of version 2
      pub upgradable : UpgradedLaw → LetsLaw → HasOldParts trees s → (up : Upgrade) → texts_of up.bodies.items ≡ new_texts 1 (filed_of it.commands.items) → up.devices ≡ length s.network.devices → Upgradable trees up
      upgradable law allows parts up texts devices =
          let same : b.accepted ≡ filed_of it.commands.items = commands_are One laws trees it led.0 b led.1.is_book in
          let count : length b.book.network.devices ≡ up.devices = ap (λ (x : BookState). length x.network.devices) (sym led.1.state) ∙ sym devices in
          let new : texts_of up.bodies.items ≡ new_texts 1 b.accepted = texts ∙ ap (new_texts 1) (sym same) in
          let becomes = law b up.bodies.items led.1.is_book.reached new in
          let allowed = allows b up.bodies.items led.1.is_book.reached (valid_now b.accepted led.1.is_book.valid) new in
          let makes : IsUpgradeOf b up = record {
            can = subst (λ (n : ℕ). CanUpgrade up.bodies.items n (old_tables_of b)) count becomes.0;
            lets = subst (λ (n : ℕ). LetsUpgrade up.bodies.items n (old_tables_of b)) count allowed;
            rows = λ table. subst (λ (n : ℕ). IsPermutation (with_upgrade up.bodies.items n (old_tables_of b) table) (tables_of b table)) count (becomes.1 table);
          } in
          (b, (has_book parts.0, only_one), parts.1, makes)

    module _ {L : Type 0} (state_of : L → BookState) (l : L) (state_is : state_of l ≡ s) (old mid new : Held S) (first : Finds g One (λ trees x. IsNamed One trees it × IsLedIn One trees (state_of x) true true) HoldsNoOldBook old mid (Ok l)) where
      abbrev Parts : Trees → ⊤ → Type 0
      Parts trees done = HasOldParts trees s

      abbrev Off : Trees → Type 0
      Off trees = ¬ (HasOldRows trees s)

      abbrev First : Trees → L → Type 0
      First trees x = IsNamed One trees it × IsLedIn One trees (state_of x) true true

      abbrev LedParts : Trees → ⊤ → Type 0
      LedParts trees done = First trees l × HasOldParts trees s

      abbrev LedOff : Trees → Type 0
      LedOff trees = First trees l × Off trees

      as_led : (trees : Trees) → First trees l → Led trees
      as_led trees so = (so.0, subst (λ (x : BookState). IsLedIn One trees x true true) state_is so.1)

      checked : (r : Result ⊤ Stop) → Finds g One Parts Off mid new r → Finds g One LedParts LedOff old new r
      checked r second = then_more g One First HoldsNoOldBook Parts Off old mid new l r first second

      pub check_fails : (stop : Stop) → Finds g One Parts Off mid new (Err stop) → Finds g One Upgradable HoldsNoOldBook old new (Err stop)
      check_fails stop second = fails g One LedParts LedOff Upgradable HoldsNoOldBook old new stop (λ trees none. other_rows trees (as_led trees none.0) none.1) (checked (Err stop) second)

      bodies_fail : Finds g One Parts Off mid new (Ok tt) → (stop : Stop) → stop ≡ out_of_memory → Finds g One Upgradable HoldsNoOldBook old new (Err stop)
      bodies_fail second stop memory = then_fault g One LedParts LedOff Upgradable HoldsNoOldBook old new tt (checked (Ok tt) second) stop (read_fault stop (inr memory)) (memory_alone stop memory) (no_store stop (inr memory))

      found_old : UpgradedLaw → LetsLaw → Finds g One Parts Off mid new (Ok tt) → (up : Upgrade) → texts_of up.bodies.items ≡ new_texts 1 (filed_of it.commands.items) → up.devices ≡ length s.network.devices
          → Finds g One Upgradable HoldsNoOldBook old new (Ok up)
      found_old law allows second up texts devices =
          then_good g One LedParts LedOff Upgradable HoldsNoOldBook old new tt (checked (Ok tt) second) up (λ trees so. upgradable trees (as_led trees so.0) law allows so.1 up texts devices)

      pub found_or : UpgradedLaw → LetsLaw → Finds g One Parts Off mid new (Ok tt) → (r : Result Upgrade Stop) → IfOk r (λ up. texts_of up.bodies.items ≡ new_texts 1 (filed_of it.commands.items)) → IfOk r (λ up. up.devices ≡ length s.network.devices)
          → IfErr r (λ stop. stop ≡ out_of_memory) → Finds g One Upgradable HoldsNoOldBook old new r
      found_or law allows second (Ok up) texts devices fault = found_old law allows second up texts devices
      found_or law allows second (Err stop) texts devices fault = bodies_fail second stop fault
