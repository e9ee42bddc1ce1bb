-- A book that was led along the commands, or none, once these were read.
use Rattle.std.proofs.Common.{◌≡◌, ◌≢◌, ◌⊎◌, inl, inr, Bool, Option, Result, Ok, Err, is_some, sym, subst, ◌∙◌}
use Rattle.sqlite_trees.specs.declared.store.Store.{Ghosts}
use Rattle.sqlite.specs.Tree.{Trees}
use Rattle.sqlite.specs.Held.{Held}
use Rattle.ob_base.specs.Stop.{out_of_memory}
use Rattle.ob_base.specs.declared.stop.Stop.{Stop}
use Rattle.ob_state.specs.State.{BookState}
use Rattle.ob_sql_rows.specs.declared.version.Version.TheVariants.{Two}
use Rattle.ob_sql_read.specs.Listing.{filed_of}
use Rattle.ob_sql_read.specs.Distinct.{AreDistinct}
use Rattle.ob_sql_read.specs.Reading.{bad_book}
use Rattle.ob_store.specs.declared.named.Named.{Named}
use Rattle.ob_store.specs.Finding.{Finds, HasNoBook, IsNamed}
use Rattle.ob_store.specs.Leading.{HasNoPeriodOf, IsLed, IsLedBy, LeadsNowhere, MovesAre}
use Rattle.ob_store.specs.Laws.{Laws}
use Rattle.ob_store.proofs.Failing.{no_store}
use Rattle.ob_store.proofs.Reading.{fails, read_fault, then_bad, then_fault, then_good, then_more}
use Rattle.ob_store.proofs.Leading.{is_led, no_period, nowhere, twice}

memory_alone : (stop : Stop) → stop ≡ out_of_memory → stop ≢ bad_book
memory_alone stop memory bad = absurd (let e : out_of_memory ≡ bad_book = sym memory ∙ bad in cc)

module _ {S : Type 0} (g : Ghosts S) {L : Type 0} (state_of : L → BookState) (counted_of moved_of : L → Bool) (it : Named) (old mid : Held S) (first : Finds g Two (IsNamed Two) HasNoBook old mid (Ok it)) (laws : Laws Two) where
  abbrev Good : Trees → L → Type 0
  Good trees l = IsLed trees (state_of l) (counted_of l) (moved_of l)

  abbrev Follows : Trees → Option L → Type 0
  Follows trees found = MovesAre Two it trees (is_some found)

  abbrev Lost : Trees → Type 0
  Lost trees = HasNoPeriodOf it.heading

  abbrev Both : Trees → Option L → Type 0
  Both trees found = IsNamed Two trees it × Follows trees found

  abbrev Neither : Trees → Type 0
  Neither trees = IsNamed Two trees it × Lost trees

  -- a reference stands twice
  pub led_twice : ¬ (AreDistinct (filed_of it.commands.items)) → Finds g Two Good HasNoBook old mid (Err bad_book)
  led_twice same = then_bad g Two (IsNamed Two) HasNoBook Good HasNoBook old mid it first (λ trees named. twice Two laws trees it named same)

  -- memory was refused
  pub led_no_memory : (stop : Stop) → stop ≡ out_of_memory → Finds g Two Good HasNoBook old mid (Err stop)
  led_no_memory stop memory = then_fault g Two (IsNamed Two) HasNoBook Good HasNoBook old mid it first stop (read_fault stop (inr memory)) (memory_alone stop memory) (no_store stop (inr memory))

  module _ (new : Held S) where
    both : (r : Result (Option L) Stop) → Finds g Two Follows Lost mid new r → Finds g Two Both Neither old new r
    both r second = then_more g Two (IsNamed Two) HasNoBook Follows Lost old mid new it r first second

    -- the reading failed, or the heading names no period
    pub led_fails : (stop : Stop) → Finds g Two Follows Lost mid new (Err stop) → Finds g Two Good HasNoBook old new (Err stop)
    led_fails stop second = fails g Two Both Neither Good HasNoBook old new stop (λ trees none. no_period Two laws trees it none.0 none.1) (both (Err stop) second)

    -- the commands lead to no book
    pub led_nowhere : (found : Option L) → Finds g Two Follows Lost mid new (Ok found) → (stop : Stop) → (stop ≡ bad_book) ⊎ (stop ≡ out_of_memory) → (stop ≡ bad_book → LeadsNowhere it) → Finds g Two Good HasNoBook old new (Err stop)
    led_nowhere found second stop (inl bad) none =
        subst (λ s. Finds g Two Good HasNoBook old new (Err s)) (sym bad) (then_bad g Two Both Neither Good HasNoBook old new found (both (Ok found) second) (λ trees named. nowhere laws trees it named.0 (none bad)))
    led_nowhere found second stop (inr memory) none = then_fault g Two Both Neither Good HasNoBook old new found (both (Ok found) second) stop (read_fault stop (inr memory)) (memory_alone stop memory) (no_store stop (inr memory))

    -- they lead to this one
    pub led_at : (found : Option L) → Finds g Two Follows Lost mid new (Ok found) → AreDistinct (filed_of it.commands.items)
        → (l : L) → IsLedBy Two it (state_of l) → counted_of l ≡ it.counted → is_some found ≡ moved_of l → Finds g Two Good HasNoBook old new (Ok l)
    led_at found second distinct l by counted moved =
        then_good g Two Both Neither Good HasNoBook old new found (both (Ok found) second) l
        (λ trees named. is_led Two laws trees it named.0 distinct (state_of l) by (counted_of l) counted (moved_of l) (subst (MovesAre Two it trees) moved named.1))
