-- Lines that are taken one after another inside a transaction, and the lists that begin with them.
use Rattle.std.proofs.Common.{◌≡◌, ◌∙◌, ◌+◌, ◌≤◌, ◌++◌, ℕ, Bool, true, false, List, [], ◌∷◌, length, Option, Some, None, Result, Ok, Err, IsTrue, inl, inr, refl, sym, ap, subst, arith, length-append, append_assoc, append-nil}
use Rattle.std.specs.Prelude.{if◌then◌else◌}
use Rattle.sqlite.specs.State.{State, HasCleanDisk}
use Rattle.ob_base.specs.declared.stop.Fault.{Fault as AFault}
use Rattle.ob_base.specs.declared.stop.Stop.{Stop}
use Rattle.ob_base.specs.declared.stop.Stop.TheVariants.{Fault}
use Rattle.ob_state.specs.State.{BookState}
use Rattle.ob_book.specs.Acts.{ActState}
use Rattle.ob_book.specs.Searches.{Bound}
use Rattle.ob_sql_rows.specs.Steps.{Silent}
use Rattle.ob_store.specs.Lines.{BeginsWith, Ends, Gives, GivesAll, OverLines, TriesList}
use Rattle.ob_store.specs.Searching.{searches_of_line}
use Rattle.ob_store.specs.Whole.{Halts, Line, ShowsBook, Tries}
use Rattle.ob_store.specs.declared.whole.Applied.{Applied}
use Rattle.ob_store.specs.declared.whole.Halted.{Halted}
use Rattle.ob_store.proofs.Within.{SearchedTurn, halts, searched_first, searched_next, shows_after}

-- the lines that were taken
pub begins_all : (taken : List Line) (ended : Bool) → BeginsWith taken ended taken
begins_all taken true = refl
begins_all taken false = ([], sym (append-nil taken))

module _ {L : Type 0} (gives : Gives L) where
  -- one line more was taken
  gives_more : (was mid is : L) (list : List Line) (line : Line) → GivesAll gives was list mid → gives mid (Ok (Some line)) is → GivesAll gives was (list ++ line ∷ []) is
  gives_more was mid is [] line all more = (is, subst (λ x. gives x (Ok (Some line)) is) all more, refl)
  gives_more was mid is (x ∷ list) line all more = (all.0, all.1, gives_more all.0 mid is list line all.2 more)

  -- ---- what holds of the lists
  begins_first : (first : Line) (taken : List Line) (ended : Bool) (list : List Line) → BeginsWith (first ∷ taken) ended list → (tail : List Line) × BeginsWith taken ended tail × (list ≡ first ∷ tail)
  begins_first first taken true list begins = (taken, refl, begins)
  begins_first first taken false list begins = (taken ++ begins.0, (begins.0, refl), begins.1)

  -- a line was taken before the others
  pub over_first : (was mid is : L) (first : Line) (Then Holds : List Line → Type 0) → gives was (Ok (Some first)) mid → OverLines gives mid is Then → ((tail : List Line) → Then tail → Holds (first ∷ tail)) → OverLines gives was is Holds
  over_first was mid is first Then Holds one others so = record {
    taken = first ∷ others.taken;
    ended = others.ended;
    last = others.last;
    took = (mid, one, others.took);
    ends = others.ends;
    holds = λ list begins.
        let it = begins_first first others.taken others.ended list begins in
        subst Holds (sym it.2) (so it.0 (others.holds it.0 it.1));
  }

  -- what holds of them says another thing of them
  pub over_each : (was is : L) (Then Holds : List Line → Type 0) → OverLines gives was is Then → ((list : List Line) → Then list → Holds list) → OverLines gives was is Holds
  over_each was is Then Holds it so = record {
    taken = it.taken;
    ended = it.ended;
    last = it.last;
    took = it.took;
    ends = it.ends;
    holds = λ list begins. so list (it.holds list begins);
  }

  -- there was no line
  pub over_none : (was is : L) (Holds : List Line → Type 0) → gives was (Ok None) is → Holds [] → OverLines gives was is Holds
  over_none was is Holds end holds = record {
    taken = [];
    ended = true;
    last = was;
    took = refl;
    ends = end;
    holds = λ list none. subst Holds (sym none) holds;
  }

  -- none was asked for
  pub over_any : (was : L) (Holds : List Line → Type 0) → ((list : List Line) → Holds list) → OverLines gives was was Holds
  over_any was Holds holds = record {
    taken = [];
    ended = false;
    last = was;
    took = refl;
    ends = inl refl;
    holds = λ list begins. holds list;
  }

  -- the first one failed
  pub over_fault : (was is : L) (fault : AFault) (Holds : List Line → Type 0) → gives was (Err fault) is → ((list : List Line) → Holds list) → OverLines gives was is Holds
  over_fault was is fault Holds failed holds = record {
    taken = [];
    ended = false;
    last = was;
    took = refl;
    ends = inr (fault, failed);
    holds = λ list begins. holds list;
  }

  -- ---- the lines so far, and the next one
  -- those before this line were applied
  pub record LinesTurn (bound : Bound) (old now : State) (was is : L) (first line : Line) (memory book : BookState) (before n place added : ℕ) : Type 0 where
    pub done : List Line
    pub later : List Line
    pub parts : done ++ line ∷ [] ≡ first ∷ later
    pub took : GivesAll gives was later is
    pub count : length done ≡ place
    pub tries : HasCleanDisk now → (b : ActState) → ShowsBook old b → memory ≡ b.book → SearchedTurn bound old now book before n b done added

  pub turn_first : (bound : Bound) (s : State) (was : L) (first : Line) (memory : BookState) (n : ℕ) → LinesTurn bound s s was was first first memory memory n n 0 0
  turn_first bound s was first memory n = record {
    done = [];
    later = [];
    parts = refl;
    took = refl;
    count = refl;
    tries = λ clean b shows same. searched_first bound s memory n b shows.inside shows.reached shows.valid same;
  }

  module _ (bound : Bound) (old mid new : State) (was is : L) (first line : Line) (memory book last : BookState) (before n m place added : ℕ) (it : LinesTurn bound old mid was is first line memory book before n place added)
      (quiet : Silent old mid) (more : Silent mid new) (inside : HasCleanDisk mid → IsTrue mid.in_transaction) where
    -- a list that begins with the lines that were taken
    parts_of : (list : List Line) (begins : BeginsWith it.later false list) → first ∷ list ≡ it.done ++ line ∷ begins.0
    parts_of list begins = ap (λ l. first ∷ l) begins.1 ∙ ap (λ l. l ++ begins.0) (sym it.parts) ∙ append_assoc it.done (line ∷ []) begins.0

    long_enough : (list : List Line) (begins : BeginsWith it.later false list) → place + 1 ≤ length (first ∷ list)
    long_enough list begins =
        let whole = ap (λ (l : List Line). length l) (parts_of list begins) ∙ length-append it.done (line ∷ begins.0) in
        omega (arith, whole, it.count)

    -- the line was applied
    module _ (is_new : Bool) (k : ℕ) (k_is : k ≡ (if is_new then 1 else 0))
        (tries : HasCleanDisk new → (b : ActState) → ShowsBook mid b → book ≡ b.book → Tries mid new last b line (Ok is_new))
        (searched : HasCleanDisk new → (b : ActState) → ShowsBook mid b → book ≡ b.book → m ≤ n + searches_of_line bound b line) where
      applied : HasCleanDisk new → (b : ActState) → ShowsBook old b → memory ≡ b.book → SearchedTurn bound old new last before m b (it.done ++ line ∷ []) (added + k)
      applied clean b shows same =
          let early : HasCleanDisk mid = omega (arith, more.survives.clean, clean) in
          let turn = it.tries early b shows same in
          let led = turn.turn in
          let now = shows_after old mid b led.book quiet early led.leads shows (inside early) led.reached led.valid in
          subst (λ x. SearchedTurn bound old new last before m b (it.done ++ line ∷ []) (added + x)) (sym k_is)
          (searched_next bound old mid new book last before n m b it.done added line is_new turn (tries clean led.book now led.memory) (searched clean led.book now led.memory))

      -- and another one was taken
      pub turn_next : (after : L) (next : Line) → gives is (Ok (Some next)) after → LinesTurn bound old new was after first next memory last before m (place + 1) (added + k)
      turn_next after next one = record {
        done = it.done ++ line ∷ [];
        later = it.later ++ next ∷ [];
        parts = ap (λ l. l ++ next ∷ []) it.parts;
        took = gives_more was is after it.later next it.took one;
        count = let grown = length-append it.done (line ∷ []) in omega (arith, grown, it.count);
        tries = applied;
      }

      -- it was the last
      pub turn_last : (after : L) → gives is (Ok None) after → added + k ≤ place + 1
          → OverLines gives was after (λ list. TriesList bound old new memory last before m (first ∷ list) (Ok (record { lines = place + 1; added = added + k })))
      turn_last after end few = record {
        taken = it.later;
        ended = true;
        last = is;
        took = it.took;
        ends = end;
        holds = λ list whole.
            let same : it.done ++ line ∷ [] ≡ first ∷ list = it.parts ∙ ap (λ l. first ∷ l) (sym whole) in
            let size = ap (λ (l : List Line). length l) (sym same) ∙ length-append it.done (line ∷ []) in
            record {
              few = (few, (let all : place + 1 ≤ length (first ∷ list) = omega (arith, size, it.count) in all));
              within = tt;
              tries = λ clean b shows memory. (subst (λ l. SearchedTurn bound old new last before m b l (added + k)) same (applied clean b shows memory)).turn;
              searched = λ clean b shows memory. (subst (λ l. SearchedTurn bound old new last before m b l (added + k)) same (applied clean b shows memory)).few;
            };
      }

    -- it was refused, or memory was or the store failed
    pub turn_halts : (stop : Stop) → (HasCleanDisk new → (b : ActState) → ShowsBook mid b → book ≡ b.book → Tries mid new last b line (Err stop))
        → OverLines gives was is (λ list. TriesList bound old new memory last before m (first ∷ list) (Err (record { place = place; stop = stop })))
    turn_halts stop tries = record {
      taken = it.later;
      ended = false;
      last = is;
      took = it.took;
      ends = inl refl;
      holds = λ list begins. record {
        few = tt;
        within = let all = long_enough list begins in omega (arith, all);
        tries = λ clean b shows same.
            let early : HasCleanDisk mid = omega (arith, more.survives.clean, clean) in
            let led = (it.tries early b shows same).turn in
            let now = shows_after old mid b led.book quiet early led.leads shows (inside early) led.reached led.valid in
            subst (λ l. Halts b l place stop) (sym (parts_of list begins))
            (halts mid new last b led.book it.done line begins.0 place stop it.count led.lead (tries clean led.book now led.memory));
        searched = λ clean b shows same. tt;
      };
    }

    -- memory was refused
    pub turn_starved : (after : L) (at : ℕ) (fault : AFault) → at ≤ place + 1 → Ends gives is false after
        → OverLines gives was after (λ list. TriesList bound old new memory last before m (first ∷ list) (Err (record { place = at; stop = Fault fault })))
    turn_starved after at fault low ends = record {
      taken = it.later;
      ended = false;
      last = is;
      took = it.took;
      ends = ends;
      holds = λ list begins. record {
        few = tt;
        within = let all = long_enough list begins in omega (arith, all, low);
        tries = λ clean b shows same. tt;
        searched = λ clean b shows same. tt;
      };
    }
