-- One line after another inside a transaction: what each makes of the tables of a book, and where the store fails.
use Rattle.std.proofs.Common.{◌≡◌, ◌∙◌, ◌+◌, ◌≤◌, ℕ, Bool, true, false, List, [], ◌∷◌, ◌++◌, length, None, Some, Result, Ok, Err, IsTrue, inl, inr, refl, sym, ap, subst, arith, length-append}
use Rattle.std.specs.Prelude.{OnOk, if◌then◌else◌}
use Rattle.std.specs.List.{AllByRecursion}
use Rattle.std.specs.Result.{is_ok}
use Rattle.std.proofs.lemmas.Bool.{cases_Bool}
use Rattle.sqlite.specs.State.{State, HasCleanDisk}
use Rattle.ob_base.specs.declared.stop.Refusal.{Refusal}
use Rattle.ob_base.specs.declared.stop.Stop.{Stop}
use Rattle.ob_base.specs.declared.stop.Stop.TheVariants.{Refused, Fault}
use Rattle.ob_post.specs.Postings.{PostedAmounts}
use Rattle.ob_state.specs.State.{BookState}
use Rattle.ob_state.specs.Next.{next}
use Rattle.ob_state.specs.Refusals.{refusal}
use Rattle.ob_book.specs.Acts.{ActState, Referenced, Reply, act, answer, is_accepted, number_of, take_on}
use Rattle.ob_sql_rows.specs.Rows.{Always, Holds}
use Rattle.ob_sql_rows.specs.Schema.{book_schema}
use Rattle.ob_sql_rows.specs.Steps.{HasFaultCause, LetsIn, Makes, Silent}
use Rattle.ob_sql_write.specs.declared.act.Act.{Act}
use Rattle.ob_sql_write.specs.Acts.{LetsAct, NeedsRows, with_act}
use Rattle.ob_sql_write.proofs.Steps.{makes_then}
use Rattle.ob_record.specs.Leading.{Records}
use Rattle.ob_record.specs.Naming.{IsReferenced}
use Rattle.ob_record.specs.Reached.{AcceptedIsReached, IsReached}
use Rattle.ob_record.specs.Tables.{tables_of}
use Rattle.ob_book.specs.Searches.{Bound}
use Rattle.ob_store.specs.Searching.{searches_of_line, searches_of_lines}
use Rattle.ob_store.specs.Whole.{Halts, IsWhole, LeadTo, LeadsTables, LedBy, Line, ShowsBook, Steps, StopAt, Tries, after_line, after_lines, answer_to, goes_on}
use Rattle.ob_store.proofs.Accepting.{holds_as, valid_more}

-- ---- the tables of one book after those of another
pub leads_none : (s : State) (b : ActState) → IsTrue s.in_transaction → LeadsTables s s b b
leads_none s b inside = λ live. record {
  live = live;
  stays = live;
  inside = inside;
  schema = λ has. has;
  sound = λ has whole. whole;
  holds = λ has t held is. subst (Holds s.now.trees) is held;
  numbered = λ has t held is are. are;
}

pub leads_then : (x y z : State) (b c d : ActState) → LeadsTables x y b c → LeadsTables y z c d → LeadsTables x z b d
leads_then x y z b c d one two = λ live.
    let first = one live in
    makes_then x y z (λ t. t ≡ tables_of b) (λ t. t ≡ tables_of c) (λ t. t ≡ tables_of b) (λ t. tables_of c) (λ t. tables_of d) (λ t is. (is, refl)) first (two first.stays)

-- a look at the rows
pub leads_same : (old new : State) (b : ActState) → ShowsBook old b → (old.now.schema ≡ book_schema → IsTrue old.in_transaction → Makes old new Always (λ t. t)) → LeadsTables old new b b
leads_same old new b shows stays = λ live.
    let m = stays (shows.schema live) shows.inside in
    record {
      live = live;
      stays = m.stays;
      inside = m.inside;
      schema = m.schema;
      sound = m.sound;
      holds = λ has t held is. subst (Holds new.now.trees) is (m.holds has t held tt);
      numbered = λ has t held is are. m.numbered has t held tt are;
    }

module _ (old new : State) (b c : ActState) (quiet : Silent old new) (clean : HasCleanDisk new) (leads : LeadsTables old new b c) where
  was_open : IsTrue new.is_open → IsTrue old.is_open
  was_open live = (quiet.kept clean).was_open live

  -- the transaction then shows these
  pub shows_after : ShowsBook old b → IsTrue new.in_transaction → IsReached c → AllByRecursion IsReferenced c.accepted → ShowsBook new c
  shows_after shows inside reached valid = record {
    inside = inside;
    schema = λ live. let was = was_open live in (leads was).schema (shows.schema was);
    holds = λ live. let was = was_open live in (leads was).holds (shows.schema was) (tables_of b) (shows.holds was) refl;
    reached = reached;
    valid = valid;
  }

  pub whole_after : ShowsBook old b → IsWhole old → IsWhole new
  whole_after shows whole = record {
    sound = λ live. let was = was_open live in (leads was).sound (shows.schema was) (whole.sound was);
    numbered = λ live. let was = was_open live in (leads was).numbered (shows.schema was) (tables_of b) (shows.holds was) refl (whole.numbered was);
  }

-- ---- a command under a new reference
module _ (old new : State) (is : BookState) (b : ActState) (a : Referenced) (p : PostedAmounts) (written : Act) (law : AcceptedIsReached) (shows : ShowsBook old b) (records : Records b a p written)
    (fresh : number_of b a.reference ≡ None) (free : refusal b.book a.command ≡ None) (named : IsReferenced a) where
  accepted : is_accepted b a ≡ true
  accepted = rw (fresh, free)

  taken : take_on b a ≡ act b a
  taken = rw accepted

  pub memory_is : next b.book a.command ≡ (act b a).book
  memory_is = ap (λ (s : ActState). s.book) taken

  leads_written : Makes old new (NeedsRows p written) (with_act p written) → LeadsTables old new b (take_on b a)
  leads_written made = λ live. record {
    live = live;
    stays = made.stays;
    inside = made.inside;
    schema = made.schema;
    sound = made.sound;
    holds = λ has t held is.
        holds_as (with_act p written (tables_of b)) (tables_of (take_on b a)) records.tables new.now.trees
        (made.holds has (tables_of b) (subst (Holds old.now.trees) is held) records.needs);
    numbered = λ has t held is are. made.numbered has (tables_of b) (subst (Holds old.now.trees) is held) records.needs are;
  }

  pub entered : Makes old new (NeedsRows p written) (with_act p written) → is ≡ (act b a).book → Steps old new is b (Ok (a.reference, a.command)) true
  entered made memory = record {
    answered = let e : is_ok (answer b a) ≡ true = rw (fresh, free) in e;
    count = ap (λ (s : ActState). length s.accepted) (sym taken) ∙ length-append b.accepted (a ∷ []);
    leads = subst (LeadsTables old new b) taken (leads_written made);
    reached = subst IsReached taken (law b a shows.reached accepted);
    valid = subst (λ (s : ActState). AllByRecursion IsReferenced s.accepted) taken (valid_more b.accepted a shows.valid named);
    memory = memory;
  }

  -- the rules of the tables let its rows in
  pub lets_in : IsTrue old.is_open → IsWhole old → LetsIn old (NeedsRows p written) (LetsAct written)
  lets_in live whole = record {
    schema = shows.schema live;
    sound = whole.sound live;
    numbered = whole.numbered live;
    tables = tables_of b;
    holds = shows.holds live;
    needed = records.needs;
    allowed = records.lets fresh named;
  }

-- ---- a command under a known reference
pub known : (old new : State) (is : BookState) (b : ActState) (a : Referenced) (reply : Reply) → ShowsBook old b → act b a ≡ b → answer b a ≡ Ok reply → LeadsTables old new b b → is ≡ b.book
    → Steps old new is b (Ok (a.reference, a.command)) false
known old new is b a reply shows same answered leads memory = record {
  answered = let e : is_ok (answer b a) ≡ true = rw answered in e;
  count = ap (λ (s : ActState). length s.accepted) same ∙ (let e : length b.accepted ≡ length b.accepted + 0 = omega arith in e);
  leads = subst (LeadsTables old new b) (sym same) leads;
  reached = subst IsReached (sym same) shows.reached;
  valid = subst (λ (s : ActState). AllByRecursion IsReferenced s.accepted) (sym same) shows.valid;
  memory = memory ∙ ap (λ (s : ActState). s.book) (sym same);
}

-- ---- after a look at the rows
pub tries_after : (old mid new : State) (is : BookState) (b : ActState) (line : Line) (r : Result Bool Stop) → LeadsTables old mid b b → Tries mid new is b line r → Tries old new is b line r
tries_after old mid new is b line (Ok is_new) first it = record {
  answered = it.answered;
  count = it.count;
  leads = leads_then old mid new b b (after_line b line) first it.leads;
  reached = it.reached;
  valid = it.valid;
  memory = it.memory;
}
tries_after old mid new is b line (Err (Refused refused)) first it = it
tries_after old mid new is b line (Err (Fault fault)) first it = tt

-- a command was refused, or memory was, before anything was written
pub tries_none : (old new : State) (is : BookState) (b : ActState) (a : Referenced) → number_of b a.reference ≡ None → (stop : Stop) → ((r : Refusal) → stop ≡ Refused r → refusal b.book a.command ≡ Some r)
    → Tries old new is b (Ok (a.reference, a.command)) (Err stop)
tries_none old new is b a fresh (Refused r) refused = let e = refused r refl in let it : answer b a ≡ Err r = rw (fresh, e) refl in it
tries_none old new is b a fresh (Fault fault) refused = tt

pub on_any : {X E P : Type 0} (r : Result X E) → P → OnOk r P
on_any (Ok x) p = p
on_any (Err e) p = tt

-- ---- why the store fails
-- a store that is shut has a cause
pub by_open : {X : Type 0} (old new : State) (r : Result X Stop) → (IsTrue old.is_open → HasFaultCause old new r) → HasFaultCause old new r
by_open old new (Ok x) told = tt
by_open old new (Err stop) told = λ store. elim (cases_Bool old.is_open) [
  | inl live ↦ told live store
  | inr shut ↦ inr (inl shut)
]

-- ---- the lines of a list
goes_past : (r : Result Reply Refusal) (place : ℕ) (rest : Result ActState (ℕ × Refusal)) → is_ok r ≡ true → goes_on r place rest ≡ rest
goes_past (Ok reply) place rest ok = refl
goes_past (Err refused) place rest ok = absurd (let e : false ≡ true = ok in cc)

-- lines that were answered, and others behind them
after_more : (first book : ActState) (place : ℕ) (done rest : List Line) → after_lines first place done ≡ Ok book → after_lines first place (done ++ rest) ≡ after_lines book (place + length done) rest
after_more first book place [] rest lead =
    let same : first ≡ book = (let e : ◌≡◌ {A = Result ActState (ℕ × Refusal)} (Ok first) (Ok book) = lead in cc) in
    let none : place ≡ place + 0 = omega arith in
    subst (λ c. after_lines first place rest ≡ after_lines c (place + 0) rest) same (ap (λ n. after_lines first n rest) none)
after_more first book place (line ∷ done) rest lead =
    elim (answer_to first line) as (λ r. goes_on r place (after_lines (after_line first line) (place + 1) done) ≡ Ok book
    → goes_on r place (after_lines (after_line first line) (place + 1) (done ++ rest)) ≡ after_lines book (place + length (line ∷ done)) rest) [
      | Ok reply ↦ λ it.
          let at : place + 1 + length done ≡ place + length (line ∷ done) = omega arith in
          after_more (after_line first line) book (place + 1) done rest it ∙ ap (λ n. after_lines book n rest) at
      | Err refused ↦ λ it. absurd (let e : ◌≡◌ {A = Result ActState (ℕ × Refusal)} (Err (place, refused)) (Ok book) = it in cc)
    ] lead

-- one line more was answered
led_more : (first book : ActState) (done : List Line) (line : Line) → LeadTo done first book → is_ok (answer_to book line) ≡ true → LeadTo (done ++ line ∷ []) first (after_line book line)
led_more first book done line lead ok =
    after_more first book 0 done (line ∷ []) lead ∙ goes_past (answer_to book line) (0 + length done) (after_lines (after_line book line) (0 + length done + 1) []) ok

-- or refused
led_stops : (first book : ActState) (done : List Line) (line : Line) (rest : List Line) (refused : Refusal) → LeadTo done first book → answer_to book line ≡ Err refused → StopAt first (done ++ line ∷ rest) (length done) refused
led_stops first book done line rest refused lead is =
    subst (λ n. after_lines first 0 (done ++ line ∷ rest) ≡ Err (n, refused)) (let e : 0 + length done ≡ length done = omega arith in e)
    (after_more first book 0 done (line ∷ rest) lead ∙ ap (λ r. goes_on r (0 + length done) (after_lines (after_line book line) (0 + length done + 1) rest)) is)

-- a list with a line that says no command leads nowhere
pub never_led : (first book : ActState) (place : ℕ) (done : List Line) (refused : Refusal) → after_lines first place (done ++ Err refused ∷ []) ≡ Ok book → ⊥
never_led first book place [] refused lead = let e : ◌≡◌ {A = Result ActState (ℕ × Refusal)} (Err (place, refused)) (Ok book) = lead in cc
never_led first book place (line ∷ done) refused lead =
    elim (answer_to first line) as (λ r. goes_on r place (after_lines (after_line first line) (place + 1) (done ++ Err refused ∷ [])) ≡ Ok book → ⊥) [
      | Ok reply ↦ λ it. never_led (after_line first line) book (place + 1) done refused it
      | Err other ↦ λ it. let e : ◌≡◌ {A = Result ActState (ℕ × Refusal)} (Err (place, other)) (Ok book) = it in cc
    ] lead

pub led_first : (s : State) (is : BookState) (b : ActState) → IsTrue s.in_transaction → IsReached b → AllByRecursion IsReferenced b.accepted → is ≡ b.book → LedBy s s is b [] 0
led_first s is b inside reached valid memory = record {
  book = b;
  lead = refl;
  count = omega arith;
  leads = leads_none s b inside;
  reached = reached;
  valid = valid;
  memory = memory;
}

pub led_next : (old mid new : State) (was is : BookState) (b : ActState) (done : List Line) (added : ℕ) (line : Line) (is_new : Bool) (it : LedBy old mid was b done added) → Steps mid new is it.book line is_new
    → LedBy old new is b (done ++ line ∷ []) (added + (if is_new then 1 else 0))
led_next old mid new was is b done added line is_new it step = record {
  book = after_line it.book line;
  lead = led_more b it.book done line it.lead step.answered;
  count = let e : length b.accepted + (added + (if is_new then 1 else 0)) ≡ length (after_line it.book line).accepted = omega (arith, it.count, step.count) in e;
  leads = leads_then old mid new b it.book (after_line it.book line) it.leads step.leads;
  reached = step.reached;
  valid = step.valid;
  memory = step.memory;
}

-- ---- how often the lines were searched for
searches_more : (bound : Bound) (first book : ActState) (place : ℕ) (done : List Line) (line : Line) → after_lines first place done ≡ Ok book
    → searches_of_lines bound first (done ++ line ∷ []) ≡ searches_of_lines bound first done + searches_of_line bound book line
searches_more bound first book place [] line lead =
    let same : first ≡ book = (let e : ◌≡◌ {A = Result ActState (ℕ × Refusal)} (Ok first) (Ok book) = lead in cc) in
    let here = ap (λ c. searches_of_line bound c line) same in
    omega (arith, here)
searches_more bound first book place (x ∷ done) line lead =
    elim (answer_to first x) as (λ r. goes_on r place (after_lines (after_line first x) (place + 1) done) ≡ Ok book
    → searches_of_lines bound first (x ∷ done ++ line ∷ []) ≡ searches_of_lines bound first (x ∷ done) + searches_of_line bound book line) [
      | Ok reply ↦ λ it. let rest = searches_more bound (after_line first x) book (place + 1) done line it in omega (arith, rest)
      | Err refused ↦ λ it. absurd (let e : ◌≡◌ {A = Result ActState (ℕ × Refusal)} (Err (place, refused)) (Ok book) = it in cc)
    ] lead

-- the lines so far were answered, and searched for no more often than they may be
pub record SearchedTurn (bound : Bound) (old now : State) (is : BookState) (before : ℕ) (n : ℕ) (b : ActState) (done : List Line) (added : ℕ) : Type 0 where
  pub turn : LedBy old now is b done added
  pub few : n ≤ before + searches_of_lines bound b done

pub searched_first : (bound : Bound) (s : State) (is : BookState) (n : ℕ) (b : ActState) → IsTrue s.in_transaction → IsReached b → AllByRecursion IsReferenced b.accepted → is ≡ b.book → SearchedTurn bound s s is n n b [] 0
searched_first bound s is n b inside reached valid memory = record { turn = led_first s is b inside reached valid memory; few = omega arith }

pub searched_next : (bound : Bound) (old mid new : State) (was is : BookState) (before n m : ℕ) (b : ActState) (done : List Line) (added : ℕ) (line : Line) (is_new : Bool) (it : SearchedTurn bound old mid was before n b done added)
    → Steps mid new is it.turn.book line is_new → m ≤ n + searches_of_line bound it.turn.book line
    → SearchedTurn bound old new is before m b (done ++ line ∷ []) (added + (if is_new then 1 else 0))
searched_next bound old mid new was is before n m b done added line is_new it step more = record {
  turn = led_next old mid new was is b done added line is_new it.turn step;
  few = let all = searches_more bound b it.turn.book 0 done line it.turn.lead in omega (arith, it.few, all, more);
}

-- a line was refused, or memory was or the store failed
pub halts : (mid new : State) (is : BookState) (first book : ActState) (done : List Line) (line : Line) (rest : List Line) (place : ℕ) (stop : Stop) → length done ≡ place → LeadTo done first book
    → Tries mid new is book line (Err stop) → Halts first (done ++ line ∷ rest) place stop
halts mid new is first book done line rest place (Refused refused) count lead it = subst (λ n. StopAt first (done ++ line ∷ rest) n refused) count (led_stops first book done line rest refused lead it)
halts mid new is first book done line rest place (Fault fault) count lead it = tt
