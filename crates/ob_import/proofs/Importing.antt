-- Rows that were taken, one more of them, and what an import leaves where it ends.
use Rattle.std.proofs.Common.{◌≡◌, ◌≢◌, ◌≤◌, ◌<◌, ◌∙◌, sym, ap, subst, refl, ℕ, ◌+◌, Bool, true, false, true≢false, is_some, List, [], ◌∷◌, ◌++◌, length, cond, Option, Some, None, Result, Ok, Err, inl, inr, if◌then◌else◌, nat_lt, arith, append_assoc, append-nil, length-append, ◌↔◌}
use Rattle.std.specs.Prelude.{IsSome, IfSome, IfOk, IfErr, unwrap_or, option_map}
use Rattle.std.specs.Result.{is_ok}
use Rattle.std.proofs.lemmas.Bool.{lt-ltb, le-ltb}
use Rattle.std.proofs.lemmas.List.Sums.{fold_push}
use Rattle.ob_base.specs.declared.stop.Fault.{Fault}
use Rattle.ob_base.specs.declared.stop.Fault.TheVariants as faults
use Rattle.ob_base.specs.declared.stop.Refusal.{Refusal}
use Rattle.ob_base.specs.declared.stop.Refusal.TheVariants.{BadField, Full}
use Rattle.ob_base.specs.declared.stop.Stop.{Stop}
use Rattle.ob_base.specs.declared.stop.Stop.TheVariants as stops
use Rattle.std.specs.Io.KnownBytes.{Consumes}
use Rattle.ob_csv.specs.Header.{is_header}
use Rattle.ob_csv.specs.WholeRows.{WholeRowsStand, whole_rows}
use Rattle.ob_csv.specs.Rows.{Fields, TakesRow, rows_of}
use Rattle.ob_command.specs.Fields.{IsRow}
use Rattle.ob_book.specs.Acts.{ActState, Referenced, Reply, act, acts, answer, is_accepted, take_on}
use Rattle.ob_store.specs.Acting.{IsActStop}
use Rattle.ob_store.specs.Calls.{Acted, IfHeld, IfStored, TellsFaults, WasClean}
use Rattle.ob_store.specs.Keepers.{Ghosts, Holds, StoresEither, Ties, book_of}
use Rattle.ob_store.proofs.Faults.{tells_as, tells_nothing, tells_then}
use Rattle.ob_store.specs.declared.keeper.Keeper.{Keeper}
use Rattle.ob_state.specs.State.{BookState}
use Rattle.ob_record.specs.Reached.{ReachedCounts}
use Rattle.ob_import.specs.Acting.{Adds, AddsRow}
use Rattle.ob_import.specs.Imports.{AreAnswered, EndsAt, Import, ImportsBody, ImportsRows, IsRefused, Say, Says, Stops, Taken, after_header}
use Rattle.ob_import.specs.Gathering.{IsWithin, gathered_rows, is_over}
use Rattle.ob_import.specs.Reports.{AreRows, Breaks, HasCause, HoldsAll, HoldsAllOf, HoldsFirst, HoldsWholeRows, Imported, IsNext, IsStoreFault, Leaves, LeavesOf, Runs, import_as, no_book}
use Rattle.ob_import.specs.declared.report.ImportReport.{ImportReport}
use Rattle.ob_import.specs.declared.report.ImportFault.{ImportFault}

-- ---- rows that were taken

pub taken_none : (b : ActState) → Taken b b [] 0 0
taken_none b = record {
  commands = [];
  say = tt;
  answered = tt;
  state = refl;
  grown = let e : length b.accepted + 0 ≡ length b.accepted = omega arith in e;
  all = refl;
  few = let e : 0 ≤ 1_000_000 = omega arith in e;
}

say_push : (rows : List Fields) (list : List Referenced) (row : Fields) (a : Referenced) → Say rows list → Says row a → Say (rows ++ row ∷ []) (list ++ a ∷ [])
say_push [] [] row a h says = (says, tt)
say_push [] (c ∷ list) row a h says = absurd h
say_push (x ∷ rows) [] row a h says = absurd h
say_push (x ∷ rows) (c ∷ list) row a h says = (h.0, say_push rows list row a h.1 says)

answered_push : (b : ActState) (list : List Referenced) (a : Referenced) → AreAnswered b list → is_ok (answer (acts b list) a) ≡ true → AreAnswered b (list ++ a ∷ [])
answered_push b [] a h ok = (ok, tt)
answered_push b (c ∷ list) a h ok = (h.0, answered_push (act b c) list a h.1 ok)

-- a command adds itself where it is accepted, and else nothing
pub act_grows : (c : ActState) (a : Referenced) → length (act c a).accepted ≡ length c.accepted + cond (is_accepted c a) 1 0
act_grows c a = elim (is_accepted c a) as (λ t. length (if t then take_on c a else c).accepted ≡ length c.accepted + cond t 1 0) [
  | true ↦ length-append c.accepted (a ∷ [])
  | false ↦ (let e : length c.accepted ≡ length c.accepted + 0 = omega arith in e)
]

pub taken_more : (b c : ActState) (rows : List Fields) (added again added2 again2 : ℕ) (row : Fields) (a : Referenced) → Taken b c rows added again → Says row a → is_ok (answer c a) ≡ true
    → added + again < 1_000_000 → added2 ≡ added + cond (is_accepted c a) 1 0 → added2 + again2 ≡ added + again + 1
    → Taken b (act c a) (rows ++ row ∷ []) added2 again2
taken_more b c rows added again added2 again2 row a t says ok few grown both =
    let one : length (rows ++ row ∷ []) ≡ length rows + 1 = length-append rows (row ∷ []) in
    let more : length (act c a).accepted ≡ length c.accepted + cond (is_accepted c a) 1 0 = act_grows c a in
    record {
      commands = t.commands ++ a ∷ [];
      say = say_push rows t.commands row a t.say says;
      answered = answered_push b t.commands a t.answered (subst (λ s. is_ok (answer s a) ≡ true) t.state ok);
      state = ap (λ s. act s a) t.state ∙ sym (fold_push act b t.commands a);
      grown = let e : length b.accepted + added2 ≡ length (act c a).accepted = omega (arith, t.grown, more, grown) in e;
      all = let e : added2 + again2 ≡ length (rows ++ row ∷ []) = omega (arith, t.all, one, both) in e;
      few = let e : length (rows ++ row ∷ []) ≤ 1_000_000 = omega (arith, t.all, one, few) in e;
    }

-- ---- a book that there is

pub not_none : {A : Type 0} (o : Option A) → IsSome o → o ≡ None → ⊥
not_none None some e = cc
not_none (Some a) some e = cc

-- an import into it isn't answered that there is none
pub not_bookless : (book : Option BookState) (r : Result ImportReport ImportFault) (P : Type 0) → IsSome book → IfErr r (λ e. HasCause e.fault P)
    → (book ≡ None) ↔ (r ≡ no_book)
not_bookless book r P some cause =
    ((λ none. absurd (not_none book some none)), λ is. absurd (subst (λ x. IfErr x (λ e. HasCause e.fault P)) is cause))

-- nor is it lost where memory is refused
pub not_lost : (book : Option BookState) → IsSome book → (book ≡ None) ↔ (faults.OutOfMemory ≡ faults.Store)
not_lost book some = ((λ none. absurd (not_none book some none)), λ e. cc)

-- ---- known rows, and those that are left

-- these rows were read of known ones, and those are left
abbrev pub SplitAs : Option (List Fields) → Option (List Fields) → List Fields → Type 0
SplitAs None left done = Unit {0}
SplitAs (Some rows) None done = ⊥
SplitAs (Some rows) (Some later) done = rows ≡ done ++ later

split_init : (known : Option (List Fields)) → SplitAs known known []
split_init None = tt
split_init (Some rows) = refl

split_more : (known left after : Option (List Fields)) (done : List Fields) (row : Fields) → SplitAs known left done → TakesRow left after true row → SplitAs known after (done ++ row ∷ [])
split_more None left after done row split takes = tt
split_more (Some rows) None after done row split takes = absurd split
split_more (Some rows) (Some later) None done row split takes = absurd takes
split_more (Some rows) (Some later) (Some after) done row split takes =
    split ∙ ap (λ l. done ++ l) takes ∙ sym (append_assoc done (row ∷ []) after)

are_rows : (known left : Option (List Fields)) (done later : List Fields) → SplitAs known left done → IfSome left (λ l. l ≡ later) → AreRows known (done ++ later)
are_rows None left done later split is = tt
are_rows (Some rows) None done later split is = absurd split
are_rows (Some rows) (Some l) done later split is = ap (λ x. done ++ x) (sym is) ∙ sym split

left_itself : (left : Option (List Fields)) → IfSome left (λ l. l ≡ unwrap_or left [])
left_itself None = tt
left_itself (Some l) = refl

left_none : (left after : Option (List Fields)) (row : Fields) → TakesRow left after false row → IfSome left (λ l. l ≡ [])
left_none None after row takes = tt
left_none (Some l) after row takes = takes

left_row : (left after : Option (List Fields)) (row : Fields) → TakesRow left after true row → IfSome left (λ l. l ≡ row ∷ unwrap_or after [])
left_row None after row takes = tt
left_row (Some l) None row takes = absurd takes
left_row (Some l) (Some rest) row takes = takes

-- where a row was taken, there was one
taken_some : (left after : Option (List Fields)) (row : Fields) → TakesRow left after true row → left ≢ Some []
taken_some None after row takes e = cc
taken_some (Some l) None row takes e = absurd takes
taken_some (Some l) (Some rest) row takes e = let none : l ≡ [] = cc in let some : row ∷ rest ≡ [] = sym takes ∙ none in cc

-- where none follows, the text is whole; so where it isn't there was one
pub found_some : (left after : Option (List Fields)) (found whole : Bool) (row : Fields) → TakesRow left after found row → (found ≡ false → whole ≡ true) → whole ≡ false → left ≢ Some []
found_some left after true whole row takes ended cut = taken_some left after row takes
found_some left after false whole row takes ended cut = absurd (true≢false (sym (ended refl) ∙ cut))

pub some_row : (left after : Option (List Fields)) (row : Fields) (r : Result ImportReport ImportFault) → TakesRow left after true row → IfOk r (λ report. left ≢ Some [])
some_row left after row (Ok report) takes = taken_some left after row takes
some_row left after row (Err e) takes = tt

-- ---- an import under way

fault_not_refused : (f : Fault) (r : Refusal) → ◌≡◌ {A = Result Bool Stop} (Err (stops.Fault f)) (Err (stops.Refused r)) → ⊥
fault_not_refused f r e = cc

fault_there : (is_new : Bool) (stop : Stop) → ◌≡◌ {A = Result Bool Stop} (Ok is_new) (Err stop) → ⊥
fault_there is_new stop e = true≢false (ap is_ok e)

memory_not_input : ◌≡◌ {A = Fault} faults.OutOfMemory faults.Input → ⊥
memory_not_input e = cc

store_not_input : ◌≡◌ {A = Fault} faults.Store faults.Input → ⊥
store_not_input e = cc

no_book_there : {X : Type 0} (o : Option X) → IsSome o → o ≡ None → ⊥
no_book_there o is none = true≢false (sym is ∙ ap is_some none)

-- a fault that isn't the store's
pub other_fault : (fault : Fault) (e : ImportFault) → e.fault ≡ fault → fault ≢ faults.Store → IsStoreFault (Err e) → ⊥
other_fault fault e is other store = other (sym is ∙ store)

pub no_book_fault : (e : ImportFault) → Err e ≡ no_book → IsStoreFault (Err e) → ⊥
no_book_fault e is store = let none : faults.Reopen ≡ faults.Store = subst IsStoreFault is store in cc

pub memory_not_store : faults.OutOfMemory ≡ faults.Store → ⊥
memory_not_store e = cc

-- an answer isn't the store's fault, nor is a refusal; and a fault is one whatever it was to be
pub answer_not_store : {X Y : Type 0} (x : X) → ◌≡◌ {A = Result X Stop} (Ok x) (Err (stops.Fault faults.Store)) → Y
answer_not_store x e = absurd (true≢false (ap is_ok e))

pub refusal_not_store : {X : Type 0} (r : Refusal) → ◌≡◌ {A = Result X Stop} (Err (stops.Refused r)) (Err (stops.Fault faults.Store)) → ⊥
refusal_not_store r e = cc

pub same_stop : {X Y : Type 0} (stop other : Stop) → ◌≡◌ {A = Result X Stop} (Err stop) (Err other) → ◌≡◌ {A = Result Y Stop} (Err stop) (Err other)
same_stop stop other e = let same : stop ≡ other = cc in ap Err same

grows : (c : ActState) (a : Referenced) (before after : ℕ) → before ≡ length c.accepted → after ≡ length (act c a).accepted → nat_lt before after ≡ is_accepted c a
grows c a before after e f = elim (is_accepted c a) as (λ t. length (act c a).accepted ≡ length c.accepted + cond t 1 0 → nat_lt before after ≡ t) [
  | true ↦ λ h. lt-ltb before after (omega (arith, e, f, h))
  | false ↦ λ h. le-ltb before after (omega (arith, e, f, h))
] (act_grows c a)

-- the rows of a text that begin with a row that was taken, if one was
begins_with : (left after : Option (List Fields)) (found : Bool) (row : Fields) → TakesRow left after found row → (rows : List Fields) × AreRows left (cond found (row ∷ rows) [])
begins_with None after found row takes = ([], tt)
begins_with (Some l) None true row takes = absurd takes
begins_with (Some l) (Some rest) true row takes = (rest, sym takes)
begins_with (Some l) after false row takes = ([], sym takes)

-- the rows after a row, and that row before them
row_before : (left after : Option (List Fields)) (row : Fields) (rows : List Fields) → TakesRow left after true row → AreRows after rows → AreRows left (row ∷ rows)
row_before None after row rows takes are = tt
row_before (Some l) None row rows takes are = absurd takes
row_before (Some l) (Some rest) row rows takes are = ap (λ x. row ∷ x) are ∙ sym takes

-- an import that stopped within the first rows stops there among more of them
ends_more : (c : ActState) (number : ℕ) (later more : List Fields) (stopped : Option (ℕ × Refusal)) → stopped ≢ None → EndsAt c number later stopped → EndsAt c number (later ++ more) stopped
ends_more c number [] more stopped goes ends = absurd (goes ends)
ends_more c number (row ∷ later) more stopped goes ends = ends

rows_more : (b : ActState) (rows more : List Fields) (i : Import) → i.stopped ≢ None → ImportsRows b rows i → ImportsRows b (rows ++ more) i
rows_more b rows more i goes (later, (done, split, taken), ends) =
    (later ++ more, (done, ap (λ l. l ++ more) split ∙ append_assoc done later more, taken), ends_more i.state (i.added + i.again + 1) later more i.stopped goes ends)

-- the rows after the header are the first of those after it in a longer text
body_more : (rows more : List Fields) → (rest : List Fields) × (unwrap_or (after_header (rows ++ more)) [] ≡ unwrap_or (after_header rows) [] ++ rest)
body_more [] more = (unwrap_or (after_header more) [], refl)
body_more (header ∷ rows) more =
    elim (is_header header) as (λ t. (rest : List Fields) × (unwrap_or (if t then Some (rows ++ more) else None) [] ≡ unwrap_or (if t then Some rows else None) [] ++ rest)) [
      | true ↦ (more, refl)
      | false ↦ ([], refl)
    ]

next_more : (later more : List Fields) (a : Referenced) → IsNext later a → IsNext (later ++ more) a
next_more [] more a next = absurd next
next_more (row ∷ later) more a next = next

module _ {S T : Type 0} {g : Ghosts S} where
  -- a row that was answered said a command
  taken_row : (new : Keeper S T g) (c : ActState) (row : Fields) (is_new : Bool) → AddsRow new c row (Ok is_new)
      → (a : Referenced) × Says row a × (is_ok (answer c a) ≡ true) × (is_new ≡ is_accepted c a) × Holds new (act c a)
  taken_row new c row is_new (inl (a, says, made)) = (a, says, made.0, made.1, made.2)
  taken_row new c row is_new (inr (r, is, err, holds)) = absurd (true≢false (ap is_ok err))

  -- a row that was refused has its refusal
  refused_row : (new : Keeper S T g) (c : ActState) (row : Fields) (refusal : Refusal) → AddsRow new c row (Err (stops.Refused refusal)) → IsRefused c row refusal × Holds new c
  refused_row new c row refusal (inl (a, says, made)) = (inr (a, says, made.0), made.1)
  refused_row new c row refusal (inr (r, is, err, holds)) = let same : r ≡ refusal = cc in (inl (subst (λ x. IsRow row (Err x)) same is), holds)

  -- memory was refused at a row
  starved_row : (new : Keeper S T g) (c : ActState) (row : Fields) → AddsRow new c row (Err (stops.Fault faults.OutOfMemory)) → Holds new c
  starved_row new c row (inl (a, says, made)) = made
  starved_row new c row (inr (r, is, err, holds)) = holds

  -- the store failed at a row
  lost_row : (new : Keeper S T g) (c : ActState) (row : Fields) → AddsRow new c row (Err (stops.Fault faults.Store))
      → (a : Referenced) × Says row a × StoresEither new c (act c a) × (book_of new ≡ None)
  lost_row new c row (inl (a, says, made)) = (a, says, made.0, made.1)
  lost_row new c row (inr (r, is, err, holds)) = absurd (fault_not_refused faults.Store r err)

  -- the rows before the one of this number were taken, and the keeper holds what they left
  pub record SoFar (old now : Keeper S T g) (known left : Option (List Fields)) (added again number : ℕ) : Type 0 where
    pub clean : WasClean old now
    pub is_there : IsSome (book_of now)
    pub next : added + again + 1 ≡ number
    pub begun : IfStored old now (λ b. (c : ActState) × (done : List Fields) × SplitAs known left done × Taken b c done added again × Holds now c)
    pub tells : TellsFaults old now ⊥

  pub so_far_none : (old : Keeper S T g) (known : Option (List Fields)) → IsSome (book_of old) → SoFar old old known known 0 0 1
  so_far_none old known is = record {
    clean = λ clean. clean;
    is_there = is;
    next = refl;
    begun = λ clean b ties. (b, [], split_init known, taken_none b, (ties, is));
    tells = tells_nothing old old ⊥ refl (λ e. e);
  }

  module _ (old now : Keeper S T g) (known left : Option (List Fields)) (added again number : ℕ) (it : SoFar old now known left added again number) where
    -- the book that stands is that of some commands more
    stands_more : IfHeld old now (λ b. (done : List Referenced) × Ties now (acts b done) × IsSome (book_of now))
    stands_more clean b ties some = let was = it.begun clean b ties in (was.3.commands, subst (Ties now) was.3.state was.4.0, was.4.1)

    -- the import ends here, and no fault of the store is reported
    pub ended_tells : (F : Type 0) → (F → ⊥) → TellsFaults old now F
    ended_tells F never = tells_as old now ⊥ F never it.tells

    -- it ends after the next row
    pub then_tells : (new : Keeper S T g) (G F : Type 0) → (F → G) → TellsFaults now new G → TellsFaults old new F
    then_tells new G F reads tells = tells_as old new G F reads (tells_then old now new ⊥ G it.tells stands_more tells)

    module _ (new : Keeper S T g) (after : Option (List Fields)) (row : Fields) (takes : TakesRow left after true row) (within : number ≤ 1_000_000)
        (clean : WasClean now new) where
      -- a row that was taken
      pub so_far_more : (is_new : Bool) (added2 again2 : ℕ) → (book_of new ≡ None) ↔ (◌≡◌ {A = Result Bool Stop} (Ok is_new) (Err (stops.Fault faults.Store)))
          → TellsFaults now new (◌≡◌ {A = Result Bool Stop} (Ok is_new) (Err (stops.Fault faults.Store)))
          → IfStored now new (λ b. AddsRow new b row (Ok is_new))
          → added2 ≡ added + cond is_new 1 0 → again2 ≡ again + cond is_new 0 1 → SoFar old new known after added2 again2 (number + 1)
      so_far_more is_new added2 again2 dropped tells acted more other =
          let both : added2 + again2 ≡ added + again + 1 = elim is_new as (λ t. added2 ≡ added + cond t 1 0 → again2 ≡ again + cond t 0 1 → added2 + again2 ≡ added + again + 1) [
            | true ↦ λ e f. omega (arith, e, f)
            | false ↦ λ e f. omega (arith, e, f)
          ] more other in
          record {
            clean = λ c. it.clean (clean c);
            is_there = elim (book_of new) as (λ o. (o ≡ None → ⊥) → IsSome o) [
              | None ↦ λ d. absurd (d refl)
              | Some s ↦ λ d. refl
            ] (λ none. fault_there is_new (stops.Fault faults.Store) (dropped.0 none));
            next = let e : added2 + again2 + 1 ≡ number + 1 = omega (arith, it.next, both) in e;
            begun = λ cl b ties.
                let was = it.begun (clean cl) b ties in
                let few : added + again < 1_000_000 = omega (arith, it.next, within) in
                let one = taken_row new was.0 row is_new (acted cl was.0 was.4.0) in (
                  act was.0 one.0,
                  was.1 ++ row ∷ [],
                  split_more known left after was.1 row was.2 takes,
                  taken_more b was.0 was.1 added again added2 again2 row one.0 was.3 one.1 one.2 few (more ∙ ap (λ t. added + cond t 1 0) one.3) both,
                  one.4,
                );
            tells = then_tells new (◌≡◌ {A = Result Bool Stop} (Ok is_new) (Err (stops.Fault faults.Store))) ⊥ (λ e. absurd e) tells;
          }

      -- the row stops the import
      stops_left : (b c : ActState) (done : List Fields) (refusal : Refusal) (rep : ImportReport) → SplitAs known left done → Taken b c done added again → Stops c number row refusal → Holds new c
          → rep.added ≡ added → rep.again ≡ again → rep.stopped ≡ Some (number, refusal) → LeavesOf (λ rows. Some rows) new b known (Ok rep)
      stops_left b c done refusal rep split taken why holds is_added is_again is_stopped =
          let later : List Fields = row ∷ unwrap_or after [] in
          let at : rep.added + rep.again + 1 ≡ number = omega (arith, it.next, is_added, is_again) in (
            done ++ later,
            are_rows known left done later split (left_row left after row takes),
            (
              c,
              (
                later,
                (done, refl, subst (λ n. Taken b c done n rep.again) (sym is_added) (subst (λ n. Taken b c done added n) (sym is_again) taken)),
                subst (λ n. EndsAt c n later rep.stopped) (sym at) (refusal, is_stopped, why),
              ),
              holds,
            ),
          )

      pub runs_refused : (refusal : Refusal) (whole : Bool) (rep : ImportReport) → (book_of new ≡ None) ↔ (◌≡◌ {A = Result Bool Stop} (Err (stops.Refused refusal)) (Err (stops.Fault faults.Store)))
          → IfStored now new (λ b. AddsRow new b row (Err (stops.Refused refusal)))
          → rep.added ≡ added → rep.again ≡ again → rep.stopped ≡ Some (number, refusal) → Runs (λ rows. Some rows) old new known whole (Ok rep)
      runs_refused refusal whole rep dropped acted is_added is_again is_stopped = record {
        clean = λ c. it.clean (clean c);
        dropped = (λ none. let e : ◌≡◌ {A = Result Bool Stop} (Err (stops.Refused refusal)) (Err (stops.Fault faults.Store)) = dropped.0 none in cc, λ never. absurd never);
        cause = tt;
        ended = λ none. let e : ◌≡◌ {A = Option (ℕ × Refusal)} None (Some (number, refusal)) = sym none ∙ is_stopped in cc;
        left = λ cl b ties.
            let was = it.begun (clean cl) b ties in
            let fits : nat_lt 1_000_000 number ≡ false = le-ltb 1_000_000 number within in
            let made = refused_row new was.0 row refusal (acted cl was.0 was.4.0) in
            stops_left b was.0 was.1 refusal rep was.2 was.3 (rw fits made.0) made.1 is_added is_again is_stopped;
        all = λ cl b ties. tt;
      }

      -- the store failed at the row, or memory was refused
      pub runs_fault : (fault : Fault) (whole : Bool) → IsActStop (stops.Fault fault) → (book_of new ≡ None) ↔ (◌≡◌ {A = Result Bool Stop} (Err (stops.Fault fault)) (Err (stops.Fault faults.Store)))
          → IfStored now new (λ b. AddsRow new b row (Err (stops.Fault fault)))
          → Runs (λ rows. Some rows) old new known whole (Err (record { fault = fault; added = added; again = again }))
      runs_fault faults.OutOfMemory whole may dropped acted = record {
        clean = λ c. it.clean (clean c);
        dropped = (λ none. let e : ◌≡◌ {A = Result Bool Stop} (Err (stops.Fault faults.OutOfMemory)) (Err (stops.Fault faults.Store)) = dropped.0 none in cc, λ e. cc);
        cause = tt;
        ended = tt;
        left = λ cl b ties.
            let was = it.begun (clean cl) b ties in
            let later : List Fields = row ∷ unwrap_or after [] in
            let holds = starved_row new was.0 row (acted cl was.0 was.4.0) in
            (was.1 ++ later, are_rows known left was.1 later was.2 (left_row left after row takes), (was.0, later, (was.1, refl, was.3), holds));
        all = λ cl b ties is. absurd (memory_not_input is);
      }
      runs_fault faults.Store whole may dropped acted = record {
        clean = λ c. it.clean (clean c);
        dropped = (λ none. refl, λ e. dropped.1 refl);
        cause = tt;
        ended = tt;
        left = λ cl b ties.
            let was = it.begun (clean cl) b ties in
            let later : List Fields = row ∷ unwrap_or after [] in
            let lost = lost_row new was.0 row (acted cl was.0 was.4.0) in
            (was.1 ++ later, are_rows known left was.1 later was.2 (left_row left after row takes), (was.0, later, lost.0, (was.1, refl, was.3), lost.1, lost.2, lost.3));
        all = λ cl b ties is. absurd (store_not_input is);
      }
      runs_fault faults.Reopen whole may dropped acted = absurd may
      runs_fault faults.Input whole may dropped acted = absurd may
      runs_fault faults.Output whole may dropped acted = absurd may

    module _ (new : Keeper S T g) (after : Option (List Fields)) (row : Fields) (takes : TakesRow left after true row) (within : number ≤ 1_000_000)
        (clean : WasClean now new) (stop : Stop)
        (dropped : (book_of new ≡ None) ↔ (◌≡◌ {A = Result Bool Stop} (Err stop) (Err (stops.Fault faults.Store))))
        (acted : IfStored now new (λ b. AddsRow new b row (Err stop))) where
      pub runs_refused_by : (refusal : Refusal) (whole : Bool) (rep : ImportReport) → stop ≡ stops.Refused refusal
          → rep.added ≡ added → rep.again ≡ again → rep.stopped ≡ Some (number, refusal) → Runs (λ rows. Some rows) old new known whole (Ok rep)
      runs_refused_by refusal whole rep is =
          runs_refused new after row takes within clean refusal whole rep
          (subst (λ s. (book_of new ≡ None) ↔ (◌≡◌ {A = Result Bool Stop} (Err s) (Err (stops.Fault faults.Store)))) is dropped)
          (λ cl b ties. subst (λ s. AddsRow new b row (Err s)) is (acted cl b ties))

      pub runs_fault_by : (fault : Fault) (whole : Bool) (e : ImportFault) → stop ≡ stops.Fault fault → IsActStop stop → e ≡ record { fault = fault; added = added; again = again }
          → Runs (λ rows. Some rows) old new known whole (Err e)
      runs_fault_by fault whole e is may told =
          subst (λ f. Runs (λ rows. Some rows) old new known whole (Err f)) (sym told)
          (runs_fault new after row takes within clean fault whole (subst IsActStop is may)
          (subst (λ s. (book_of new ≡ None) ↔ (◌≡◌ {A = Result Bool Stop} (Err s) (Err (stops.Fault faults.Store)))) is dropped)
          (λ cl b ties. subst (λ s. AddsRow new b row (Err s)) is (acted cl b ties)))

    -- no row is left
    pub runs_none : (after : Option (List Fields)) (row : Fields) (whole : Bool) (rep : ImportReport) → TakesRow left after false row → whole ≡ true
        → rep.added ≡ added → rep.again ≡ again → rep.stopped ≡ None → Runs (λ rows. Some rows) old now known whole (Ok rep)
    runs_none after row whole rep takes is_whole is_added is_again is_stopped = record {
      clean = it.clean;
      dropped = (λ none. no_book_there (book_of now) it.is_there none, λ never. absurd never);
      cause = tt;
      ended = λ none. is_whole;
      left = λ cl b ties.
          let was = it.begun cl b ties in (
            was.1 ++ [],
            are_rows known left was.1 [] was.2 (left_none left after row takes),
            (
              was.0,
              ([], (was.1, refl, subst (λ n. Taken b was.0 was.1 n rep.again) (sym is_added) (subst (λ n. Taken b was.0 was.1 added n) (sym is_again) was.3)), is_stopped),
              was.4,
            ),
          );
      all = λ cl b ties. tt;
    }

    -- there is a row too many
    pub runs_full : (after : Option (List Fields)) (row : Fields) (whole : Bool) (rep : ImportReport) → TakesRow left after true row → number ≡ 1_000_001
        → rep.added ≡ added → rep.again ≡ again → rep.stopped ≡ Some (1_000_001, Full 1_000_000) → Runs (λ rows. Some rows) old now known whole (Ok rep)
    runs_full after row whole rep takes last is_added is_again is_stopped = record {
      clean = it.clean;
      dropped = (λ none. no_book_there (book_of now) it.is_there none, λ never. absurd never);
      cause = tt;
      ended = λ none. let e : ◌≡◌ {A = Option (ℕ × Refusal)} None (Some (1_000_001, Full 1_000_000)) = sym none ∙ is_stopped in cc;
      left = λ cl b ties.
          let was = it.begun cl b ties in
          let later : List Fields = row ∷ unwrap_or after [] in
          let at : rep.added + rep.again + 1 ≡ 1_000_001 = omega (arith, it.next, is_added, is_again, last) in
          let past : nat_lt 1_000_000 1_000_001 ≡ true = refl in (
            was.1 ++ later,
            are_rows known left was.1 later was.2 (left_row left after row takes),
            (
              was.0,
              (
                later,
                (was.1, refl, subst (λ n. Taken b was.0 was.1 n rep.again) (sym is_added) (subst (λ n. Taken b was.0 was.1 added n) (sym is_again) was.3)),
                subst (λ n. EndsAt was.0 n later rep.stopped) (sym at) (Full 1_000_000, is_stopped, refl),
              ),
              was.4,
            ),
          );
      all = λ cl b ties. tt;
    }

    -- the next row could not be read
    pub runs_unread : (fault : Fault) (whole : Bool) → HasCause fault (whole ≡ false) → fault ≢ faults.Store → (fault ≡ faults.Input → IfSome left (λ l. l ≡ []))
        → Runs (λ rows. Some rows) old now known whole (Err (record { fault = fault; added = added; again = again }))
    runs_unread fault whole cause other none =
        let first : IfStored old now (λ b. (rows : List Fields) × AreRows known rows × HoldsFirst now b rows added again) = λ cl b ties.
        let was = it.begun cl b ties in
        let later : List Fields = unwrap_or left [] in
        (was.1 ++ later, are_rows known left was.1 later was.2 (left_itself left), (was.0, later, (was.1, refl, was.3), was.4)) in
        record {
          clean = it.clean;
          dropped = (λ none. absurd (no_book_there (book_of now) it.is_there none), λ is. absurd (other is));
          cause = cause;
          ended = tt;
          left = λ cl b ties. elim fault as (λ f. HasCause f (whole ≡ false) → f ≢ faults.Store
              → (rows : List Fields) × AreRows known rows × HoldsFirst now b rows added again → LeavesOf (λ rows. Some rows) now b known (Err (record { fault = f; added = added; again = again }))) [
                | faults.OutOfMemory ↦ λ h o it. it
                | faults.Input ↦ λ h o it. it
                | faults.Store ↦ λ h o it. absurd (o refl)
                | faults.Reopen ↦ λ h o it. absurd h
                | faults.Output ↦ λ h o it. absurd h
              ] cause other (first cl b ties);
          all = λ cl b ties is.
              let was = it.begun cl b ties in
              (was.1 ++ [], are_rows known left was.1 [] was.2 (none is), (was.0, subst (λ rows. Taken b was.0 rows added again) (sym (append-nil was.1)) was.3, was.4));
        }

    pub runs_unread_by : (fault : Fault) (whole : Bool) (e : ImportFault) → HasCause fault (whole ≡ false) → fault ≢ faults.Store → (fault ≡ faults.Input → IfSome left (λ l. l ≡ []))
        → e ≡ record { fault = fault; added = added; again = again } → Runs (λ rows. Some rows) old now known whole (Err e)
    runs_unread_by fault whole e cause other none told =
        subst (λ f. Runs (λ rows. Some rows) old now known whole (Err f)) (sym told) (runs_unread fault whole cause other none)

  -- ---- one command

  -- a keeper's book counts the commands of the state that it is tied to
  counted : (k : Keeper S T g) (b : ActState) (n : ℕ) → ReachedCounts → Ties k b → IsSome (book_of k) → IfSome (book_of k) (λ s. n ≡ s.accepted) → n ≡ length b.accepted
  counted k b n law ties is has =
      elim (book_of k) as (λ o. IsSome o → IfSome o (λ s. n ≡ s.accepted) → IfSome o (λ s. s ≡ b.book) → n ≡ length b.accepted) [
        | None ↦ λ x y z. absurd (true≢false (sym x))
        | Some s ↦ λ x y z. y ∙ ap (λ (t : BookState). t.accepted) z ∙ law b ties.kept.reached
      ] is has ties.book

  -- a command was answered a reply
  pub adds_ok : (old new : Keeper S T g) (b : ActState) (a : Referenced) (reply : Reply) (before after : ℕ) → ReachedCounts → IsSome (book_of old) → Ties old b
      → IfSome (book_of old) (λ s. before ≡ s.accepted) → IfSome (book_of new) (λ s. after ≡ s.accepted)
      → (answer b a ≡ Ok reply) × Ties new (act b a) × IsSome (book_of new) → Adds new b a (Ok (nat_lt before after))
  adds_ok old new b a reply before after law is ties was now made =
      (ap is_ok made.0, grows b a before after (counted old b before law ties is was) (counted new (act b a) after law made.1 made.2 now), (made.1, made.2))

  -- it was not
  pub adds_err : (old new : Keeper S T g) (b : ActState) (a : Referenced) (stop : Stop) → IsSome (book_of old) → Acted old new b a (Err stop) → Adds new b a (Err stop)
  adds_err old new b a (stops.Refused refusal) is made = (made.0, (made.1, subst (λ o. IsSome o) (sym made.2) is))
  adds_err old new b a (stops.Fault faults.OutOfMemory) is made = (made.0, subst (λ o. IsSome o) (sym made.1) is)
  adds_err old new b a (stops.Fault faults.Store) is made = made
  adds_err old new b a (stops.Fault faults.Reopen) is made = made
  adds_err old new b a (stops.Fault faults.Input) is made = made
  adds_err old new b a (stops.Fault faults.Output) is made = made

  -- ---- the header

  -- nothing was read, and nothing acted
  runs_nothing : (old : Keeper S T g) (known : Option (List Fields)) (whole : Bool) (fault : Fault) → IsSome (book_of old) → HasCause fault (whole ≡ false) → fault ≢ faults.Store
      → (fault ≡ faults.Input → IfSome known (λ rows. rows ≡ [])) → Runs after_header old old known whole (Err (record { fault = fault; added = 0; again = 0 }))
  runs_nothing old known whole fault is cause other none =
      let first : (b : ActState) → Ties old b → (rows : List Fields) × AreRows known rows × HoldsFirst old b (unwrap_or (after_header rows) []) 0 0 = λ b ties.
      let rows : List Fields = unwrap_or known [] in
      let body : List Fields = unwrap_or (after_header rows) [] in
      (rows, elim known as (λ k. AreRows k (unwrap_or k [])) [ None ↦ tt | Some k ↦ refl ], (b, body, ([], refl, taken_none b), (ties, is))) in
      record {
        clean = λ clean. clean;
        dropped = (λ none. absurd (no_book_there (book_of old) is none), λ e. absurd (other e));
        cause = cause;
        ended = tt;
        left = λ cl b ties. elim fault as (λ f. HasCause f (whole ≡ false) → f ≢ faults.Store
            → (rows : List Fields) × AreRows known rows × HoldsFirst old b (unwrap_or (after_header rows) []) 0 0 → LeavesOf after_header old b known (Err (record { fault = f; added = 0; again = 0 }))) [
              | faults.OutOfMemory ↦ λ h o it. it
              | faults.Input ↦ λ h o it. it
              | faults.Store ↦ λ h o it. absurd (o refl)
              | faults.Reopen ↦ λ h o it. absurd h
              | faults.Output ↦ λ h o it. absurd h
            ] cause other (first b ties);
        all = λ cl b ties broke.
            let no_rows : AreRows known [] = elim known as (λ k. IfSome k (λ rows. rows ≡ []) → AreRows k []) [ None ↦ λ h. tt | Some rows ↦ λ h. sym h ] (none broke) in
            ([], no_rows, (b, taken_none b, (ties, is)));
      }

  pub runs_nothing_by : (old : Keeper S T g) (known : Option (List Fields)) (whole : Bool) (fault : Fault) (e : ImportFault) → IsSome (book_of old) → HasCause fault (whole ≡ false) → fault ≢ faults.Store
      → (fault ≡ faults.Input → IfSome known (λ rows. rows ≡ [])) → e ≡ record { fault = fault; added = 0; again = 0 } → Runs after_header old old known whole (Err e)
  runs_nothing_by old known whole fault e is cause other none told =
      subst (λ f. Runs after_header old old known whole (Err f)) (sym told) (runs_nothing old known whole fault is cause other none)

  -- memory was refused before anything was read
  pub leaves_nothing : (old : Keeper S T g) (known : Option (List Fields)) (b : ActState) → IsSome (book_of old) → Ties old b
      → LeavesOf after_header old b known (Err (record { fault = faults.OutOfMemory; added = 0; again = 0 }))
  leaves_nothing old known b is ties =
      let rows : List Fields = unwrap_or known [] in
      let body : List Fields = unwrap_or (after_header rows) [] in
      (rows, elim known as (λ k. AreRows k (unwrap_or k [])) [ None ↦ tt | Some k ↦ refl ], (b, body, ([], refl, taken_none b), (ties, is)))

  -- there is no header
  pub runs_headless : (old : Keeper S T g) (left after : Option (List Fields)) (found whole : Bool) (row : Fields) (rep : ImportReport) → IsSome (book_of old) → TakesRow left after found row
      → cond found (is_header row) false ≡ false → rep.added ≡ 0 → rep.again ≡ 0 → rep.stopped ≡ Some (0, BadField 0) → Runs after_header old old left whole (Ok rep)
  runs_headless old left after found whole row rep is takes none is_added is_again is_stopped = record {
    clean = λ clean. clean;
    dropped = (λ e. no_book_there (book_of old) is e, λ never. absurd never);
    cause = tt;
    ended = λ no_stop. let e : ◌≡◌ {A = Option (ℕ × Refusal)} None (Some (0, BadField 0)) = sym no_stop ∙ is_stopped in cc;
    left = λ cl b ties.
        let it = begins_with left after found row takes in
        let lacks : after_header (cond found (row ∷ it.0) []) ≡ None = elim found as (λ t. cond t (is_header row) false ≡ false → after_header (cond t (row ∷ it.0) []) ≡ None) [
          | true ↦ λ e. rw e refl
          | false ↦ λ e. refl
        ] none in
        (cond found (row ∷ it.0) [], it.1, (b, rw (lacks, is_added, is_again, is_stopped) refl, (ties, is)));
    all = λ cl b ties. tt;
  }

  -- the rows after the header were imported
  pub runs_after : (old new : Keeper S T g) (left after : Option (List Fields)) (whole : Bool) (row : Fields) (result : Result ImportReport ImportFault) → TakesRow left after true row → is_header row ≡ true
      → Runs (λ rows. Some rows) old new after whole result → Runs after_header old new left whole result
  runs_after old new left after whole row result takes header it =
      let body : (rows : List Fields) → after_header (row ∷ rows) ≡ Some rows = λ rows. rw header refl in
      record {
        clean = it.clean;
        dropped = it.dropped;
        cause = it.cause;
        ended = it.ended;
        left = λ cl b ties.
            let was = it.left cl b ties in
            (row ∷ was.0, row_before left after row was.0 takes was.1, rw (body was.0) was.2);
        all = λ cl b ties. elim result as (λ r. IfErr r (λ e. e.fault ≡ faults.Input → HoldsAllOf (λ rows. Some rows) new b after e.added e.again)
            → IfErr r (λ e. e.fault ≡ faults.Input → HoldsAllOf after_header new b left e.added e.again)) [
              | Ok report ↦ λ h. tt
              | Err e ↦ λ h is. let was = h is in (row ∷ was.0, row_before left after row was.0 takes was.1, rw (body was.0) was.2)
            ] (it.all cl b ties);
      }

  -- ---- what was gathered, and then what is left, is the text

  report_more : (k : Keeper S T g) (b : ActState) (rows more : List Fields) (report : ImportReport) → report.stopped ≢ None → rows ≢ []
      → Leaves k b (after_header rows) (Ok report) → Leaves k b (after_header (rows ++ more)) (Ok report)
  report_more k b [] more report goes some h = absurd (some refl)
  report_more k b (header ∷ rows) more report goes some h =
      elim (is_header header) as (λ t. (c : ActState) × ImportsBody b (if t then Some rows else None) (import_as c report) × Holds k c
      → (c : ActState) × ImportsBody b (if t then Some (rows ++ more) else None) (import_as c report) × Holds k c) [
        | true ↦ λ it. (it.0, rows_more b rows more (import_as it.0 report) goes it.1, it.2)
        | false ↦ λ it. it
      ] h

  first_more : (k : Keeper S T g) (b : ActState) (rows more : List Fields) (added again : ℕ) → HoldsFirst k b rows added again → HoldsFirst k b (rows ++ more) added again
  first_more k b rows more added again (c, later, (done, split, taken), holds) = (c, later ++ more, (done, ap (λ l. l ++ more) split ∙ append_assoc done later more, taken), holds)

  breaks_more : (k : Keeper S T g) (b : ActState) (rows more : List Fields) (fault : Fault) (added again : ℕ) → Breaks k b rows fault added again → Breaks k b (rows ++ more) fault added again
  breaks_more k b rows more faults.OutOfMemory added again h = first_more k b rows more added again h
  breaks_more k b rows more faults.Input added again h = first_more k b rows more added again h
  breaks_more k b rows more faults.Store added again (c, later, a, (done, split, taken), next, keeps, none) =
      (c, later ++ more, a, (done, ap (λ l. l ++ more) split ∙ append_assoc done later more, taken), next_more later more a next, keeps, none)
  breaks_more k b rows more faults.Reopen added again h = absurd h
  breaks_more k b rows more faults.Output added again h = absurd h

  -- what an import of the first rows left is what one of all leaves, where it stopped or broke off among them
  leaves_more : (k : Keeper S T g) (b : ActState) (rows more : List Fields) (r : Result ImportReport ImportFault) → IfOk r (λ report. report.stopped ≢ None) → IfOk r (λ report. rows ≢ [])
      → Leaves k b (after_header rows) r → Leaves k b (after_header (rows ++ more)) r
  leaves_more k b rows more (Ok report) goes some h = report_more k b rows more report goes some h
  leaves_more k b rows more (Err e) goes some h =
      let body = body_more rows more in
      rw body.1 (breaks_more k b (unwrap_or (after_header rows) []) body.0 e.fault e.added e.again h)

  pub imported_gathered : (k : Keeper S T g) (b : ActState) (old new : Option (List ℕ)) (bytes : List ℕ) (whole : Bool) (r : Result ImportReport ImportFault) → WholeRowsStand → Consumes old new bytes
      → (whole ≡ true → is_over new ≡ true) → IfOk r (λ report. report.stopped ≡ None → whole ≡ true) → (whole ≡ false → IfOk r (λ report. Some (gathered_rows whole bytes) ≢ Some []))
      → Imported k b (Some (gathered_rows whole bytes)) r → Imported k b (option_map rows_of old) r
  imported_gathered k b None new bytes whole r law c over ended some h = (h.0, tt, h.2)
  imported_gathered k b (Some xs) None bytes whole r law c over ended some h = absurd c
  imported_gathered k b (Some xs) (Some []) bytes true r law c over ended some h = rw (c, append-nil bytes) h
  imported_gathered k b (Some xs) (Some (y ∷ ys)) bytes true r law c over ended some h = absurd (true≢false (sym (over refl)))
  imported_gathered k b (Some xs) (Some ys) bytes false r law c over ended some h =
      let begins = law bytes ys in
      let goes : IfOk r (λ report. report.stopped ≢ None) = elim r as (λ x. IfOk x (λ report. report.stopped ≡ None → false ≡ true) → IfOk x (λ report. report.stopped ≢ None)) [
        | Ok report ↦ λ e none. true≢false (sym (e none))
        | Err e ↦ λ e. tt
      ] ended in
      let rows : IfOk r (λ report. whole_rows bytes ≢ []) = elim r as (λ x. IfOk x (λ report. Some (whole_rows bytes) ≢ Some []) → IfOk x (λ report. whole_rows bytes ≢ [])) [
        | Ok report ↦ λ e none. e (ap (λ l. Some l) none)
        | Err e ↦ λ e. tt
      ] (some refl) in
      rw (c, begins.1) (whole_rows bytes ++ begins.0, refl, leaves_more k b (whole_rows bytes) begins.0 r goes rows (subst (λ l. Leaves k b (after_header l) r) h.1 h.2))

  -- a reader broke off, and all whole rows of what it gave were taken
  pub broken_gathered : (k : Keeper S T g) (b : ActState) (old new : Option (List ℕ)) (bytes : List ℕ) (whole : Bool) (r : Result ImportReport ImportFault) → Consumes old new bytes
      → IfErr r (λ e. HasCause e.fault (whole ≡ false)) → IfErr r (λ e. e.fault ≡ faults.Input → HoldsAllOf after_header k b (Some (gathered_rows whole bytes)) e.added e.again)
      → IfErr r (λ e. e.fault ≡ faults.Input → HoldsWholeRows k b old new e.added e.again)
  broken_gathered k b old new bytes whole (Ok report) consumed cause all = tt
  broken_gathered k b old new bytes whole (Err e) consumed cause all = λ is.
      let cut : whole ≡ false = subst (λ f. HasCause f (whole ≡ false)) is cause in
      let held = all is in
      let rows : held.0 ≡ whole_rows bytes = rw cut at held.1 in
      (bytes, consumed, subst (λ l. HoldsAll k b (unwrap_or (after_header l) []) e.added e.again) rows held.2)

pub within_gathered : (old new : Option (List ℕ)) (bytes : List ℕ) (limit : ℕ) → Consumes old new bytes → is_over new ≡ true → length bytes ≤ limit → IsWithin old limit
within_gathered None new bytes limit c over few = tt
within_gathered (Some xs) None bytes limit c over few = absurd c
within_gathered (Some xs) (Some []) bytes limit c over few = rw (c, append-nil bytes) few
within_gathered (Some xs) (Some (y ∷ ys)) bytes limit c over few = absurd (true≢false (sym over))

-- ---- causes and bounds

has_cause : (fault : Fault) (X Y : Type 0) → (X → Y) → HasCause fault X → HasCause fault Y
has_cause faults.OutOfMemory X Y f h = tt
has_cause faults.Input X Y f h = f h
has_cause faults.Store X Y f h = tt
has_cause faults.Reopen X Y f h = absurd h
has_cause faults.Output X Y f h = absurd h

-- a fault of input that has one cause has another that follows from it
pub cause_by : (r : Result ImportReport ImportFault) (X Y : Type 0) → (X → Y) → IfErr r (λ e. HasCause e.fault X) → IfErr r (λ e. HasCause e.fault Y)
cause_by (Ok report) X Y f h = tt
cause_by (Err e) X Y f h = has_cause e.fault X Y f h

-- what holds of a whole text holds of an import that wasn't stopped
pub ended_so : (r : Result ImportReport ImportFault) (Whole So : Type 0) → IfOk r (λ report. report.stopped ≡ None → Whole) → (Whole → So) → IfOk r (λ report. report.stopped ≡ None → So)
ended_so (Ok report) Whole So ended so = λ none. so (ended none)
ended_so (Err e) Whole So ended so = tt

-- an import that wasn't stopped had the whole text, which has so many bytes at most
pub bound_by : (r : Result ImportReport ImportFault) (old new : Option (List ℕ)) (bytes : List ℕ) (whole : Bool) (limit : ℕ) → Consumes old new bytes
    → (whole ≡ true → (is_over new ≡ true) × (length bytes ≤ limit)) → IfOk r (λ report. report.stopped ≡ None → whole ≡ true) → IfOk r (λ report. report.stopped ≡ None → IsWithin old limit)
bound_by (Ok report) old new bytes whole limit consumed fits ended = λ none. let it = fits (ended none) in within_gathered old new bytes limit consumed it.0 it.1
bound_by (Err e) old new bytes whole limit consumed fits ended = tt
