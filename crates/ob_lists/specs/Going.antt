-- What any list of calls on a keeper comes to, with crashes and openings between them.
use Rattle.std.specs.Prelude.{◌≡◌, ◌⊎◌, ⊤, ℕ, ◌<◌, ◌^◌, true, List, [], ◌++◌, length, Contains, Option, Some, None, Result, Ok, Err, IsErr, IsSome}
use Rattle.std.specs.List.{AllByRecursion}
use Rattle.ob_base.specs.declared.stop.Stop.{Stop}
use Rattle.ob_base.specs.declared.stop.Stop.TheVariants.{Refused, Fault}
use Rattle.ob_base.specs.declared.stop.Refusal.{Refusal}
use Rattle.ob_base.specs.declared.stop.Refusal.TheVariants.{OldVersion}
use Rattle.ob_base.specs.declared.stop.Fault.TheVariants.{OutOfMemory, Store, Reopen}
use Rattle.ob_time.specs.Calendar.{Calendar}
use Rattle.ob_time.specs.Period.{IsPeriodText}
use Rattle.ob_command.specs.declared.command.Command.{Command}
use Rattle.ob_csv.specs.Rows.{Fields}
use Rattle.ob_state.specs.Refusals.{refusal}
use Rattle.ob_book.specs.Acts.{ActState, Referenced, is_same, start}
use Rattle.ob_book.specs.Forecasts.{forecast_text_of}
use Rattle.ob_sql_rows.specs.declared.table.Table.{Table}
use Rattle.ob_import.specs.Imports.{Says}
use Rattle.ob_import.specs.Reports.{AreRows}
use Rattle.ob_store.specs.Calls.{Created, ForgetsNoFault, HasCommandCause, HasWorkCause, Loads, OpensAfter, StoreFailed}
use Rattle.ob_store.specs.Keepers.{Ghosts, IsClean, StoresNumbers, Ties, book_of}
use Rattle.ob_store.specs.declared.keeper.Keeper.{Keeper}
use Rattle.ob_http_requests.specs.Message.{Message}
use Rattle.ob_lists.specs.Importing.{Ended, body_of, counted}
use Rattle.ob_lists.specs.Streaming.{Accepts, Acknowledges, AnswersStream, Sends, Stream}
use Rattle.ob_lists.specs.Standing.{InUpgrade, KeptOld, MayBe, Stands, Told, acknowledged, imported, streamed}

module _ {S T R U : Type 0} {g : Ghosts S} {h : Ghosts R} where
  -- the one keeper has become the other, and this was told in between, the newest first: whatever was told before, what the store
  -- had of a book it has, with what was told since
  pub record Goes (told : List Told) (old : Keeper S T g) (new : Keeper R U h) : Type 0 where
    pub clean : IsClean new → IsClean old
    pub stands : IsClean new → (b : ActState) (before : List Told)
        → Stands (MayBe b before) old → Stands (MayBe b (told ++ before)) new

  -- a process ended at any moment, and a keeper was made over what a crash left of its store
  pub record Restarts (old : Keeper S T g) (new : Keeper R U h) : Type 0 where
    pub opens : OpensAfter old new
    pub book : book_of new ≡ None

module _ {S R : Type 0} (T U : Type 0) (g : Ghosts S) (h : Ghosts R) where
  -- a keeper after the end of a process goes on from the same state
  abbrev pub RestartLaw : Type 0
  RestartLaw = (old : Keeper S T g) (new : Keeper R U h) → Restarts old new → Goes [] old new

module _ {S M R : Type 0} (T U V : Type 0) (g : Ghosts S) (m : Ghosts M) (h : Ghosts R) where
  -- one list after another is a list
  abbrev pub JoinLaw : Type 0
  JoinLaw =
      (first next : List Told) (old : Keeper S T g) (mid : Keeper M U m) (new : Keeper R V h)
      → Goes first old mid → Goes next mid new → Goes (next ++ first) old new

-- one of these books accepts the command, and the text says what it would do to it
abbrev pub PlansOne : (ActState → Type 0) → Command → List ℕ → Type 0
PlansOne Is command text = (x : ActState) × Is x × (refusal x.book command ≡ None) × (text ≡ forecast_text_of x.book command)

-- the refusal of a plan is that of one of these books
abbrev pub RefusesOne : (ActState → Type 0) → Command → Refusal → Type 0
RefusesOne Is command why = (x : ActState) × Is x × (refusal x.book command ≡ Some why)

-- The answer of a call that needs a book: the keeper had none, which is told; or it is the answer of one of these books.
abbrev pub OfOne : {S T X : Type 0} {g : Ghosts S} → (ActState → Type 0) → Keeper S T g → Result X Stop → (ActState → Type 0) → Type 0
OfOne Is old result Answers = ((book_of old ≡ None) × (result ≡ Err (Fault Reopen))) ⊎ ((x : ActState) × Is x × Answers x)

module _ {S T : Type 0} {g : Ghosts S} where
  -- a load finds one of these books, or tells that it is of version 1, which it then is; or memory was refused, or the store failed,
  -- for a cause
  abbrev pub LoadsOne : (ActState → Type 0) → Keeper S T g → Keeper S T g → Result ⊤ Stop → Type 0
  LoadsOne Is old new (Ok done) = (b : ActState) × Is b × Ties new b × (book_of new ≡ Some b.book)
  LoadsOne Is old new (Err (Refused (OldVersion version))) = (version ≡ 1) × (KeptOld Is old ⊎ InUpgrade Is old)
  LoadsOne Is old new (Err (Refused refusal)) = ⊥
  LoadsOne Is old new (Err (Fault OutOfMemory)) = ⊤
  LoadsOne Is old new (Err (Fault Store)) = StoreFailed old new
  LoadsOne Is old new (Err (Fault fault)) = ⊥

  -- an audit finds no table that differs from those of one of these books; or it stops as a load may
  abbrev pub AuditsOne : (ActState → Type 0) → Keeper S T g → Keeper S T g → Result (Option Table) Stop → Type 0
  AuditsOne Is old new (Ok found) = found ≡ None
  AuditsOne Is old new (Err stop) = LoadsOne Is old new (Err stop)

  -- what the load finds that is the last of some calls: the store of the keeper before it had one of these books
  pub record Finds (Is : ActState → Type 0) (new : Keeper S T g) (result : Result ⊤ Stop) : Type 0 where
    pub before : Keeper S T g
    pub stands : Stands Is before
    pub loads : Loads before new result
    pub one : LoadsOne Is before new result

  -- what a load finds where a book of a period was to be made in a database that held nothing: that book where it was made, that
  -- or none where the store failed, and else none
  abbrev pub Begun : List ℕ → ℕ → List ℕ → Result ⊤ Stop → Keeper S T g → Result ⊤ Stop → Type 0
  Begun first days zone (Ok done) new result = (p : Calendar) × IsPeriodText first days zone p × Finds (λ x. x ≡ start p) new result
  Begun first days zone (Err (Refused refusal)) new result = IsErr result
  Begun first days zone (Err (Fault Store)) new result =
      (p : Calendar) × IsPeriodText first days zone p × (Finds (λ x. x ≡ start p) new result ⊎ IsErr result)
  Begun first days zone (Err (Fault fault)) new result = IsErr result

  -- a new book was to be made of some keeper, which ended so, and left this one
  abbrev pub CreatedLast : Keeper S T g → List ℕ → ℕ → List ℕ → Result ⊤ Stop → Type 0
  CreatedLast new first days zone result = (before : Keeper S T g) × Created before new first days zone result

  -- a new book was to be made of this keeper, which ended so, and left some keeper
  abbrev pub CreatedFirst : Keeper S T g → List ℕ → ℕ → List ℕ → Result ⊤ Stop → Type 0
  CreatedFirst old first days zone result = (made : Keeper S T g) × Created old made first days zone result

  -- where the store is told to have failed on a command, that has its cause, over one of these books
  abbrev pub ActsForCause : {X : Type 0} → (ActState → Type 0) → Keeper S T g → Keeper S T g → Referenced → Result X Stop → Type 0
  ActsForCause Is old new a result = (x : ActState) × Is x × HasCommandCause old new x a result

  -- What is known of the store's faults after a call, which reports that the store failed or doesn't: none is forgotten; hidden row
  -- numbers 1, 2, 3 and so on stay so, whichever book there is; and then such a report over a keeper's book has its cause.
  pub record TellsOverList (old new : Keeper S T g) (failed : Type 0) : Type 0 where
    pub forgets : ForgetsNoFault old new
    pub numbered : (b : ActState) (told : List Told) → Stands (MayBe b told) old → StoresNumbers old → StoresNumbers new
    pub cause : IsClean new → (b : ActState) (told : List Told) → Stands (MayBe b told) old → IsSome (book_of old) → StoresNumbers old → failed
        → (x : ActState) × MayBe b told x × HasWorkCause old new x

  -- a new book of the period that the texts name stands, with what was told since; and whatever a crash leaves has hidden row numbers
  -- 1, 2, 3 and so on
  abbrev pub BegunNumbered : List ℕ → ℕ → List ℕ → List Told → Keeper S T g → Type 0
  BegunNumbered first days zone told new =
      (p : Calendar) × IsPeriodText first days zone p × Stands (MayBe (start p) told) new × StoresNumbers new

-- an accepted command of the book has the reference and the body text
abbrev pub Holds : ActState → Referenced → Type 0
Holds b a = (c : Referenced) × Contains b.accepted c × (c.reference ≡ a.reference) × (is_same c.command a.command ≡ true)

-- each command that is acknowledged is in the book
abbrev pub ToldLaw : Type 0
ToldLaw = (b x : ActState) (told : List Told) (a : Referenced) → MayBe b told x → Contains told (acknowledged a) → Holds x a

-- the row says a command that the book has
abbrev pub HoldsRow : ActState → Fields → Type 0
HoldsRow b row = (a : Referenced) × Says row a × Holds b a

-- so many rows of a text, the first after its header, say commands that the book has
abbrev pub HoldsRows : ActState → List Fields → ℕ → Type 0
HoldsRows b rows count =
    (done : List Fields) × (later : List Fields) × (body_of rows ≡ done ++ later) × (length done ≡ count) × AllByRecursion (HoldsRow b) done

-- each row that an import counts, as added or as there already, says a command that is in the book
abbrev pub RowsLaw : Type 0
RowsLaw =
    (b x : ActState) (told : List Told) (known : Option (List Fields)) (ended : Ended) → MayBe b told x → Contains told (imported known ended)
    → (rows : List Fields) × AreRows known rows × HoldsRows x rows (counted ended)

-- each command that an answered request of a served stream posted, and that was answered a reply, is in the book
abbrev pub StreamsLaw : Type 0
StreamsLaw =
    (b x : ActState) (told : List Told) (stream : Stream) → MayBe b told x → Contains told (streamed stream)
    → (y : ActState) × (z : ActState) × (it : AnswersStream y stream z) × ((a : Referenced) → Accepts y it.requests a → Holds x a)

-- where the bytes of a served stream are known, and those that were written for it, fewer than 2^64: each command that its requests
-- posted and that a whole reply with status 200 was written to is in the book
abbrev pub WrittenLaw : Type 0
WrittenLaw =
    (b x : ActState) (told : List Told) (stream : Stream) → MayBe b told x → Contains told (streamed stream)
    → (sent had got : List ℕ) → stream.bytes ≡ Some sent → stream.had ≡ Some had → stream.has ≡ Some (had ++ got) → length got < 2 ^ 64
    → (ms : List Message) (a : Referenced) → Sends sent ms → Acknowledges ms got a → Holds x a
