-- What an import tells, and what then stands.
use Rattle.std.specs.Prelude.{◌≡◌, ◌↔◌, ◌⊎◌, ℕ, ⊤, Bool, true, false, List, [], ◌∷◌, Option, None, Result, Ok, Err, IfSome, IsSome, IfOk, IfErr, option_map, unwrap_or}
use Rattle.std.specs.Io.KnownBytes.{Consumes}
use Rattle.ob_base.specs.declared.stop.Fault.{Fault}
use Rattle.ob_base.specs.declared.stop.Fault.TheVariants.{OutOfMemory, Store, Reopen, Input, Output}
use Rattle.ob_csv.specs.Rows.{Fields, rows_of}
use Rattle.ob_csv.specs.WholeRows.{whole_rows}
use Rattle.ob_stream.specs.Retrying.{TriesAll, TriesOrGivesUp}
use Rattle.ob_stream.specs.Streams.{Passes}
use Rattle.ob_stream.specs.Watching.{HasJustFailed, watched_bytes}
use Rattle.ob_stream.specs.declared.watched.Watched.{Watched}
use Rattle.ob_book.specs.Acts.{ActState, Referenced, act}
use Rattle.ob_store.specs.Calls.{IfHeld, IfStored, TellsFaults, WasClean}
use Rattle.ob_store.specs.Keepers.{Ghosts, Holds, StoresEither, book_of}
use Rattle.ob_store.specs.declared.keeper.Keeper.{Keeper}
use Rattle.ob_import.specs.Imports.{Begins, Import, ImportsBody, Says, Taken, after_header}
use Rattle.ob_import.specs.Gathering.{IsWithin}
use Rattle.ob_import.specs.declared.report.ImportReport.{ImportReport}
use Rattle.ob_import.specs.declared.report.ImportFault.{ImportFault}

-- an import that left this state and is told by this report
abbrev pub import_as : ActState → ImportReport → Import
import_as c report = record { state = c; added = report.added; again = report.again; stopped = report.stopped }

-- the first of these rows says this command
abbrev pub IsNext : List Fields → Referenced → Type 0
IsNext [] a = ⊥
IsNext (row ∷ rows) a = Says row a

-- an import that found no book
abbrev pub no_book : Result ImportReport ImportFault
no_book = Err (record { fault = Reopen; added = 0; again = 0 })

-- the store has failed
abbrev pub IsStoreFault : Result ImportReport ImportFault → Type 0
IsStoreFault (Ok report) = ⊥
IsStoreFault (Err e) = e.fault ≡ Store

-- a fault of an import into a book: one of input has this cause
abbrev pub HasCause : Fault → Type 0 → Type 0
HasCause OutOfMemory input = ⊤
HasCause Input input = input
HasCause Store input = ⊤
HasCause Reopen input = ⊥
HasCause Output input = ⊥

-- Interrupted reads were tried again, with 65,536 retries in all. An import that came to its end gave none up.
abbrev pub TriesToRead : {R : Type 0} → Watched R → Watched R → Result ImportReport ImportFault → Type 0
TriesToRead was is done =
    (left : ℕ) × TriesOrGivesUp 65536 left was is × IfOk done (λ r. r.stopped ≡ None → TriesAll 65536 left was is)

-- these are the rows, where those are known
abbrev pub AreRows : Option (List Fields) → List Fields → Type 0
AreRows known rows = IfSome known (λ those. rows ≡ those)

module _ {S T : Type 0} {g : Ghosts S} where
  -- the keeper holds what the first of these rows left
  abbrev pub HoldsFirst : Keeper S T g → ActState → List Fields → ℕ → ℕ → Type 0
  HoldsFirst new b rows added again = (c : ActState) × (later : List Fields) × Begins b c rows later added again × Holds new c

  -- the store failed at the command of the row after these: there is no book, and a crash leaves what the first rows
  -- left or that command with it
  abbrev pub LosesNext : Keeper S T g → ActState → List Fields → ℕ → ℕ → Type 0
  LosesNext new b rows added again =
      (c : ActState) × (later : List Fields) × (a : Referenced) × Begins b c rows later added again × IsNext later a
      × StoresEither new c (act c a) × (book_of new ≡ None)

  -- the keeper holds what all these rows left
  abbrev pub HoldsAll : Keeper S T g → ActState → List Fields → ℕ → ℕ → Type 0
  HoldsAll new b rows added again = (c : ActState) × Taken b c rows added again × Holds new c

  -- what stands after a fault ended an import
  abbrev pub Breaks : Keeper S T g → ActState → List Fields → Fault → ℕ → ℕ → Type 0
  Breaks new b rows OutOfMemory added again = HoldsFirst new b rows added again
  Breaks new b rows Input added again = HoldsFirst new b rows added again
  Breaks new b rows Store added again = LosesNext new b rows added again
  Breaks new b rows Reopen added again = ⊥
  Breaks new b rows Output added again = ⊥

  -- what an import of the rows after a header made of a keeper over a book, and told
  abbrev pub Leaves : Keeper S T g → ActState → Option (List Fields) → Result ImportReport ImportFault → Type 0
  Leaves new b body (Ok report) = (c : ActState) × ImportsBody b body (import_as c report) × Holds new c
  Leaves new b body (Err e) = Breaks new b (unwrap_or body []) e.fault e.added e.again

  -- the same of known rows, of which these are after the header; where they aren't known, of some rows
  abbrev pub LeavesOf : (List Fields → Option (List Fields)) → Keeper S T g → ActState → Option (List Fields) → Result ImportReport ImportFault → Type 0
  LeavesOf body new b known result = (rows : List Fields) × AreRows known rows × Leaves new b (body rows) result

  -- the same of the rows of a text, its header among them
  abbrev pub Imported : Keeper S T g → ActState → Option (List Fields) → Result ImportReport ImportFault → Type 0
  Imported new b known result = LeavesOf after_header new b known result

  -- the keeper holds what all known rows left, of which these are after the header
  abbrev pub HoldsAllOf : (List Fields → Option (List Fields)) → Keeper S T g → ActState → Option (List Fields) → ℕ → ℕ → Type 0
  HoldsAllOf body new b known added again = (rows : List Fields) × AreRows known rows × HoldsAll new b (unwrap_or (body rows) []) added again

  -- what stands after a reader broke off: all the whole rows of the bytes that it gave were taken
  abbrev pub HoldsWholeRows : Keeper S T g → ActState → Option (List ℕ) → Option (List ℕ) → ℕ → ℕ → Type 0
  HoldsWholeRows new b bytes left added again =
      (given : List ℕ) × Consumes bytes left given × HoldsAll new b (unwrap_or (after_header (whole_rows given)) []) added again

  -- an import of what a reader gives: there is a book or it is answered that there is none; what then stands, and why a fault
  -- came
  pub record ImportOf {R : Type 0} (remaining : R → Option (List ℕ)) (old new : Keeper S T g) (was is : Watched R)
      (done : Result ImportReport ImportFault) : Type 0 where
    pub reopen : (book_of old ≡ None) ↔ (done ≡ no_book)
    pub unopened : book_of old ≡ None → new ≡ old
    pub imported : IfHeld old new (λ b. Imported new b (option_map rows_of (watched_bytes remaining was)) done)
    pub clean : WasClean old new
    pub dropped : IsSome (book_of old) → (book_of new ≡ None) ↔ IsStoreFault done
    -- the reader failed, or it gave more bytes than a text may have
    pub cause : IsSome (book_of old) → IfErr done (λ e. HasCause e.fault (HasJustFailed is ⊎ Passes (watched_bytes remaining was) 268435456))
    pub broken : IfHeld old new
        (λ b. IfErr done (λ e. e.fault ≡ Input → HoldsWholeRows new b (watched_bytes remaining was) (watched_bytes remaining is) e.added e.again))
    pub bound : IfOk done (λ r. r.stopped ≡ None → IsWithin (watched_bytes remaining was) 268435456)
    -- interrupted reads were tried again, with 65,536 retries in all
    pub tries : TriesToRead was is done
    pub tells : TellsFaults old new (IsStoreFault done)

  -- all that an import of a book promises, of rows of which these are after the header and that are the whole text or not
  pub record Runs (body : List Fields → Option (List Fields)) (old new : Keeper S T g) (known : Option (List Fields)) (whole : Bool)
      (result : Result ImportReport ImportFault) : Type 0 where
    pub clean : WasClean old new
    pub dropped : (book_of new ≡ None) ↔ IsStoreFault result
    pub cause : IfErr result (λ e. HasCause e.fault (whole ≡ false))
    pub ended : IfOk result (λ r. r.stopped ≡ None → whole ≡ true)
    pub left : IfStored old new (λ b. LeavesOf body new b known result)
    pub all : IfStored old new
        (λ b. IfErr result (λ e. e.fault ≡ Input → HoldsAllOf body new b known e.added e.again))
