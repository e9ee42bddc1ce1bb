-- What an import of a whole text makes of a book: all of its rows, or none.
use Rattle.std.specs.Prelude.{◌≡◌, ◌↔◌, ◌⊎◌, ◌≤◌, ◌<◌, ℕ, ◌+◌, ◌-◌, ⊤, true, false, List, [], ◌∷◌, length, Option, Some, None, Result, Ok, Err, is_err, nat_lt, MatchOption, IfErr, IfOk, IsSome, option_map}
use Rattle.std.specs.Bool.{MatchBool}
use Rattle.ob_base.specs.declared.stop.Fault.{Fault}
use Rattle.ob_base.specs.declared.stop.Fault.TheVariants.{OutOfMemory, Store, Reopen, Input, Output}
use Rattle.ob_base.specs.declared.stop.Stop.{Stop}
use Rattle.ob_base.specs.declared.stop.Stop.TheVariants as stops
use Rattle.ob_base.specs.declared.stop.Refusal.{Refusal}
use Rattle.ob_base.specs.declared.stop.Refusal.TheVariants.{Full}
use Rattle.ob_csv.specs.Rows.{Fields, TakesRow, rows_of}
use Rattle.ob_csv.specs.RowReading.{rows_left}
use Rattle.ob_stream.specs.Retrying.{TriesAnew}
use Rattle.ob_stream.specs.Streams.{Passes}
use Rattle.ob_stream.specs.Watching.{HasJustFailed, watched_bytes}
use Rattle.ob_stream.specs.declared.watched.Watched.{Watched}
use Rattle.ob_command.specs.Fields.{IsRow}
use Rattle.ob_book.specs.Acts.{ActState}
use Rattle.ob_store.specs.Calls.{CommitsOf, IfHeld, IfStored, StoreFailed, UndidTables, WasClean}
use Rattle.ob_store.specs.Keepers.{Ghosts, Holds, Stores, StoresEither, StoresNumbers, Ties, book_of}
use Rattle.ob_store.specs.Whole.{Line}
use Rattle.ob_store.specs.declared.whole.Halted.{Halted}
use Rattle.ob_store.specs.declared.keeper.Keeper.{Keeper}
use Rattle.ob_import.specs.Gathering.{IsWithin}
use Rattle.ob_import.specs.Imports.{Import, Imports, after_header}
use Rattle.ob_import.specs.Reports.{AreRows, HasCause, IsStoreFault, import_as, no_book}
use Rattle.ob_import.specs.declared.report.ImportReport.{ImportReport}
use Rattle.ob_import.specs.declared.report.ImportFault.{ImportFault}
use Rattle.ob_import.specs.declared.whole.RowLines.{RowLines}

-- ---- the rows of a text as the lines of a list
-- what the row of this number says, where a text may have so many
abbrev pub IsLine : ℕ → Fields → Line → Type 0
IsLine number row line = MatchBool (nat_lt 1_000_000 number) (line ≡ Err (Full 1_000_000)) (IsRow row line)

-- the lines are what these rows say, which are numbered from here, up to the first row that says no command
abbrev pub AreLines : ℕ → List Fields → List Line → Type 0
AreLines number [] [] = ⊤
AreLines number (row ∷ rows) (Ok said ∷ list) = IsLine number row (Ok said) × AreLines (number + 1) rows list
AreLines number (row ∷ rows) (Err refusal ∷ list) = IsLine number row (Err refusal) × (list ≡ [])
AreLines number [] (line ∷ list) = ⊥
AreLines number (row ∷ rows) [] = ⊥

module _ {R : Type 0} (remaining : R → Option (List ℕ)) where
  -- the next row was read, and says this line
  pub record GivesRow (was : RowLines R) (line : Line) (is : RowLines R) : Type 0 where
    pub row : Fields
    pub going : was.ended ≡ false
    pub few : was.given ≤ 1_000_000
    pub takes : TakesRow (rows_left remaining was.rows) (rows_left remaining is.rows) true row
    pub says : IsLine (was.given + 1) row line
    pub counted : is.given ≡ was.given + 1
    pub ended : is.ended ≡ is_err line

  -- the last line said no command, more were given than a text may have, or no row is left
  pub record GivesNone (was is : RowLines R) : Type 0 where
    pub row : Fields
    pub why : (was.ended ≡ true)
        ⊎ ((1_000_000 < was.given) ⊎ TakesRow (rows_left remaining was.rows) (rows_left remaining is.rows) false row)
    pub counted : is.given ≡ was.given

  -- what taking a line makes of the rows of a text
  abbrev pub GivesLine : RowLines R → Result (Option Line) Fault → RowLines R → Type 0
  GivesLine was (Ok (Some line)) is = GivesRow was line is
  GivesLine was (Ok None) is = GivesNone was is
  GivesLine was (Err fault) is = is.given ≡ was.given

  -- the rows after a header are to be given, where there is one
  abbrev pub GivesBody : Option (List Fields) → Option (RowLines R) → Type 0
  GivesBody None None = ⊤
  GivesBody (Some rows) (Some lines) = (rows_left remaining lines.rows ≡ Some rows) × (lines.given ≡ 0) × (lines.ended ≡ false)
  GivesBody None (Some lines) = ⊥
  GivesBody (Some rows) None = ⊥

-- the result of an import that nothing was added of, since the list stopped at this place
abbrev pub IsStopOf : ℕ → Stop → Result ImportReport ImportFault → Type 0
IsStopOf place (stops.Refused refusal) result = result ≡ Ok (record { added = 0; again = 0; stopped = Some (place + 1, refusal) })
IsStopOf place (stops.Fault fault) result = result ≡ Err (record { fault = fault; added = 0; again = 0 })

-- the result of an import from that of a list of so many lines
abbrev pub IsEndOf : Result ℕ Halted → ℕ → Result ImportReport ImportFault → Type 0
IsEndOf (Ok added) lines result = result ≡ Ok (record { added = added; again = lines - added; stopped = None })
IsEndOf (Err e) lines result = IsStopOf e.place e.stop result

-- ---- what is left of an import
-- an import of the rows of a text, its header among them, takes them all and leads the one book to the other
abbrev pub ImportsAll : List Fields → ActState → ActState → Type 0
ImportsAll rows b c =
    (added : ℕ) × (again : ℕ) × Imports b rows (record { state = c; added = added; again = again; stopped = None })

-- an import of the rows stops at this one, for this refusal
abbrev pub ImportStops : ActState → List Fields → ℕ × Refusal → Type 0
ImportStops b rows at = (i : Import) × Imports b rows i × (i.stopped ≡ Some at)

module _ {S T : Type 0} {g : Ghosts S} where
  -- no row was refused, and the keeper holds what an import of the rows leaves; or one was, at which an import stops, and
  -- nothing was added
  abbrev pub EndsWhole : Keeper S T g → ActState → List Fields → ImportReport → Option (ℕ × Refusal) → Type 0
  EndsWhole new b rows report None = (c : ActState) × Imports b rows (import_as c report) × Holds new c
  EndsWhole new b rows report (Some at) = ImportStops b rows at × (report.added ≡ 0) × (report.again ≡ 0) × Ties new b

  -- what stands after a fault: the book as it was; or, where the store failed, that book or all rows in it
  abbrev pub BreaksWhole : Keeper S T g → ActState → List Fields → Fault → Type 0
  BreaksWhole new b rows OutOfMemory = Ties new b
  BreaksWhole new b rows Input = Ties new b
  BreaksWhole new b rows Store =
      (Stores new b ⊎ ((c : ActState) × ImportsAll rows b c × StoresEither new b c)) × (book_of new ≡ None)
  BreaksWhole new b rows Reopen = ⊥
  BreaksWhole new b rows Output = ⊥

  -- what a whole import of the rows of a text made of a keeper over a book, and told
  abbrev pub LeavesWhole : Keeper S T g → ActState → List Fields → Result ImportReport ImportFault → Type 0
  LeavesWhole new b rows (Ok report) = EndsWhole new b rows report report.stopped
  LeavesWhole new b rows (Err e) = BreaksWhole new b rows e.fault × (e.added ≡ 0) × (e.again ≡ 0)

  -- the same of known rows; where they aren't known, of some rows
  abbrev pub ImportedWhole : Keeper S T g → ActState → Option (List Fields) → Result ImportReport ImportFault → Type 0
  ImportedWhole new b known result = (rows : List Fields) × AreRows known rows × LeavesWhole new b rows result

  -- an import took all rows, and the transaction that showed the tables of the book after them was undone, as for want of memory
  abbrev pub WasWholeUndone : Keeper S T g → ActState → List Fields → Type 0
  WasWholeUndone new b rows = (c : ActState) × ImportsAll rows b c × UndidTables new c

  -- What is known of the store's faults after a whole import of rows: hidden row numbers 1, 2, 3 and so on stay so; and then the
  -- store is reported to have failed only where it has, or where it undid the rows of the whole text.
  pub record TellsWholeFaults (old new : Keeper S T g) (rows : List Fields) (result : Result ImportReport ImportFault) : Type 0 where
    pub numbered : IfHeld old new (λ b. StoresNumbers old → StoresNumbers new)
    pub cause : IfHeld old new
        (λ b. StoresNumbers old → IsStoreFault result → StoreFailed old new ⊎ WasWholeUndone new b rows)

  -- all that a whole import of rows promises
  pub record RunsWhole (old new : Keeper S T g) (rows : List Fields) (result : Result ImportReport ImportFault) : Type 0 where
    pub clean : WasClean old new
    pub cause : IfErr result (λ e. HasCause e.fault ⊥)
    pub left : IfHeld old new (λ b. LeavesWhole new b rows result)
    pub commits : CommitsOf (ImportsAll rows) old new
    pub tells : TellsWholeFaults old new rows result

  -- a whole import of what a reader gives: there is a book or it is answered that there is none; what then stands, and why a
  -- fault came
  pub record WholeOf {R : Type 0} (remaining : R → Option (List ℕ)) (old new : Keeper S T g) (was is : Watched R)
      (done : Result ImportReport ImportFault) : Type 0 where
    pub reopen : (book_of old ≡ None) ↔ (done ≡ no_book)
    pub unopened : book_of old ≡ None → new ≡ old
    pub imported : IfHeld old new (λ b. ImportedWhole new b (option_map rows_of (watched_bytes remaining was)) done)
    pub clean : WasClean old new
    -- the reader failed, or it gave more bytes than a text may have
    pub cause : IsSome (book_of old) → IfErr done (λ e. HasCause e.fault (HasJustFailed is ⊎ Passes (watched_bytes remaining was) 268435456))
    pub bound : IfOk done (λ r. r.stopped ≡ None → IsWithin (watched_bytes remaining was) 268435456)
    -- interrupted reads were tried again, with 65,536 retries in all
    pub tries : TriesAnew was is done
    -- a crash leaves what it could leave before, or all rows of the text
    pub commits : (rows : List Fields) × AreRows (option_map rows_of (watched_bytes remaining was)) rows × CommitsOf (ImportsAll rows) old new
    pub tells : (rows : List Fields) × AreRows (option_map rows_of (watched_bytes remaining was)) rows × TellsWholeFaults old new rows done
