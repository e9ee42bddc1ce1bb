-- What an import makes of a book: the rows of a text, acted one after the other up to the first refusal.
use Rattle.std.specs.Prelude.{◌≡◌, ◌⊎◌, ◌≤◌, ℕ, ◌+◌, ⊤, true, List, [], ◌∷◌, ◌++◌, length, Option, Some, None, Ok, Err, nat_lt, MatchOption, if◌then◌else◌}
use Rattle.std.specs.Bool.{MatchBool}
use Rattle.std.specs.Result.{is_ok}
use Rattle.ob_base.specs.declared.stop.Refusal.{Refusal}
use Rattle.ob_base.specs.declared.stop.Refusal.TheVariants.{BadField, Full}
use Rattle.ob_csv.specs.Header.{is_header}
use Rattle.ob_csv.specs.Rows.{Fields}
use Rattle.ob_command.specs.Fields.{IsRow}
use Rattle.ob_book.specs.Acts.{ActState, Referenced, acts, act, answer}

-- the row says this command under its reference
abbrev pub Says : Fields → Referenced → Type 0
Says row a = IsRow row (Ok (a.reference, a.command))

-- each row says the command at its place
abbrev pub Say : List Fields → List Referenced → Type 0
Say [] [] = ⊤
Say (row ∷ rows) (a ∷ list) = Says row a × Say rows list
Say [] (a ∷ list) = ⊥
Say (row ∷ rows) [] = ⊥

-- each command, at its turn, is answered a reply
abbrev pub AreAnswered : ActState → List Referenced → Type 0
AreAnswered b [] = ⊤
AreAnswered b (a ∷ list) = (is_ok (answer b a) ≡ true) × AreAnswered (act b a) list

-- rows whose commands were each answered a reply, and left this state: so many of them were new to the book, and the
-- others it had already
pub record Taken (b c : ActState) (rows : List Fields) (added again : ℕ) : Type 0 where
  pub commands : List Referenced
  pub say : Say rows commands
  pub answered : AreAnswered b commands
  pub state : c ≡ acts b commands
  pub grown : length b.accepted + added ≡ length c.accepted
  pub all : added + again ≡ length rows
  pub few : length rows ≤ 1_000_000

-- the first of these rows were taken, and the later ones are yet to come
abbrev pub Begins : ActState → ActState → List Fields → List Fields → ℕ → ℕ → Type 0
Begins b c rows later added again = (done : List Fields) × (rows ≡ done ++ later) × Taken b c done added again

-- a row is refused: it says no command, or one that is refused
abbrev pub IsRefused : ActState → Fields → Refusal → Type 0
IsRefused c row refusal = IsRow row (Err refusal) ⊎ ((a : Referenced) × Says row a × (answer c a ≡ Err refusal))

-- why the row of this number stops an import
abbrev pub Stops : ActState → ℕ → Fields → Refusal → Type 0
Stops c number row refusal = MatchBool (nat_lt 1_000_000 number) (refusal ≡ Full 1_000_000) (IsRefused c row refusal)

-- where an import ends: after the last row, or at the next one, which has this number and is refused
abbrev pub EndsAt : ActState → ℕ → List Fields → Option (ℕ × Refusal) → Type 0
EndsAt c number [] stopped = stopped ≡ None
EndsAt c number (row ∷ rows) stopped = (refusal : Refusal) × (stopped ≡ Some (number, refusal)) × Stops c number row refusal

-- the state that an import leaves, how many commands it added, how many the book had already, and the row that stopped
-- it
pub record Import : Type 0 where
  pub state : ActState
  pub added : ℕ
  pub again : ℕ
  pub stopped : Option (ℕ × Refusal)

-- what an import of these rows, which are numbered from 1, makes of a book
abbrev pub ImportsRows : ActState → List Fields → Import → Type 0
ImportsRows b rows i =
    (later : List Fields) × Begins b i.state rows later i.added i.again × EndsAt i.state (i.added + i.again + 1) later i.stopped

-- the rows after the header, where there is a header
abbrev pub after_header : List Fields → Option (List Fields)
after_header [] = None
after_header (header ∷ rows) = if is_header header then Some rows else None

-- an import that was stopped at the header
abbrev pub headless : ActState → Import
headless b = record { state = b; added = 0; again = 0; stopped = Some (0, BadField 0) }

-- the same of rows after a header, where there is one
abbrev pub ImportsBody : ActState → Option (List Fields) → Import → Type 0
ImportsBody b body i = MatchOption body (i ≡ headless b) (λ rows. ImportsRows b rows i)

-- what an import of the rows of a text, its header among them, makes of a book
abbrev pub Imports : ActState → List Fields → Import → Type 0
Imports b rows i = ImportsBody b (after_header rows) i

-- an import of a text makes one thing of a book
abbrev pub ImportsMakeOneThing : Type 0
ImportsMakeOneThing = (b : ActState) (rows : List Fields) (i j : Import) → Imports b rows i → Imports b rows j → i ≡ j

-- the same import, once more
abbrev pub once_more : Import → Import
once_more i = record { state = i.state; added = 0; again = i.added + i.again; stopped = i.stopped }

-- a text that is imported again leaves the state that its own import left, adds nothing, and stops at the same row
abbrev pub ImportedAgain : Type 0
ImportedAgain = (b : ActState) (rows : List Fields) (i : Import) → Imports b rows i → Imports i.state rows (once_more i)
