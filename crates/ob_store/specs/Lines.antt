-- Lines that are taken one after another, and what a list of them makes of a store and of a book. It is said of every list that begins
-- with the lines that were taken; where it was told that no other is left, of that one list.
use Rattle.std.specs.Prelude.{◌≡◌, ◌⊎◌, ◌≤◌, ◌+◌, ◌++◌, ℕ, Bool, true, false, List, [], ◌∷◌, length, Option, Some, None, Result, Ok, Err, IfOk, IfErr, OnOk}
use Rattle.sqlite_trees.specs.declared.store.Store.{Ghosts}
use Rattle.sqlite.specs.Held.{Held, state}
use Rattle.sqlite.specs.State.{State, HasCleanDisk, Survives}
use Rattle.ob_base.specs.declared.stop.Fault.{Fault}
use Rattle.ob_state.specs.State.{BookState}
use Rattle.ob_book.specs.Acts.{ActState}
use Rattle.ob_book.specs.Searches.{Bound}
use Rattle.ob_sql_write.specs.Keeps.{KeepsNumbers}
use Rattle.ob_store.specs.Keeping.{KeepsBook}
use Rattle.ob_store.specs.Searching.{searches_of_lines}
use Rattle.ob_store.specs.Whole.{ActsAll, HasListCause, LeavesLast, Line, ShowsBook, TriesAll}
use Rattle.ob_store.specs.declared.whole.Applied.{Applied}
use Rattle.ob_store.specs.declared.whole.Halted.{Halted}

-- what taking a line makes of what gives them
abbrev pub Gives : Type 0 → Type 1
Gives L = L → Result (Option Line) Fault → L → Type 0

-- a list that begins with these lines; where they have ended, it is these
abbrev pub BeginsWith : List Line → Bool → List Line → Type 0
BeginsWith taken true list = list ≡ taken
BeginsWith taken false list = (rest : List Line) × (list ≡ taken ++ rest)

module _ {L : Type 0} (gives : Gives L) where
  -- these lines were taken, one after another
  abbrev pub GivesAll : L → List Line → L → Type 0
  GivesAll was [] is = is ≡ was
  GivesAll was (line ∷ list) is = (mid : L) × gives was (Ok (Some line)) mid × GivesAll mid list is

  -- then it was told that no line is left; or none was asked for, or that failed
  abbrev pub Ends : L → Bool → L → Type 0
  Ends mid true is = gives mid (Ok None) is
  Ends mid false is = (is ≡ mid) ⊎ ((fault : Fault) × gives mid (Err fault) is)

  -- lines were taken, and this holds of each list that begins with them
  pub record OverLines (was is : L) (Holds : List Line → Type 0) : Type 0 where
    pub taken : List Line
    pub ended : Bool
    pub last : L
    pub took : GivesAll was taken last
    pub ends : Ends last ended is
    pub holds : (list : List Line) → BeginsWith taken ended list → Holds list

-- how many of the lines were new, or why they were halted
abbrev pub added_in : Result Applied Halted → Result ℕ Halted
added_in (Ok applied) = Ok applied.added
added_in (Err halted) = Err halted

-- what a list made inside a transaction, of a book in these states that was searched so often
pub record TriesList (bound : Bound) (old new : State) (was is : BookState) (before after : ℕ) (list : List Line) (result : Result Applied Halted) : Type 0 where
  pub few : IfOk result (λ it. (it.added ≤ it.lines) × (it.lines ≤ length list))
  pub within : IfErr result (λ e. e.place ≤ length list)
  pub tries : HasCleanDisk new → (b : ActState) → ShowsBook old b → was ≡ b.book → TriesAll old new is b list (added_in result)
  pub searched : HasCleanDisk new → (b : ActState) → ShowsBook old b → was ≡ b.book → OnOk result (after ≤ before + searches_of_lines bound b list)

module _ {S : Type 0} (g : Ghosts S) where
  -- what it made of a store, where the transaction was to be committed after its last line
  pub record CommitsList (bound : Bound) (old new : Held S) (was is : BookState) (before after : ℕ) (list : List Line) (result : Result ℕ Halted) : Type 0 where
    pub few : IfOk result (λ added. added ≤ length list)
    pub within : IfErr result (λ e. e.place ≤ length list)
    pub acts : HasCleanDisk (state g new) → (b : ActState) → KeepsBook (state g old) b → was ≡ b.book → ActsAll g new is b list result
    pub cause : HasCleanDisk (state g new) → (b : ActState) → KeepsBook (state g old) b → KeepsNumbers (state g old) → was ≡ b.book
        → HasListCause g old new b list result
    pub survives : Survives (state g old) (state g new) (LeavesLast (state g old) was list)
    pub searched : HasCleanDisk (state g new) → (b : ActState) → KeepsBook (state g old) b → was ≡ b.book
        → OnOk result (after ≤ before + searches_of_lines bound b list)
