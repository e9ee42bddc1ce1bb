-- What a list of commands makes of a book in one transaction: all of them, or none.
use Rattle.std.specs.Prelude.{◌≡◌, ◌⊎◌, ◌+◌, ℕ, ⊤, Bool, true, List, [], ◌∷◌, length, None, Result, Ok, Err, IsSome, IsTrue, IfErr, if◌then◌else◌}
use Rattle.std.specs.List.{AllByRecursion}
use Rattle.std.specs.Result.{is_ok}
use Rattle.sqlite_trees.specs.declared.store.Store.{Ghosts}
use Rattle.sqlite.specs.Tree.{Trees}
use Rattle.sqlite.specs.Effect.{IsDatabase}
use Rattle.sqlite.specs.Held.{Held, state}
use Rattle.sqlite.specs.State.{State, Survives}
use Rattle.ob_base.specs.declared.stop.Refusal.{Refusal}
use Rattle.ob_base.specs.declared.stop.Stop.{Stop}
use Rattle.ob_base.specs.declared.stop.Stop.TheVariants.{Refused, Fault}
use Rattle.ob_base.specs.declared.stop.Fault.TheVariants.{OutOfMemory, Store, Reopen}
use Rattle.ob_command.specs.declared.command.Command.{Command}
use Rattle.ob_state.specs.State.{BookState}
use Rattle.ob_book.specs.Acts.{ActState, Reply, act, answer}
use Rattle.ob_sql_rows.specs.Rows.{Holds}
use Rattle.ob_sql_rows.specs.Rules.{AreNumbered}
use Rattle.ob_sql_rows.specs.Schema.{book_schema}
use Rattle.ob_sql_rows.specs.Steps.{HasFailed, Makes}
use Rattle.ob_sql_write.specs.Keeps.{Leaves, WasUndone}
use Rattle.ob_record.specs.Naming.{IsReferenced}
use Rattle.ob_record.specs.Reached.{IsReached}
use Rattle.ob_record.specs.Tables.{tables_of}
use Rattle.ob_store.specs.Acting.{under}
use Rattle.ob_store.specs.Keeping.{KeeperValue, KeepsBook, KeepsEitherBook, Ties}
use Rattle.ob_store.specs.declared.whole.Halted.{Halted}

-- a line of a list: a command under its reference, or why it says none
abbrev pub Line : Type 0
Line = Result (List ℕ × Command) Refusal

-- the answer of a book to a line
abbrev pub answer_to : ActState → Line → Result Reply Refusal
answer_to b (Ok said) = answer b (under said.0 said.1)
answer_to b (Err refusal) = Err refusal

-- the book after a line
abbrev pub after_line : ActState → Line → ActState
after_line b (Ok said) = act b (under said.0 said.1)
after_line b (Err refusal) = b

-- the line of this place is refused, or it goes on
abbrev pub goes_on : Result Reply Refusal → ℕ → Result ActState (ℕ × Refusal) → Result ActState (ℕ × Refusal)
goes_on (Ok reply) place rest = rest
goes_on (Err refusal) place rest = Err (place, refusal)

-- the book after the lines of a list, each answered in the state after those before it; or the place of the first that is
-- refused, where the list begins at this place, and the refusal
abbrev pub after_lines : ActState → ℕ → List Line → Result ActState (ℕ × Refusal)
after_lines b place [] = Ok b
after_lines b place (line ∷ list) = goes_on (answer_to b line) place (after_lines (after_line b line) (place + 1) list)

-- the lines are all answered, and lead the one book to the other
abbrev pub LeadTo : List Line → ActState → ActState → Type 0
LeadTo list b c = after_lines b 0 list ≡ Ok c

-- the line of this place is the first that is refused, and this is the refusal
abbrev pub StopAt : ActState → List Line → ℕ → Refusal → Type 0
StopAt b list place refusal = after_lines b 0 list ≡ Err (place, refusal)

-- a transaction shows, while the store is open, the tables of a book
pub record ShowsBook (s : State) (b : ActState) : Type 0 where
  pub inside : IsTrue s.in_transaction
  pub schema : IsTrue s.is_open → s.now.schema ≡ book_schema
  pub holds : IsTrue s.is_open → Holds s.now.trees (tables_of b)
  pub reached : IsReached b
  pub valid : AllByRecursion IsReferenced b.accepted

-- while the store is open they are a whole database, with the hidden row numbers 1, 2, 3 and so on
pub record IsWhole (s : State) : Type 0 where
  pub sound : IsTrue s.is_open → IsDatabase s.now
  pub numbered : IsTrue s.is_open → AreNumbered s.now.trees

-- inside a transaction of an open store the tables of a book were made those of another
abbrev pub LeadsTables : State → State → ActState → ActState → Type 0
LeadsTables old new b c = IsTrue old.is_open → Makes old new (λ t. t ≡ tables_of b) (λ t. tables_of c)

-- a line was answered: it is told whether it was new, and the book after it is in the tables and in memory
pub record Steps (old new : State) (is : BookState) (b : ActState) (line : Line) (is_new : Bool) : Type 0 where
  pub answered : is_ok (answer_to b line) ≡ true
  pub count : length (after_line b line).accepted ≡ length b.accepted + (if is_new then 1 else 0)
  pub leads : LeadsTables old new b (after_line b line)
  pub reached : IsReached (after_line b line)
  pub valid : AllByRecursion IsReferenced (after_line b line).accepted
  pub memory : is ≡ (after_line b line).book

-- the same, or it was refused
abbrev pub Tries : State → State → BookState → ActState → Line → Result Bool Stop → Type 0
Tries old new is b line (Ok is_new) = Steps old new is b line is_new
Tries old new is b line (Err (Refused refusal)) = answer_to b line ≡ Err refusal
Tries old new is b line (Err (Fault fault)) = ⊤

-- all lines of a list were answered, so many of them were new, and the book after them is in the tables and in memory
pub record LedBy (old new : State) (is : BookState) (b : ActState) (list : List Line) (added : ℕ) : Type 0 where
  pub book : ActState
  pub lead : LeadTo list b book
  pub count : length b.accepted + added ≡ length book.accepted
  pub leads : LeadsTables old new b book
  pub reached : IsReached book
  pub valid : AllByRecursion IsReferenced book.accepted
  pub memory : is ≡ book.book

-- the line of this place was refused, or memory was or the store failed
abbrev pub Halts : ActState → List Line → ℕ → Stop → Type 0
Halts b list place (Refused refusal) = StopAt b list place refusal
Halts b list place (Fault fault) = ⊤

-- all lines were answered, or it is told why not
abbrev pub TriesAll : State → State → BookState → ActState → List Line → Result ℕ Halted → Type 0
TriesAll old new is b list (Ok added) = LedBy old new is b list added
TriesAll old new is b list (Err e) = Halts b list e.place e.stop

-- where the store is told to have failed, it has
abbrev pub HasLineCause : {X : Type 0} → State → State → Result X Halted → Type 0
HasLineCause old new result = IfErr result (λ e. e.stop ≡ Fault Store → HasFailed old new)

-- a crash leaves the tables of the book after the lines, of the book that the store kept
abbrev pub LeavesLast : State → BookState → List Line → Trees → Type 0
LeavesLast s was list trees =
    (b : ActState) → KeepsBook s b → was ≡ b.book → (c : ActState) × LeadTo list b c × Leaves (tables_of c) trees

-- while it is open the store keeps the book from before the list; a crash leaves that, or the book after all lines
abbrev pub KeepsFirstOrLast : State → ActState → List Line → Type 0
KeepsFirstOrLast s b list = KeepsBook s b ⊎ ((c : ActState) × LeadTo list b c × KeepsEitherBook s b c)

-- why a list ended, and that the store then keeps what it kept; after a fault of the store that, or the book after all lines
abbrev pub EndsAt : State → ActState → List Line → ℕ → Stop → Type 0
EndsAt s b list place (Refused refusal) = StopAt b list place refusal × KeepsBook s b
EndsAt s b list place (Fault OutOfMemory) = KeepsBook s b
EndsAt s b list place (Fault Store) = KeepsFirstOrLast s b list
EndsAt s b list place (Fault fault) = ⊥

module _ {S : Type 0} (g : Ghosts S) where
  -- what a list made of the store and of the state in memory, over a book
  abbrev pub ActsAll : Held S → BookState → ActState → List Line → Result ℕ Halted → Type 0
  ActsAll new is b list (Ok added) =
      (c : ActState) × LeadTo list b c × (length b.accepted + added ≡ length c.accepted) × KeepsBook (state g new) c × (is ≡ c.book)
  ActsAll new is b list (Err e) = EndsAt (state g new) b list e.place e.stop

  -- the same of a keeper: it has the book after all lines, or none
  abbrev pub ActedAll : KeeperValue S → ActState → List Line → Result ℕ Halted → Type 0
  ActedAll new b list (Ok added) =
      (c : ActState) × LeadTo list b c × (length b.accepted + added ≡ length c.accepted) × Ties g new c × IsSome new.book
  ActedAll new b list (Err e) = EndsAt (state g new.conn) b list e.place e.stop × (new.book ≡ None)

  -- where the store is told to have failed, it has; or all lines were answered, and the transaction that showed the tables of the
  -- book after them was undone, as for want of memory
  abbrev pub HasListCause : {X : Type 0} → Held S → Held S → ActState → List Line → Result X Halted → Type 0
  HasListCause old new b list result =
      IfErr result (λ e. e.stop ≡ Fault Store → HasFailed (state g old) (state g new)
      ⊎ ((c : ActState) × LeadTo list b c × WasUndone g (state g new) (tables_of c)))

  -- a crash leaves what it could leave before; or, of a book that the keeper had, one that it leads to so
  abbrev pub CommitsOf : (ActState → ActState → Type 0) → KeeperValue S → KeeperValue S → Type 0
  CommitsOf Leads old new =
      Survives (state g old.conn) (state g new.conn)
      (λ trees. (b : ActState) → Ties g old b → IsSome old.book → (c : ActState) × Leads b c × Leaves (tables_of c) trees)

-- a list that found no book
abbrev pub no_book : Result ℕ Halted
no_book = Err (record { place = 0; stop = Fault Reopen })
