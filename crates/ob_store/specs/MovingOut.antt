-- What a keeper hands to a sink of what its accepted commands moved.
use Rattle.std.specs.Prelude.{◌≡◌, ◌⊎◌, ⊤, ℕ, ◌-◌, ◌<◌, ◌^◌, List, [], ◌∷◌, ◌++◌, length, map, Option, Some, None, Result, Ok, Err}
use Rattle.std.specs.List.{AllByRecursion, flat_map, range_with_len}
use Rattle.sqlite_trees.specs.declared.store.Store.{Ghosts}
use Rattle.sqlite.specs.Order.{Row}
use Rattle.sqlite.specs.Given.{HasGiven}
use Rattle.sqlite.specs.Held.{Held, state}
use Rattle.sqlite.specs.State.{State}
use Rattle.ob_base.specs.declared.stop.Fault.{Fault as AFault}
use Rattle.ob_base.specs.declared.stop.Fault.TheVariants.{OutOfMemory, Store}
use Rattle.ob_base.specs.declared.stop.Stop.{Stop}
use Rattle.ob_base.specs.declared.stop.Stop.TheVariants.{Refused, Fault}
use Rattle.ob_post.specs.Keys.{dim_number}
use Rattle.ob_post.specs.declared.Moved.{Moved}
use Rattle.ob_book.specs.Acts.{ActState, reply_of}
use Rattle.ob_sql_rows.specs.Rows.{Columns, moved_row}
use Rattle.ob_sql_rows.specs.Steps.{HasFailed, IsStoreFault}
use Rattle.ob_sql_rows.specs.declared.table.Table.TheVariants.{Moved as MovedTable}
use Rattle.ob_record.specs.Reached.{IsReached}
use Rattle.ob_record.specs.Tables.{tables_of}
use Rattle.ob_sql_read.specs.Listing.{Lists}
use Rattle.ob_sql_read.specs.Moves.{moved_listing}
use Rattle.ob_state.specs.State.{BookState}
use Rattle.ob_store.specs.Keeping.{IsBookAfter, KeeperValue, KeepsBook, Ties}
use Rattle.ob_store.specs.declared.moving.Halt.{Halt}
use Rattle.ob_store.specs.declared.moving.Halt.TheVariants as halts

-- an amount that moved, under the number of its command
abbrev pub Numbered : Type 0
Numbered = ℕ × Moved

-- what the accepted command of a number moved, as its reply says
abbrev pub moves_of : ActState → ℕ → List Numbered
moves_of b n = map (λ (m : Moved). (n, m)) (reply_of b n).moved

-- what the accepted commands moved, one command after another
abbrev pub all_moves : ActState → List Numbered
all_moves b = flat_map (moves_of b) (range_with_len 1 (length b.accepted))

-- its row
abbrev pub row_of_move : Numbered → Columns
row_of_move x = moved_row x.0 (dim_number x.1.dim) x.1.key x.1.delta

-- the number has 32 bits, and the key has 16
abbrev pub IsSmall : Numbered → Type 0
IsSmall x = (x.0 < 2 ^ 32) × (x.1.key < 2 ^ 16)

-- the row is that of such an amount
abbrev pub IsMoveRow : Row → Type 0
IsMoveRow row = (it : Numbered) × IsSmall it × (row ≡ row_of_move it)

-- the amounts that the accepted commands moved are such ones, and a number of 64 bits counts them
pub record AreFewMoves (b : ActState) : Type 0 where
  pub small : AllByRecursion IsSmall (all_moves b)
  pub few : length (all_moves b) < 2 ^ 64 - 1

-- so they are in each book
abbrev pub MovesAreFew : Type 0
MovesAreFew = (b : ActState) → IsReached b → AreFewMoves b

-- their rows are those of the table of moved amounts, in order
abbrev pub MovesAreRows : Type 0
MovesAreRows = (b : ActState) → map row_of_move (all_moves b) ≡ tables_of b MovedTable

-- what a take makes of a sink, whether it fails or not
abbrev pub Takes : Type 0 → Type 1
Takes V = V → ℕ → Moved → Result ⊤ AFault → V → Type 0

module _ {V : Type 0} (takes : Takes V) where
  -- the sink took these, one after another
  abbrev pub TakesAll : V → List Numbered → V → Type 0
  TakesAll old [] new = new ≡ old
  TakesAll old (x ∷ xs) new = (mid : V) × takes old x.0 x.1 (Ok tt) mid × TakesAll mid xs new

  -- it took the first of these, and failed at the next one
  pub record FailsAmong (old : V) (all : List Numbered) (fault : AFault) (new : V) : Type 0 where
    pub front : List Numbered
    pub it : Numbered
    pub rest : List Numbered
    pub parts : all ≡ front ++ (it ∷ rest)
    pub mid : V
    pub took : TakesAll old front mid
    pub failed : takes mid it.0 it.1 (Err fault) new

  -- it took the first of these
  pub record TakesFront (old : V) (all : List Numbered) (new : V) : Type 0 where
    pub front : List Numbered
    pub rest : List Numbered
    pub parts : all ≡ front ++ rest
    pub took : TakesAll old front new

  -- the sink took so many; or it took some and then failed, or the store did
  abbrev pub Hands : V → V → Result ℕ Halt → Type 0
  Hands was is (Ok count) = (front : List Numbered) × TakesAll was front is × (count ≡ length front)
  Hands was is (Err (halts.Sink fault)) =
      (front : List Numbered) × (mid : V) × TakesAll was front mid × (it : Numbered) × takes mid it.0 it.1 (Err fault) is
  Hands was is (Err (halts.Store stop)) = (front : List Numbered) × TakesAll was front is × IsStoreFault stop

  -- the same of a keeper's answer
  abbrev pub HandsOver : V → V → Result ℕ Stop → Type 0
  HandsOver was is (Ok count) = (front : List Numbered) × TakesAll was front is × (count ≡ length front)
  HandsOver was is (Err (Refused refusal)) = ⊥
  HandsOver was is (Err (Fault fault)) =
      (front : List Numbered) × (mid : V) × TakesAll was front mid
      × (((it : Numbered) × takes mid it.0 it.1 (Err fault) is) ⊎ ((is ≡ mid) × IsStoreFault (Fault fault)))

  -- the book of a keeper after that: as before, also where the sink has just failed; after a fault of the store there is none
  abbrev pub IsBookAfterMoves : V → Option BookState → Option BookState → Result ℕ Stop → Type 0
  IsBookAfterMoves sink was is (Ok count) = is ≡ was
  IsBookAfterMoves sink was is (Err (Refused refusal)) = ⊥
  IsBookAfterMoves sink was is (Err (Fault fault)) =
      ((mid : V) × (it : Numbered) × takes mid it.0 it.1 (Err fault) sink × (is ≡ was))
      ⊎ (IsStoreFault (Fault fault) × IsBookAfter was is (Fault fault))

  -- the sink took all that the commands of a book moved, so many amounts; or a first part of it
  abbrev pub HandsOut : V → V → ActState → Result ℕ Halt → Type 0
  HandsOut was is b (Ok count) = TakesAll was (all_moves b) is × (count ≡ length (all_moves b))
  HandsOut was is b (Err (halts.Sink fault)) = FailsAmong was (all_moves b) fault is
  HandsOut was is b (Err (halts.Store stop)) = TakesFront was (all_moves b) is

-- where the store is told to have failed, it has
abbrev pub HasHaltCause : State → State → Result ℕ Halt → Type 0
HasHaltCause old new (Ok count) = ⊤
HasHaltCause old new (Err (halts.Sink fault)) = ⊤
HasHaltCause old new (Err (halts.Store stop)) = stop ≡ Fault Store → HasFailed old new

-- what comes after the rows that were given: that of an amount, or none
abbrev pub ComesNext : {S : Type 0} (g : Ghosts S) → Option Numbered → Held S → List Row → Type 0
ComesNext g (Some x) new given = HasGiven g moved_listing.text [] new (given ++ row_of_move x ∷ [])
ComesNext g None new given = Lists moved_listing (state g new).now given

module _ {S : Type 0} (g : Ghosts S) where
  -- memory was refused, and nothing has changed; or the store failed, for a cause, and there is no book
  abbrev pub StoreFails : KeeperValue S → KeeperValue S → ActState → AFault → Type 0
  StoreFails old new b OutOfMemory = Ties g new b × (new.book ≡ old.book)
  StoreFails old new b Store = KeepsBook (state g new.conn) b × (new.book ≡ None) × HasFailed (state g old.conn) (state g new.conn)
  StoreFails old new b _ = ⊥

  -- the sink took all that the commands of the book moved, so many amounts, or a first part of it; the store keeps the book
  -- as before
  abbrev pub MovesOut : {V : Type 0} → Takes V → KeeperValue S → KeeperValue S → V → V → ActState → Result ℕ Stop → Type 0
  MovesOut takes old new was is b (Ok count) =
      TakesAll takes was (all_moves b) is × (count ≡ length (all_moves b)) × Ties g new b × (new.book ≡ old.book)
  MovesOut takes old new was is b (Err (Refused refusal)) = ⊥
  MovesOut takes old new was is b (Err (Fault fault)) =
      (FailsAmong takes was (all_moves b) fault is × Ties g new b × (new.book ≡ old.book))
      ⊎ (TakesFront takes was (all_moves b) is × StoreFails old new b fault)
