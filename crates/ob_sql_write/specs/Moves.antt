-- What the amounts of a command make of the tables.
use Rattle.std.specs.List.{list_any}
use Rattle.std.specs.Prelude.{◌≡◌, ℕ, ◌+◌, ◌^◌, ◌<◌, length, false, ℤ, pos, ◌+ℤ◌, ◌≤ℤ◌, ◌<ℤ◌, List, [], ◌∷◌, ⊤, fold, map}
use Rattle.std.specs.Int.RustNames.{unsigned_abs}
use Rattle.ob_post.specs.Keys.{dim_number, IsKey}
use Rattle.ob_post.specs.Postings.{PostedAmounts, amount_of, day_count}
use Rattle.ob_post.specs.Moved.{AreInOrder, HaveNoZero}
use Rattle.ob_post.specs.declared.Moved.{Moved}
use Rattle.ob_sql_rows.specs.Rows.{Tables, is_key, HasPosting, with_row, moved_row, with_posting}
use Rattle.ob_sql_rows.specs.Rules.{HasRoom}
use Rattle.ob_sql_rows.specs.Block.{with_moved_rows, LetsMovedRows}
use Rattle.ob_sql_rows.specs.declared.block.MovedAmount.{MovedAmount}
use Rattle.ob_sql_rows.specs.declared.table.Table.TheVariants.{Moved as Moves, Posting}

-- the amount under the key of a row once the row has moved it
abbrev pub moved_to : PostedAmounts → Moved → ℤ
moved_to p m = pos (amount_of p m.dim m.key) +ℤ m.delta

-- the row moves an amount that is kept to one that can be
pub record CanMove (p : PostedAmounts) (m : Moved) : Type 0 where
  pub key : IsKey (day_count p) m.dim m.key
  pub old : amount_of p m.dim m.key < 2 ^ 63
  pub floor : pos 0 ≤ℤ moved_to p m
  pub ceiling : moved_to p m <ℤ pos (2 ^ 63)

-- the row of one amount that moved, and the amount that then stands
abbrev pub with_move : ℕ → PostedAmounts → Moved → Tables → Tables
with_move id p m tables =
    with_posting (dim_number m.dim) m.key (unsigned_abs (moved_to p m))
    (with_row Moves (moved_row id (dim_number m.dim) m.key m.delta) tables)

-- one after the other
abbrev pub with_moves : ℕ → PostedAmounts → List Moved → Tables → Tables
with_moves id p moves t = fold (λ t m. with_move id p m t) t moves

-- what the row of a move holds beside the number of the command
abbrev pub moved_amount : Moved → MovedAmount
moved_amount m = record { dim = dim_number m.dim; key = m.key; delta = m.delta }

-- the rows of the moves alone, and whether the rules let them in
abbrev pub with_rows : ℕ → List Moved → Tables → Tables
with_rows id moves = with_moved_rows id (map moved_amount moves)

abbrev pub LetsRows : ℕ → List Moved → Tables → Type 0
LetsRows id moves = LetsMovedRows id (map moved_amount moves)

-- the amount alone that stands after a move, and those after all
abbrev pub with_amount_of : PostedAmounts → Moved → Tables → Tables
with_amount_of p m = with_posting (dim_number m.dim) m.key (unsigned_abs (moved_to p m))

abbrev pub with_amounts : PostedAmounts → List Moved → Tables → Tables
with_amounts p moves t = fold (λ t m. with_amount_of p m t) t moves

-- each amount has its row when its turn comes, where the amounts alone are written
abbrev pub HasAmounts : PostedAmounts → List Moved → Tables → Type 0
HasAmounts p [] t = ⊤
HasAmounts p (m ∷ ms) t = HasPosting (dim_number m.dim) m.key t × HasAmounts p ms (with_amount_of p m t)

-- each amount has its row when its turn comes
abbrev pub HasRows : ℕ → PostedAmounts → List Moved → Tables → Type 0
HasRows id p [] t = ⊤
HasRows id p (m ∷ ms) t = HasPosting (dim_number m.dim) m.key t × HasRows id p ms (with_move id p m t)

-- the rules of the tables let in what a command moved, once the command's row is there: no amount of the command stands yet,
-- none stands twice, none is 0, and there are row numbers for all, also for those of the amounts
pub record LetsMoves (id : ℕ) (moves : List Moved) (t : Tables) : Type 0 where
  pub fresh : list_any (is_key id) (t Moves) ≡ false
  pub in_order : AreInOrder moves
  pub moving : HaveNoZero moves
  pub room : length (t Moves) + length moves < 2 ^ 63
  pub amounts : HasRoom Posting t
