-- The tables of a new book: the eleven without rows, then the rows that they begin with.
use Rattle.std.proofs.Common.{◌≡◌, ℕ, List, refl}
use Rattle.sqlite.specs.State.{State}
use Rattle.ob_sql_rows.specs.Rows.{Always, Tables}
use Rattle.ob_sql_rows.specs.Steps.{LetsIn, Makes}
use Rattle.ob_sql_rows.specs.Creation.{LetsBook, MakesBook, no_rows}
use Rattle.ob_sql_rows.specs.declared.table.Table.{Table}
use Rattle.ob_sql_rows.specs.declared.table.Table.TheVariants.{Meta, Cause, Node, Device, Life, Customer, Entry, Mark, Command, Moved, Posting}
use Rattle.ob_sql_write.specs.Amounts.{all_keys}
use Rattle.ob_sql_write.specs.NewBook.{new_tables, with_heading, with_zeros, MakesNew}
use Rattle.ob_sql_write.proofs.Zeros.{holds_as}

-- with the heading and the amounts, tables without rows are those of a new book
new_rows : (first : List ℕ) (days : ℕ) (zone : List ℕ) (table : Table) → with_zeros (all_keys days) (with_heading first days zone no_rows) table ≡ new_tables first days zone table
new_rows first days zone Meta = refl
new_rows first days zone Cause = refl
new_rows first days zone Node = refl
new_rows first days zone Device = refl
new_rows first days zone Life = refl
new_rows first days zone Customer = refl
new_rows first days zone Entry = refl
new_rows first days zone Mark = refl
new_rows first days zone Command = refl
new_rows first days zone Moved = refl
new_rows first days zone Posting = refl

pub makes_new : (a b c d : State) (first : List ℕ) (days : ℕ) (zone : List ℕ) → MakesBook a b → Makes b c Always (with_heading first days zone) → Makes c d Always (with_zeros (all_keys days))
    → MakesNew (new_tables first days zone) a d
makes_new a b c d first days zone made heading zeros = record {
  live = made.live;
  stays = zeros.stays;
  inside = zeros.inside;
  schema = λ none. zeros.schema (heading.schema (made.schema none));
  sound = λ none. let book = made.schema none in zeros.sound (heading.schema book) (heading.sound book (made.sound none));
  holds = λ none.
      let book = made.schema none in
      let headed = with_heading first days zone no_rows in
      holds_as d.now.trees (with_zeros (all_keys days) headed) (new_tables first days zone) (new_rows first days zone)
      (zeros.holds (heading.schema book) headed (heading.holds book no_rows (made.holds none) tt) tt);
  numbered = λ none.
      let book = made.schema none in
      zeros.numbered (heading.schema book) (with_heading first days zone no_rows) (heading.holds book no_rows (made.holds none) tt) tt (heading.numbered book no_rows (made.holds none) tt (made.numbered none));
}

-- over the tables that were just made, what is let in over no rows is let in
pub lets_no_rows : (a b : State) (lets : Tables → Type 0) → MakesBook a b → LetsBook a → lets no_rows → LetsIn b Always lets
lets_no_rows a b lets made book allowed =
    record { schema = made.schema book.0; sound = made.sound book.0; numbered = made.numbered book.0; tables = no_rows; holds = made.holds book.0; needed = tt; allowed = allowed }
