-- The rows of the tables in today's version.
use Rattle.std.proofs.Common.{◌≡◌, refl}
use Rattle.ob_book.specs.Acts.{ActState}
use Rattle.ob_sql_rows.specs.declared.table.Table.{Table}
use Rattle.ob_sql_rows.specs.declared.table.Table.TheVariants.{Meta, Cause, Node, Device, Life, Customer, Entry, Mark, Command, Moved, Posting}
use Rattle.ob_sql_rows.specs.declared.version.Version.TheVariants.{Two}
use Rattle.ob_record.specs.Tables.{tables_of}
use Rattle.ob_sql_check.specs.Parts.{parts_in}

-- in version 2 they are those of the book
pub parts_in_two : (b : ActState) (table : Table) → parts_in Two b table ≡ tables_of b table
parts_in_two b Meta = refl
parts_in_two b Cause = refl
parts_in_two b Node = refl
parts_in_two b Device = refl
parts_in_two b Life = refl
parts_in_two b Customer = refl
parts_in_two b Entry = refl
parts_in_two b Mark = refl
parts_in_two b Command = refl
parts_in_two b Moved = refl
parts_in_two b Posting = refl
