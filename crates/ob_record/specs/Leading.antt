-- What the rows that a command changes, and all its rows, make of the tables of a book.
use Rattle.std.specs.Prelude.{◌≡◌, [], None}
use Rattle.std.specs.List.Sorted.{IsPermutation}
use Rattle.ob_sql_rows.specs.Rows.{Tables}
use Rattle.ob_sql_rows.specs.declared.table.Table.{Table}
use Rattle.ob_sql_rows.specs.declared.table.Table.TheVariants.{Meta, Cause, Node, Device, Life, Customer, Entry, Mark}
use Rattle.ob_post.specs.Postings.{PostedAmounts}
use Rattle.ob_state.specs.State.{BookState}
use Rattle.ob_state.specs.declared.resolved.Resolved.{Resolved}
use Rattle.ob_book.specs.Acts.{ActState, Referenced, number_of, take_on}
use Rattle.ob_sql_write.specs.declared.act.Act.{Act}
use Rattle.ob_sql_write.specs.Changing.{HasSmallSeconds, LetsRow, NeedsRow, rows_by}
use Rattle.ob_sql_write.specs.Acts.{CanWrite, LetsAct, NeedsRows, with_act}
use Rattle.ob_record.specs.Naming.{IsReferenced}
use Rattle.ob_record.specs.Tables.{tables_of}

-- a book without its commands
abbrev bare : BookState → ActState
bare b = record { book = b; accepted = [] }

-- the tables have the rows of a book's parts, in some order: all but those of commands, of what they moved and of the amounts
pub record HaveParts (b : BookState) (t : Tables) : Type 0 where
  pub meta : IsPermutation (t Meta) (tables_of (bare b) Meta)
  pub causes : IsPermutation (t Cause) (tables_of (bare b) Cause)
  pub nodes : IsPermutation (t Node) (tables_of (bare b) Node)
  pub devices : IsPermutation (t Device) (tables_of (bare b) Device)
  pub lives : IsPermutation (t Life) (tables_of (bare b) Life)
  pub customers : IsPermutation (t Customer) (tables_of (bare b) Customer)
  pub entries : IsPermutation (t Entry) (tables_of (bare b) Entry)
  pub marks : IsPermutation (t Mark) (tables_of (bare b) Mark)

-- what a command comes to makes of the rows of one book's parts those of another's, and the rules of the tables let it in
pub record LeadsParts (b c : BookState) (resolved : Resolved) : Type 0 where
  pub small : HasSmallSeconds resolved
  pub needs : (t : Tables) → HaveParts b t → NeedsRow resolved t
  pub lets : (t : Tables) → HaveParts b t → LetsRow resolved t
  pub parts : (t : Tables) → HaveParts b t → HaveParts c (rows_by resolved t)

-- the rows of a command under a reference can be written, and make of the tables of a book those of the book with the
-- command; under a new reference the rules of the tables let them in
pub record Records (b : ActState) (a : Referenced) (p : PostedAmounts) (act : Act) : Type 0 where
  pub can : CanWrite p act
  pub needs : NeedsRows p act (tables_of b)
  pub lets : number_of b a.reference ≡ None → IsReferenced a → LetsAct act (tables_of b)
  pub tables : (table : Table) → IsPermutation (with_act p act (tables_of b) table) (tables_of (take_on b a) table)
