-- The books of a version, and the rows of their tables.
use Rattle.ob_book.specs.Acts.{ActState}
use Rattle.ob_sql_rows.specs.Rows.{Tables}
use Rattle.ob_sql_rows.specs.declared.version.Version.{Version}
use Rattle.ob_sql_rows.specs.declared.version.Version.TheVariants.{One, Two}
use Rattle.ob_record.specs.Reached.{IsReached}
use Rattle.ob_record.specs.Tables.{tables_of}
use Rattle.ob_sql_check.specs.OldTables.{IsOldReached, old_tables_of}

-- a book whose commands the version accepted, each in its turn
abbrev pub IsReachedIn : Version → ActState → Type 0
IsReachedIn One b = IsOldReached b
IsReachedIn Two b = IsReached b

-- the rows of its tables in the version
abbrev pub tables_in : Version → ActState → Tables
tables_in One b = old_tables_of b
tables_in Two b = tables_of b
