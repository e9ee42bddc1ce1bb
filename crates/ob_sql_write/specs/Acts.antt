-- What an accepted command makes of the tables.
use Rattle.std.specs.List.{All}
use Rattle.ob_post.specs.Postings.{PostedAmounts}
use Rattle.ob_sql_rows.specs.Rows.{Tables, with_row, command_row}
use Rattle.ob_sql_rows.specs.Rules.{LetsCommand}
use Rattle.ob_sql_rows.specs.declared.table.Table.TheVariants.{Command}
use Rattle.ob_sql_write.specs.declared.act.Act.{Act}
use Rattle.ob_sql_write.specs.Changing.{HasSmallSeconds, NeedsRow, LetsRow, rows_by}
use Rattle.ob_sql_write.specs.Moves.{CanMove, HasRows, LetsMoves, with_moves}

-- its seconds and the amounts that it leaves are small enough for a column
pub record CanWrite (p : PostedAmounts) (act : Act) : Type 0 where
  pub change : HasSmallSeconds act.resolved.now
  pub moves : All (CanMove p) act.moves.now

-- the tables with the rows that it changes, and with its own
abbrev pub with_command : Act → Tables → Tables
with_command act tables =
    with_row Command (command_row act.no act.reference.now act.body.now) (rows_by act.resolved.now tables)

-- the tables with all its rows
abbrev pub with_act : PostedAmounts → Act → Tables → Tables
with_act p act tables = with_moves act.no p act.moves.now (with_command act tables)

-- the rows that it writes anew or takes off are there
pub record NeedsRows (p : PostedAmounts) (act : Act) (tables : Tables) : Type 0 where
  pub change : NeedsRow act.resolved.now tables
  pub amounts : HasRows act.no p act.moves.now (with_command act tables)

-- the rules of the tables let its rows in
pub record LetsAct (act : Act) (tables : Tables) : Type 0 where
  pub change : LetsRow act.resolved.now tables
  pub command : LetsCommand act.no act.reference.now act.body.now tables
  pub moves : LetsMoves act.no act.moves.now tables
