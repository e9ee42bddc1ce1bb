use Rattle.std.proofs.Common.{◌≡◌, ◌+◌, ◌++◌, drop}
use Rattle.ob_sql_read.specs.Listing.{filed_of}
use Rattle.ob_sql_check.specs.OldTables.{new_texts, texts_of}
use Rattle.ob_sql_check.proofs.bodies.new_bodies.Given as goal

-- the bodies so far, and those of what is left, are those of all commands
abbrev pub invariant-commands : goal.invariant-commands
invariant-commands l = texts_of l.bodies.items ++ new_texts (l.at + 1) (filed_of (drop l.at l.commands)) ≡ new_texts 1 (filed_of l.commands)
