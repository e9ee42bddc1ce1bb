use Rattle.std.proofs.Common.{◌≡◌, take}
use Rattle.ob_sql_read.specs.Distinct.{shown_texts, texts_of}
use Rattle.ob_sql_read.proofs.distinct.references_of.Given as goal

-- the references so far
abbrev pub invariant-commands : goal.invariant-commands
invariant-commands l = shown_texts l.references.items ≡ texts_of (take l.at l.commands)
