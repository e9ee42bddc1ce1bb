-- Commands that are numbered from 1 are in the order of their numbers.
use Rattle.std.proofs.Common.{◌≡◌, ℕ, ℤ, pos, ◌+◌, List, [], ◌∷◌, map, Option, Some, None, refl, sym, ap, subst, arith}
use Rattle.std.specs.List.Sorted.{IsPermutation}
use Rattle.std.proofs.lemmas.Int.{ints}
use Rattle.ob_book.specs.Acts.{Referenced}
use Rattle.ob_sql_rows.specs.Rows.{Columns}
use Rattle.ob_record.specs.Tables.{numbered}
use Rattle.ob_sql_rows.specs.declared.version.Version.{Version}
use Rattle.ob_sql_read.specs.Apart.{IsAbove}
use Rattle.ob_sql_read.specs.Ordered.{AreAbove, AreRowsOf, Numbered, rows_under}
use Rattle.ob_sql_read.specs.Reading.{command_rows, row_of_command_in}

abbrev pairs_from : ℕ → List Referenced → List Numbered
pairs_from n [] = []
pairs_from n (a ∷ list) = (pos n, a) ∷ pairs_from (n + 1) list

above_from : (last : Option ℤ) (n : ℕ) (list : List Referenced) → IsAbove last (pos n) → AreAbove last (pairs_from n list)
above_from last n [] above = tt
above_from last n (a ∷ list) above = (above, above_from (Some (pos n)) (n + 1) list (omega (arith, ints)))

rows_from : (v : Version) (n : ℕ) (list : List Referenced) → rows_under v (pairs_from n list) ≡ numbered (row_of_command_in v) n list
rows_from v n [] = refl
rows_from v n (a ∷ list) = ap (λ l. row_of_command_in v n a ∷ l) (rows_from v (n + 1) list)

commands_from : (n : ℕ) (list : List Referenced) → map (λ (p : Numbered). p.1) (pairs_from n list) ≡ list
commands_from n [] = refl
commands_from n (a ∷ list) = ap (λ l. a ∷ l) (commands_from (n + 1) list)

pub rows_counted : (v : Version) {rows : List Columns} (list : List Referenced) → IsPermutation rows (command_rows v list) → AreRowsOf v list rows
rows_counted v {rows} list same = record {
  pairs = pairs_from 1 list;
  in_order = above_from None 1 list tt;
  commands = commands_from 1 list;
  are = subst (IsPermutation rows) (sym (rows_from v 1 list)) same;
}
