use Rattle.std.proofs.Common.{◌≡◌, drop, map}
use Rattle.std.specs.List.{list_any}
use Rattle.std.specs.Str.{bytes_eq}
use Rattle.ob_http_replies.proofs.command.is_column.Given as goal

-- the columns so far have other names
abbrev pub invariant-loop-column : goal.invariant-loop-column
invariant-loop-column l =
    list_any (bytes_eq l.name) (map (λ n. n.now) (drop l.column-index l.column-items)) ≡ list_any (bytes_eq l.name) (map (λ n. n.now) l.column-items)
