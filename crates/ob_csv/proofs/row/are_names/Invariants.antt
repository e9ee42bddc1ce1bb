use Rattle.std.proofs.Common.{◌≡◌, drop, map}
use Rattle.std.specs.Cmp.Lexicographic.{pointwise}
use Rattle.std.specs.Str.{bytes_eq}
use Rattle.ob_csv.proofs.row.are_names.Given as goal

-- the fields so far are the columns' names
abbrev pub invariant-loop-place : goal.invariant-loop-place
invariant-loop-place l =
    pointwise bytes_eq (map (λ f. f.now) (drop l.place l.fields)) (map (λ n. n.now) (drop l.place l.names))
    ≡ pointwise bytes_eq (map (λ f. f.now) l.fields) (map (λ n. n.now) l.names)
