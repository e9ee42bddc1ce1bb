use Rattle.std.proofs.Common.{◌≡◌, ◌<◌, ℕ, [], get_or, length, map}
use Rattle.csv.specs.Records.{fields_of}
use Rattle.ob_csv.specs.Header.{columns}
use Rattle.ob_csv.proofs.row.first_fields.Given as goal

-- the fields so far are those of the row
abbrev pub invariant-loop-place : goal.invariant-loop-place
invariant-loop-place l = record {
  all : length l.fields ≡ columns;
  same : (k : ℕ) → k < l.place → get_or (map (λ f. f.now) l.fields) k [] ≡ get_or (fields_of l.row) k [];
}
