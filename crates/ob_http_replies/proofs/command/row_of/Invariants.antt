use Rattle.std.proofs.Common.{◌≡◌, ◌<◌, ℕ, [], get_or, length, map, option_map, unwrap_or}
use Rattle.ob_csv.specs.Header.{columns}
use Rattle.ob_http_replies.proofs.command.row_of.Given as goal

-- the fields so far are the texts
abbrev pub invariant-loop-place : goal.invariant-loop-place
invariant-loop-place l = record {
  all : length l.row ≡ columns;
  same : (k : ℕ) → k < l.place
      → get_or (map (λ f. f.now) l.row) k [] ≡ get_or (map (λ t. unwrap_or (option_map (λ s. s.now) t) []) l.texts) k [];
}
