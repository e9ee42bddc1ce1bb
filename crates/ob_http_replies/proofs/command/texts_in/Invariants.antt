use Rattle.std.proofs.Common.{◌≡◌, ◌<◌, ℕ, None, get_or, length, map, option_map}
use Rattle.serde_json.specs.View.{view}
use Rattle.ob_csv.specs.Header.{columns}
use Rattle.ob_http_replies.specs.JsonCommands.{texts_of}
use Rattle.ob_http_replies.proofs.command.texts_in.Given as goal

-- the texts so far are the columns'
abbrev pub invariant-loop-place : goal.invariant-loop-place
invariant-loop-place l = record {
  all : length l.texts ≡ columns;
  same : (k : ℕ) → k < l.place → get_or (map (λ t. option_map (λ s. s.now) t) l.texts) k None ≡ get_or (texts_of (view l.value)) k None;
}
