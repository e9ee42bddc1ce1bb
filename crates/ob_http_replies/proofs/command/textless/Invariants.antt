use Rattle.std.proofs.Common.{◌≡◌, ◌+◌, drop, map, option_map}
use Rattle.ob_http_replies.specs.JsonCommands.{first_textless}
use Rattle.ob_http_replies.proofs.command.textless.Given as goal

-- the columns so far hold texts
abbrev pub invariant-loop-text : goal.invariant-loop-text
invariant-loop-text l = record {
  same : first_textless l.column (map (λ t. option_map (λ s. s.now) t) (drop l.text-index l.texts)) ≡ first_textless 1 (map (λ t. option_map (λ s. s.now) t) l.texts);
  column : l.column ≡ l.text-index + 1;
}
