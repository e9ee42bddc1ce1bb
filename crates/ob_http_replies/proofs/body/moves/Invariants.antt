use Rattle.std.proofs.Common.{◌≡◌, map, take}
use Rattle.serde_json.specs.View.{view}
use Rattle.ob_http_replies.specs.Bodies.{move_data}
use Rattle.ob_http_replies.proofs.body.moves.Given as goal

abbrev pub invariant-loop-row : goal.invariant-loop-row
invariant-loop-row l = map view l.values.items ≡ map move_data (take l.row-index l.moved)
