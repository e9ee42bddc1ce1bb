-- What a command moved or would move, as JSON.
use Rattle.std.specs.Prelude.{List, map}
use Rattle.serde_json.specs.Data.{Data, number, unsigned, string, array, no_items, item}
use Rattle.serde_json.specs.Find.{of_integer}
use Rattle.serde_json.specs.View.{items_of}
use Rattle.ob_post.specs.Keys.{dim_word}
use Rattle.ob_post.specs.declared.Moved.{Moved}

-- `["cause",3,-1200]`
abbrev pub move_data : Moved → Data
move_data m = array (item (string (dim_word m.dim)) (item (number (unsigned m.key)) (item (number (of_integer m.delta)) no_items)))

-- `[["cause",3,-1200],..]`
abbrev pub moves_data : List Moved → Data
moves_data moved = array (items_of (map move_data moved))
