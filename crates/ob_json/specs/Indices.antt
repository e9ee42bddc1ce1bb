-- The JSON text of the indices.
use Rattle.std.specs.Prelude.{ℕ, List, Option, Some, None, map, codes}
use Rattle.serde_json.specs.Data.{Data, number, unsigned, string, array, object, no_members, member}
use Rattle.serde_json.specs.View.{items_of}
use Rattle.serde_json.specs.Written.{compact_text}
use Rattle.ob_index.specs.Ratio.{Ratio, fraction_text}
use Rattle.ob_index.specs.declared.figures.Indices.{Indices}

-- `"p/q"`, or `"undefined"`
abbrev pub index_data : Option Ratio → Data
index_data (Some f) = string (fraction_text f)
index_data None = string (codes "undefined")

-- `{"asai":..,"caidi":..,"caifi":..,"cemi":[..],"momentary":..,"saidi":..,"saifi":..,"sustained":..}`
abbrev pub indices_data : Indices → Data
indices_data x = object
    (member (codes "asai") (index_data x.asai)
    (member (codes "caidi") (index_data x.caidi)
    (member (codes "caifi") (index_data x.caifi)
    (member (codes "cemi") (array (items_of (map index_data x.cemi)))
    (member (codes "momentary") (number (unsigned x.momentary))
    (member (codes "saidi") (index_data x.saidi)
    (member (codes "saifi") (index_data x.saifi)
    (member (codes "sustained") (number (unsigned x.sustained)) no_members))))))))

-- `{"all":{..},"unmarked":{..}}`
abbrev pub both_data : Indices → Indices → Data
both_data all unmarked = object (member (codes "all") (indices_data all) (member (codes "unmarked") (indices_data unmarked) no_members))

-- both with no space in them
abbrev pub indices_text : Indices → Indices → List ℕ
indices_text all unmarked = compact_text (both_data all unmarked)
