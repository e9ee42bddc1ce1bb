-- The JSON text of the totals.
use Rattle.std.specs.Prelude.{ℕ, nat_lt, Bool, List, map, codes}
use Rattle.std.specs.List.{filter}
use Rattle.serde_json.specs.Data.{Data, number, unsigned, array, object, no_items, item, no_members, member}
use Rattle.serde_json.specs.View.{items_of}
use Rattle.serde_json.specs.Written.{compact_text}
use Rattle.ob_post.specs.Keys.{keys}
use Rattle.ob_post.specs.declared.Dim.{Dim}
use Rattle.ob_post.specs.declared.Dim.TheVariants.{Cause, Feeder, Day}

-- an amount that isn't 0, with its key before it
abbrev pub has_amount : ℕ × ℕ → Bool
has_amount row = nat_lt 0 row.1

-- these keys with the amounts under them, where they aren't 0
abbrev pub rows_of : (ℕ → ℕ) → List ℕ → List (ℕ × ℕ)
rows_of amount ks = filter has_amount (map (λ key. (key, amount key)) ks)

-- `[key,amount]`
abbrev pub row_data : ℕ × ℕ → Data
row_data row = array (item (number (unsigned row.0)) (item (number (unsigned row.1)) no_items))

-- `[[key,amount],..]`
abbrev pub listed : List (ℕ × ℕ) → Data
listed rows = array (items_of (map row_data rows))

-- the rows of a dimension, over this many days
abbrev pub rows_data : (Dim → ℕ → ℕ) → ℕ → Dim → Data
rows_data amount days dim = listed (rows_of (amount dim) (keys days dim))

-- `{"cause":[..],"day":[..],"feeder":[..],"total":amount}`
abbrev pub totals_object : Data → Data → Data → ℕ → Data
totals_object causes days feeders total = object
    (member (codes "cause") causes
    (member (codes "day") days
    (member (codes "feeder") feeders
    (member (codes "total") (number (unsigned total)) no_members))))

-- the same with no space in it
abbrev pub object_text : Data → Data → Data → ℕ → List ℕ
object_text causes days feeders total = compact_text (totals_object causes days feeders total)

-- the totals of amounts by dimension and key
abbrev pub totals_data : (Dim → ℕ → ℕ) → ℕ → ℕ → Data
totals_data amount days total = totals_object (rows_data amount days Cause) (rows_data amount days Day) (rows_data amount days Feeder) total

-- their text
abbrev pub totals_text : (Dim → ℕ → ℕ) → ℕ → ℕ → List ℕ
totals_text amount days total = object_text (rows_data amount days Cause) (rows_data amount days Day) (rows_data amount days Feeder) total
