-- The JSON text of a plan: what a command would move, and the sections whose outage intervals it would change.
use Rattle.std.specs.Prelude.{ℕ, ◌==◌, ◌&&◌, nat_eq, Bool, List, Option, Some, None, map, codes}
use Rattle.std.specs.Cmp.Lexicographic.{pointwise}
use Rattle.std.specs.Option.{option_eq}
use Rattle.serde_json.specs.Data.{Data, null, number, unsigned, string, array, object, no_items, item, no_members, member}
use Rattle.serde_json.specs.View.{items_of}
use Rattle.serde_json.specs.Written.{compact_text}
use Rattle.ob_post.specs.declared.Moved.{Moved}
use Rattle.ob_json.specs.Moves.{moves_data}
use Rattle.ob_json.specs.declared.plan.OutageInterval.{OutageInterval}

-- a section, by its name, whose outage intervals a command would change: all that it has before the command, and all after it
pub record SectionOutages : Type 0 where
  pub section : List ℕ
  pub before : List OutageInterval
  pub after : List OutageInterval

-- what an accepted command would move, and the sections whose outage intervals it would change
pub record Forecast : Type 0 where
  pub moved : List Moved
  pub sections : List SectionOutages

-- the two have the same seconds, entry and cause
abbrev pub is_same_interval : OutageInterval → OutageInterval → Bool
is_same_interval a b = a.since == b.since && a.until == b.until && option_eq nat_eq a.entry b.entry && a.cause == b.cause

-- the two lists have the same outage intervals
abbrev pub are_same_intervals : List OutageInterval → List OutageInterval → Bool
are_same_intervals xs ys = pointwise is_same_interval xs ys

-- a number, or null
abbrev pub number_or_null : Option ℕ → Data
number_or_null (Some n) = number (unsigned n)
number_or_null None = null

-- `[1704070800,1704074400,26,3]`: the first second, the end, the entry that cut the section off or null, and the cause
abbrev pub interval_data : OutageInterval → Data
interval_data i =
    array (item (number (unsigned i.since)) (item (number (unsigned i.until)) (item (number_or_null i.entry) (item (number (unsigned i.cause)) no_items))))

-- `[[..],..]`
abbrev pub intervals_data : List OutageInterval → Data
intervals_data intervals = array (items_of (map interval_data intervals))

-- `{"after":[[..],..],"before":[[..],..],"section":"MILL-LANE"}`
abbrev pub section_data : SectionOutages → Data
section_data s = object
    (member (codes "after") (intervals_data s.after)
    (member (codes "before") (intervals_data s.before)
    (member (codes "section") (string s.section) no_members)))

-- `{"moved":[[..],..],"sections":[{..},..]}`
abbrev pub forecast_data : Forecast → Data
forecast_data f = object
    (member (codes "moved") (moves_data f.moved)
    (member (codes "sections") (array (items_of (map section_data f.sections))) no_members))

-- the same with no space in it
abbrev pub forecast_text : Forecast → List ℕ
forecast_text f = compact_text (forecast_data f)
