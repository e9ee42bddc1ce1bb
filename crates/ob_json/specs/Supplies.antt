-- The JSON text of the supply at a second: the sections without supply, and how the devices stand.
use Rattle.std.specs.Prelude.{ℕ, List, map, codes}
use Rattle.serde_json.specs.Data.{Data, boolean, number, unsigned, string, array, object, no_members, member}
use Rattle.serde_json.specs.View.{items_of}
use Rattle.serde_json.specs.Written.{compact_text}
use Rattle.ob_base.specs.declared.Pos.{Pos}
use Rattle.ob_base.specs.declared.Pos.TheVariants.{Opened, Closed}
use Rattle.ob_json.specs.Plans.{number_or_null}
use Rattle.ob_json.specs.declared.supply.UnsuppliedSection.{UnsuppliedSection}
use Rattle.ob_json.specs.declared.supply.DeviceState.{DeviceState}

-- the supply at a second: the sections that are without it then, and each device
pub record Supply : Type 0 where
  pub second : ℕ
  pub sections : List UnsuppliedSection
  pub devices : List DeviceState

abbrev pub position_word : Pos → List ℕ
position_word Opened = codes "open"
position_word Closed = codes "closed"

-- `{"cause":3,"customers":5,"entry":26,"section":"MILL-LANE","since":1704070800,"until":1704074400}`
abbrev pub unsupplied_data : UnsuppliedSection → Data
unsupplied_data u = object
    (member (codes "cause") (number (unsigned u.cause))
    (member (codes "customers") (number (unsigned u.customers))
    (member (codes "entry") (number_or_null u.entry)
    (member (codes "section") (string u.section)
    (member (codes "since") (number (unsigned u.since))
    (member (codes "until") (number (unsigned u.until)) no_members))))))

-- `{"alive":true,"device":"CB-1","position":"closed"}`
abbrev pub device_data : DeviceState → Data
device_data d = object
    (member (codes "alive") (boolean d.alive)
    (member (codes "device") (string d.device)
    (member (codes "position") (string (position_word d.position)) no_members)))

-- `{"devices":[{..},..],"second":1704070800,"sections":[{..},..]}`
abbrev pub supply_data : Supply → Data
supply_data s = object
    (member (codes "devices") (array (items_of (map device_data s.devices)))
    (member (codes "second") (number (unsigned s.second))
    (member (codes "sections") (array (items_of (map unsupplied_data s.sections))) no_members)))

-- the same with no space in it
abbrev pub supply_text : Supply → List ℕ
supply_text s = compact_text (supply_data s)
