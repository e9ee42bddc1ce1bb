-- What a command makes of the rows beside its own and those of its amounts.
use Rattle.std.specs.Prelude.{ℕ, ◌<◌, ◌^◌, ⊤, IfSome}
use Rattle.ob_net.specs.declared.net.Device.{Device as NetDevice}
use Rattle.ob_state.specs.declared.resolved.Resolved.{Resolved}
use Rattle.ob_state.specs.declared.resolved.Resolved.TheVariants.{Cause, Node, Device, Life, Customer, Service, Entered, Corrected, Withdrawn, Marked, Unmarked}
use Rattle.ob_sql_rows.specs.Rows.{Tables, Always, HasLife, HasCustomer, HasEntry, HasMark, with_row, with_change, without_key}
use Rattle.ob_sql_rows.specs.Rows.{cause_row, node_row, device_row, life_row, customer_row, entry_row, mark_row}
use Rattle.ob_sql_rows.specs.Rows.{relive, serve, correct, withdraw}
use Rattle.ob_sql_rows.specs.Rules.{LacksKey, LetsCause, LetsNode, LetsDevice, LetsCustomer, LetsEntry, LetsCorrected, LetsWithdrawn, LetsMark}
use Rattle.ob_sql_rows.specs.declared.table.Table.TheVariants as tables

-- its seconds are small enough for a column
abbrev pub HasSmallSeconds : Resolved → Type 0
HasSmallSeconds (Cause code name) = ⊤
HasSmallSeconds (Node number node) = ⊤
HasSmallSeconds (Device number d) = (d.life.since < 2 ^ 63) × IfSome d.life.until (λ end. end < 2 ^ 63)
HasSmallSeconds (Life device old new) = (new.since < 2 ^ 63) × IfSome new.until (λ end. end < 2 ^ 63)
HasSmallSeconds (Customer c) = (c.since < 2 ^ 63) × IfSome c.until (λ end. end < 2 ^ 63)
HasSmallSeconds (Service old new) = (new.since < 2 ^ 63) × IfSome new.until (λ end. end < 2 ^ 63)
HasSmallSeconds (Entered e) = e.second < 2 ^ 63
HasSmallSeconds (Corrected old new) = new.second < 2 ^ 63
HasSmallSeconds (Withdrawn old new) = ⊤
HasSmallSeconds (Marked day engineer) = ⊤
HasSmallSeconds (Unmarked day) = ⊤

-- the row that it writes anew or takes off is there
abbrev pub NeedsRow : Resolved → Tables → Type 0
NeedsRow (Cause code name) = Always
NeedsRow (Node number node) = Always
NeedsRow (Device number d) = Always
NeedsRow (Life device old new) = HasLife device
NeedsRow (Customer c) = Always
NeedsRow (Service old new) = HasCustomer new.no
NeedsRow (Entered e) = Always
NeedsRow (Corrected old new) = HasEntry new.no
NeedsRow (Withdrawn old new) = HasEntry new.no
NeedsRow (Marked day engineer) = Always
NeedsRow (Unmarked day) = HasMark day

-- the rules of the tables let it in, where the rows that it needs are there
abbrev pub LetsRow : Resolved → Tables → Type 0
LetsRow (Cause code name) t = LetsCause code name t
LetsRow (Node number node) t = LetsNode number node.name t
LetsRow (Device number d) t = LetsDevice number d.name d.a d.b t × LacksKey tables.Life number t
LetsRow (Life device old new) t = ⊤
LetsRow (Customer c) t = LetsCustomer c.no c.section t
LetsRow (Service old new) t = ⊤
LetsRow (Entered e) t = LetsEntry e.no e.device e.cause t
LetsRow (Corrected old new) t = LetsCorrected new.cause t
LetsRow (Withdrawn old new) t = LetsWithdrawn new.no t
LetsRow (Marked day engineer) t = LetsMark day t
LetsRow (Unmarked day) t = ⊤

-- the tables with a device more, and with its life
abbrev pub with_device_and_life : ℕ → NetDevice → Tables → Tables
with_device_and_life number d t =
    with_row tables.Life (life_row number d.life) (with_row tables.Device (device_row number d) t)

-- the tables with the rows that it leaves
abbrev pub rows_by : Resolved → Tables → Tables
rows_by (Cause code name) = with_row tables.Cause (cause_row code name)
rows_by (Node number node) = with_row tables.Node (node_row number node)
rows_by (Device number d) = with_device_and_life number d
rows_by (Life device old new) = with_change tables.Life device (relive new)
rows_by (Customer c) = with_row tables.Customer (customer_row c)
rows_by (Service old new) = with_change tables.Customer new.no (serve new)
rows_by (Entered e) = with_row tables.Entry (entry_row e)
rows_by (Corrected old new) = with_change tables.Entry new.no (correct new)
rows_by (Withdrawn old new) = with_change tables.Entry new.no (withdraw new.rev)
rows_by (Marked day engineer) = with_row tables.Mark (mark_row day engineer)
rows_by (Unmarked day) = without_key tables.Mark day
