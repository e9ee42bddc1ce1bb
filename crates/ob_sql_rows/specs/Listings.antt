-- The listing of each table: the query of all its rows by key, and what it shows.
use Rattle.std.specs.Prelude.{ℕ, List, [], ◌∷◌, codes}
use Rattle.ob_sql_rows.specs.declared.table.Table.{Table}
use Rattle.ob_sql_rows.specs.declared.table.Table.TheVariants.{Meta, Cause, Node, Device, Life, Customer, Entry, Mark, Command, Moved, Posting}

-- the query of all rows of a table, by key
abbrev pub select_of : Table → List ℕ
select_of Meta = codes "SELECT id, version, day0, days, zone FROM meta ORDER BY id"
select_of Cause = codes "SELECT code, name FROM cause ORDER BY code"
select_of Node = codes "SELECT id, name, kind, feeder FROM node ORDER BY id"
select_of Device = codes "SELECT id, name, a, b, normal FROM device ORDER BY id"
select_of Life = codes "SELECT device, since, until FROM life ORDER BY device"
select_of Customer = codes "SELECT id, section, since, until FROM customer ORDER BY id"
select_of Entry = codes "SELECT id, rev, device, pos, second, cause, crew, kept FROM entry ORDER BY id"
select_of Mark = codes "SELECT day, engineer FROM mark ORDER BY day"
select_of Command = codes "SELECT id, ref, body FROM cmd ORDER BY id"
select_of Moved = codes "SELECT cmd, dim, k, delta FROM moved ORDER BY cmd, dim, k"
select_of Posting = codes "SELECT dim, k, amount FROM posting ORDER BY dim, k"

-- the names of the columns that it shows
abbrev pub names_of : Table → List (List ℕ)
names_of Meta = codes "id" ∷ codes "version" ∷ codes "day0" ∷ codes "days" ∷ codes "zone" ∷ []
names_of Cause = codes "code" ∷ codes "name" ∷ []
names_of Node = codes "id" ∷ codes "name" ∷ codes "kind" ∷ codes "feeder" ∷ []
names_of Device = codes "id" ∷ codes "name" ∷ codes "a" ∷ codes "b" ∷ codes "normal" ∷ []
names_of Life = codes "device" ∷ codes "since" ∷ codes "until" ∷ []
names_of Customer = codes "id" ∷ codes "section" ∷ codes "since" ∷ codes "until" ∷ []
names_of Entry =
    codes "id" ∷ codes "rev" ∷ codes "device" ∷ codes "pos" ∷ codes "second" ∷ codes "cause" ∷ codes "crew"
    ∷ codes "kept" ∷ []
names_of Mark = codes "day" ∷ codes "engineer" ∷ []
names_of Command = codes "id" ∷ codes "ref" ∷ codes "body" ∷ []
names_of Moved = codes "cmd" ∷ codes "dim" ∷ codes "k" ∷ codes "delta" ∷ []
names_of Posting = codes "dim" ∷ codes "k" ∷ codes "amount" ∷ []

-- the key of a table is so many of its first columns
abbrev pub keys_of : Table → ℕ
keys_of Moved = 3
keys_of Posting = 2
keys_of _ = 1
