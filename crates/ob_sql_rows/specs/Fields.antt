-- What a field of a row holds, or is to hold, as a value.
use Rattle.std.specs.Prelude.{◌<◌, ◌^◌, ⊤}
use Rattle.sqlite_value.specs.declared.value.Value.{Value}
use Rattle.sqlite_value.specs.declared.value.Value.TheVariants.{Null, Int, Text}
use Rattle.ob_sql_rows.specs.Rows.{number}
use Rattle.ob_sql_rows.specs.declared.fields.Field.{Field}
use Rattle.ob_sql_rows.specs.declared.fields.Field.TheVariants.{Nothing, Small, Large, Signed, Words}

abbrev pub held : Field → Value
held Nothing = Null
held (Small n) = number n
held (Large n) = number n
held (Signed n) = Int n
held (Words words) = Text words.now

-- a row can hold it
abbrev pub Fits : Field → Type 0
Fits (Large n) = n < 2 ^ 63
Fits _ = ⊤
