-- An identifier has no more bytes than its type lets it have: names and crews are short.
use Rattle.std.proofs.Common.{◌≡◌, ◌&&◌, ℕ, ◌≤◌, true, List, length, arith, nat_le, nat_lt}
use Rattle.std.specs.List.{list_all}
use Rattle.std.proofs.lemmas.Bool.{and_parts, leb-true}
use Rattle.ob_base.specs.Identifier.{is_identifier, is_identifier_byte}
use Rattle.ob_sql_rows.specs.Rules.{IsShort}

pub identifier_long : (limit : ℕ) (text : List ℕ) → is_identifier limit text ≡ true → length text ≤ limit
identifier_long limit text h =
    let outer = and_parts (nat_lt 0 (length text) && nat_le (length text) limit) (list_all is_identifier_byte text) h in
    let inner = and_parts (nat_lt 0 (length text)) (nat_le (length text) limit) outer.0 in
    leb-true (length text) limit inner.1

pub short_name : (name : List ℕ) → is_identifier 24 name ≡ true → IsShort name
short_name name h = let long = identifier_long 24 name h in omega (arith, long)

pub short_crew : (crew : List ℕ) → is_identifier 16 crew ≡ true → IsShort crew
short_crew crew h = let long = identifier_long 16 crew h in omega (arith, long)
