-- The row of a heading, and the listing of its table.
use Rattle.std.proofs.Common.{◌≡◌, ℕ, ◌<◌, List, [], ◌∷◌, length, Option, Some, None, refl, sym, ap, subst, ◌∙◌, arith}
use Rattle.std.specs.Prelude.{Result, Ok, Err, OnOk, Bool, IsTrue, ◌↔◌}
use Rattle.std.specs.List.Sorted.{IsStrictlySortedBy}
use Rattle.std.proofs.lemmas.List.Sorted.{IsPermutation-sym, IsPermutation-trans}
use Rattle.sqlite_value.specs.declared.value.Value.{Value}
use Rattle.sqlite_value.specs.declared.value.Value.TheVariants.{Null}
use Rattle.sqlite.specs.Order.{Row, column}
use Rattle.sqlite.specs.Effect.{Database}
use Rattle.sqlite.specs.Query.{output_cmp}
use Rattle.sqlite.specs.Listing.{understood, listing_schema}
use Rattle.sqlite.specs.Schema.{Schema}
use Rattle.sqlite_resolve.specs.declared.error.CompileError.TheVariants.{NoSuchTable}
use Rattle.ob_sql_rows.specs.Schema.{no_schema}
use Rattle.sqlite_tied.specs.Compute.{everything}
use Rattle.sqlite.proofs.Callers.{one_permutation}
use Rattle.ob_sql_rows.specs.Rows.{Columns, number}
use Rattle.ob_sql_rows.specs.declared.table.Table.TheVariants.{Meta}
use Rattle.ob_record.specs.Tables.{Shows}
use Rattle.ob_sql_read.specs.declared.heading.Heading.{Heading}
use Rattle.ob_sql_read.specs.Listing.{Listing, Lists, list_query, keyed}
use Rattle.ob_sql_read.specs.Parts.{listing_of}
use Rattle.ob_sql_read.specs.Reading.{HasNoMeaning, IsHeading, heading_row}
use Rattle.ob_sql_read.specs.Version.{HasVersion, IsVersionRow}
use Rattle.ob_sql_read.proofs.Listing.{lists_rows}

-- a row of five columns is known by them
pub five_columns : (row : Columns) (a b c d e : Value) → length row ≡ 5 → column row 0 ≡ a → column row 1 ≡ b → column row 2 ≡ c → column row 3 ≡ d → column row 4 ≡ e → row ≡ a ∷ b ∷ c ∷ d ∷ e ∷ []
five_columns [] a b c d e long p q r s t = absurd (omega (arith, long))
five_columns (u ∷ []) a b c d e long p q r s t = absurd (omega (arith, long))
five_columns (u ∷ v ∷ []) a b c d e long p q r s t = absurd (omega (arith, long))
five_columns (u ∷ v ∷ w ∷ []) a b c d e long p q r s t = absurd (omega (arith, long))
five_columns (u ∷ v ∷ w ∷ x ∷ []) a b c d e long p q r s t = absurd (omega (arith, long))
five_columns (u ∷ v ∷ w ∷ x ∷ y ∷ []) a b c d e long p q r s t = cc
five_columns (u ∷ v ∷ w ∷ x ∷ y ∷ z ∷ more) a b c d e long p q r s t = absurd (omega (arith, long))

-- a column of the row of a heading
pub meta_there : (row : Columns) (id version : Value) (first_day : List ℕ) (days : ℕ) (zone : List ℕ) (at : ℕ) → row ≡ heading_row id version first_day days zone → at < 5
    → (at < length row) × (column row at ≡ column (heading_row id version first_day days zone) at)
meta_there row id version first_day days zone at is low = (omega (arith, ap length is, low), ap (λ r. column r at) is)

abbrev pub meta_listing : Listing
meta_listing = listing_of Meta

-- without tables the text means nothing
meta_missing : understood no_schema meta_listing.text ≡ Err NoSuchTable
unfolding understood everything listing_schema
meta_missing = refl

pub no_meaning : (schema : Schema) (sql : List ℕ) → schema ≡ no_schema → sql ≡ meta_listing.text → HasNoMeaning schema sql
no_meaning schema sql is text c known = absurd (let e = sym meta_missing ∙ sym (ap (understood no_schema) text) ∙ sym (ap (λ s. understood s sql) is) ∙ known in cc)

one_rises : (row : Row) → IsStrictlySortedBy (output_cmp (list_query meta_listing)) (keyed meta_listing row ∷ [])
unfolding IsStrictlySortedBy
one_rises row = (tt, tt)

-- one row is the answer exactly where it is the table
one_row : (db : Database) (answer rows : List Row) (row : Row) → Lists meta_listing db answer → Shows db.trees Meta rows → answer ≡ row ∷ [] → rows ≡ row ∷ []
one_row db answer rows row lists shows is =
    let alone = (lists_rows meta_listing db answer (row ∷ []) lists (one_rises row)).0 is in
    one_permutation row rows (IsPermutation-trans _ _ _ (IsPermutation-sym _ _ alone) shows)

one_answer : (db : Database) (answer rows : List Row) (row : Row) → Lists meta_listing db answer → Shows db.trees Meta rows → rows ≡ row ∷ [] → answer ≡ row ∷ []
one_answer db answer rows row lists shows is =
    (lists_rows meta_listing db answer (row ∷ []) lists (one_rises row)).1 (subst (Shows db.trees Meta) is shows)

pub heading_read : (db : Database) (answer rows : List Row) (found : Option Heading) → Lists meta_listing db answer → Shows db.trees Meta rows → IsHeading found answer → IsHeading found rows
heading_read db answer rows (Some h) lists shows is = (is.0, is.1, one_row db answer rows _ lists shows is.2)
heading_read db answer rows None lists shows is = λ id version first_day days zone low e. is id version first_day days zone low (one_answer db answer rows _ lists shows e)

-- the version that an answer tells is that of the table
pub version_read : (db : Database) (answer : List Row) (version : ℕ) (is : Bool) → Lists meta_listing db answer → IsTrue is ↔ IsVersionRow version answer → IsTrue is ↔ HasVersion version db.trees
version_read db answer version is lists tells = (
  λ yes. let it = tells.0 yes in (it.0, (lists_rows meta_listing db answer (it.0 ∷ []) lists (one_rises it.0)).0 it.1, it.2),
  λ has. tells.1 (has.0, (lists_rows meta_listing db answer (has.0 ∷ []) lists (one_rises has.0)).1 has.1, has.2),
)

-- a row alone, and the number in its second column
pub second_there : (row : Columns) (n : ℕ) → column row 1 ≡ number n → 1 < length row
second_there [] n is = absurd (let e : Null ≡ number n = is in cc)
second_there (x ∷ []) n is = absurd (let e : Null ≡ number n = is in cc)
second_there (x ∷ y ∷ more) n is = omega arith

pub ok_always : {X E : Type 0} (r : Result X E) {P : Type 0} → P → OnOk r P
ok_always (Ok x) h = h
ok_always (Err e) h = tt
