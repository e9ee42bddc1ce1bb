-- The row of a command.
use Rattle.std.proofs.Common.{◌≡◌, ℕ, ◌<◌, Bool, true, false, List, [], ◌∷◌, length, Option, Some, None, refl, sym, ap, ◌∙◌, arith}
use Rattle.std.specs.Prelude.{if◌then◌else◌}
use Rattle.ob_base.specs.Identifier.{is_identifier, identifier_in}
use Rattle.sqlite_value.specs.declared.value.Value.{Value}
use Rattle.sqlite_value.specs.declared.value.Value.TheVariants.{Text}
use Rattle.sqlite.specs.Order.{column}
use Rattle.ob_sql_rows.specs.Rows.{Columns}
use Rattle.ob_sql_rows.specs.declared.version.Version.{Version}
use Rattle.ob_sql_read.specs.declared.filed.Filed.{Filed}
use Rattle.ob_sql_read.specs.Listing.{referenced}
use Rattle.ob_sql_read.specs.Ordered.{row_with}
use Rattle.ob_sql_read.specs.Versioned.{body_in}

-- a row of three columns is known by them
pub three_columns : (row : Columns) (a b c : Value) → length row ≡ 3 → column row 0 ≡ a → column row 1 ≡ b → column row 2 ≡ c → row ≡ a ∷ b ∷ c ∷ []
three_columns [] a b c long p q r = absurd (omega (arith, long))
three_columns (x ∷ []) a b c long p q r = absurd (omega (arith, long))
three_columns (x ∷ y ∷ []) a b c long p q r = absurd (omega (arith, long))
three_columns (x ∷ y ∷ z ∷ []) a b c long p q r = cc
three_columns (x ∷ y ∷ z ∷ u ∷ more) a b c long p q r = absurd (omega (arith, long))

same_text : {s t : List ℕ} → ◌≡◌ {A = Value} (Text s) (Text t) → s ≡ t
same_text e = cc

-- the reference and the body that stand in the row of a command
pub reference_there : (version : Version) (row : Columns) (id : Value) (f : Filed) → row ≡ row_with version id (referenced f) → (1 < length row) × (column row 1 ≡ Text f.reference)
reference_there version row id f is = (omega (arith, ap length is), ap (λ r. column r 1) is)

pub body_there : (version : Version) (row : Columns) (id : Value) (f : Filed) → row ≡ row_with version id (referenced f) → (2 < length row) × (column row 2 ≡ Text (body_in version f.command))
body_there version row id f is = (omega (arith, ap length is), ap (λ r. column r 2) is)

pub nothing : {X : Type 0} (r : Option X) (x : X) (P : Type 0) → r ≡ None → (P → ⊥) → (r ≡ Some x → P) × (P → r ≡ Some x)
nothing r x P none never = (λ some. absurd (let e = sym none ∙ some in cc), λ p. absurd (never p))

pub same_some : {X : Type 0} {x y : X} → ◌≡◌ {A = Option X} (Some x) (Some y) → x ≡ y
same_some e = cc

pub none_some : {X : Type 0} (r : Option X) (x : X) → r ≡ None → r ≡ Some x → ⊥
none_some r x none some = let e = sym none ∙ some in cc

-- a reference that is read, and one that isn't
pub reads_reference : (text x : List ℕ) → ◌≡◌ {A = Option (List ℕ)} (Some x) (identifier_in 40 text) → (x ≡ text) × (is_identifier 40 text ≡ true)
reads_reference text x e = go (is_identifier 40 text) refl e
  where
    go : (b : Bool) → is_identifier 40 text ≡ b → ◌≡◌ {A = Option (List ℕ)} (Some x) (if b then Some text else None) → (x ≡ text) × (is_identifier 40 text ≡ true)
    go true is e = (cc, is)
    go false is e = absurd cc

pub unread_reference : (text : List ℕ) (r : Option (List ℕ)) → r ≡ identifier_in 40 text → r ≡ None → is_identifier 40 text ≡ true → ⊥
unread_reference text r value none is = none_some r text none (value ∙ ap (λ b. if b then Some text else None) is)
