-- The rules of today's tables let in the rows that make the tables of a book of version 1 today's.
use Rattle.std.proofs.Common.{◌≡◌, ◌∙◌, ℕ, ℤ, ◌+◌, ◌<◌, true, List, [], ◌∷◌, ◌++◌, length, length-append, if◌then◌else◌, refl, ap, inl, inr, arith}
use Rattle.std.specs.List.{AllByRecursion, list_any}
use Rattle.std.proofs.lemmas.Bool.{cases_Bool}
use Rattle.std.proofs.lemmas.List.Elements.{All-from_recursion}
use Rattle.ob_net.specs.declared.net.Device.{Device as NetDevice}
use Rattle.ob_time.specs.Dates.{day_text}
use Rattle.ob_command.specs.Commands.{body_text}
use Rattle.ob_command.specs.Devices.{plain_end}
use Rattle.ob_book.specs.Acts.{Referenced}
use Rattle.ob_upgrade.specs.Laws.{BodiesGrow}
use Rattle.ob_upgrade.specs.Old.{is_device, old_body_text}
use Rattle.ob_sql_rows.specs.Rows.{Tables, device_row, is_key}
use Rattle.ob_sql_rows.specs.Rules.{HasShort, IsShort, IsShortValue}
use Rattle.ob_sql_rows.specs.declared.table.Table.TheVariants.{Command}
use Rattle.ob_sql_write.specs.declared.upgrade.NewBody.{NewBody}
use Rattle.ob_record.specs.Naming.{IsReferenced}
use Rattle.ob_record.specs.Tables.{numbered}
use Rattle.ob_record.proofs.Free.{number_there}
use Rattle.ob_record.proofs.Keyed.{key_is}
use Rattle.ob_record.proofs.Short.{short_body, short_reference}
use Rattle.ob_sql_check.specs.Laws.{IsOldCommand, LetsUpgraded, OldIsReached}
use Rattle.ob_sql_check.specs.OldTables.{new_texts, old_tables_of, row_of_old_command, texts_of}

-- ---- the texts are short
-- a body text of version 1 is no longer than today's
no_longer : (body was more : List ℕ) → body ≡ was ++ more → IsShort body → IsShort was
no_longer body was more is short = let long : length body ≡ length was + length more = ap length is ∙ length-append was more in omega (arith, long, short)

old_short : BodiesGrow → (a : Referenced) → IsReferenced a → IsOldCommand a → IsShort (old_body_text a.command)
old_short grow a named old =
    no_longer (body_text a.command) (old_body_text a.command) (if is_device a.command then plain_end else []) (grow a.command old) (short_body a.command named.1)

rows_short : BodiesGrow → (key n : ℕ) (xs : List Referenced) → AllByRecursion IsReferenced xs → AllByRecursion IsOldCommand xs
    → AllByRecursion (λ row. is_key key row ≡ true → AllByRecursion IsShortValue row) (numbered row_of_old_command n xs)
rows_short grow key n [] named old = tt
rows_short grow key n (a ∷ xs) named old =
    (λ is. (tt, (short_reference a.reference named.0.0, (old_short grow a named.0 old.0, tt))), rows_short grow key (n + 1) xs named.1 old.1)

abbrev IsShortText : ℕ × List ℕ → Type 0
IsShortText x = IsShort x.1

texts_short : (n : ℕ) (xs : List Referenced) → AllByRecursion IsReferenced xs → AllByRecursion IsShortText (new_texts n xs)
texts_short n [] named = tt
texts_short n (a ∷ xs) named = elim (cases_Bool (is_device a.command)) [
  | inl is ↦ rw is (short_body a.command named.0.1, texts_short (n + 1) xs named.1)
  | inr other ↦ rw other (texts_short (n + 1) xs named.1)
]

-- of the new bodies, and of the commands that they are for
abbrev LetsBodyOf : Tables → NewBody → Type 0
LetsBodyOf t b = IsShort b.body.items × HasShort Command b.no t

lets_bodies : (t : Tables) → ((key : ℕ) → HasShort Command key t) → (bodies : List NewBody) → AllByRecursion IsShortText (texts_of bodies) → AllByRecursion (LetsBodyOf t) bodies
lets_bodies t rows [] texts = tt
lets_bodies t rows (b ∷ bodies) texts = ((texts.0, rows b.no), lets_bodies t rows bodies texts.1)

-- a date is short, and so is the text of a zone
date_length : (day : ℤ) → length (day_text day) ≡ 10
unfolding day_text
date_length day = refl

date_short : (day : ℤ) → IsShort (day_text day)
date_short day = let long = date_length day in omega (arith, long)

-- ---- each device is there
device_there : (n : ℕ) (devices : List NetDevice) → n < length devices → list_any (is_key n) (numbered device_row 0 devices) ≡ true
device_there n devices low = number_there device_row n (λ m d. key_is n m (device_row m d) refl) 0 n devices (omega arith) low

pub lets_upgraded : BodiesGrow → OldIsReached → LetsUpgraded
lets_upgraded grow reached b bodies h named texts =
    let t = old_tables_of b in
    let old : AllByRecursion IsOldCommand b.accepted = (reached b h).1 in
    let long = h.period.rule_is.len in
    let zone : IsShort b.book.period.zone = omega (arith, long) in
    let short : AllByRecursion IsShortText (texts_of bodies) = rw texts (texts_short 1 b.accepted named) in
    record {
      texts = All-from_recursion (LetsBodyOf t) bodies (lets_bodies t (λ key. rows_short grow key 1 b.accepted named old) bodies short);
      living = λ n low. device_there n b.book.network.devices low;
      heading = (λ is. (tt, (tt, (date_short b.book.period.first_day, (tt, (zone, tt))))), tt);
    }
