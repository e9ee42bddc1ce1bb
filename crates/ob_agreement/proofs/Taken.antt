-- A row that `total` takes: no field of it is a civil moment, and its kind isn't one that a book alone has.
use Rattle.std.proofs.Common.{◌≡◌, ◌∙◌, ◌⊎◌, ap, sym, subst, refl, inl, inr, ℕ, ◌+◌, ◌<◌, ◌&&◌, Bool, true, false, List, [], ◌∷◌, ◌++◌, drop, length, Option, Some, None, option_and_then, option_map, Result, Ok, Err, codes, arith, if◌then◌else◌, bytes_eq, nat_lt, nat_le}
use Rattle.std.proofs.lemmas.Bool.{and_parts, cases_lt, false≢true}
use Rattle.std.proofs.lemmas.List.Elements.{All-cons, All-drop, All-nil, All-take}
use Rattle.std.proofs.lemmas.List.Sums.{AllPass-from_list_all}
use Rattle.std.specs.Result.{IsErr}
use Rattle.std.specs.List.{All, AllPass, Any, list_all, slice_range}
use Rattle.jiff_fmt.specs.Text.{pad2}
use Rattle.ob_base.specs.Fields.{act_in, cause_in, feeder_in, normal_in, number_in, serial_in, unix_second_in, until_in}
use Rattle.ob_base.specs.Identifier.{identifier_in, is_identifier, is_identifier_byte}
use Rattle.ob_base.specs.Life.{life}
use Rattle.ob_base.specs.declared.Pos.{Pos}
use Rattle.ob_base.specs.declared.Pos.TheVariants.{Opened, Closed}
use Rattle.ob_base.specs.declared.stop.Refusal.{Refusal}
use Rattle.ob_base.specs.declared.stop.Refusal.TheVariants.{BadField}
use Rattle.ob_csv.specs.Rows.{Fields}
use Rattle.ob_time.specs.Moment.{IsCivilText}
use Rattle.ob_total.specs.Commands.{command_by, command_of, kind_in, other_node_in, since_in, with_empty, with_value}
use Rattle.ob_total.specs.declared.command.Command.{Command}
use Rattle.ob_total.specs.declared.command.Command.TheVariants as counted
use Rattle.ob_total.specs.declared.command.Kind.{Kind}
use Rattle.ob_total.specs.declared.command.Kind.TheVariants as kinds
use Rattle.ob_agreement.specs.Readings.{is_of_book_alone, IsCivil, HasUnixSeconds, OtherRowsAreRefused, TakenRowsAreRead}
use Rattle.ob_agreement.proofs.Alike.{rows_are_read_alike}
use Rattle.ob_agreement.proofs.Lengths.{by_length}
use Rattle.ob_agreement.proofs.KindTexts.{found_here, found_nowhere, kind_shared, kind_short, same_text}

-- what `total` takes has each column's value
pub taken_column : {A : Type 0} (n : ℕ) (o : Option A) (f : A → Result Command Refusal) (c : Command) → with_value n o f ≡ Ok c → (a : A) × (o ≡ Some a) × (f a ≡ Ok c)
taken_column n None f c is = absurd (cc)
taken_column n (Some a) f c is = (a, refl, is)

abbrev pub IsPlain : List ℕ → Type 0
IsPlain text = ¬ (IsCivil text)

pub short_is_plain : (text : List ℕ) → length text < 19 → IsPlain text
short_is_plain text short civil = let long = civil.1.long in omega arith

pub rest_is_plain : (n : ℕ) (rest : Fields) (c d : Command) → with_empty n rest (Ok c) ≡ Ok d → All IsPlain rest
rest_is_plain n [] c d is = All-nil IsPlain
rest_is_plain n ([] ∷ rest) c d is = All-cons IsPlain [] rest (short_is_plain [] (omega arith)) (rest_is_plain (n + 1) rest c d is)
rest_is_plain n ((byte ∷ bytes) ∷ rest) c d is = absurd (cc)

-- ---- what a column has is no civil moment
number_is_plain : (most least greatest : ℕ) (text : List ℕ) (v : ℕ) → most < 19 → number_in most least greatest text ≡ Some v → IsPlain text
number_is_plain most least greatest text v few is = elim (cases_lt most (length text)) [
  | inl long ↦ absurd (grind (arith, is, long))
  | inr short ↦ short_is_plain text (omega arith)
]

-- a civil moment has a colon, and an identifier has none
colon_in : (text : List ℕ) (s : ℕ) → IsCivilText text s → list_all is_identifier_byte text ≡ true → ⊥
colon_in text s civil every =
    let clock = civil.time_is.1 in
    let passes : AllPass is_identifier_byte (slice_range text 11 19) = All-take (λ b. is_identifier_byte b ≡ true) 8 (drop 11 text) (All-drop (λ b. is_identifier_byte b ≡ true) 11 text (AllPass-from_list_all is_identifier_byte text every)) in
    let of_clock : AllPass is_identifier_byte (pad2 civil.time.hour ++ 58 ∷ pad2 civil.time.minute ++ 58 ∷ pad2 civil.time.second) = subst (λ bytes. AllPass is_identifier_byte bytes) clock passes in
    false≢true (of_clock 2 0 (omega arith))

only_if : {A : Type 0} (test : Bool) (v : A) (w : A) → (if test then Some v else None) ≡ Some w → test ≡ true
only_if true v w is = refl
only_if false v w is = absurd (cc)

identifier_is_plain : (limit : ℕ) (text name : List ℕ) → identifier_in limit text ≡ Some name → IsPlain text
identifier_is_plain limit text name is civil =
    let every = and_parts (nat_lt 0 (length text) && nat_le (length text) limit) (list_all is_identifier_byte text) (only_if (is_identifier limit text) text name is) in
    colon_in text civil.0 civil.1 every.1

second_is_plain : (text : List ℕ) (v : ℕ) → unix_second_in text ≡ Some v → IsPlain text
second_is_plain text v is = number_is_plain 11 0 99_999_999_999 text v (omega arith) is

since_is_plain : (text : List ℕ) (v : ℕ) → since_in text ≡ Some v → IsPlain text
since_is_plain [] v is = short_is_plain [] (omega arith)
since_is_plain (byte ∷ bytes) v is = second_is_plain (byte ∷ bytes) v is

mapped_from : (o : Option ℕ) (v : Option ℕ) → option_map (λ s. Some s) o ≡ Some v → (s : ℕ) × (o ≡ Some s)
mapped_from None v is = absurd (cc)
mapped_from (Some s) v is = (s, refl)

until_is_plain : (text : List ℕ) (v : Option ℕ) → until_in unix_second_in text ≡ Some v → IsPlain text
until_is_plain [] v is = short_is_plain [] (omega arith)
until_is_plain (byte ∷ bytes) v is = let found = mapped_from (unix_second_in (byte ∷ bytes)) v is in second_is_plain (byte ∷ bytes) found.0 found.1

word_is_plain : (word text : List ℕ) → length word < 19 → bytes_eq text word ≡ true → IsPlain text
word_is_plain word text short is = short_is_plain text (omega (arith, ap (λ (bytes : List ℕ). length bytes) (same_text text word is)))

act_is_plain : (text : List ℕ) (v : Pos) → act_in text ≡ Some v → IsPlain text
act_is_plain text =
    let P : Pos → Type 0 = λ _. IsPlain text in
    found_here P (bytes_eq text (codes "open")) Opened _ (word_is_plain (codes "open") text (omega arith)) (
    found_here P (bytes_eq text (codes "close")) Closed _ (word_is_plain (codes "close") text (omega arith)) (found_nowhere P))

normal_is_plain : (text : List ℕ) (v : Pos) → normal_in text ≡ Some v → IsPlain text
normal_is_plain text =
    let P : Pos → Type 0 = λ _. IsPlain text in
    found_here P (bytes_eq text (codes "open")) Opened _ (word_is_plain (codes "open") text (omega arith)) (
    found_here P (bytes_eq text (codes "closed")) Closed _ (word_is_plain (codes "closed") text (omega arith)) (found_nowhere P))

node_from : (o : Option (List ℕ)) (f : List ℕ → Option (List ℕ)) (v : List ℕ) → option_and_then f o ≡ Some v → (b : List ℕ) × (o ≡ Some b)
node_from None f v is = absurd (cc)
node_from (Some b) f v is = (b, refl)

node_is_plain : (a text v : List ℕ) → other_node_in a text ≡ Some v → IsPlain text
node_is_plain a text v is = let found = node_from (identifier_in 24 text) (λ b. if bytes_eq a b then None else Some b) v is in identifier_is_plain 24 text found.0 found.1

-- ---- so it is in each row that is taken, kind by kind
two : (a : List ℕ) (rest : Fields) → IsPlain a → All IsPlain rest → All IsPlain (a ∷ rest)
two a rest = All-cons IsPlain a rest

module _ (kind reference f1 f2 f3 f4 f5 f6 : List ℕ) where
  abbrev taken_row : Fields
  taken_row = kind ∷ reference ∷ f1 ∷ f2 ∷ f3 ∷ f4 ∷ f5 ∷ f6 ∷ []

  -- what stands behind columns 7, 6, 5, 4, 3 and 2
  abbrev behind5 : Fields
  behind5 = f6 ∷ []

  abbrev behind4 : Fields
  behind4 = f5 ∷ behind5

  abbrev behind3 : Fields
  behind3 = f4 ∷ behind4

  abbrev behind2 : Fields
  behind2 = f3 ∷ behind3

  abbrev behind1 : Fields
  behind1 = f2 ∷ behind2

  abbrev behind : Fields
  behind = f1 ∷ behind1

  fields_are_plain : (t : Kind) (c : Command) → command_by t taken_row ≡ Ok c → All IsPlain behind
  fields_are_plain kinds.Cause c is =
      let code = taken_column 3 (cause_in f1) _ c is in
      let name = taken_column 4 (identifier_in 24 f2) _ c code.2 in
      two f1 behind1 (number_is_plain 2 1 63 f1 code.0 (omega arith) code.1) (
      two f2 behind2 (identifier_is_plain 24 f2 name.0 name.1) (rest_is_plain 5 behind2 counted.Cause c name.2))
  fields_are_plain kinds.Bus c is =
      let name = taken_column 3 (identifier_in 24 f1) _ c is in
      two f1 behind1 (identifier_is_plain 24 f1 name.0 name.1) (rest_is_plain 4 behind1 (counted.Bus name.0) c name.2)
  fields_are_plain kinds.Section c is =
      let name = taken_column 3 (identifier_in 24 f1) _ c is in
      let feeder = taken_column 4 (feeder_in f2) _ c name.2 in
      two f1 behind1 (identifier_is_plain 24 f1 name.0 name.1) (
      two f2 behind2 (number_is_plain 3 1 255 f2 feeder.0 (omega arith) feeder.1) (rest_is_plain 5 behind2 (counted.Section name.0 feeder.0) c feeder.2))
  fields_are_plain kinds.Device c is =
      let name = taken_column 3 (identifier_in 24 f1) _ c is in
      let a = taken_column 4 (identifier_in 24 f2) _ c name.2 in
      let b = taken_column 5 (other_node_in a.0 f3) _ c a.2 in
      let normal = taken_column 6 (normal_in f4) _ c b.2 in
      let since = taken_column 7 (since_in f5) _ c normal.2 in
      let until = taken_column 8 (until_in unix_second_in f6) _ c since.2 in
      two f1 behind1 (identifier_is_plain 24 f1 name.0 name.1) (
      two f2 behind2 (identifier_is_plain 24 f2 a.0 a.1) (
      two f3 behind3 (node_is_plain a.0 f3 b.0 b.1) (
      two f4 behind4 (normal_is_plain f4 normal.0 normal.1) (
      two f5 behind5 (since_is_plain f5 since.0 since.1) (
      two f6 [] (until_is_plain f6 until.0 until.1) (All-nil IsPlain))))))
  fields_are_plain kinds.Life c is =
      let device = taken_column 3 (identifier_in 24 f1) _ c is in
      let since = taken_column 4 (since_in f2) _ c device.2 in
      let until = taken_column 5 (until_in unix_second_in f3) _ c since.2 in
      two f1 behind1 (identifier_is_plain 24 f1 device.0 device.1) (
      two f2 behind2 (since_is_plain f2 since.0 since.1) (
      two f3 behind3 (until_is_plain f3 until.0 until.1) (rest_is_plain 6 behind3 (counted.Life device.0 (life since.0 until.0)) c until.2)))
  fields_are_plain kinds.Connect c is =
      let customer = taken_column 3 (serial_in f1) _ c is in
      let section = taken_column 4 (identifier_in 24 f2) _ c customer.2 in
      let since = taken_column 5 (unix_second_in f3) _ c section.2 in
      let until = taken_column 6 (until_in unix_second_in f4) _ c since.2 in
      two f1 behind1 (number_is_plain 10 1 4_294_967_295 f1 customer.0 (omega arith) customer.1) (
      two f2 behind2 (identifier_is_plain 24 f2 section.0 section.1) (
      two f3 behind3 (second_is_plain f3 since.0 since.1) (
      two f4 behind4 (until_is_plain f4 until.0 until.1) (rest_is_plain 7 behind4 (counted.Connect customer.0 section.0 since.0 until.0) c until.2))))
  fields_are_plain kinds.Switch c is =
      let device = taken_column 3 (identifier_in 24 f1) _ c is in
      let pos = taken_column 4 (act_in f2) _ c device.2 in
      let second = taken_column 5 (unix_second_in f3) _ c pos.2 in
      let cause = taken_column 6 (cause_in f4) _ c second.2 in
      let crew = taken_column 7 (identifier_in 16 f5) _ c cause.2 in
      two f1 behind1 (identifier_is_plain 24 f1 device.0 device.1) (
      two f2 behind2 (act_is_plain f2 pos.0 pos.1) (
      two f3 behind3 (second_is_plain f3 second.0 second.1) (
      two f4 behind4 (number_is_plain 2 1 63 f4 cause.0 (omega arith) cause.1) (
      two f5 behind5 (identifier_is_plain 16 f5 crew.0 crew.1) (rest_is_plain 8 behind5 (counted.Switch device.0 pos.0 second.0 cause.0 crew.0) c crew.2)))))

  row_is_such : (c : Command) → command_of taken_row ≡ Ok c → (is_of_book_alone taken_row ≡ false) × HasUnixSeconds taken_row
  row_is_such c is =
      let t = taken_column 1 (kind_in kind) _ c is in
      let r = taken_column 2 (identifier_in 40 reference) _ c t.2 in (
        kind_shared kind t.0 t.1,
        two kind (reference ∷ behind) (short_is_plain kind (kind_short kind t.0 t.1)) (
            two reference behind (identifier_is_plain 40 reference r.0 r.1) (fields_are_plain t.0 c r.2)),
      )

not_both : (r : Result Command Refusal) (c : Command) → r ≡ Err (BadField 0) → r ≡ Ok c → ⊥
not_both r c refused taken = cc

pub taken_rows_are_such : (row : Fields) (c : Command) → command_of row ≡ Ok c → (is_of_book_alone row ≡ false) × HasUnixSeconds row
taken_rows_are_such =
    by_length (λ row. (c : Command) → command_of row ≡ Ok c → (is_of_book_alone row ≡ false) × HasUnixSeconds row)
    (λ kind reference f1 f2 f3 f4 f5 f6 c is. row_is_such kind reference f1 f2 f3 f4 f5 f6 c is)
    (λ row total book c is. absurd (not_both (command_of row) c total is))

-- ---- the laws
pub taken_rows_are_read : TakenRowsAreRead
taken_rows_are_read row said command is taken =
    let such = taken_rows_are_such row command taken in
    sym (rows_are_read_alike row said is such.0 such.1) ∙ taken

refused : (row : Fields) (r : Result Command Refusal) → command_of row ≡ r → (is_of_book_alone row ≡ true) ⊎ Any IsCivil row → IsErr r
refused row (Err refusal) is other = refl
refused row (Ok command) is (inl alone) = let such = taken_rows_are_such row command is in absurd (false≢true (sym such.0 ∙ alone))
refused row (Ok command) is (inr found) =
    let such = taken_rows_are_such row command is in
    absurd (subst (λ field. ¬ (IsCivil field)) found.3 (such.1 found.0 found.1 found.2) found.4)

pub other_rows_are_refused : OtherRowsAreRefused
other_rows_are_refused row other = refused row (command_of row) refl other
