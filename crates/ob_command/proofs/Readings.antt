-- Readings that take the one spelling of each value: single fields.
use Rattle.std.proofs.Common.{◌≡◌, ◌∙◌, ◌⊎◌, inl, inr, ap, sym, refl, rules, subst, ℕ, ◌<◌, ◌≤◌, ◌^◌, ◌==◌, Bool, true, false, true≢false, List, [], ◌∷◌, length, get_or, codes, decimal, Option, Some, None, option_map, option_and_then, if◌then◌else◌, arith, bytes_eq}
use Rattle.std.specs.Prelude.{⊤}
use Rattle.std.specs.Cmp.Derive.{both_true}
use Rattle.std.specs.Int.{IsInRange}
use Rattle.std.specs.Str.{all_ascii_digits}
use Rattle.std.proofs.lemmas.Bool.{false_from_ne_true, ne_eqb, lt-ltb, le-leb, cases_lt}
use Rattle.std.proofs.lemmas.Fmt.{decimal_digit, decimal_nonempty, length-decimal-le, first_decimal, digits_decimal, digits_value-decimal, decimal-digits_value}
use Rattle.std.proofs.lemmas.Slice.Eq.{bytes_eq-Decides}
use Rattle.std.proofs.lemmas.Str.Parse.{IsNumeralModel, numerals_by_fold}
use Rattle.ob_base.specs.declared.Pos.{Pos}
use Rattle.ob_base.specs.declared.Pos.TheVariants.{Opened, Closed}
use Rattle.ob_base.specs.declared.TheConstants.{LAST_SECOND}
use Rattle.ob_base.specs.Fields.{value_of, value_after, is_number, number_in, act_in, normal_in, cause_in, feeder_in, serial_in, unix_second_in}
use Rattle.ob_base.specs.Identifier.{is_identifier, identifier_in}
use Rattle.ob_command.specs.Commands.{act_text, normal_text, until_text, IsEnd}
use Rattle.ob_command.specs.Ranges.{IsCauseCode, IsFeederNumber, IsSerial, IsMoment}
use Rattle.ob_command.specs.Spellings.{leads_zero, end_as, number_as}
use Rattle.ob_command.specs.declared.spelling.Spelling.TheVariants.{Body}
use Rattle.ob_command.proofs.Cuts.{Lacks, decimal-lacks, same-some}
use Rattle.ob_command.proofs.Numbers.{if-Some, number-found}

-- a reading gives the values that are valid, each from its text alone
pub record IsReading {V : Type 0} (IsValid : V → Type 0) (text_of : V → List ℕ) (read : List ℕ → Option V) : Type 0 where
  pub found : (text : List ℕ) (v : V) → read text ≡ Some v → IsValid v × (text ≡ text_of v)
  pub back : (v : V) → IsValid v → read (text_of v) ≡ Some v

-- readings one after the other

pub mapped : {A B : Type 0} (f : A → B) (o : Option A) (b : B) → option_map f o ≡ Some b → (a : A) × (o ≡ Some a) × (f a ≡ b)
mapped f None b e = absurd (cc)
mapped f (Some a) b e = (a, refl, same-some (f a) b e)

pub chained : {A B : Type 0} (f : A → Option B) (o : Option A) (b : B) → option_and_then f o ≡ Some b → (a : A) × (o ≡ Some a) × (f a ≡ Some b)
chained f None b e = absurd (cc)
chained f (Some a) b e = (a, refl, e)

-- numbers

digits : IsNumeralModel (λ ds. all_ascii_digits ds ≡ true) value_of
digits = numerals_by_fold (λ ds. all_ascii_digits ds ≡ true) (search rules) value_after (search rules)

-- a text without a leading zero that begins with one is that zero
alone : (text : List ℕ) → leads_zero text ≡ false → 0 < length text → get_or text 0 0 ≡ 48 → length text ≡ 1
alone [] e l z = absurd (omega (arith, l))
alone (b ∷ []) e l z = refl
alone (b ∷ c ∷ bytes) e l z = absurd (true≢false (sym (ap (λ d. d == 48) z) ∙ e))

above-zero : (text : List ℕ) → 48 < get_or text 0 0 → leads_zero text ≡ false
above-zero [] h = refl
above-zero (b ∷ []) h = refl
above-zero (b ∷ c ∷ bytes) h = ne_eqb b 48 (λ e. omega arith)

decimal-plain : (n : ℕ) → n < 2 ^ 64 → leads_zero (decimal n) ≡ false
decimal-plain n h = elim (cases_lt 0 n) [
  | inl some ↦ above-zero (decimal n) (first_decimal n some h)
  | inr none ↦ rw (decimal_digit n (omega arith)) refl
]

number-back : (most least greatest n : ℕ) → 0 < most → greatest < 10 ^ most → greatest < 2 ^ 64 → IsInRange least greatest n → number_in most least greatest (decimal n) ≡ Some n
number-back most least greatest n some short small h =
    let text = decimal n in
    let wide : n < 2 ^ 64 = omega arith in
    let value = digits_value-decimal digits n wide in
    let one = lt-ltb 0 (length text) (decimal_nonempty n wide) in
    let two = le-leb (length text) most (length-decimal-le most n some (omega arith) wide) in
    let three = digits_decimal digits n wide in
    let four = le-leb least (value_of text) (omega (arith, value)) in
    let five = le-leb (value_of text) greatest (omega (arith, value)) in
    let test : is_number most least greatest text ≡ true = both_true (both_true (both_true (both_true one two) three) four) five in
    ap (λ b. if b then Some (value_of text) else None) test ∙ ap Some value

-- the two ways of a test
pub if-cases : {A : Type 0} (b : Bool) (x y : Option A) (v : A) → (if b then x else y) ≡ Some v → ((b ≡ true) × (x ≡ Some v)) ⊎ ((b ≡ false) × (y ≡ Some v))
if-cases true x y v e = inl (refl, e)
if-cases false x y v e = inr (refl, e)

plain-Some : (b : Bool) (o : Option ℕ) (n : ℕ) → (if b then None else o) ≡ Some n → (b ≡ false) × (o ≡ Some n)
plain-Some true o n e = absurd (cc)
plain-Some false o n e = (refl, e)

plain-reading : (most least greatest : ℕ) → 0 < most → greatest < 10 ^ most → greatest < 2 ^ 60 → IsReading (IsInRange least greatest) decimal (number_as Body (number_in most least greatest))
plain-reading most least greatest some short small = record {
  found = λ text n e.
      let plain = plain-Some (leads_zero text) (number_in most least greatest text) n e in
      let number = number-found most least greatest text n plain.1 in
      let value = number.value in
      let high = number.high in
      let written = decimal-digits_value digits text number.digits number.some (alone text plain.0 number.some) (omega arith) in
      ((number.low, number.high), sym written ∙ ap decimal value);
  back = λ n h.
      let wide : n < 2 ^ 64 = omega arith in
      ap (λ b. if b then None else number_in most least greatest (decimal n)) (decimal-plain n wide) ∙ number-back most least greatest n some short (omega arith) h;
}

pub code-reading : IsReading IsCauseCode decimal (number_as Body cause_in)
code-reading = plain-reading 2 1 63 (omega arith) (omega arith) (omega arith)

pub feeder-reading : IsReading IsFeederNumber decimal (number_as Body feeder_in)
feeder-reading = plain-reading 3 1 255 (omega arith) (omega arith) (omega arith)

pub serial-reading : IsReading IsSerial decimal (number_as Body serial_in)
serial-reading = plain-reading 10 1 4_294_967_295 (omega arith) (omega arith) (omega arith)

-- a moment in a body
abbrev pub second_in : List ℕ → Option ℕ
second_in text = number_as Body unix_second_in text

pub moment-reading : IsReading IsMoment decimal second_in
moment-reading = let r = plain-reading 11 0 LAST_SECOND (omega arith) (omega arith) (omega arith) in record {
  found = λ text s e. let f = r.found text s e in (f.0.1, f.1);
  back = λ s h. r.back s (omega arith, h);
}

pub number-lacks : (greatest n : ℕ) → greatest < 2 ^ 60 → n ≤ greatest → Lacks (decimal n)
number-lacks greatest n small h = decimal-lacks n (omega arith)

-- names

pub identifier-reading : (limit : ℕ) → IsReading (λ text. is_identifier limit text ≡ true) (λ text. text) (identifier_in limit)
identifier-reading limit = record {
  found = λ text name e. let f = if-Some (is_identifier limit text) text name e in (subst (λ t. is_identifier limit t ≡ true) f.1 f.0, f.1);
  back = λ name h. ap (λ b. if b then Some name else None) h;
}

-- positions

pub same-bytes : (a b : List ℕ) → bytes_eq a b ≡ true → a ≡ b
same-bytes a b e = (bytes_eq-Decides a b).0 e

abbrev pub Any : Pos → Type 0
Any p = ⊤

act-back : (p : Pos) → act_in (act_text p) ≡ Some p
act-back Opened = refl
act-back Closed = refl

normal-back : (p : Pos) → normal_in (normal_text p) ≡ Some p
normal-back Opened = refl
normal-back Closed = refl

pub act-reading : IsReading Any act_text act_in
act-reading = record {
  found = λ text p e.
      let opens = bytes_eq text (codes "open") in
      let closes = bytes_eq text (codes "close") in (
        tt,
        elim (if-cases opens (Some Opened) (if closes then Some Closed else None) p e) [
          | inl h ↦ same-bytes text (codes "open") h.0 ∙ ap act_text (same-some Opened p h.1)
          | inr h ↦ let f = if-Some closes Closed p h.1 in same-bytes text (codes "close") f.0 ∙ ap act_text f.1
        ],
      );
  back = λ p h. act-back p;
}

pub normal-reading : IsReading Any normal_text normal_in
normal-reading = record {
  found = λ text p e.
      let opens = bytes_eq text (codes "open") in
      let closes = bytes_eq text (codes "closed") in (
        tt,
        elim (if-cases opens (Some Opened) (if closes then Some Closed else None) p e) [
          | inl h ↦ same-bytes text (codes "open") h.0 ∙ ap normal_text (same-some Opened p h.1)
          | inr h ↦ let f = if-Some closes Closed p h.1 in same-bytes text (codes "closed") f.0 ∙ ap normal_text f.1
        ],
      );
  back = λ p h. normal-back p;
}

-- ends of service

abbrev until_in : List ℕ → Option (Option ℕ)
until_in text = end_as Body text (second_in text)

not-hyphen : (s : ℕ) → s < 2 ^ 64 → bytes_eq (decimal s) (codes "-") ≡ false
not-hyphen s h = false_from_ne_true (bytes_eq (decimal s) (codes "-")) (λ e.
    true≢false (sym (digits_decimal digits s h) ∙ ap all_ascii_digits (same-bytes (decimal s) (codes "-") e)))

until-none : (text : List ℕ) (v : Option ℕ) → bytes_eq text (codes "-") ≡ true → Some None ≡ Some v → IsEnd v × (text ≡ until_text v)
until-none text v e h =
    let none = same-some None v h in
    (subst IsEnd none tt, same-bytes text (codes "-") e ∙ ap until_text none)

until-some : (text : List ℕ) (v : Option ℕ) → option_map (λ s. Some s) (second_in text) ≡ Some v → IsEnd v × (text ≡ until_text v)
until-some text v h =
    let m = mapped {B = Option ℕ} (λ s. Some s) (second_in text) v h in
    let f = moment-reading.found text m.0 m.1 in
    (subst IsEnd m.2 f.0, f.1 ∙ ap until_text m.2)

until-back : (v : Option ℕ) → IsEnd v → until_in (until_text v) ≡ Some v
until-back None h = refl
until-back (Some s) h =
    ap (λ b. if b then Some None else option_map {U = Option ℕ} (λ t. Some t) (second_in (decimal s))) (not-hyphen s (omega arith))
    ∙ ap (λ o. option_map {U = Option ℕ} (λ t. Some t) o) (moment-reading.back s h)

pub until-reading : IsReading IsEnd until_text until_in
until-reading = record {
  found = λ text v e.
      elim (if-cases (bytes_eq text (codes "-")) (Some None) (option_map (λ s. Some s) (second_in text)) v e) [
        | inl h ↦ until-none text v h.0 h.1
        | inr h ↦ until-some text v h.1
      ];
  back = until-back;
}
