-- The rows that end in a text, and those that it has.
use Rattle.std.proofs.Common.{◌≡◌, ◌≢◌, ◌<◌, ◌≤◌, ◌∙◌, sym, ap, subst, refl, ℕ, zero, suc, ◌+◌, ◌-◌, List, [], ◌∷◌, ◌++◌, length, drop, take, Bool, true, false, true≢false, Option, Some, None, arith, get_or, length-append}
use Rattle.std.specs.Prelude.{◌==◌, ◌||◌, ◌&&◌, if◌then◌else◌}
use Rattle.std.proofs.Math.Seq.{take-append-add, take-append_seam, take-length, take-suc}
use Rattle.std.proofs.lemmas.Bool.{eqb-true}
use Rattle.csv.specs.Machine.{Read, after_end, ends_at_end, field_after, fields_after, in_field, is_end, next_record, start_field, start_record, step}
use Rattle.csv.specs.Reading.{default_config, is_bom, strip_bom}
use Rattle.csv.specs.declared.parser.Action.{Action}
use Rattle.csv.specs.declared.parser.Action.TheVariants as act
use Rattle.csv.specs.declared.parser.State.{State}
use Rattle.csv.specs.declared.parser.State.TheVariants as st
use Rattle.csv.specs.declared.parser.Terminator.TheVariants as term
use Rattle.ob_csv.specs.Rows.{Fields, rows_from, rows_of}
use Rattle.ob_csv.specs.Scanning.{Ends, IsPlace, behind_first, behind_plain, ended_rows, mark_length, place_behind, state_behind}
use Rattle.ob_csv.specs.WholeRows.{WholeRowsStand, all_but_last, whole_rows}
use Rattle.ob_csv.specs.declared.whole.Place.{Place}
use Rattle.ob_csv.specs.declared.whole.Place.TheVariants as pl
use Rattle.ob_csv.proofs.RowLaws.{fewer, next_goes, rows_more, rows_none, step_leaves}

-- ---- all rows of a text, byte by byte

-- the rows of these bytes, of which the end ends the last
abbrev all_rows : State → Fields → List ℕ → List ℕ → List Fields
all_rows s fields field [] = if ends_at_end s then (fields ++ (field ∷ [])) ∷ [] else []
all_rows s fields field (c ∷ rest) =
    if is_end (step default_config s c).1 then fields_after (step default_config s c).1 fields field ∷ all_rows (step default_config s c).0 [] [] rest
    else all_rows (step default_config s c).0 (fields_after (step default_config s c).1 fields field) (field_after (step default_config s c).1 c field) rest

-- these are what a read gives and the rows after it
abbrev AreNext : Option Read → List Fields → Type 0
AreNext None rows = rows ≡ []
AreNext (Some next) rows = rows ≡ next.0 ∷ all_rows next.1 [] [] next.2

are_next : (s : State) (fields : Fields) (field text : List ℕ) → AreNext (next_record default_config s fields field text) (all_rows s fields field text)
unfolding next_record
are_next s fields field [] = elim (ends_at_end s) as (λ b. AreNext (if b then Some (fields ++ (field ∷ []), st.StartRecord, []) else None) (if b then (fields ++ (field ∷ [])) ∷ [] else [])) [
  | true ↦ refl
  | false ↦ refl
]
are_next s fields field (c ∷ rest) =
    let t = step default_config s c in
    let more = are_next t.0 (fields_after t.1 fields field) (field_after t.1 c field) rest in
    elim (is_end t.1) as (λ b. AreNext
    (if b then Some (fields_after t.1 fields field, t.0, rest) else next_record default_config t.0 (fields_after t.1 fields field) (field_after t.1 c field) rest)
    (if b then fields_after t.1 fields field ∷ all_rows t.0 [] [] rest else all_rows t.0 (fields_after t.1 fields field) (field_after t.1 c field) rest)) [
      | true ↦ refl
      | false ↦ more
    ]

rows_up_to : (n : ℕ) (s : State) (text : List ℕ) → length text < n → ends_at_end s ≡ false → rows_from s text ≡ all_rows s [] [] text
rows_up_to zero s text few between = absurd (omega arith)
rows_up_to (suc n) s text few between =
    elim (next_record default_config s [] [] text) as (λ o. next_record default_config s [] [] text ≡ o → AreNext o (all_rows s [] [] text) → rows_from s text ≡ all_rows s [] [] text) [
      | None ↦ λ e are. rows_none s text e ∙ sym are
      | Some next ↦ λ e are.
          let g = next_goes s [] [] text next e in
          let less = fewer s text next between e in
          rows_more s text next between e ∙ ap (λ rows. next.0 ∷ rows) (rows_up_to n next.1 next.2 (omega (arith, less, few)) g.between) ∙ sym are
    ] refl (are_next s [] [] text)

rows_are : (text : List ℕ) → rows_from st.StartRecord text ≡ all_rows st.StartRecord [] [] text
rows_are text = rows_up_to (length text + 1) st.StartRecord text (omega arith) refl

-- ---- the rows that end, and one byte more

ended_first : (s : State) (fields : Fields) (field xs ys : List ℕ) → (later : List Fields) × (all_rows s fields field (xs ++ ys) ≡ ended_rows s fields field xs ++ later)
ended_first s fields field [] ys = (all_rows s fields field ys, refl)
ended_first s fields field (c ∷ xs) ys =
    let t = step default_config s c in
    let one = fields_after t.1 fields field in
    let ends = ended_first t.0 [] [] xs ys in
    let goes = ended_first t.0 one (field_after t.1 c field) xs ys in
    elim (is_end t.1) as (λ b. (later : List Fields) × ((if b then one ∷ all_rows t.0 [] [] (xs ++ ys) else all_rows t.0 one (field_after t.1 c field) (xs ++ ys))
    ≡ (if b then one ∷ ended_rows t.0 [] [] xs else ended_rows t.0 one (field_after t.1 c field) xs) ++ later)) [
      | true ↦ (ends.0, ap (λ rows. one ∷ rows) ends.1)
      | false ↦ goes
    ]

-- a byte that ends no row, at the end of the text, makes or ends one row
one_row : (s : State) (fields : Fields) (field : List ℕ) → (row : Fields) × (all_rows s fields field (46 ∷ []) ≡ row ∷ [])
one_row st.StartRecord fields field = (_, refl)
one_row st.StartField fields field = (_, refl)
one_row st.InField fields field = (_, refl)
one_row st.InQuoted fields field = (_, refl)
one_row st.AfterQuote fields field = (_, refl)
one_row st.InEscape fields field = (_, refl)
one_row st.InComment fields field = (_, refl)
one_row st.AfterCr fields field = (_, refl)

ended_and_one : (s : State) (fields : Fields) (field xs : List ℕ) → (row : Fields) × (all_rows s fields field (xs ++ 46 ∷ []) ≡ ended_rows s fields field xs ++ row ∷ [])
ended_and_one s fields field [] = one_row s fields field
ended_and_one s fields field (c ∷ xs) =
    let t = step default_config s c in
    let one = fields_after t.1 fields field in
    let ends = ended_and_one t.0 [] [] xs in
    let goes = ended_and_one t.0 one (field_after t.1 c field) xs in
    elim (is_end t.1) as (λ b. (row : Fields) × ((if b then one ∷ all_rows t.0 [] [] (xs ++ 46 ∷ []) else all_rows t.0 one (field_after t.1 c field) (xs ++ 46 ∷ []))
    ≡ (if b then one ∷ ended_rows t.0 [] [] xs else ended_rows t.0 one (field_after t.1 c field) xs) ++ row ∷ [])) [
      | true ↦ (ends.0, ap (λ rows. one ∷ rows) ends.1)
      | false ↦ goes
    ]

-- where a text ends between two rows, all its rows have ended
all_ended : (s : State) (fields : Fields) (field xs : List ℕ) → ends_at_end (state_behind s xs) ≡ false → all_rows s fields field xs ≡ ended_rows s fields field xs
all_ended s fields field [] between = rw between refl
all_ended s fields field (c ∷ xs) between =
    let t = step default_config s c in
    let one = fields_after t.1 fields field in
    let ends = all_ended t.0 [] [] xs between in
    let goes = all_ended t.0 one (field_after t.1 c field) xs between in
    elim (is_end t.1) as (λ b. (if b then one ∷ all_rows t.0 [] [] xs else all_rows t.0 one (field_after t.1 c field) xs)
    ≡ (if b then one ∷ ended_rows t.0 [] [] xs else ended_rows t.0 one (field_after t.1 c field) xs)) [
      | true ↦ ap (λ rows. one ∷ rows) ends
      | false ↦ goes
    ]

-- a byte behind which no row may begin ends none
ends_none : (s : State) (fields : Fields) (field xs : List ℕ) (c : ℕ) → ends_at_end (state_behind s (xs ++ c ∷ [])) ≡ true → ended_rows s fields field (xs ++ c ∷ []) ≡ ended_rows s fields field xs
ends_none s fields field [] c inside =
    let t = step default_config s c in
    let one = fields_after t.1 fields field in
    elim (is_end t.1) as (λ b. (b ≡ true → ends_at_end t.0 ≡ false) → (if b then one ∷ [] else []) ≡ []) [
      | true ↦ λ leaves. absurd (true≢false (sym inside ∙ leaves refl))
      | false ↦ λ leaves. refl
    ] (step_leaves s c)
ends_none s fields field (x ∷ xs) c inside =
    let t = step default_config s x in
    let one = fields_after t.1 fields field in
    let ends = ends_none t.0 [] [] xs c inside in
    let goes = ends_none t.0 one (field_after t.1 x field) xs c inside in
    elim (is_end t.1) as (λ b. (if b then one ∷ ended_rows t.0 [] [] (xs ++ c ∷ []) else ended_rows t.0 one (field_after t.1 x field) (xs ++ c ∷ []))
    ≡ (if b then one ∷ ended_rows t.0 [] [] xs else ended_rows t.0 one (field_after t.1 x field) xs)) [
      | true ↦ ap (λ rows. one ∷ rows) ends
      | false ↦ goes
    ]

state_more : (s : State) (xs : List ℕ) (c : ℕ) → state_behind s (xs ++ c ∷ []) ≡ (step default_config (state_behind s xs) c).0
state_more s [] c = refl
state_more s (x ∷ xs) c = state_more (step default_config s x).0 xs c

-- ---- the mark

dot_no_mark : (a b : ℕ) → is_bom a b 46 ≡ false
dot_no_mark a b = elim ((a == 0xEF) && (b == 0xBB)) as (λ x. (x && false) ≡ false) [ true ↦ refl | false ↦ refl ]

strip_dot : (text : List ℕ) → strip_bom (text ++ 46 ∷ []) ≡ strip_bom text ++ 46 ∷ []
unfolding strip_bom
strip_dot [] = refl
strip_dot (a ∷ []) = refl
strip_dot (a ∷ b ∷ []) = rw (dot_no_mark a b) refl
strip_dot (a ∷ b ∷ c ∷ rest) = elim (is_bom a b c) as (λ m. (if m then rest ++ 46 ∷ [] else a ∷ b ∷ c ∷ (rest ++ 46 ∷ [])) ≡ (if m then rest else a ∷ b ∷ c ∷ rest) ++ 46 ∷ []) [
  | true ↦ refl
  | false ↦ refl
]

-- the first bytes of a text without its mark
strip_marked : (n a b c : ℕ) (rest : List ℕ) → is_bom a b c ≡ true → strip_bom (take (3 + n) (a ∷ b ∷ c ∷ rest)) ≡ take n rest
unfolding strip_bom
strip_marked n a b c rest e =
    let three : take (3 + n) (a ∷ b ∷ c ∷ rest) ≡ a ∷ b ∷ c ∷ take n rest = take-append-add (a ∷ b ∷ c ∷ []) rest n in
    rw (three, e) refl

strip_plain : (n a b c : ℕ) (rest : List ℕ) → is_bom a b c ≡ false → strip_bom (take n (a ∷ b ∷ c ∷ rest)) ≡ take n (a ∷ b ∷ c ∷ rest)
unfolding strip_bom
strip_plain zero a b c rest e = refl
strip_plain (suc zero) a b c rest e = refl
strip_plain (suc (suc zero)) a b c rest e = refl
strip_plain (suc (suc (suc n))) a b c rest e = rw e refl

strip_long : (n a b c : ℕ) (rest : List ℕ) → strip_bom (take (mark_length (a ∷ b ∷ c ∷ rest) + n) (a ∷ b ∷ c ∷ rest)) ≡ take n (strip_bom (a ∷ b ∷ c ∷ rest))
unfolding strip_bom
strip_long n a b c rest =
    elim (is_bom a b c) as (λ m. is_bom a b c ≡ m → strip_bom (take ((if m then 3 else 0) + n) (a ∷ b ∷ c ∷ rest)) ≡ take n (if m then rest else a ∷ b ∷ c ∷ rest)) [
      | true ↦ λ e. strip_marked n a b c rest e
      | false ↦ λ e. let none : 0 + n ≡ n = omega arith in rw none (strip_plain n a b c rest e)
    ] refl

strip_short : (n : ℕ) (text : List ℕ) → length text ≤ 2 → strip_bom (take n text) ≡ take n (strip_bom text)
unfolding strip_bom
strip_short zero [] few = refl
strip_short (suc n) [] few = refl
strip_short zero (a ∷ []) few = refl
strip_short (suc n) (a ∷ []) few = elim n as (λ m. strip_bom (a ∷ take m []) ≡ a ∷ take m []) [ zero ↦ refl | suc m ↦ refl ]
strip_short zero (a ∷ b ∷ []) few = refl
strip_short (suc zero) (a ∷ b ∷ []) few = refl
strip_short (suc (suc n)) (a ∷ b ∷ []) few = elim n as (λ m. strip_bom (a ∷ b ∷ take m []) ≡ a ∷ b ∷ take m []) [ zero ↦ refl | suc m ↦ refl ]
strip_short n (a ∷ b ∷ c ∷ rest) few = absurd (omega (arith, few))

strip_front : (n : ℕ) (text : List ℕ) → strip_bom (take (mark_length text + n) text) ≡ take n (strip_bom text)
strip_front n [] = let none : 0 + n ≡ n = omega arith in rw none (strip_short n [] (omega arith))
strip_front n (a ∷ []) = let none : 0 + n ≡ n = omega arith in rw none (strip_short n (a ∷ []) (omega arith))
strip_front n (a ∷ b ∷ []) = let none : 0 + n ≡ n = omega arith in rw none (strip_short n (a ∷ b ∷ []) (omega arith))
strip_front n (a ∷ b ∷ c ∷ rest) = strip_long n a b c rest

-- ---- whole rows

-- the rows that end in a text
abbrev ends_in : List ℕ → List Fields
ends_in text = ended_rows st.StartRecord [] [] (strip_bom text)

without_last : (rows : List Fields) (row : Fields) → all_but_last (rows ++ row ∷ []) ≡ rows
without_last rows row =
    let one : length (rows ++ row ∷ []) ≡ length rows + 1 = length-append rows (row ∷ []) in
    let less : length (rows ++ row ∷ []) - 1 ≡ length rows = omega (arith, one) in
    rw less (take-append_seam rows (row ∷ []))

whole_are : (text : List ℕ) → whole_rows text ≡ ends_in text
whole_are text =
    let one = ended_and_one st.StartRecord [] [] (strip_bom text) in
    let rows : rows_of (text ++ 46 ∷ []) ≡ ends_in text ++ one.0 ∷ [] =
    ap (rows_from st.StartRecord) (strip_dot text) ∙ rows_are (strip_bom text ++ 46 ∷ []) ∙ one.1 in
    ap all_but_last rows ∙ without_last (ends_in text) one.0

strip_mark : (text : List ℕ) → drop (mark_length text) text ≡ strip_bom text
unfolding strip_bom
strip_mark [] = refl
strip_mark (a ∷ []) = refl
strip_mark (a ∷ b ∷ []) = refl
strip_mark (a ∷ b ∷ c ∷ rest) = elim (is_bom a b c) as (λ m. drop (if m then 3 else 0) (a ∷ b ∷ c ∷ rest) ≡ (if m then rest else a ∷ b ∷ c ∷ rest)) [
  | true ↦ refl
  | false ↦ refl
]

rows_of_body : (text : List ℕ) (n : ℕ) → Ends (strip_bom text) n → rows_of (take (mark_length text + n) text) ≡ whole_rows text
rows_of_body text n ends =
    ap (rows_from st.StartRecord) (strip_front n text) ∙ rows_are (take n (strip_bom text)) ∙ all_ended st.StartRecord [] [] (take n (strip_bom text)) ends.between ∙ ends.same
    ∙ sym (whole_are text)

pub rows_of_front : (text : List ℕ) (mark n : ℕ) → mark ≡ mark_length text → Ends (drop mark text) n → rows_of (take (mark + n) text) ≡ whole_rows text
rows_of_front text mark n is ends = rw is (rows_of_body text n (subst (λ t. Ends t n) (strip_mark text) (subst (λ m. Ends (drop m text) n) is ends)))

-- no row ends with the first byte of a text
abbrev ends_row : State × Action → Bool
ends_row next = is_end next.1

first_goes : (c : ℕ) → is_end (start_record default_config c).1 ≡ false
first_goes c = elim ((c == 13) || (c == 10)) as (λ x. ends_row (if x then (st.StartRecord, act.Skip)
    else if (c == 34) then (st.InQuoted, act.Skip)
    else if c == 44 then (st.StartField, act.EndField)
    else if x then (after_end term.CRLF c, act.EndRecord)
    else (st.InField, act.Copy)) ≡ false) [
      | true ↦ refl
      | false ↦ elim (c == 34) as (λ y. ends_row (if y then (st.InQuoted, act.Skip) else if c == 44 then (st.StartField, act.EndField) else (st.InField, act.Copy)) ≡ false) [
        | true ↦ refl
        | false ↦ elim (c == 44) as (λ z. ends_row (if z then (st.StartField, act.EndField) else (st.InField, act.Copy)) ≡ false) [ true ↦ refl | false ↦ refl ]
      ]
    ]

no_row_yet : (a : ℕ) → ended_rows st.StartRecord [] [] (a ∷ []) ≡ []
no_row_yet a = rw (first_goes a) refl

-- a text begins with its rows where the mark stays as it is
stands : (text rest : List ℕ) → strip_bom (text ++ rest) ≡ strip_bom text ++ rest → (later : List Fields) × (rows_of (text ++ rest) ≡ ends_in text ++ later)
stands text rest e =
    let first = ended_first st.StartRecord [] [] (strip_bom text) rest in
    (first.0, ap (rows_from st.StartRecord) e ∙ rows_are (strip_bom text ++ rest) ∙ first.1)

strip_more : (a b c : ℕ) (more rest : List ℕ) → strip_bom ((a ∷ b ∷ c ∷ more) ++ rest) ≡ strip_bom (a ∷ b ∷ c ∷ more) ++ rest
unfolding strip_bom
strip_more a b c more rest = elim (is_bom a b c) as (λ m. (if m then more ++ rest else a ∷ b ∷ c ∷ (more ++ rest)) ≡ (if m then more else a ∷ b ∷ c ∷ more) ++ rest) [
  | true ↦ refl
  | false ↦ refl
]

strip_two : (a b : ℕ) → strip_bom (a ∷ b ∷ []) ≡ a ∷ b ∷ []
unfolding strip_bom
strip_two a b = refl

strip_one : (a : ℕ) → strip_bom (a ∷ []) ≡ a ∷ []
unfolding strip_bom
strip_one a = refl

strip_none : strip_bom [] ≡ []
unfolding strip_bom
strip_none = refl

strip_three : (a b c : ℕ) (more : List ℕ) → is_bom a b c ≡ false → strip_bom (a ∷ b ∷ c ∷ more) ≡ a ∷ b ∷ c ∷ more
unfolding strip_bom
strip_three a b c more e = rw e refl

both_true : (x y : Bool) → (x && y) ≡ true → (x ≡ true) × (y ≡ true)
both_true true true e = (refl, refl)
both_true true false e = absurd (true≢false (sym e))
both_true false y e = absurd (true≢false (sym e))

mark_first : (a b c : ℕ) → is_bom a b c ≡ true → ended_rows st.StartRecord [] [] (a ∷ b ∷ []) ≡ []
mark_first a b c e =
    let two = both_true ((a == 0xEF) && (b == 0xBB)) (c == 0xBF) e in
    let one = both_true (a == 0xEF) (b == 0xBB) two.0 in
    rw (eqb-true a 0xEF one.0, eqb-true b 0xBB one.1) refl

two_stand : (a b : ℕ) (rest : List ℕ) → (later : List Fields) × (rows_of (a ∷ b ∷ rest) ≡ ended_rows st.StartRecord [] [] (a ∷ b ∷ []) ++ later)
unfolding strip_bom
two_stand a b [] = stands (a ∷ b ∷ []) [] refl
two_stand a b (c ∷ more) =
    elim (is_bom a b c) as (λ m. is_bom a b c ≡ m → (later : List Fields) × (rows_of (a ∷ b ∷ c ∷ more) ≡ ended_rows st.StartRecord [] [] (a ∷ b ∷ []) ++ later)) [
      | true ↦ λ e. (rows_of (a ∷ b ∷ c ∷ more), rw (mark_first a b c e) refl)
      | false ↦ λ e. stands (a ∷ b ∷ []) (c ∷ more) (strip_three a b c more e)
    ] refl

pub begin_with : WholeRowsStand
begin_with [] rest = (rows_of rest, rw (whole_are [], strip_none) refl)
begin_with (a ∷ []) rest = (rows_of (a ∷ rest), rw (whole_are (a ∷ []), strip_one a, no_row_yet a) refl)
begin_with (a ∷ b ∷ []) rest = rw (whole_are (a ∷ b ∷ []), strip_two a b) (two_stand a b rest)
begin_with (a ∷ b ∷ c ∷ more) rest = rw (whole_are (a ∷ b ∷ c ∷ more)) (stands (a ∷ b ∷ c ∷ more) rest (strip_more a b c more rest))

-- ---- the scan

abbrev state_of : State × Action → State
state_of next = next.0

plain_place : (c : ℕ) → IsPlace (behind_plain c) (in_field default_config c).0
plain_place c = elim (c == 44) as (λ x. IsPlace (if x then pl.FieldStart else if (c == 13) || (c == 10) then pl.RowStart else pl.Field)
    (state_of (if x then (st.StartField, act.EndField) else if (c == 13) || (c == 10) then (after_end term.CRLF c, act.EndRecord) else (st.InField, act.Copy)))) [
      | true ↦ tt
      | false ↦ elim ((c == 13) || (c == 10)) as (λ y. IsPlace (if y then pl.RowStart else pl.Field) (state_of (if y then (after_end term.CRLF c, act.EndRecord) else (st.InField, act.Copy)))) [
        | true ↦ elim (c == 13) as (λ z. IsPlace pl.RowStart (if z then st.AfterCr else st.StartRecord)) [ true ↦ tt | false ↦ tt ]
        | false ↦ tt
      ]
    ]

-- a quote, and else a byte in a field
quote_place : (state : State) (action : Action) (place : Place) (c : ℕ) → IsPlace place state
    → IsPlace (if c == 34 then place else behind_plain c) (state_of (if c == 34 then (state, action) else in_field default_config c))
quote_place state action place c is = elim (c == 34) as (λ x. IsPlace (if x then place else behind_plain c) (state_of (if x then (state, action) else in_field default_config c))) [
  | true ↦ is
  | false ↦ plain_place c
]

record_place : (c : ℕ) → IsPlace (place_behind pl.RowStart c) (start_record default_config c).0
record_place c = elim ((c == 13) || (c == 10)) as (λ x. IsPlace (if x then pl.RowStart else behind_first c) (state_of (if x then (st.StartRecord, act.Skip) else start_field default_config c))) [
  | true ↦ tt
  | false ↦ quote_place st.InQuoted act.Skip pl.Quoted c tt
]

step_place : (place : Place) (s : State) (c : ℕ) → IsPlace place s → IsPlace (place_behind place c) (step default_config s c).0
step_place pl.RowStart st.StartRecord c is = record_place c
step_place pl.RowStart st.AfterCr c is =
    elim (c == 10) as (λ x. (c == 10) ≡ x → IsPlace (place_behind pl.RowStart c) (state_of (if x then (st.StartRecord, act.Skip) else start_record default_config c))) [
      | true ↦ λ e. rw (eqb-true c 10 e) tt
      | false ↦ λ e. record_place c
    ] refl
step_place pl.FieldStart st.StartField c is = quote_place st.InQuoted act.Skip pl.Quoted c tt
step_place pl.Field st.InField c is = plain_place c
step_place pl.Quoted st.InQuoted c is = elim (c == 34) as (λ x. IsPlace (if x then pl.Closed else pl.Quoted) (state_of (if x then (st.AfterQuote, act.Skip) else (st.InQuoted, act.Copy)))) [ true ↦ tt | false ↦ tt ]
step_place pl.Closed st.AfterQuote c is = quote_place st.InQuoted act.Copy pl.Quoted c tt
step_place place s c is = absurd is

start_between : (s : State) → IsPlace pl.RowStart s → ends_at_end s ≡ false
start_between st.StartRecord is = refl
start_between st.AfterCr is = refl
start_between s is = absurd is

other_inside : (place : Place) (s : State) → IsPlace place s → place ≢ pl.RowStart → ends_at_end s ≡ true
other_inside pl.RowStart s is other = absurd (other refl)
other_inside pl.FieldStart st.StartField is other = refl
other_inside pl.Field st.InField is other = refl
other_inside pl.Quoted st.InQuoted is other = refl
other_inside pl.Closed st.AfterQuote is other = refl
other_inside place s is other = absurd is

-- the rows that end in the first `at` bytes all end in the first `end`, and there is a place between two rows
pub record Scanned (text : List ℕ) (place : Place) (at end : ℕ) : Type 0 where
  pub within : end ≤ at
  pub here : IsPlace place (state_behind st.StartRecord (take at text))
  pub between : ends_at_end (state_behind st.StartRecord (take end text)) ≡ false
  pub same : ended_rows st.StartRecord [] [] (take end text) ≡ ended_rows st.StartRecord [] [] (take at text)

pub scan_none : (text : List ℕ) → Scanned text pl.RowStart 0 0
scan_none text = record { within = omega arith; here = tt; between = refl; same = refl }

pub take_byte : (text : List ℕ) (at : ℕ) → at < length text → take (at + 1) text ≡ take at text ++ get_or text at 0 ∷ []
take_byte text at within = let one : at + 1 ≡ suc at = omega arith in rw one (take-suc text at 0 within)

here_more : (text : List ℕ) (place : Place) (at c : ℕ) → IsPlace place (state_behind st.StartRecord (take at text)) → take (at + 1) text ≡ take at text ++ c ∷ []
    → IsPlace (place_behind place c) (state_behind st.StartRecord (take (at + 1) text))
here_more text place at c here more =
    rw (more, state_more st.StartRecord (take at text) c) (step_place place (state_behind st.StartRecord (take at text)) c here)

-- a byte behind which a row may begin
pub scan_row : (text : List ℕ) (place next : Place) (at end c : ℕ) → Scanned text place at end → take (at + 1) text ≡ take at text ++ c ∷ []
    → next ≡ place_behind place c → next ≡ pl.RowStart → Scanned text next (at + 1) (at + 1)
scan_row text place next at end c s more is row =
    let here = here_more text place at c s.here more in
    record {
      within = omega arith;
      here = subst (λ p. IsPlace p (state_behind st.StartRecord (take (at + 1) text))) (sym is) here;
      between = start_between (state_behind st.StartRecord (take (at + 1) text)) (subst (λ p. IsPlace p (state_behind st.StartRecord (take (at + 1) text))) (sym is ∙ row) here);
      same = refl;
    }

-- another byte
pub scan_on : (text : List ℕ) (place next : Place) (at end c : ℕ) → Scanned text place at end → take (at + 1) text ≡ take at text ++ c ∷ []
    → next ≡ place_behind place c → next ≢ pl.RowStart → Scanned text next (at + 1) end
scan_on text place next at end c s more is other =
    let here = subst (λ p. IsPlace p (state_behind st.StartRecord (take (at + 1) text))) (sym is) (here_more text place at c s.here more) in
    let inside : ends_at_end (state_behind st.StartRecord (take (at + 1) text)) ≡ true = other_inside next (state_behind st.StartRecord (take (at + 1) text)) here other in
    let none : ended_rows st.StartRecord [] [] (take (at + 1) text) ≡ ended_rows st.StartRecord [] [] (take at text) =
    ap (ended_rows st.StartRecord [] []) more ∙ ends_none st.StartRecord [] [] (take at text) c (subst (λ t. ends_at_end (state_behind st.StartRecord t) ≡ true) more inside) in
    record {
      within = omega (arith, s.within);
      here = here;
      between = s.between;
      same = s.same ∙ sym none;
    }

pub scan_ends : (text : List ℕ) (place : Place) (end : ℕ) → Scanned text place (length text) end → Ends text end
scan_ends text place end s = record { within = s.within; between = s.between; same = s.same ∙ ap (ended_rows st.StartRecord [] []) (take-length text) }
