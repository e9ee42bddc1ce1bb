-- Rows of commands under their numbers, where the commands of some numbers get other body texts; and rows of lives.
use Rattle.std.proofs.Common.{◌≡◌, ◌∙◌, ℕ, ◌+◌, ◌<◌, ◌≤◌, ◌==◌, true, false, zero, suc, List, [], ◌∷◌, ◌++◌, map, filter, length, if◌then◌else◌, refl, sym, ap, ap₂, inl, inr, arith}
use Rattle.std.specs.Prelude.{⊤}
use Rattle.std.specs.List.{AllByRecursion}
use Rattle.std.proofs.lemmas.Bool.{cases_Bool}
use Rattle.std.proofs.lemmas.Bool.Decides.{nat_tests}
use Rattle.sqlite.specs.Order.{column}
use Rattle.ob_base.specs.Life.{whole_life}
use Rattle.ob_command.specs.Commands.{body_text}
use Rattle.ob_book.specs.Acts.{Referenced}
use Rattle.ob_upgrade.specs.Old.{is_device, old_body_text}
use Rattle.ob_sql_rows.specs.Rows.{Columns, Tables, change_where, command_row, is_key, life_row, number, rebody}
use Rattle.ob_sql_rows.specs.declared.table.Table.TheVariants.{Command, Life}
use Rattle.ob_sql_write.specs.Upgrade.{HasBodies, with_bodies, with_body, with_lives}
use Rattle.ob_sql_write.specs.declared.upgrade.NewBody.{NewBody}
use Rattle.ob_record.specs.Tables.{numbered, row_of_command}
use Rattle.ob_record.proofs.Keyed.{key_is}
use Rattle.ob_sql_check.specs.OldTables.{new_texts, row_of_old_command, texts_of}

-- ---- the rows of a table with other body texts
abbrev pub Texts : Type 0
Texts = List (ℕ × List ℕ)

abbrev pub rows_with : Texts → List Columns → List Columns
rows_with [] rows = rows
rows_with (x ∷ texts) rows = rows_with texts (change_where (is_key x.0) (rebody x.1) rows)

-- a row of a command has the number
abbrev HasOne : ℕ → List Columns → Type 0
HasOne n rows = (reference : List ℕ) × (body : List ℕ) × (filter (is_key n) rows ≡ command_row n reference body ∷ [])

-- each number has a row of a command, at its turn
abbrev pub HaveTexts : Texts → List Columns → Type 0
HaveTexts [] rows = ⊤
HaveTexts (x ∷ texts) rows = HasOne x.0 rows × HaveTexts texts (change_where (is_key x.0) (rebody x.1) rows)

pub bodies_rows : (bodies : List NewBody) (t : Tables) → with_bodies bodies t Command ≡ rows_with (texts_of bodies) (t Command)
bodies_rows [] t = refl
bodies_rows (b ∷ bodies) t = bodies_rows bodies (with_body b t)

pub bodies_there : (bodies : List NewBody) (t : Tables) → HaveTexts (texts_of bodies) (t Command) → HasBodies bodies t
bodies_there [] t h = tt
bodies_there (b ∷ bodies) t h =
    (record { reference = h.0.0; body = h.0.1; row = h.0.2 }, bodies_there bodies (with_body b t) h.1)

-- ---- a row is changed, and keeps its key
abbrev changed_row : ℕ → List ℕ → Columns → Columns
changed_row n text row = if is_key n row then rebody text row else row

same_key : (k n : ℕ) (text : List ℕ) (row : Columns) → is_key k (changed_row n text row) ≡ is_key k row
same_key k n text row = elim (cases_Bool (is_key n row)) [
  | inl is ↦ rw is refl
  | inr other ↦ rw other refl
]

changed_rows : (k n : ℕ) (text : List ℕ) (rows : List Columns)
    → filter (is_key k) (change_where (is_key n) (rebody text) rows) ≡ map (changed_row n text) (filter (is_key k) rows)
changed_rows k n text [] = refl
changed_rows k n text (row ∷ rows) = elim (cases_Bool (is_key k row)) [
  | inl is ↦ rw (same_key k n text row, is) (ap (λ l. changed_row n text row ∷ l) (changed_rows k n text rows))
  | inr other ↦ rw (same_key k n text row, other) (changed_rows k n text rows)
]

-- a command's row is one with another text
stays_one : (k n : ℕ) (text : List ℕ) (rows : List Columns) → HasOne k rows → HasOne k (change_where (is_key n) (rebody text) rows)
stays_one k n text rows one =
    let now = changed_rows k n text rows ∙ ap (map (changed_row n text)) one.2 in
    elim (cases_Bool (is_key n (command_row k one.0 one.1))) [
      | inl is ↦ (one.0, text, now ∙ ap (λ b. (if b then command_row k one.0 text else command_row k one.0 one.1) ∷ []) is)
      | inr other ↦ (one.0, one.1, now ∙ ap (λ b. (if b then command_row k one.0 text else command_row k one.0 one.1) ∷ []) other)
    ]

-- ---- commands under their numbers, some of which have another text
-- behind a number there is no row of it
none_past : (k n : ℕ) (xs : List Referenced) → k < n → filter (is_key k) (numbered row_of_old_command n xs) ≡ []
none_past k n [] past = refl
none_past k n (x ∷ xs) past =
    let other : (n == k) ≡ false = grind (arith, nat_tests) in
    rw (key_is k n (row_of_old_command n x) refl, other) (none_past k (n + 1) xs (omega (arith, past)))

all_past : (k n : ℕ) (text : List ℕ) (xs : List Referenced) → k < n → change_where (is_key k) (rebody text) (numbered row_of_old_command n xs) ≡ numbered row_of_old_command n xs
all_past k n text [] past = refl
all_past k n text (x ∷ xs) past =
    let other : (n == k) ≡ false = grind (arith, nat_tests) in
    rw (key_is k n (row_of_old_command n x) refl, other) (ap (λ l. row_of_old_command n x ∷ l) (all_past k (n + 1) text xs (omega (arith, past))))

-- each number has its row
one_each : (k n : ℕ) (xs : List Referenced) → n ≤ k → k < n + length xs → HasOne k (numbered row_of_old_command n xs)
one_each k n [] low high = absurd (omega (arith, low, high))
one_each k n (x ∷ xs) low high = elim (cases_Bool (n == k)) [
  | inl same ↦
      let here : n ≡ k = grind (arith, nat_tests) in
      (x.reference, old_body_text x.command, rw (key_is k n (row_of_old_command n x) refl, same) (ap₂ (λ m l. row_of_old_command m x ∷ l) here (none_past k (n + 1) xs (omega (arith, here)))))
  | inr other ↦
      let above : n + 1 ≤ k = grind (arith, nat_tests) in
      let rest = one_each k (n + 1) xs above (omega (arith, high)) in
      (rest.0, rest.1, rw (key_is k n (row_of_old_command n x) refl, other) rest.2)
]

-- rows that have one of each number have them at their turns
at_turns : (n : ℕ) (xs : List Referenced) (rows : List Columns) → ((k : ℕ) → n ≤ k → k < n + length xs → HasOne k rows) → HaveTexts (new_texts n xs) rows
at_turns n [] rows ones = tt
at_turns n (x ∷ xs) rows ones = elim (cases_Bool (is_device x.command)) [
  | inl is ↦ rw is (
    ones n (omega arith) (omega arith),
    at_turns (n + 1) xs (change_where (is_key n) (rebody (body_text x.command)) rows) (λ k low high. stays_one k n (body_text x.command) rows (ones k (omega (arith, low)) (omega (arith, high)))),
  )
  | inr other ↦ rw other (at_turns (n + 1) xs rows (λ k low high. ones k (omega (arith, low)) (omega (arith, high))))
]

pub texts_there : (n : ℕ) (xs : List Referenced) → HaveTexts (new_texts n xs) (numbered row_of_old_command n xs)
texts_there n xs = at_turns n xs (numbered row_of_old_command n xs) (λ k low high. one_each k n xs low high)

-- a row before the first number stays
past_row : (m n : ℕ) (row : Columns) → column row 0 ≡ number m → m < n → (xs : List Referenced) (rows : List Columns)
    → rows_with (new_texts n xs) (row ∷ rows) ≡ row ∷ rows_with (new_texts n xs) rows
past_row m n row at past [] rows = refl
past_row m n row at past (x ∷ xs) rows = elim (cases_Bool (is_device x.command)) [
  | inl is ↦
      let other : (m == n) ≡ false = grind (arith, nat_tests) in
      rw (is, key_is n m row at, other) (past_row m (n + 1) row at (omega (arith, past)) xs (change_where (is_key n) (rebody (body_text x.command)) rows))
  | inr not_so ↦ rw not_so (past_row m (n + 1) row at (omega (arith, past)) xs rows)
]

-- where the others keep their texts, the rows become those of the new texts
pub rows_anew : (n : ℕ) (xs : List Referenced) → AllByRecursion (λ (x : Referenced). is_device x.command ≡ false → old_body_text x.command ≡ body_text x.command) xs
    → rows_with (new_texts n xs) (numbered row_of_old_command n xs) ≡ numbered row_of_command n xs
rows_anew n [] keeps = refl
rows_anew n (x ∷ xs) keeps =
    let rest : rows_with (new_texts (n + 1) xs) (numbered row_of_old_command (n + 1) xs) ≡ numbered row_of_command (n + 1) xs = rows_anew (n + 1) xs keeps.1 in
    elim (cases_Bool (is_device x.command)) [
      | inl is ↦
          let same : (n == n) ≡ true = grind (arith, nat_tests) in
          rw (is, key_is n n (row_of_old_command n x) refl, same) (
          ap (λ l. rows_with (new_texts (n + 1) xs) (row_of_command n x ∷ l)) (all_past n (n + 1) (body_text x.command) xs (omega arith))
          ∙ past_row n (n + 1) (row_of_command n x) refl (omega arith) xs (numbered row_of_old_command (n + 1) xs) ∙ ap (λ l. row_of_command n x ∷ l) rest
          )
      | inr other ↦ rw other (
          past_row n (n + 1) (row_of_old_command n x) refl (omega arith) xs (numbered row_of_old_command (n + 1) xs)
          ∙ ap₂ (λ t l. command_row n x.reference t ∷ l) (keeps.0 other) rest
          )
    ]

-- ---- the lives
-- so many devices that live always, the first with this number
abbrev pub whole_rows : ℕ → ℕ → List Columns
whole_rows n zero = []
whole_rows n (suc k) = life_row n whole_life ∷ whole_rows (n + 1) k

one_more : (n k m : ℕ) → n + k ≡ m → whole_rows n (suc k) ≡ whole_rows n k ++ life_row m whole_life ∷ []
one_more n zero m at = let e : n ≡ m = omega (arith, at) in ap (λ j. life_row j whole_life ∷ []) e
one_more n (suc k) m at = ap (λ l. life_row n whole_life ∷ l) (one_more (n + 1) k m (omega (arith, at)))

pub lives_rows : (k : ℕ) (t : Tables) → t Life ≡ [] → with_lives k t Life ≡ whole_rows 0 k
lives_rows zero t none = none
lives_rows (suc k) t none = ap (λ l. l ++ life_row k whole_life ∷ []) (lives_rows k t none) ∙ sym (one_more 0 k k (omega arith))
