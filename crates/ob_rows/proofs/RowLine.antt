-- The start of a row's line, and the rest of it, are the line.
use Rattle.std.proofs.Common.{◌≡◌, ℕ, List, [], ◌∷◌, ◌++◌, decimal, ap, ◌∙◌}
use Rattle.std.proofs.lemmas.List.{append_assoc}
use Rattle.ob_state.specs.State.{BookState}
use Rattle.ob_book.specs.Forecasts.{name_of_node}
use Rattle.ob_rows.specs.Moments.{moment_text}
use Rattle.ob_rows.specs.RowText.{cause_field, end_text, mark_word, optional, row_line, start_text}
use Rattle.ob_rows.specs.declared.row.InterruptionRow.{InterruptionRow}

five_fields : (a b c d e rest : List ℕ) → (a ++ 44 ∷ (b ++ 44 ∷ (c ++ 44 ∷ (d ++ 44 ∷ (e ++ 44 ∷ []))))) ++ rest ≡ a ++ 44 ∷ (b ++ 44 ∷ (c ++ 44 ∷ (d ++ 44 ∷ (e ++ 44 ∷ rest))))
five_fields a b c d e rest = simp append_assoc

line_is : (b : BookState) (r : InterruptionRow) → start_text b r ++ end_text b r ≡ row_line b r
line_is b r =
    five_fields (name_of_node b r.section) (decimal r.feeder) (decimal r.customers) (moment_text r.service_since) (optional moment_text r.service_until) (end_text b r)

last_fields : (x a b c d e : List ℕ) → x ++ a ++ 44 ∷ b ++ 44 ∷ c ++ 44 ∷ d ++ 44 ∷ e ++ 10 ∷ [] ≡ x ++ (a ++ 44 ∷ (b ++ 44 ∷ (c ++ 44 ∷ (d ++ 44 ∷ (e ++ 10 ∷ [])))))
last_fields x a b c d e =
    append_assoc (x ++ a ++ 44 ∷ b ++ 44 ∷ c ++ 44 ∷ d) (44 ∷ e) (10 ∷ [])
    ∙ append_assoc (x ++ a ++ 44 ∷ b ++ 44 ∷ c) (44 ∷ d) (44 ∷ (e ++ 10 ∷ []))
    ∙ append_assoc (x ++ a ++ 44 ∷ b) (44 ∷ c) (44 ∷ (d ++ 44 ∷ (e ++ 10 ∷ [])))
    ∙ append_assoc (x ++ a) (44 ∷ b) (44 ∷ (c ++ 44 ∷ (d ++ 44 ∷ (e ++ 10 ∷ []))))
    ∙ append_assoc x a (44 ∷ (b ++ 44 ∷ (c ++ 44 ∷ (d ++ 44 ∷ (e ++ 10 ∷ [])))))

-- a text with both behind it has the line behind it
pub with_line : (b : BookState) (r : InterruptionRow) (text start mid : List ℕ) → mid ≡ text ++ start → start ≡ start_text b r
    → mid ++ moment_text r.since ++ 44 ∷ moment_text r.until ++ 44 ∷ cause_field b r.cause ++ 44 ∷ optional decimal r.entry ++ 44 ∷ mark_word r.marked ++ 10 ∷ []
    ≡ text ++ row_line b r
with_line b r text start mid behind is =
    last_fields mid (moment_text r.since) (moment_text r.until) (cause_field b r.cause) (optional decimal r.entry) (mark_word r.marked)
    ∙ ap (λ l. l ++ end_text b r) behind ∙ append_assoc text start (end_text b r)
    ∙ ap (λ l. text ++ l) (ap (λ l. l ++ end_text b r) is ∙ line_is b r)
