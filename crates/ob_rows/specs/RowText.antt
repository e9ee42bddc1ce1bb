-- Interruption rows as CSV.
use Rattle.std.specs.Prelude.{◌≡◌, ℕ, Bool, true, false, List, [], ◌∷◌, ◌++◌, Option, IfSome, codes, decimal, unwrap_or}
use Rattle.std.specs.List.{flat_map}
use Rattle.std.specs.Option.{option_map_or}
use Rattle.ob_state.specs.State.{BookState, cause_name_of}
use Rattle.ob_book.specs.Forecasts.{name_of_node}
use Rattle.ob_rows.specs.Moments.{moment_text}
use Rattle.ob_rows.specs.Rows.{interruption_rows}
use Rattle.ob_rows.specs.declared.row.InterruptionRow.{InterruptionRow}

-- fields with commas between them, and LF behind
abbrev pub csv_line : List ℕ → List (List ℕ) → List ℕ
csv_line field [] = field ++ 10 ∷ []
csv_line field (next ∷ fields) = field ++ 44 ∷ csv_line next fields

-- the field of what there may be; empty where it isn't there
abbrev pub optional : (ℕ → List ℕ) → Option ℕ → List ℕ
optional text n = option_map_or text n []

-- `yes`, or an empty field
abbrev pub mark_word : Bool → List ℕ
mark_word true = codes "yes"
mark_word false = []

-- the name of a cause
abbrev pub cause_field : BookState → ℕ → List ℕ
cause_field b code = unwrap_or (cause_name_of b.causes code) []

-- the names of the columns
abbrev pub row_header : List ℕ
row_header =
    csv_line (codes "section") (codes "feeder" ∷ codes "customers" ∷ codes "service_since" ∷ codes "service_until" ∷ codes "since" ∷ codes "until"
    ∷ codes "cause" ∷ codes "entry" ∷ codes "marked" ∷ [])

-- the line of a row, its section and its cause by their names
abbrev pub row_line : BookState → InterruptionRow → List ℕ
row_line b r =
    csv_line (name_of_node b r.section) (decimal r.feeder ∷ decimal r.customers ∷ moment_text r.service_since ∷ optional moment_text r.service_until
    ∷ moment_text r.since ∷ moment_text r.until ∷ cause_field b r.cause ∷ optional decimal r.entry ∷ mark_word r.marked ∷ [])

-- the fields of a row up to the end of its service, with a comma behind each
abbrev pub start_text : BookState → InterruptionRow → List ℕ
start_text b r =
    name_of_node b r.section ++ (44 ∷ (decimal r.feeder ++ (44 ∷ (decimal r.customers ++ (44 ∷ (moment_text r.service_since
    ++ (44 ∷ (optional moment_text r.service_until ++ (44 ∷ [])))))))))

-- its other fields, with commas between them, and LF behind
abbrev pub end_text : BookState → InterruptionRow → List ℕ
end_text b r = csv_line (moment_text r.since) (moment_text r.until ∷ cause_field b r.cause ∷ optional decimal r.entry ∷ mark_word r.marked ∷ [])

-- the text is the start of the line of this row, if there is one
abbrev pub IsStartOf : BookState → Option InterruptionRow → List ℕ → Type 0
IsStartOf b row text = IfSome row (λ r. text ≡ start_text b r)

-- the lines of rows
abbrev pub row_lines : BookState → List InterruptionRow → List ℕ
row_lines b rows = flat_map (row_line b) rows

-- the whole text
abbrev pub interruptions_text : BookState → List ℕ
interruptions_text b = row_header ++ row_lines b (interruption_rows b)
