-- Rows of texts, computed.
use Rattle.std.proofs.Common.{◌≡◌, ◌++◌, [], ◌∷◌, length, refl}
use Rattle.std.specs.Prelude.{codes}
use Rattle.csv.proofs.OnLiterals.{csv_on_literals}
use Rattle.ob_csv.specs.Header.{columns, header}
use Rattle.ob_csv.specs.Rows.{rows_from, rows_of}
use Rattle.ob_csv.specs.WholeRows.{whole_rows}

-- a mark, CRLF, an empty line, LF, a lone CR, and no end of the last line
pub line_ends : rows_of (239 ∷ 187 ∷ 191 ∷ (codes "a,b" ++ (13 ∷ 10 ∷ 13 ∷ 10 ∷ (codes "c" ++ (10 ∷ (codes "d," ++ (13 ∷ codes " ")))))))
    ≡ (codes "a" ∷ codes "b" ∷ []) ∷ (codes "c" ∷ []) ∷ (codes "d" ∷ [] ∷ []) ∷ (codes " " ∷ []) ∷ []
unfolding csv_on_literals rows_from
line_ends = refl

-- a comma, a line end and a doubled quote inside quotes, an empty line in quotes, and a text that ends inside quotes
pub quotes : rows_of (codes "\"a,b\",\"c" ++ (10 ∷ (codes "d\"\"e\"" ++ (10 ∷ (codes "\"\"" ++ (10 ∷ codes "f,\"g"))))))
    ≡ (codes "a,b" ∷ (codes "c" ++ (10 ∷ codes "d\"e")) ∷ []) ∷ ([] ∷ []) ∷ (codes "f" ∷ codes "g" ∷ []) ∷ []
unfolding csv_on_literals rows_from
quotes = refl

pub its_columns : length header ≡ columns
its_columns = refl

-- the header as it is mostly written
pub the_header : rows_of (codes "kind,ref,f1,f2,f3,f4,f5,f6" ++ (10 ∷ [])) ≡ header ∷ []
unfolding csv_on_literals rows_from
the_header = refl

-- texts that broke off behind a row, in a row, in quotes behind a line end, and behind a closing quote
pub broken_off : (whole_rows (codes "a,b" ++ (10 ∷ (codes "c" ++ (10 ∷ [])))) ≡ (codes "a" ∷ codes "b" ∷ []) ∷ (codes "c" ∷ []) ∷ [])
    × (whole_rows (codes "a,b" ++ (10 ∷ codes "c")) ≡ (codes "a" ∷ codes "b" ∷ []) ∷ [])
    × (whole_rows (codes "a,b" ++ (10 ∷ (codes "\"c" ++ (10 ∷ [])))) ≡ (codes "a" ∷ codes "b" ∷ []) ∷ [])
    × (whole_rows (codes "\"a\"") ≡ [])
unfolding csv_on_literals rows_from
broken_off = (refl, refl, refl, refl)
