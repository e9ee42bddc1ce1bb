-- What accepted commands moved, as text.
use Rattle.std.specs.Prelude.{ℕ, List, [], ◌∷◌, ◌++◌, codes}
use Rattle.std.specs.List.{flat_map}
use Rattle.std.specs.Fmt.{decimal, signed_decimal}
use Rattle.ob_post.specs.Keys.{dim_word}
use Rattle.ob_post.specs.declared.Moved.{Moved}
use Rattle.ob_book.specs.Acts.{ActState}
use Rattle.ob_store.specs.MovingOut.{Numbered, all_moves}

-- the fields of a line with commas between them, and a line feed behind
abbrev pub line : List ℕ → List ℕ → List ℕ → List ℕ → List ℕ
line cmd dim key delta = cmd ++ (codes "," ++ (dim ++ (codes "," ++ (key ++ (codes "," ++ (delta ++ (10 ∷ [])))))))

-- the line of an amount that the command of a number moved
abbrev pub moved_line : ℕ → Moved → List ℕ
moved_line cmd m = line (decimal cmd) (dim_word m.dim) (decimal m.key) (signed_decimal m.delta)

-- the names of the columns
abbrev pub header : List ℕ
header = line (codes "cmd") (codes "dim") (codes "key") (codes "delta")

-- a line for each amount
abbrev pub lines_of : List Numbered → List ℕ
lines_of list = flat_map (λ (x : Numbered). moved_line x.0 x.1) list

-- the text of what the accepted commands moved
abbrev pub moves_text : ActState → List ℕ
moves_text b = header ++ lines_of (all_moves b)
