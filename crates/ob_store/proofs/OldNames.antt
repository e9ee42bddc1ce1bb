-- The names of tables, compared one after another.
use Rattle.std.proofs.Common.{◌≡◌, ◌≢◌, ℕ, ◌+◌, ◌<◌, List, [], ◌∷◌, ◌++◌, map, take, length, get_or, Bool, true, false, not, true≢false, sym, ap, ap₂, ◌∙◌, arith}
use Rattle.std.proofs.lemmas.List.{get_or-map, length-map, take_more}
use Rattle.std.specs.Cmp.Lexicographic.{other_text, pointwise, same_text}
use Rattle.std.specs.Prelude.{nat_eq}
use Rattle.sqlite_schema.specs.declared.schema.Table.{Table}
use Rattle.ob_sql_rows.specs.declared.table.Table.{Table as Known}
use Rattle.ob_sql_rows.specs.Rows.{table_name}

pub same_of : (a b : List ℕ) (p r : Bool) → pointwise nat_eq a b ≡ p → r ≡ not p → r ≡ false → a ≡ b
same_of a b true r is so off = same_text a b (sym is)
same_of a b false r is so off = absurd (true≢false (sym so ∙ off))

pub other_of : (a b : List ℕ) (p r : Bool) → pointwise nat_eq a b ≡ p → r ≡ not p → r ≡ true → a ≢ b
other_of a b true r is so differs = absurd (true≢false (sym differs ∙ so))
other_of a b false r is so differs = other_text a b (sym is)

-- the name at this place of each list
module _ (tables : List Table) (known : List Known) (n : ℕ) (x : Table) (d : Known) (low : n < length known) (long : length tables ≡ length known) (at : x ≡ get_or tables n x) where
  abbrev names : List (List ℕ)
  names = map (λ (t : Table). t.name) tables

  first : get_or names n [] ≡ x.name
  first = get_or-map (λ (t : Table). t.name) tables n x [] (omega (arith, low, long)) ∙ ap (λ (t : Table). t.name) (sym at)

  other : get_or (map table_name known) n [] ≡ table_name (get_or known n d)
  other = get_or-map table_name known n d [] low

  pub one_more : x.name ≡ table_name (get_or known n d) → take n names ≡ take n (map table_name known) → take (n + 1) names ≡ take (n + 1) (map table_name known)
  one_more same before =
      take_more names n [] (omega (arith, low, long, length-map tables (λ (t : Table). t.name)))
      ∙ ap₂ (λ front name. front ++ name ∷ []) before (first ∙ same ∙ sym other)
      ∙ sym (take_more (map table_name known) n [] (omega (arith, low, length-map known table_name)))

  pub one_off : x.name ≢ table_name (get_or known n d) → names ≢ map table_name known
  one_off differs same = differs (sym first ∙ ap (λ l. get_or l n []) same ∙ other)
