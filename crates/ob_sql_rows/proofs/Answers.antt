-- The answer of a query over one table, and what an update or a removal by key makes of it.
use Rattle.std.proofs.Common.{◌≡◌, ℕ, List, [], ◌∷◌, map, filter, flat_map, Bool, cond, None, refl, sym, ap, subst, subst₂, ◌∙◌, inl, inr}
use Rattle.std.specs.List.{list_all}
use Rattle.std.specs.Prelude.{unwrap_or}
use Rattle.std.proofs.lemmas.Simd.{map-map}
use Rattle.std.specs.List.Sorted.{IsPermutation}
use Rattle.std.proofs.lemmas.Bool.{cases_Bool}
use Rattle.std.proofs.lemmas.List.Sorted.{IsPermutation-map}
use Rattle.sqlite.specs.Order.{Row}
use Rattle.sqlite.specs.Term.{Term, eval_all, holds}
use Rattle.sqlite.specs.Query.{Query, IsAnswer, output, Output, output_cmp}
use Rattle.sqlite_value.specs.declared.keys.Key.{Key}
use Rattle.std.specs.Prelude.{IsSorted}
use Rattle.sqlite.specs.Program.{overlay, given_at}
use Rattle.sqlite.specs.Tree.{Trees}
use Rattle.sqlite.proofs.Callers.{one_permutation}
use Rattle.ob_sql_rows.proofs.Queries.{whole}

-- the rows that pass, each with what f makes of it
picked : {A B : Type 0} (p : A → Bool) (f : A → B) (xs : List A) → flat_map (λ x. cond (p x) (f x ∷ []) []) xs ≡ map f (filter p xs)
picked p f [] = refl
picked p f (x ∷ xs) = elim (cases_Bool (p x)) [
  | inl passes ↦ rw (passes, picked p f xs)
  | inr fails ↦ rw (fails, picked p f xs)
]

-- with no order, the answer is some order of what is shown of the rows that pass
pub answered : (tests shows : List Term) (tree : ℕ) (db : Trees) (params : Row) (rows : List Row) → given_at [] tree ≡ None → IsAnswer (whole tests shows tree) (overlay db []) params rows
    → IsPermutation (map (λ r. eval_all shows (params ∷ r ∷ [])) (filter (λ r. list_all (holds (params ∷ r ∷ [])) tests) (db tree))) rows
answered tests shows tree db params rows plain a =
    let q = whole tests shows tree in
    let source : overlay db [] tree ≡ db tree = ap (λ o. unwrap_or o (db tree)) plain in
    let staged : a.staged ≡ map (λ r. params ∷ r ∷ []) (filter (λ r. list_all (holds (params ∷ r ∷ [])) tests) (db tree)) =
    a.grouped ∙ ap (flat_map (λ r. cond (list_all (holds (params ∷ r ∷ [])) tests) ((params ∷ r ∷ []) ∷ []) [])) source ∙ picked (λ r. list_all (holds (params ∷ r ∷ [])) tests) (λ r. params ∷ r ∷ []) (db tree) in
    let kept : a.kept ≡ map (output q) (map (λ r. params ∷ r ∷ []) (filter (λ r. list_all (holds (params ∷ r ∷ [])) tests) (db tree))) = a.distinct ∙ ap (map (output q)) staged in
    let shown : map (λ (o : Output). o.1) a.kept ≡ map (λ r. eval_all shows (params ∷ r ∷ [])) (filter (λ r. list_all (holds (params ∷ r ∷ [])) tests) (db tree)) =
    ap (map (λ (o : Output). o.1)) kept ∙ simp map-map in
    subst₂ IsPermutation shown (sym a.shown) (IsPermutation-map (λ (o : Output). o.1) a.kept a.ordered a.same)

-- where one row passes, its showing is the answer
pub one_answer : (tests shows : List Term) (tree : ℕ) (db : Trees) (params : Row) (rows : List Row) (row : Row) → given_at [] tree ≡ None → IsAnswer (whole tests shows tree) (overlay db []) params rows
    → filter (λ r. list_all (holds (params ∷ r ∷ [])) tests) (db tree) ≡ row ∷ [] → rows ≡ eval_all shows (params ∷ row ∷ []) ∷ []
one_answer tests shows tree db params rows row plain a one =
    one_permutation _ rows (rw one at (answered tests shows tree db params rows plain a))

-- under ORDER BY: the outputs of the rows that pass, in an order that rises, and of each what it shows
pub answered_in_order : (tests shows : List Term) (order : List (Term × Key)) (tree : ℕ) (db : Trees) (params : Row) (rows : List Row) → given_at [] tree ≡ None
    → IsAnswer (record (whole tests shows tree) { order = order }) (overlay db []) params rows
    → (ordered : List Output) × IsPermutation (map (λ r. output (record (whole tests shows tree) { order = order }) (params ∷ r ∷ [])) (filter (λ r. list_all (holds (params ∷ r ∷ [])) tests) (db tree))) ordered
    × IsSorted (output_cmp (record (whole tests shows tree) { order = order })) ordered × (rows ≡ map (λ (o : Output). o.1) ordered)
answered_in_order tests shows order tree db params rows plain a =
    let q : Query = record (whole tests shows tree) { order = order } in
    let source : overlay db [] tree ≡ db tree = ap (λ o. unwrap_or o (db tree)) plain in
    let staged : a.staged ≡ map (λ r. params ∷ r ∷ []) (filter (λ r. list_all (holds (params ∷ r ∷ [])) tests) (db tree)) =
    a.grouped ∙ ap (flat_map (λ r. cond (list_all (holds (params ∷ r ∷ [])) tests) ((params ∷ r ∷ []) ∷ []) [])) source ∙ picked (λ r. list_all (holds (params ∷ r ∷ [])) tests) (λ r. params ∷ r ∷ []) (db tree) in
    let kept : a.kept ≡ map (λ r. output q (params ∷ r ∷ [])) (filter (λ r. list_all (holds (params ∷ r ∷ [])) tests) (db tree)) = a.distinct ∙ ap (map (output q)) staged ∙ simp map-map in
    (a.ordered, subst (λ k. IsPermutation k a.ordered) kept a.same, a.sorted, a.shown)
