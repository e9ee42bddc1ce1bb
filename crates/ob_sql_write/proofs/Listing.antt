-- The rows of what a command moved are found, in order.
use Rattle.std.proofs.Common.{◌≡◌, ◌∙◌, refl, sym, ap, subst, subst₂, ℕ, ◌+◌, ◌<◌, pos, List, [], ◌∷◌, map, filter, length, get_or, ap₂, codes, false, inl, inr, arith, true≢false}
use Rattle.std.specs.Prelude.{IsSorted}
use Rattle.std.specs.Ordering.{is_lt}
use Rattle.std.specs.List.{All}
use Rattle.std.specs.List.Sorted.{IsPermutation}
use Rattle.std.proofs.lemmas.List.{get_or-map, length-map}
use Rattle.std.proofs.lemmas.Simd.{map-map}
use Rattle.std.proofs.lemmas.List.Elements.{All-map, All-tail}
use Rattle.std.proofs.lemmas.List.Sorted.{IsPermutation-map, IsPermutation-sym, IsPermutation-trans, All-permutation}
use Rattle.sqlite_trees.proofs.ListLemmas.{IsPermutation-filter, filter-map}
use Rattle.sqlite_value.specs.Keys.{ascending}
use Rattle.sqlite.specs.Order.{Row, column}
use Rattle.sqlite.specs.declared.types.Value.TheVariants.{Null, Int}
use Rattle.sqlite.specs.Term.{Term, col, op2}
use Rattle.sqlite.specs.Collation.TheVariants.{Binary}
use Rattle.sqlite.specs.Query.{Query, Output, output_cmp}
use Rattle.sqlite_sql.specs.declared.ops.BinaryOp.TheVariants.{Compare}
use Rattle.sqlite_sql.specs.declared.ops.CompareOp.TheVariants.{Eq}
use Rattle.sqlite.specs.Command.TheVariants.{Select}
use Rattle.sqlite.specs.Listing.{understood, reads_listing}
use Rattle.sqlite.specs.State.{State, Shown, ShowsRows, IsUnchanged}
use Rattle.sqlite.specs.Clock.{timed}
use Rattle.sqlite_tied.specs.Compute.{everything}
use Rattle.sqlite.proofs.Callers.{IsPlain, command_of, reads_as}
use Rattle.ob_sql_rows.specs.Schema.{book_schema}
use Rattle.ob_sql_rows.specs.Rows.{Tables, Holds, shown, is_key}
use Rattle.ob_sql_rows.specs.declared.table.Table.TheVariants.{Moved}
use Rattle.ob_sql_rows.specs.Queries.{IsAlwaysAnswered}
use Rattle.ob_sql_rows.proofs.Failing.{query_accepted}
use Rattle.ob_sql_rows.proofs.Queries.{whole}
use Rattle.ob_sql_rows.proofs.Answers.{answered_in_order}
use Rattle.ob_sql_write.specs.Stored.{by_dimension_and_key, AreMovesIn}

abbrev pub moves_text : List ℕ
moves_text = codes "SELECT cmd, dim, k, delta FROM moved WHERE cmd = ?1 ORDER BY dim, k"

abbrev tests : List Term
tests = op2 (Compare Eq Binary) (col 1 1) (col 0 0) ∷ []

abbrev shows : List Term
shows = col 1 1 ∷ col 1 2 ∷ col 1 3 ∷ col 1 4 ∷ []

abbrev moves_query : Query
moves_query = record (whole tests shows 12) { order = (col 1 2, ascending Binary) ∷ (col 1 3, ascending Binary) ∷ [] }

moves_is : command_of (understood book_schema moves_text) ≡ Select (record { lets = []; body = moves_query }) (codes "cmd" ∷ codes "dim" ∷ codes "k" ∷ codes "delta" ∷ [])
unfolding understood everything
moves_is = refl

pub moves_plain : IsPlain (understood book_schema moves_text)
unfolding understood everything
moves_plain = (refl, refl)

moves_unlisted : reads_listing book_schema moves_text ≡ false
unfolding understood everything
moves_unlisted = refl

-- no database of a book refuses it
pub moves_answered : (id : ℕ) → IsAlwaysAnswered book_schema moves_text (Int (pos id) ∷ [])
unfolding understood everything
moves_answered id = record {
  whole = omega arith;
  given = refl;
  timeless = refl;
  plain = refl;
  accepted = query_accepted book_schema (record { lets = []; body = moves_query }) (Int (pos id) ∷ []) true≢false (λ db over. elim over [ inl none ↦ none | inr some ↦ some.4 ]);
}

-- what a row is sorted by stands in it
abbrev keyed : Row → Output
keyed row = (column row 1 ∷ column row 2 ∷ [], row)

abbrev IsKeyed : Output → Type 0
IsKeyed o = o ≡ keyed o.1

keyed_again : (ordered : List Output) → All IsKeyed ordered → map keyed (map (λ (o : Output). o.1) ordered) ≡ ordered
keyed_again [] all = refl
keyed_again (o ∷ ordered) all = ap₂ (λ a l. a ∷ l) (sym (all 0 o (omega arith))) (keyed_again ordered (All-tail IsKeyed o ordered all))

rises_shown : (rows : List Row) → IsSorted (output_cmp moves_query) (map keyed rows) → IsSorted by_dimension_and_key rows
rises_shown rows up k d low high =
    let long : k + 1 < length (map keyed rows) = omega (arith, length-map rows keyed, high) in
    let first : get_or (map keyed rows) k (keyed d) ≡ keyed (get_or rows k d) = get_or-map keyed rows k d (keyed d) (omega (arith, high)) in
    let second : get_or (map keyed rows) (k + 1) (keyed d) ≡ keyed (get_or rows (k + 1) d) = get_or-map keyed rows (k + 1) d (keyed d) high in
    subst₂ (λ (x y : Output). is_lt (output_cmp moves_query x y) ≡ false) second first (up k (keyed d) low long)

-- a plain query changes nothing
shown_unchanged : (sql : List ℕ) (params : Row) (old new : State) (rows : List Row) → IsPlain (understood old.now.schema sql) → Shown sql params old new rows → IsUnchanged old new
unfolding Shown
shown_unchanged sql params old new rows plain h =
    let none = (subst IsPlain h.1.is plain).0 in
    let it = subst (ShowsRows old new sql h.0 (timed params h.0.formats h.1.now) rows) none h.2 in
    it.3

-- what is shown of the rows of the command, in order, is the answer
pub lists : (old new : State) (id : ℕ) (rows : List Row) → old.now.schema ≡ book_schema → Shown moves_text (Int (pos id) ∷ []) old new rows
    → IsUnchanged old new × ((t : Tables) → Holds old.now.trees t → AreMovesIn (t Moved) id rows)
lists old new id rows has h =
    let params : Row = Int (pos id) ∷ [] in
    let stored = old.now.trees 12 in
    let passing = filter (λ r. is_key id (shown Moved r)) stored in
    let read = reads_as moves_text params old new book_schema has _ moves_is moves_plain moves_unlisted rows h in
    let it = answered_in_order tests shows moves_query.order 12 old.now.trees params rows refl (read.answer Null) in
    let ordered = it.0 in
    let moved : IsPermutation (map (λ r. keyed (shown Moved r)) passing) ordered = it.1 in
    let all : All IsKeyed ordered = All-permutation IsKeyed _ ordered moved (All-map IsKeyed (λ r. keyed (shown Moved r)) passing (λ i d low. refl)) in
    let back : map keyed rows ≡ ordered = ap (map keyed) it.3 ∙ keyed_again ordered all in
    let found : IsPermutation (map (shown Moved) passing) rows = subst₂ IsPermutation (simp map-map) (sym it.3) (IsPermutation-map (λ (o : Output). o.1) _ ordered moved) in (
      shown_unchanged moves_text params old new rows (subst (λ s. IsPlain (understood s moves_text)) (sym has) moves_plain) h,
      λ t held. record {
        same = IsPermutation-trans _ _ _ (IsPermutation-sym _ _ (IsPermutation-filter (is_key id) _ _ (held.rows Moved))) (subst (λ l. IsPermutation l rows) (sym (filter-map (is_key id) (shown Moved) stored)) found);
        sorted = rises_shown rows (subst (IsSorted (output_cmp moves_query)) (sym back) it.2);
      },
    )
