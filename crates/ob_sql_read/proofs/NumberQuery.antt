-- What the query of the numbers of the rows of amounts answers.
use Rattle.std.proofs.Common.{◌≡◌, ℕ, zero, suc, ◌+◌, ◌<◌, List, [], ◌∷◌, ◌++◌, map, filter, length, Option, IsTrue, IsSome, true, false, inl, inr, lit≤, refl, sym, ap, subst, ◌∙◌, ℤ, slice_index_or, true≢false}
use Rattle.std.specs.Prelude.{◌↔◌}
use Rattle.std.specs.List.{AllByRecursion}
use Rattle.std.specs.List.Sorted.{IsPermutation, IsSorted}
use Rattle.std.specs.Ordering.{is_lt}
use Rattle.std.proofs.lemmas.List.Elements.{recursion_from_All, All-from_recursion}
use Rattle.std.proofs.lemmas.List.Sorted.{All-permutation, IsPermutation-map}
use Rattle.sqlite_value.proofs.OrderLemmas.{then-Equal}
use Rattle.sqlite_value.specs.declared.value.Value.TheVariants.{Null, Int}
use Rattle.sqlite.specs.Order.{Row, column, value_cmp}
use Rattle.sqlite.specs.Tree.{rowid}
use Rattle.sqlite.specs.Query.{Output, output, output_cmp}
use Rattle.sqlite.specs.Term.{col}
use Rattle.sqlite.specs.Schema.{Schema}
use Rattle.sqlite.specs.Listing.{IsSourceOf, understood, reads_listing}
use Rattle.sqlite.specs.Effect.{Database, RefusesToRead}
use Rattle.sqlite.specs.declared.error.Error.{Error}
use Rattle.sqlite_sql.specs.Program.{ProgramOverflows}
use Rattle.sqlite_trees.specs.Tree.{Trees}
use Rattle.sqlite.proofs.Callers.{IsPlain, command_of}
use Rattle.sqlite_tied.specs.Compute.{everything}
use Rattle.ob_sql_rows.specs.Versions.{schema_of}
use Rattle.ob_sql_rows.specs.declared.version.Version.{Version}
use Rattle.ob_sql_rows.specs.declared.version.Version.TheVariants.{One, Two}
use Rattle.ob_sql_rows.specs.Queries.{IsAlwaysAnswered}
use Rattle.ob_sql_rows.specs.Rows.{AreApart}
use Rattle.ob_sql_rows.proofs.Answers.{answered_in_order}
use Rattle.ob_sql_rows.proofs.Failing.{IsUntyped, query_accepted}
use Rattle.ob_sql_read.specs.Apart.{IsAbove, ListsNumbers, number_command, number_query, number_text}
use Rattle.ob_sql_read.specs.Listing.{ShowsNoWrite, upward}
use Rattle.ob_sql_read.proofs.NoWrite.{shows_no_write}
use Rattle.ob_sql_read.proofs.RowNumbers.{RiseTo, apart_as, by_rowid, not_apart, number_of, rise_apart}

-- ---- what the text means
pub numbers_mean : (v : Version) → command_of (understood (schema_of v) number_text) ≡ number_command
unfolding understood everything
numbers_mean One = refl
numbers_mean Two = refl

pub numbers_plain : (v : Version) → IsPlain (understood (schema_of v) number_text)
unfolding understood everything
numbers_plain One = (refl, refl)
numbers_plain Two = (refl, refl)

pub numbers_silent : ShowsNoWrite number_text
unfolding everything
numbers_silent = shows_no_write number_text (λ schema base. refl)

pub numbers_unlisted : (v : Version) → reads_listing (schema_of v) number_text ≡ false
unfolding understood everything
numbers_unlisted One = refl
numbers_unlisted Two = refl

no_sum : (db : Trees) → ¬ (ProgramOverflows db [] [] [] number_query)
no_sum db (inl none) = none
no_sum db (inr some) = some.4

number_accepted : (schema : Schema) → ¬ (IsUntyped schema (record { lets = []; body = number_query }) []) → (limit : Option ℕ) (now db : Database) (e : Error) → now.schema ≡ schema → IsSourceOf false now db → RefusesToRead limit number_command db [] e → IsSome limit
number_accepted schema typed = query_accepted schema (record { lets = []; body = number_query }) [] typed no_sum

pub numbers_answered : (v : Version) → IsAlwaysAnswered (schema_of v) number_text []
unfolding understood everything
numbers_answered One = record { whole = lit≤ tt; given = refl; timeless = refl; plain = refl; accepted = number_accepted (schema_of One) true≢false }
numbers_answered Two = record { whole = lit≤ tt; given = refl; timeless = refl; plain = refl; accepted = number_accepted (schema_of Two) true≢false }

-- ---- an answer is the numbers of the rows, in an order that doesn't fall
abbrev IsBoth : Output → Type 0
IsBoth o = o.0 ≡ o.1

all_both : (tree : List Row) → AllByRecursion IsBoth (map (λ r. output number_query ([] ∷ r ∷ [])) tree)
all_both [] = tt
all_both (r ∷ tree) = (refl, all_both tree)

all_pass : (rows : List Row) → filter (λ r. true) rows ≡ rows
all_pass [] = refl
all_pass (r ∷ rows) = ap (λ l. r ∷ l) (all_pass rows)

shown_numbers : (tree : List Row) → map (λ (o : Output). o.1) (map (λ r. output number_query ([] ∷ r ∷ [])) tree) ≡ map number_of tree
shown_numbers [] = refl
shown_numbers (r ∷ tree) = ap (λ l. number_of r ∷ l) (shown_numbers tree)

keyed_at : (outputs : List Output) → AllByRecursion IsBoth outputs → (k : ℕ) (d : Row) → (slice_index_or outputs k (d, d)).0 ≡ slice_index_or (map (λ (o : Output). o.1) outputs) k d
keyed_at [] all k d = refl
keyed_at (o ∷ outputs) all zero d = all.0
keyed_at (o ∷ outputs) all (suc k) d = keyed_at outputs all.1 k d

mapped_length : (outputs : List Output) → length (map (λ (o : Output). o.1) outputs) ≡ length outputs
mapped_length [] = refl
mapped_length (o ∷ outputs) = ap suc (mapped_length outputs)

by_number : (a b : Output) → output_cmp number_query a b ≡ value_cmp (column a.0 0) (column b.0 0)
by_number a b = then-Equal (value_cmp (column a.0 0) (column b.0 0))

sorted_shown : (outputs : List Output) → AllByRecursion IsBoth outputs → IsSorted (output_cmp number_query) outputs → IsSorted by_rowid (map (λ (o : Output). o.1) outputs)
sorted_shown outputs all sorted = λ k d low high.
    let at = sorted k (d, d) low (subst (λ n. k + 1 < n) (mapped_length outputs) high) in
    let a = slice_index_or outputs k (d, d) in
    let b = slice_index_or outputs (k + 1) (d, d) in
    ap (λ x. is_lt (value_cmp (column x 0) (column (slice_index_or (map (λ (o : Output). o.1) outputs) k d) 0))) (sym (keyed_at outputs all (k + 1) d))
    ∙ ap (λ y. is_lt (value_cmp (column b.0 0) (column y 0))) (sym (keyed_at outputs all k d)) ∙ ap is_lt (sym (by_number b a)) ∙ at

pub record AnswersNumbers (tree answer : List Row) : Type 0 where
  pub numbers : IsPermutation (map number_of tree) answer
  pub sorted : IsSorted by_rowid answer

pub lists_numbers : (db : Database) (answer : List Row) → ListsNumbers db answer → AnswersNumbers (db.trees 14) answer
lists_numbers db answer h =
    let tree = db.trees 14 in
    let it = answered_in_order [] (col 1 0 ∷ []) ((col 1 0, upward) ∷ []) 14 db.trees [] answer refl (h.answer Null) in
    let ordered = it.0 in
    let outputs = map (λ r. output number_query ([] ∷ r ∷ [])) tree in
    let kept : map (λ r. output number_query ([] ∷ r ∷ [])) (filter (λ r. true) tree) ≡ outputs = ap (map (λ r. output number_query ([] ∷ r ∷ []))) (all_pass tree) in
    let moved : IsPermutation outputs ordered = subst (λ k. IsPermutation k ordered) kept it.1 in
    let both : AllByRecursion IsBoth ordered = recursion_from_All IsBoth ordered (All-permutation IsBoth outputs ordered moved (All-from_recursion IsBoth outputs (all_both tree))) in
    record {
      numbers = subst (λ l. IsPermutation (map number_of tree) l) (sym it.3) (subst (λ l. IsPermutation l (map (λ (o : Output). o.1) ordered)) (shown_numbers tree) (IsPermutation-map (λ (o : Output). o.1) outputs ordered moved));
      sorted = subst (IsSorted by_rowid) (sym it.3) (sorted_shown ordered both it.2);
    }

-- ---- what was read says whether they are apart
pub all_apart : (db : Database) (last : Option ℤ) (given : List Row) → ListsNumbers db given → RiseTo last given → IsTrue true ↔ AreApart (db.trees 14)
all_apart db last given lists up =
    let it = lists_numbers db given lists in
    (λ _. (apart_as (db.trees 14) given it.numbers).0 (rise_apart last given up), λ _. refl)

pub some_together : (db : Database) (last : Option ℤ) (given : List Row) (row : Row) (rest : List Row) → ListsNumbers db (given ++ (row ∷ rest)) → RiseTo last given
    → ((n : ℤ) → rowid row ≡ Int n → ¬ (IsAbove last n)) → IsTrue false ↔ AreApart (db.trees 14)
some_together db last given row rest lists up off =
    let it = lists_numbers db (given ++ (row ∷ rest)) lists in (
      λ e. absurd (true≢false (sym e)),
      λ apart. absurd (not_apart last given row rest up it.sorted off ((apart_as (db.trees 14) (given ++ (row ∷ rest)) it.numbers).1 apart)),
    )
