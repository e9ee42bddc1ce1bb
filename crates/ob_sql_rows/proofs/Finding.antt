-- The command of a reference is found.
use Rattle.std.proofs.Common.{◌≡◌, ℕ, List, [], ◌∷◌, map, filter, codes, true, false, refl, sym, ap, subst, ◌∙◌, inl, inr, arith, true≢false}
use Rattle.std.specs.List.Sorted.{IsPermutation}
use Rattle.std.proofs.lemmas.List.Sorted.{IsPermutation-sym, IsPermutation-trans}
use Rattle.sqlite_trees.proofs.ListLemmas.{IsPermutation-filter, filter-map}
use Rattle.sqlite.specs.Order.{Row, column}
use Rattle.sqlite_schema.specs.declared.program.Program.{Program}
use Rattle.sqlite.specs.declared.types.Value.TheVariants.{Null, Text}
use Rattle.sqlite.specs.Term.{Term, col, op2}
use Rattle.sqlite.specs.Collation.TheVariants.{Binary}
use Rattle.sqlite_sql.specs.declared.ops.BinaryOp.TheVariants.{Compare}
use Rattle.sqlite_sql.specs.declared.ops.CompareOp.TheVariants.{Eq}
use Rattle.sqlite.specs.Command.TheVariants.{Select}
use Rattle.sqlite.specs.Listing.{understood, reads_listing}
use Rattle.sqlite.specs.Clock.{timed}
use Rattle.sqlite.specs.State.{State, Shown, ShowsRows, IsUnchanged}
use Rattle.sqlite_tied.specs.Compute.{everything}
use Rattle.sqlite.proofs.Callers.{IsPlain, command_of, reads_as}
use Rattle.ob_sql_rows.specs.Schema.{book_schema}
use Rattle.ob_sql_rows.specs.Rows.{Tables, shown, Holds, is_reference, Always}
use Rattle.ob_sql_rows.specs.Rules.{AreNumbered}
use Rattle.ob_sql_rows.specs.Steps.{Makes}
use Rattle.ob_sql_rows.specs.declared.table.Table.TheVariants.{Command}
use Rattle.ob_sql_rows.proofs.Queries.{whole}
use Rattle.ob_sql_rows.proofs.Answers.{answered}
use Rattle.ob_sql_rows.proofs.Failing.{query_accepted}
use Rattle.ob_sql_rows.specs.Queries.{IsAlwaysAnswered}

abbrev pub find_text : List ℕ
find_text = codes "SELECT id, ref, body FROM cmd WHERE ref = ?1"

find_is : command_of (understood book_schema find_text) ≡ Select (record { lets = []; body = whole (op2 (Compare Eq Binary) (col 1 2) (col 0 0) ∷ []) (col 1 0 ∷ col 1 2 ∷ col 1 3 ∷ []) 10 }) (codes "id" ∷ codes "ref" ∷ codes "body" ∷ [])
unfolding understood everything
find_is = refl

find_plain : IsPlain (understood book_schema find_text)
unfolding understood everything
find_plain = (refl, refl)

find_unlisted : reads_listing book_schema find_text ≡ false
unfolding understood everything
find_unlisted = refl

-- no database of a book refuses it
abbrev find_program : Program
find_program = record { lets = []; body = whole (op2 (Compare Eq Binary) (col 1 2) (col 0 0) ∷ []) (col 1 0 ∷ col 1 2 ∷ col 1 3 ∷ []) 10 }

pub find_answered : (reference : List ℕ) → IsAlwaysAnswered book_schema find_text (Text reference ∷ [])
unfolding understood everything
find_answered reference = record {
  whole = omega arith;
  given = refl;
  timeless = refl;
  plain = refl;
  accepted = query_accepted book_schema find_program (Text reference ∷ []) true≢false (λ db over. elim over [ inl none ↦ none | inr some ↦ some.4 ]);
}

-- a plain query changes nothing
shown_unchanged : (sql : List ℕ) (params : Row) (old new : State) (rows : List Row) → IsPlain (understood old.now.schema sql) → Shown sql params old new rows → IsUnchanged old new
unfolding Shown
shown_unchanged sql params old new rows plain h =
    let none = (subst IsPlain h.1.is plain).0 in
    let it = subst (ShowsRows old new sql h.0 (timed params h.0.formats h.1.now) rows) none h.2 in
    it.3

-- what is shown of the rows with the reference is the answer
pub finds : (old new : State) (reference : List ℕ) (rows : List Row) → old.now.schema ≡ book_schema → Shown find_text (Text reference ∷ []) old new rows
    → IsUnchanged old new × ((t : Tables) → Holds old.now.trees t → IsPermutation (filter (is_reference reference) (t Command)) rows)
finds old new reference rows has h =
    let read = reads_as find_text (Text reference ∷ []) old new book_schema has _ find_is find_plain find_unlisted rows h in
    let found : IsPermutation (map (shown Command) (filter (λ r. is_reference reference (shown Command r)) (old.now.trees 10))) rows =
    answered (op2 (Compare Eq Binary) (col 1 2) (col 0 0) ∷ []) (col 1 0 ∷ col 1 2 ∷ col 1 3 ∷ []) 10 old.now.trees (Text reference ∷ []) rows refl (read.answer Null) in (
      shown_unchanged find_text (Text reference ∷ []) old new rows (subst (λ s. IsPlain (understood s find_text)) (sym has) find_plain) h,
      λ t held. IsPermutation-trans _ _ _ (IsPermutation-sym _ _ (IsPermutation-filter (is_reference reference) _ _ (held.rows Command)))
          (subst (λ l. IsPermutation l rows) (sym (filter-map (is_reference reference) (shown Command) (old.now.trees 10))) found),
    )

-- a read is a step that changes nothing
pub stays_as : (old new : State) → IsUnchanged old new → old.in_transaction ≡ true → Makes old new Always (λ t. t)
stays_as old new same inside = record {
  live = same.0.was_open;
  stays = same.0.is_open;
  inside = same.0.mode ∙ inside;
  schema = λ has. ap (λ (d : Rattle.sqlite.specs.Effect.Database). d.schema) same.0.now_is ∙ has;
  sound = λ has whole. subst Rattle.sqlite.specs.Effect.IsDatabase (sym same.0.now_is) whole;
  holds = λ has t held _. subst (λ (d : Rattle.sqlite.specs.Effect.Database). Holds d.trees t) (sym same.0.now_is) held;
  numbered = λ has t held _ all. subst (λ (d : Rattle.sqlite.specs.Effect.Database). AreNumbered d.trees) (sym same.0.now_is) all;
}
