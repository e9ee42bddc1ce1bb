use Rattle.std.proofs.Common.{List, ℕ, sym, subst, IsPermutation}
use Rattle.std.proofs.lemmas.List.Sorted.{IsPermutation-map, IsPermutation-sym}
use Rattle.std.specs.Borrow.{Bor}
use Rattle.ob_sql_read.specs.Distinct.{shown_texts, texts_of}
use Rattle.ob_sql_read.proofs.Twins.{apart_moved, apart_texts, texts_apart}
use Rattle.ob_sql_read.proofs.distinct.are_distinct.Goals as goal

pub returns-clause-distinct : goal.returns-clause-distinct
returns-clause-distinct c =
    let list = c.args.commands.now in
    let sorted = c.deref.result.now in
    let before = c.in_ok-references.references.items in
    let moves = subst (IsPermutation before) (sym c.deref.ensures.value) c.sort_unstable.ensures.permutation in
    let moved = IsPermutation-map (λ (b : Bor (List ℕ)). b.now) before sorted moves in
    let there = subst (λ texts. IsPermutation texts (shown_texts sorted)) c.in_ok-references.ensures.references moved in (
      λ is. apart_texts list (apart_moved (shown_texts sorted) (texts_of list) (IsPermutation-sym _ _ there) (c.have_no_twins.ensures.0 is)),
      λ apart. c.have_no_twins.ensures.1 (apart_moved (texts_of list) (shown_texts sorted) there (texts_apart list apart)),
    )
