use Rattle.std.proofs.Common.{◌≡◌, ◌+◌, ◌-◌, ◌≤◌, suc, sym, ap, subst, ◌∙◌, arith, filter}
use Rattle.std.specs.List.Sorted.{IsPermutation}
use Rattle.std.proofs.lemmas.List.Sorted.{IsPermutation-refl}
use Rattle.ob_time.specs.Calendar.{day_count}
use Rattle.ob_post.specs.MoveLaws.{change_from}
use Rattle.ob_state.specs.Amounts.{amount, moves}
use Rattle.ob_book.specs.Acts.{book_at}
use Rattle.ob_sql_rows.specs.Rows.{is_key}
use Rattle.ob_sql_rows.specs.declared.table.Table.TheVariants as tables
use Rattle.ob_record.specs.Tables.{rows_of_moves, tables_of}
use Rattle.ob_store.proofs.Replying.{moves_of_reply, period_at, small_keys}
use Rattle.ob_store.proofs.stored.stored_reply.Goals as goal

pub returns-in-Ok-clause-kept : goal.returns-in-Ok-clause-kept
returns-in-Ok-clause-kept g c b keeps =
    record { kept = c.stored_moves.ensures.kept (tables_of b) keeps.kept; reached = keeps.reached; valid = keeps.valid }

pub returns-in-Err-clause-kept : goal.returns-in-Err-clause-kept
returns-in-Err-clause-kept g c b keeps =
    record { kept = c.stored_moves.ensures.kept (tables_of b) keeps.kept; reached = keeps.reached; valid = keeps.valid }

pub returns-in-Ok-clause-reply : goal.returns-in-Ok-clause-reply
returns-in-Ok-clause-reply g c clean b keeps least most =
    let id = c.args.«no» in
    let i = id - 1 in
    let number : 1 + i ≡ id = omega (arith, least) in
    let after : suc i ≡ id = omega (arith, least) in
    let old = book_at b i in
    let new = book_at b id in
    let expected = moves old new in
    let rows : filter (is_key id) (tables_of b tables.Moved) ≡ rows_of_moves id expected =
    subst (λ k. filter (is_key k) (tables_of b tables.Moved) ≡ rows_of_moves k (moves old (book_at b (suc i)))) number (moves_of_reply b i (omega (arith, least, most)))
    ∙ ap (λ k. rows_of_moves id (moves old (book_at b k))) after in
    let same = subst (λ x. IsPermutation x (rows_of_moves id expected)) (sym rows) (IsPermutation-refl (rows_of_moves id expected)) in
    let order = c.move_laws.ensures.order (change_from (amount old) (amount new)) (day_count old.period) in
    let given = c.in-Ok.ensures.found clean (tables_of b) keeps.kept expected order same in
    ap (λ m. record { number = id; moved = m }) (c.new.ensures ∙ given)

pub returns-in-Err-clause-cause : goal.returns-in-Err-clause-cause
returns-in-Err-clause-cause g c clean b keeps least most =
    let id = c.args.«no» in
    let i = id - 1 in
    let number : 1 + i ≡ id = omega (arith, least) in
    let after : suc i ≡ id = omega (arith, least) in
    let old = book_at b i in
    let new = book_at b id in
    let expected = moves old new in
    let rows : filter (is_key id) (tables_of b tables.Moved) ≡ rows_of_moves id expected =
    subst (λ k. filter (is_key k) (tables_of b tables.Moved) ≡ rows_of_moves k (moves old (book_at b (suc i)))) number (moves_of_reply b i (omega (arith, least, most)))
    ∙ ap (λ k. rows_of_moves id (moves old (book_at b k))) after in
    let same = subst (λ x. IsPermutation x (rows_of_moves id expected)) (sym rows) (IsPermutation-refl (rows_of_moves id expected)) in
    let days : day_count old.period ≡ day_count b.book.period = ap day_count (period_at c.next_law.ensures.period b i) in
    let few : day_count old.period ≤ 366 = omega (arith, days, keeps.reached.period.period.days_in) in
    let keys = c.move_laws.ensures.keys (change_from (amount old) (amount new)) (day_count old.period) in
    c.in-Err.ensures.cause clean (tables_of b) keeps.kept expected same (small_keys (day_count old.period) few expected keys)
