use Rattle.std.proofs.Common.{Err, ap, subst, ◌∙◌}
use Rattle.sqlite.specs.Effect.{Database}
use Rattle.ob_book.specs.declared.book.Book.{Book}
use Rattle.ob_store.specs.Loading.{Holding, HoldsNoBook}
use Rattle.ob_store.proofs.Asking.{answers, asks_err, asks_then, whatever}
use Rattle.ob_store.proofs.Telling.{tells_err, then_tables}
use Rattle.ob_store.specs.Searching.{IsSearchedFor}
use Rattle.ob_store.proofs.Reading.{if_ok}
use Rattle.ob_store.proofs.loading.load_on.Goals as goal

pub returns-in-Ok-clause-tells : goal.returns-in-Ok-clause-tells
returns-in-Ok-clause-tells g c =
    then_tables g.S.Store (λ trees (b : Book g.row.T.Denot). Holding trees b.state) HoldsNoBook c.args.conn.now c.check_version.new.conn c.load_tables.new.conn c.load_tables.result c.in-Ok.ensures.tells c.load_tables.ensures.finds

pub returns-in-Ok-clause-answers : goal.returns-in-Ok-clause-answers
returns-in-Ok-clause-answers g c =
    answers g.S.Store c.args.conn.now c.load_tables.new.conn c.load_tables.result
    (asks_then g.S.Store (λ trees (b : Book g.row.T.Denot). Holding trees b.state) HoldsNoBook c.args.conn.now c.check_version.new.conn c.load_tables.new.conn c.load_tables.result c.in-Ok.ensures.tells c.in-Ok.ensures.asks c.load_tables.ensures.finds)
    (λ clean. whatever c.load_tables.result (c.in-Ok.ensures.shape (c.load_tables.ensures.finds.clean clean)))
    (then_tables g.S.Store (λ trees (b : Book g.row.T.Denot). Holding trees b.state) HoldsNoBook c.args.conn.now c.check_version.new.conn c.load_tables.new.conn c.load_tables.result c.in-Ok.ensures.tells c.load_tables.ensures.finds).cause

pub returns-in-Err-clause-tells : goal.returns-in-Err-clause-tells
returns-in-Err-clause-tells g c =
    tells_err g.S.Store (λ trees (b : Book g.row.T.Denot). Holding trees b.state) HoldsNoBook c.args.conn.now c.check_version.new.conn c.in-Err.stop c.in-Err.ensures.tells

pub returns-in-Err-clause-answers : goal.returns-in-Err-clause-answers
returns-in-Err-clause-answers g c =
    answers g.S.Store c.args.conn.now c.check_version.new.conn (Err c.in-Err.stop) (asks_err g.S.Store c.args.conn.now c.check_version.new.conn c.in-Err.stop c.in-Err.ensures.asks) (λ clean. tt) c.in-Err.ensures.tells.cause

-- the look at the version left the tables as they were
pub returns-in-Ok-clause-searches : goal.returns-in-Ok-clause-searches
returns-in-Ok-clause-searches g c clean =
    if_ok c.load_tables.result (c.load_tables.ensures.searches clean) (λ book held schema.
    let is = (c.in-Ok.ensures.tells.same (c.load_tables.ensures.finds.clean clean) schema).0.now_is in
    subst (λ (d : Database). IsSearchedFor g.T.Timeline.bound d.trees book.searches) is (held (ap (λ (d : Database). d.schema) is ∙ schema)))
