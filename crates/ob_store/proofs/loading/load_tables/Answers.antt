use Rattle.std.specs.Prelude.{⊤}
use Rattle.ob_book.specs.declared.book.Book.{Book}
use Rattle.ob_sql_rows.specs.declared.version.Version.TheVariants.{Two}
use Rattle.ob_store.specs.declared.led.Led.{Led}
use Rattle.ob_store.specs.Finding.{HasNoBook}
use Rattle.ob_store.specs.Leading.{IsLed}
use Rattle.ob_store.specs.Loading.{Holding, HoldsNoBook}
use Rattle.ob_store.proofs.Reading.{fails, then_good}
use Rattle.ob_store.proofs.loading.load_tables.Goals as goal

pub returns-in-Err-clause-finds : goal.returns-in-Err-clause-finds
returns-in-Err-clause-finds g c =
    fails g.S.Store Two (λ trees (l : Led g.row.T.Denot). IsLed trees l.book.state l.counted l.moved) HasNoBook (λ trees (b : Book g.row.T.Denot). Holding trees b.state) HoldsNoBook c.args.conn.now c.read_led.new.conn c.in-Err.stop (λ trees none b has. none b has.0) c.in-Err.ensures.finds

pub returns-in-Ok-check_led-clause-finds : goal.returns-in-Ok-check_led-clause-finds
returns-in-Ok-check_led-clause-finds g c =
    then_good g.S.Store Two (λ trees (done : ⊤). Holding trees c.in-Ok.led.book.state) HoldsNoBook (λ trees (b : Book g.row.T.Denot). Holding trees b.state) HoldsNoBook c.args.conn.now c.check_led.new.conn tt (c.in-Ok-check_led.ensures.finds c.args.conn.now c.in-Ok.ensures.finds) c.in-Ok.led.book (λ trees holds. holds)

pub returns-in-Err-check_led-clause-finds : goal.returns-in-Err-check_led-clause-finds
returns-in-Err-check_led-clause-finds g c =
    fails g.S.Store Two (λ trees (done : ⊤). Holding trees c.in-Ok.led.book.state) HoldsNoBook (λ trees (b : Book g.row.T.Denot). Holding trees b.state) HoldsNoBook c.args.conn.now c.check_led.new.conn c.in-Err-check_led.stop (λ trees none. none) (c.in-Err-check_led.ensures.finds c.args.conn.now c.in-Ok.ensures.finds)

pub returns-in-Ok-check_led-clause-searches : goal.returns-in-Ok-check_led-clause-searches
returns-in-Ok-check_led-clause-searches g c clean = c.in-Ok.ensures.searches (c.in-Ok-check_led.ensures.clean clean)
