use Rattle.ob_sql_rows.specs.declared.version.Version.TheVariants.{Two}
use Rattle.ob_store.specs.declared.led.Led.{Led}
use Rattle.ob_store.specs.Finding.{HasNoBook}
use Rattle.ob_store.specs.Leading.{IsLed}
use Rattle.ob_store.specs.Loading.{Finding}
use Rattle.ob_store.proofs.Reading.{fails}
use Rattle.ob_store.proofs.Found.{found_so}
use Rattle.ob_store.proofs.loading.find_off.Goals as goal

pub returns-in-Err : goal.returns-in-Err
returns-in-Err g c =
    fails g.S.Store Two (λ trees (l : Led g.row.T.Denot). IsLed trees l.book.state l.counted l.moved) HasNoBook Finding HasNoBook c.args.conn.now c.read_led.new.conn c.in-Err.stop (λ trees none. none) c.in-Err.ensures.finds

pub returns : goal.returns
returns g c =
    found_so g.S.Store (λ (l : Led g.row.T.Denot). l.book.state) (λ (l : Led g.row.T.Denot). l.counted) (λ (l : Led g.row.T.Denot). l.moved) c.in-Ok.led c.args.conn.now c.read_led.new.conn c.first_off.new.conn c.in-Ok.ensures.finds c.first_off.result c.first_off.ensures
