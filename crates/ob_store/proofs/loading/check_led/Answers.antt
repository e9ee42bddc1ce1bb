use Rattle.std.proofs.Common.{◌≢◌, [], Ok, Err, inl, inr, refl, sym, subst, ◌∙◌}
use Rattle.ob_base.specs.declared.stop.Stop.{Stop}
use Rattle.std.specs.Prelude.{⊤}
use Rattle.ob_sql_rows.specs.Steps.{IsStoreFault}
use Rattle.ob_sql_read.specs.Reading.{bad_book}
use Rattle.ob_sql_rows.specs.declared.version.Version.TheVariants.{Two}
use Rattle.ob_store.specs.declared.led.Led.{Led}
use Rattle.ob_store.specs.Differing.{IsFirstOff, NoneSo}
use Rattle.ob_store.specs.Finding.{Finds}
use Rattle.ob_store.specs.Loading.{Holding, HoldsNoBook}
use Rattle.ob_store.proofs.Reading.{read_err, read_ok}
use Rattle.ob_store.proofs.Found.{Apart, apart_err, broken, found_err, found_off, loads}
use Rattle.ob_store.proofs.loading.check_led.Goals as goal

pub returns-in-Ok-Some-clause-finds : goal.returns-in-Ok-Some-clause-finds
returns-in-Ok-Some-clause-finds g c first read =
    found_off g.S.Store (λ (l : Led g.row.T.Denot). l.book.state) (λ (l : Led g.row.T.Denot). l.counted) (λ (l : Led g.row.T.Denot). l.moved) c.args.led.now first c.args.conn.now c.first_off.new.conn read (λ trees (done : ⊤). Holding trees c.args.led.now.book.state) _
    (λ b is. subst (λ o. Finds g.S.Store Two (IsFirstOff b c.args.led.now.counted c.args.led.now.moved) NoneSo c.args.conn.now c.first_off.new.conn (Ok o)) c.in-Ok-Some.field-0-is (c.in-Ok-Some.ensures b is))

pub returns-in-Err-clause-finds : goal.returns-in-Err-clause-finds
returns-in-Err-clause-finds g c first read =
    found_err g.S.Store (λ (l : Led g.row.T.Denot). l.book.state) (λ (l : Led g.row.T.Denot). l.counted) (λ (l : Led g.row.T.Denot). l.moved) c.args.led.now first c.args.conn.now c.first_off.new.conn read (λ trees (done : ⊤). Holding trees c.args.led.now.book.state) HoldsNoBook c.in-Err.stop c.in-Err.ensures

pub returns-in-Ok-true-clause-finds : goal.returns-in-Ok-true-clause-finds
returns-in-Ok-true-clause-finds g c first read =
    let e = c.in-Ok-true.ensures in
    let mid = c.first_off.new.conn in
    let end = c.are_apart.new.conn in
    let third : Finds g.S.Store Two Apart NoneSo mid end (Ok c.in-Ok-true.field-0) = read_ok g.S.Store Two Apart NoneSo mid end c.in-Ok-true.field-0 e.mode e.survives e.clean (e.kept Two) (λ clean. e.same clean Two) (λ clean. e.apart clean Two) in
    loads g.S.Store (λ (l : Led g.row.T.Denot). l.book.state) (λ (l : Led g.row.T.Denot). l.counted) (λ (l : Led g.row.T.Denot). l.moved) c.args.led.now first c.args.conn.now mid read end
    (λ b is. subst (λ o. Finds g.S.Store Two (IsFirstOff b c.args.led.now.counted c.args.led.now.moved) NoneSo c.args.conn.now mid (Ok o)) c.in-Ok-None.field-0-is (c.in-Ok-None.ensures b is))
    (λ (done : ⊤). c.args.led.now.book.state) tt refl c.in-Ok-true.field-0 c.in-Ok-true.field-0-test third

pub returns-in-Ok-false-clause-finds : goal.returns-in-Ok-false-clause-finds
returns-in-Ok-false-clause-finds g c first read =
    let e = c.in-Ok-false.ensures in
    let mid = c.first_off.new.conn in
    let end = c.are_apart.new.conn in
    let third : Finds g.S.Store Two Apart NoneSo mid end (Ok c.in-Ok-false.field-0) = read_ok g.S.Store Two Apart NoneSo mid end c.in-Ok-false.field-0 e.mode e.survives e.clean (e.kept Two) (λ clean. e.same clean Two) (λ clean. e.apart clean Two) in
    broken g.S.Store (λ (l : Led g.row.T.Denot). l.book.state) (λ (l : Led g.row.T.Denot). l.counted) (λ (l : Led g.row.T.Denot). l.moved) c.args.led.now first c.args.conn.now mid read end
    (λ b is. subst (λ o. Finds g.S.Store Two (IsFirstOff b c.args.led.now.counted c.args.led.now.moved) NoneSo c.args.conn.now mid (Ok o)) c.in-Ok-None.field-0-is (c.in-Ok-None.ensures b is))
    (λ trees (done : ⊤). Holding trees c.args.led.now.book.state) HoldsNoBook c.in-Ok-false.field-0 c.in-Ok-false.field-0-test third

no_other : (stop : Stop) → IsStoreFault stop → stop ≢ bad_book
no_other stop (inl memory) bad = absurd (let e = sym memory ∙ bad in cc)
no_other stop (inr store) bad = absurd (let e = sym store ∙ bad in cc)

pub returns-in-Err-are_apart-clause-finds : goal.returns-in-Err-are_apart-clause-finds
returns-in-Err-are_apart-clause-finds g c first read =
    let it = c.in-Err-are_apart in
    let e = it.ensures in
    let mid = c.first_off.new.conn in
    let end = c.are_apart.new.conn in
    let third : Finds g.S.Store Two Apart NoneSo mid end (Err it.stop) = read_err g.S.Store Two Apart NoneSo mid end it.stop e.mode e.survives e.clean (e.kept Two) (inl e.faults) (λ clean. e.cause clean Two) (λ clean bad. absurd (no_other it.stop e.faults bad)) in
    apart_err g.S.Store (λ (l : Led g.row.T.Denot). l.book.state) (λ (l : Led g.row.T.Denot). l.counted) (λ (l : Led g.row.T.Denot). l.moved) c.args.led.now first c.args.conn.now mid read end
    (λ b is. subst (λ o. Finds g.S.Store Two (IsFirstOff b c.args.led.now.counted c.args.led.now.moved) NoneSo c.args.conn.now mid (Ok o)) c.in-Ok-None.field-0-is (c.in-Ok-None.ensures b is))
    (λ trees (done : ⊤). Holding trees c.args.led.now.book.state) HoldsNoBook it.stop third

pub returns-in-Ok-Some-clause-clean : goal.returns-in-Ok-Some-clause-clean
returns-in-Ok-Some-clause-clean g c = (c.in-Ok-Some.ensures (record { book = c.args.led.now.book.state; accepted = [] }) refl).clean

pub returns-in-Err-clause-clean : goal.returns-in-Err-clause-clean
returns-in-Err-clause-clean g c = (c.in-Err.ensures (record { book = c.args.led.now.book.state; accepted = [] }) refl).clean

pub returns-in-Ok-true-clause-clean : goal.returns-in-Ok-true-clause-clean
returns-in-Ok-true-clause-clean g c clean = (c.in-Ok-None.ensures (record { book = c.args.led.now.book.state; accepted = [] }) refl).clean (c.in-Ok-true.ensures.clean clean)

pub returns-in-Ok-false-clause-clean : goal.returns-in-Ok-false-clause-clean
returns-in-Ok-false-clause-clean g c clean = (c.in-Ok-None.ensures (record { book = c.args.led.now.book.state; accepted = [] }) refl).clean (c.in-Ok-false.ensures.clean clean)

pub returns-in-Err-are_apart-clause-clean : goal.returns-in-Err-are_apart-clause-clean
returns-in-Err-are_apart-clause-clean g c clean = (c.in-Ok-None.ensures (record { book = c.args.led.now.book.state; accepted = [] }) refl).clean (c.in-Err-are_apart.ensures.clean clean)
