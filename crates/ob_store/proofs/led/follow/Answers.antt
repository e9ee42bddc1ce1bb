use Rattle.std.proofs.Common.{Bool, Some, None, Ok, is_some, true, refl, ap, subst, ◌∙◌}
use Rattle.sqlite.specs.Held.{state}
use Rattle.ob_store.specs.Finding.{Finds}
use Rattle.ob_store.specs.Leading.{HasNoPeriodOf, MovesAre}
use Rattle.ob_store.proofs.Reading.{none_read, read_err, read_ok, then_good}
use Rattle.ob_store.proofs.Leading.{led_by, moves_found}
use Rattle.ob_store.proofs.Searching.{searched_by}
use Rattle.ob_store.proofs.led.follow.Goals as goal

pub returns-in-Err-clause-finds : goal.returns-in-Err-clause-finds
returns-in-Err-clause-finds g c =
    none_read g.S.Store c.args.version (λ trees found. MovesAre c.args.version c.args.named.now trees (is_some found)) (λ _. HasNoPeriodOf c.args.named.now.heading) c.args.conn.now c.in-Err.stop c.in-Err.ensures.faults (λ is trees. c.in-Err.ensures.none is)

pub returns-in-Ok-true-clause-led : goal.returns-in-Ok-true-clause-led
returns-in-Ok-true-clause-led g c =
    let it = c.args.named.now in
    let begun = c.in-Ok.ensures.begun in
    let first = c.in-Ok.led.book.state in
    let s = c.holds_moves.new.book.state in
    let accepted = c.in-Ok-true.is ∙ ap Ok c.in-Ok-true.field-0-test in (
      led_by c.args.version it first begun.new c.deref.result.now c.deref.ensures.value s (c.holds_moves.ensures.book accepted),
      c.holds_moves.ensures.noted accepted begun.laid_out,
      refl,
      c.in-Ok.ensures.counted,
    )

pub returns-in-Ok-true-clause-finds : goal.returns-in-Ok-true-clause-finds
returns-in-Ok-true-clause-finds g c =
    let it = c.args.named.now in
    let old = c.args.conn.now in
    let new = c.holds_moves.new.conn in
    let e = c.in-Ok-true.ensures in
    let read : Finds g.S.Store c.args.version (λ trees (found : Bool). MovesAre c.args.version it trees found) (λ _. HasNoPeriodOf it.heading) old new (Ok c.in-Ok-true.field-0) =
    read_ok g.S.Store c.args.version (λ trees (found : Bool). MovesAre c.args.version it trees found) (λ _. HasNoPeriodOf it.heading) old new c.in-Ok-true.field-0 e.mode e.survives e.clean (e.kept c.args.version) (λ clean. e.same clean c.args.version) (λ clean schema.
    moves_found c.args.version it c.in-Ok.led.book.state c.in-Ok.ensures.begun.new c.deref.result.now c.deref.ensures.value (state g.S.Store old).now.trees c.in-Ok-true.field-0 c.in-Ok-true.field-0 refl (e.moved clean c.args.version schema)) in
    then_good g.S.Store c.args.version (λ trees (found : Bool). MovesAre c.args.version it trees found) (λ _. HasNoPeriodOf it.heading) (λ trees found. MovesAre c.args.version it trees (is_some found)) (λ _. HasNoPeriodOf it.heading) old new c.in-Ok-true.field-0 read
    (Some (record { book = c.holds_moves.new.book; layout = c.holds_moves.new.noted; counted = c.in-Ok.led.counted; moved = true })) (λ trees are. subst (MovesAre c.args.version it trees) c.in-Ok-true.field-0-test are)

pub returns-in-Ok-false-clause-finds : goal.returns-in-Ok-false-clause-finds
returns-in-Ok-false-clause-finds g c =
    let it = c.args.named.now in
    let old = c.args.conn.now in
    let new = c.holds_moves.new.conn in
    let e = c.in-Ok-false.ensures in
    let read : Finds g.S.Store c.args.version (λ trees (found : Bool). MovesAre c.args.version it trees found) (λ _. HasNoPeriodOf it.heading) old new (Ok c.in-Ok-false.field-0) =
    read_ok g.S.Store c.args.version (λ trees (found : Bool). MovesAre c.args.version it trees found) (λ _. HasNoPeriodOf it.heading) old new c.in-Ok-false.field-0 e.mode e.survives e.clean (e.kept c.args.version) (λ clean. e.same clean c.args.version) (λ clean schema.
    moves_found c.args.version it c.in-Ok.led.book.state c.in-Ok.ensures.begun.new c.deref.result.now c.deref.ensures.value (state g.S.Store old).now.trees c.in-Ok-false.field-0 c.in-Ok-false.field-0 refl (e.moved clean c.args.version schema)) in
    then_good g.S.Store c.args.version (λ trees (found : Bool). MovesAre c.args.version it trees found) (λ _. HasNoPeriodOf it.heading) (λ trees found. MovesAre c.args.version it trees (is_some found)) (λ _. HasNoPeriodOf it.heading) old new c.in-Ok-false.field-0 read
    None (λ trees are. subst (MovesAre c.args.version it trees) c.in-Ok-false.field-0-test are)

pub returns-in-Err-holds_moves-clause-finds : goal.returns-in-Err-holds_moves-clause-finds
returns-in-Err-holds_moves-clause-finds g c =
    let it = c.args.named.now in
    let e = c.in-Err-holds_moves.ensures in
    read_err g.S.Store c.args.version (λ trees found. MovesAre c.args.version it trees (is_some found)) (λ _. HasNoPeriodOf it.heading) c.args.conn.now c.holds_moves.new.conn c.in-Err-holds_moves.stop e.mode e.survives e.clean (e.kept c.args.version) e.faults (λ clean. e.cause clean c.args.version) (λ clean bad. e.foreign clean bad c.args.version)

pub returns-in-Ok-true-clause-searches : goal.returns-in-Ok-true-clause-searches
returns-in-Ok-true-clause-searches g c =
    searched_by g.T.Timeline.bound c.args.named.now c.in-Ok.led.book.state c.in-Ok.ensures.begun.new c.deref.result.now c.deref.ensures.value c.holds_moves.new.book.searches c.in-Ok.led.book.searches c.in-Ok.ensures.searches c.holds_moves.ensures.searches
