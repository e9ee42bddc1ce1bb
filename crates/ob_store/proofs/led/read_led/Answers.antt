use Rattle.std.proofs.Common.{List, is_some, true≢false, sym, ap, subst, ◌∙◌}
use Rattle.sqlite.specs.Held.{state}
use Rattle.ob_sql_read.specs.declared.filed.Filed.{Filed}
use Rattle.ob_sql_read.specs.Listing.{filed_of}
use Rattle.ob_sql_read.specs.Distinct.{AreDistinct}
use Rattle.ob_sql_rows.specs.declared.version.Version.TheVariants.{Two}
use Rattle.ob_store.specs.declared.led.Led.{Led}
use Rattle.ob_store.specs.Finding.{HasNoBook, IsNamed}
use Rattle.ob_store.specs.Leading.{IsLed}
use Rattle.ob_store.proofs.Laws.{laws_now as laws_of}
use Rattle.ob_store.proofs.Reading.{fails}
use Rattle.ob_store.proofs.Leads.{led_at, led_fails, led_no_memory, led_nowhere, led_twice}
use Rattle.ob_store.proofs.Searching.{searched_for}
use Rattle.ob_store.proofs.led.read_led.Goals as goal

pub returns-in-Err-clause-finds : goal.returns-in-Err-clause-finds
returns-in-Err-clause-finds g c =
    fails g.S.Store Two (IsNamed Two) HasNoBook (λ trees (l : Led g.row.T.Denot). IsLed trees l.book.state l.counted l.moved) HasNoBook c.args.conn.now c.read_named.new.conn c.in-Err.stop (λ trees none. none) c.in-Err.ensures.finds

pub returns-in-Ok-false-clause-finds : goal.returns-in-Ok-false-clause-finds
returns-in-Ok-false-clause-finds g c =
    let it = c.in-Ok.named in
    led_twice g.S.Store (λ (l : Led g.row.T.Denot). l.book.state) (λ (l : Led g.row.T.Denot). l.counted) (λ (l : Led g.row.T.Denot). l.moved) it c.args.conn.now c.read_named.new.conn c.in-Ok.ensures.finds (laws_of c.naming_law.ensures.few c.reaching_law.ensures.accepted c.reaching_law.ensures.reached c.reaching_law.ensures.moved c.next_law.ensures.period (c.reaching_law.ensures.ordered Two))
    (λ distinct. absurd (true≢false (sym (c.in-Ok-false.ensures.distinct.1 (subst (λ (l : List Filed). AreDistinct (filed_of l)) (sym c.deref.ensures.value) distinct)) ∙ c.in-Ok-false.field-0-test)))

pub returns-in-Err-are_distinct-clause-finds : goal.returns-in-Err-are_distinct-clause-finds
returns-in-Err-are_distinct-clause-finds g c =
    led_no_memory g.S.Store (λ (l : Led g.row.T.Denot). l.book.state) (λ (l : Led g.row.T.Denot). l.counted) (λ (l : Led g.row.T.Denot). l.moved) c.in-Ok.named c.args.conn.now c.read_named.new.conn c.in-Ok.ensures.finds (laws_of c.naming_law.ensures.few c.reaching_law.ensures.accepted c.reaching_law.ensures.reached c.reaching_law.ensures.moved c.next_law.ensures.period (c.reaching_law.ensures.ordered Two))
    c.in-Err-are_distinct.stop c.in-Err-are_distinct.ensures.faults

pub returns-in-Ok-Some-clause-finds : goal.returns-in-Ok-Some-clause-finds
returns-in-Ok-Some-clause-finds g c =
    let it = c.in-Ok.named in
    let led = rw c.in-Ok-Some.field-0-is at c.in-Ok-Some.ensures.led in
    let distinct : AreDistinct (filed_of it.commands.items) = subst (λ (l : List Filed). AreDistinct (filed_of l)) c.deref.ensures.value (c.in-Ok-true.ensures.distinct.0 c.in-Ok-true.field-0-test) in
    led_at g.S.Store (λ (l : Led g.row.T.Denot). l.book.state) (λ (l : Led g.row.T.Denot). l.counted) (λ (l : Led g.row.T.Denot). l.moved) it c.args.conn.now c.read_named.new.conn c.in-Ok.ensures.finds (laws_of c.naming_law.ensures.few c.reaching_law.ensures.accepted c.reaching_law.ensures.reached c.reaching_law.ensures.moved c.next_law.ensures.period (c.reaching_law.ensures.ordered Two))
    c.follow.new.conn c.in-Ok-Some.field-0 c.in-Ok-Some.ensures.finds distinct c.in-Ok-Some.led led.0 led.3 (ap is_some c.in-Ok-Some.field-0-is ∙ sym led.2)

pub returns-in-Ok-again-clause-finds : goal.returns-in-Ok-again-clause-finds
returns-in-Ok-again-clause-finds g c =
    let it = c.in-Ok.named in
    let led = c.in-Ok-again.ensures.led in
    let distinct : AreDistinct (filed_of it.commands.items) = subst (λ (l : List Filed). AreDistinct (filed_of l)) c.deref.ensures.value (c.in-Ok-true.ensures.distinct.0 c.in-Ok-true.field-0-test) in
    led_at g.S.Store (λ (l : Led g.row.T.Denot). l.book.state) (λ (l : Led g.row.T.Denot). l.counted) (λ (l : Led g.row.T.Denot). l.moved) it c.args.conn.now c.read_named.new.conn c.in-Ok.ensures.finds (laws_of c.naming_law.ensures.few c.reaching_law.ensures.accepted c.reaching_law.ensures.reached c.reaching_law.ensures.moved c.next_law.ensures.period (c.reaching_law.ensures.ordered Two))
    c.follow.new.conn c.in-Ok-None.field-0 c.in-Ok-None.ensures.finds distinct c.in-Ok-again.led led.0 led.3 (ap is_some c.in-Ok-None.field-0-is ∙ sym led.2)

pub returns-in-Ok-None-clause-finds : goal.returns-in-Ok-None-clause-finds
returns-in-Ok-None-clause-finds g c =
    led_nowhere g.S.Store (λ (l : Led g.row.T.Denot). l.book.state) (λ (l : Led g.row.T.Denot). l.counted) (λ (l : Led g.row.T.Denot). l.moved) c.in-Ok.named c.args.conn.now c.read_named.new.conn c.in-Ok.ensures.finds (laws_of c.naming_law.ensures.few c.reaching_law.ensures.accepted c.reaching_law.ensures.reached c.reaching_law.ensures.moved c.next_law.ensures.period (c.reaching_law.ensures.ordered Two))
    c.follow.new.conn c.in-Ok-None.field-0 c.in-Ok-None.ensures.finds c.in-Err-again.stop c.in-Err-again.ensures.faults c.in-Err-again.ensures.nowhere

pub returns-clause-finds : goal.returns-clause-finds
returns-clause-finds g c =
    led_fails g.S.Store (λ (l : Led g.row.T.Denot). l.book.state) (λ (l : Led g.row.T.Denot). l.counted) (λ (l : Led g.row.T.Denot). l.moved) c.in-Ok.named c.args.conn.now c.read_named.new.conn c.in-Ok.ensures.finds (laws_of c.naming_law.ensures.few c.reaching_law.ensures.accepted c.reaching_law.ensures.reached c.reaching_law.ensures.moved c.next_law.ensures.period (c.reaching_law.ensures.ordered Two))
    c.follow.new.conn c.in-Err-follow.stop c.in-Err-follow.ensures.finds

pub returns-in-Ok-Some-clause-searches : goal.returns-in-Ok-Some-clause-searches
returns-in-Ok-Some-clause-searches g c clean schema =
    let named = c.in-Ok.ensures.finds.good (c.in-Ok-Some.ensures.finds.clean clean) schema in
    searched_for g.T.Timeline.bound (laws_of c.naming_law.ensures.few c.reaching_law.ensures.accepted c.reaching_law.ensures.reached c.reaching_law.ensures.moved c.next_law.ensures.period (c.reaching_law.ensures.ordered Two))
    (state g.S.Store c.args.conn.now).now.trees c.in-Ok.named named c.in-Ok-Some.led.book.searches (rw c.in-Ok-Some.field-0-is at c.in-Ok-Some.ensures.searches)

pub returns-in-Ok-again-clause-searches : goal.returns-in-Ok-again-clause-searches
returns-in-Ok-again-clause-searches g c clean schema =
    let named = c.in-Ok.ensures.finds.good (c.in-Ok-None.ensures.finds.clean clean) schema in
    searched_for g.T.Timeline.bound (laws_of c.naming_law.ensures.few c.reaching_law.ensures.accepted c.reaching_law.ensures.reached c.reaching_law.ensures.moved c.next_law.ensures.period (c.reaching_law.ensures.ordered Two))
    (state g.S.Store c.args.conn.now).now.trees c.in-Ok.named named c.in-Ok-again.led.book.searches c.in-Ok-again.ensures.searches
