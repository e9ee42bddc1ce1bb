use Rattle.std.proofs.Common.{◌≡◌, [], ◌∷◌, ◌++◌, Some, sym, ap, subst, ◌∙◌, arith, rules, to_z-of_z, w64}
use Rattle.std.specs.Prelude.{FitsSigned}
use Rattle.sqlite.specs.Effect.{Database}
use Rattle.sqlite.specs.State.{HasCleanDisk}
use Rattle.sqlite.specs.Held.{state}
use Rattle.sqlite.proofs.Callers.{unchanged_then}
use Rattle.ob_sql_read.specs.Apart.{IsNextAbove, ListsNumbers, NumberStands}
use Rattle.ob_sql_read.proofs.Listing.{still_then}
use Rattle.ob_sql_read.proofs.NumberQuery.{all_apart, some_together}
use Rattle.ob_sql_read.proofs.RowNumbers.{RiseTo, rise_more}
use Rattle.ob_sql_read.proofs.Failing.{cause_of_error}
use Rattle.ob_sql_rows.proofs.Failing.{failed_after}
use Rattle.ob_sql_read.proofs.apart.rise.Goals as goal

pub returns-in-Other-clause-apart : goal.returns-in-Other-clause-apart
returns-in-Other-clause-apart g c late live v has begun =
    let old = state g.S.Store c.args.rows.now.conn.now in
    let mid = state g.S.Store c.rows.rows.conn.now in
    let new = c.next_number.new.rows.conn.now in
    let early : HasCleanDisk mid = omega (arith, c.next_number.ensures.survives.clean, late) in
    let was = c.rows.invariant.3 early in
    let schema = ap (λ (d : Database). d.schema) (was.0 live).0.now_is ∙ has in
    let so = was.1 live v has begun in
    let next = subst (λ n. NumberStands g.S.Store c.rows.last n new so.0) c.in-Other.is (c.in_ok-number.ensures.stands late v schema so.0 so.1) in
    let db : (state g.S.Store new).now ≡ old.now = (c.in_ok-number.ensures.same late).0.now_is ∙ (was.0 live).0.now_is in
    some_together old.now c.rows.last so.0 next.0 next.1 (subst (λ (d : Database). ListsNumbers d (so.0 ++ (next.0 ∷ next.1))) db next.2) so.2 next.3

pub returns-in-End-clause-apart : goal.returns-in-End-clause-apart
returns-in-End-clause-apart g c late live v has begun =
    let old = state g.S.Store c.args.rows.now.conn.now in
    let mid = state g.S.Store c.rows.rows.conn.now in
    let new = c.next_number.new.rows.conn.now in
    let early : HasCleanDisk mid = omega (arith, c.next_number.ensures.survives.clean, late) in
    let was = c.rows.invariant.3 early in
    let schema = ap (λ (d : Database). d.schema) (was.0 live).0.now_is ∙ has in
    let so = was.1 live v has begun in
    let next = subst (λ n. NumberStands g.S.Store c.rows.last n new so.0) c.in-End.is (c.in_ok-number.ensures.stands late v schema so.0 so.1) in
    let db : (state g.S.Store new).now ≡ old.now = (c.in_ok-number.ensures.same late).0.now_is ∙ (was.0 live).0.now_is in
    all_apart old.now c.rows.last so.0 (subst (λ (d : Database). ListsNumbers d so.0) db next) so.2

pub rows-preserved : goal.rows-preserved
rows-preserved g c =
    let old = state g.S.Store c.args.rows.now.conn.now in
    let mid = state g.S.Store c.rows.rows.conn.now in
    let new = c.next_number.new.rows.conn.now in
    let step = c.next_number.ensures in
    let fits : FitsSigned w64 c.in-Higher.number = search rules in
    let above = subst (IsNextAbove c.rows.last) c.in-Higher.is c.in_ok-number.ensures.above in (
      step.same_reference ∙ c.rows.invariant.0,
      still_then old mid (state g.S.Store new) c.rows.invariant.1 step.survives,
      λ idle. step.mode (c.rows.invariant.2 idle),
      λ late.
          let early : HasCleanDisk mid = omega (arith, step.survives.clean, late) in
          let was = c.rows.invariant.3 early in (
            λ live. unchanged_then old mid (state g.S.Store new) (was.0 live) (c.in_ok-number.ensures.same late),
            λ live v has begun.
                let schema = ap (λ (d : Database). d.schema) (was.0 live).0.now_is ∙ has in
                let so = was.1 live v has begun in
                let next = subst (λ n. NumberStands g.S.Store c.rows.last n new so.0) c.in-Higher.is (c.in_ok-number.ensures.stands late v schema so.0 so.1) in
                (so.0 ++ next.0 ∷ [], next.1, subst (λ n. RiseTo (Some n) (so.0 ++ next.0 ∷ [])) (sym (to_z-of_z fits)) (rise_more c.rows.last so.0 next.0 c.in-Higher.number so.2 next.2 above)),
          ),
      λ v t keeps. step.kept v t (c.rows.invariant.4 v t keeps),
    )

pub returns-in_err-number-clause-cause : goal.returns-in_err-number-clause-cause
returns-in_err-number-clause-cause g c late live v has begun =
    let old = state g.S.Store c.args.rows.now.conn.now in
    let mid = state g.S.Store c.rows.rows.conn.now in
    let new = state g.S.Store c.next_number.new.rows.conn.now in
    let early : HasCleanDisk mid = omega (arith, c.next_number.ensures.survives.clean, late) in
    let was = c.rows.invariant.3 early in
    let there = ap (λ (d : Database). d.schema) (was.0 live).0.now_is ∙ has in
    let so = was.1 live v has begun in
    cause_of_error old new c.from_residual.result _ c.from_residual.ensures.1
    (λ store. failed_after old mid new _ _ c.rows.invariant.1 early c.next_number.ensures.survives (c.in_err-number.ensures.cause late v there so.0 so.1 store))
