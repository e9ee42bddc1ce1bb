use Rattle.std.proofs.Common.{◌≡◌, ◌∙◌, ap, ap₂, ℕ, ◌+◌, ◌-◌, ◌<◌, List, [], ◌∷◌, ◌++◌, max, min, ℤ, pos, ◌+ℤ◌, FitsSigned, arith, rules}
use Rattle.std.specs.Int.{w64, cast_signed, cast_unsigned}
use Rattle.std.proofs.lemmas.Int.{to_z-of_z}
use Rattle.ob_cust.specs.Service.{served_seconds}
use Rattle.ob_time.specs.Calendar.{IsInDay, bound_of, day_count, days_of}
use Rattle.ob_post.specs.declared.Dim.TheVariants.{Cause, Feeder}
use Rattle.ob_post.specs.declared.Moved.{Moved}
use Rattle.ob_post.specs.Moved.{delta_of}
use Rattle.ob_post.proofs.Served.{served_is}
use Rattle.ob_post.proofs.Running.{two_appended, day_appended, all_appended, old_stay, keys_stay}
use Rattle.ob_post.proofs.run_amounts.post_run.Goals as goal

-- two pushes onto the old rows
pushed : (old one two : List Moved) (z : ℤ) (j k cause feeder : ℕ) → one ≡ old ++ record { dim = Cause; key = j; delta = z } ∷ [] → two ≡ one ++ record { dim = Feeder; key = k; delta = z } ∷ []
    → j ≡ cause → k ≡ feeder → two ≡ (old ++ record { dim = Cause; key = cause; delta = z } ∷ []) ++ record { dim = Feeder; key = feeder; delta = z } ∷ []
pushed old one two z j k cause feeder o t p q =
    t
    ∙ ap (λ (xs : List Moved). xs ++ record { dim = Feeder; key = k; delta = z } ∷ []) o
    ∙ ap₂ (λ (a b : ℕ). (old ++ record { dim = Cause; key = a; delta = z } ∷ []) ++ record { dim = Feeder; key = b; delta = z } ∷ []) p q

pub loop-day-init : goal.loop-day-init
loop-day-init c =
    let held : IsInDay c.args.period.now c.unwrap-first.result c.args.run.now.since = search rules in
    let fits : FitsSigned w64 c.served_delta-delta.result = search rules in
    let z = cast_signed w64 (cast_unsigned w64 c.served_delta-delta.result) in
    let items : c.push-2.new.self.items ≡ (c.args.rows.now.items ++ record { dim = Cause; key = c.args.cause; delta = z } ∷ []) ++ record { dim = Feeder; key = c.args.feeder; delta = z } ∷ [] =
    pushed c.args.rows.now.items c.push.new.self.items c.push-2.new.self.items z c.from.result c.from-2.result c.args.cause c.args.feeder c.in_ok-push.ensures.items c.in_ok-push-2.ensures.items c.from.ensures c.from-2.ensures in
    two_appended c.args.roll.now.customers c.args.run.now c.args.cause c.args.feeder c.args.period.now c.args.rows.now.items c.push-2.new.self.items c.unwrap-first.result z c.first_second.ensures.kept held c.requires.cause c.requires.feeder (search rules) (to_z-of_z w64 c.served_delta-delta.result fits ∙ c.served_delta-delta.ensures) items

pub loop-day-preserved : goal.loop-day-preserved
loop-day-preserved c =
    let roll = c.args.roll.now.customers in
    let run = c.args.run.now in
    let period = c.args.period.now in
    let day = c.loop-day.day in
    let fits : FitsSigned w64 c.served_delta-delta-in-loop-day.result = search rules in
    let z = cast_signed w64 (cast_unsigned w64 c.served_delta-delta-in-loop-day.result) in
    let begins : c.unwrap-since.result.0 ≡ bound_of period day = search rules in
    let ends : c.unwrap-since.result.1 ≡ bound_of period (day + 1) = search rules in
    let since : c.max.result ≡ max run.since (bound_of period day) = search rules in
    let until : c.min.result ≡ min run.until (bound_of period (day + 1)) = search rules in
    let within : day < day_count period = search rules in
    let value : z ≡ pos (served_seconds roll run.section (max run.since (bound_of period day)) (min run.until (bound_of period (day + 1)))) =
    to_z-of_z w64 c.served_delta-delta-in-loop-day.result fits
    ∙ c.served_delta-delta-in-loop-day.ensures
    ∙ ap₂ (λ (a b : ℕ). pos (served_seconds roll run.section a b)) since until in
    day_appended roll run c.args.cause c.args.feeder period c.args.rows.now.items c.loop-day.rows.items c.push-in-loop-day.new.self.items day z c.loop-day.invariant within value c.in_ok-push-3.ensures.items

pub returns-in_err-push-3-clause-keys : goal.returns-in_err-push-3-clause-keys
returns-in_err-push-3-clause-keys c = λ keys.
    let same : c.push-in-loop-day.new.self.items ≡ c.loop-day.rows.items = search rules in
    keys_stay (day_count c.args.period.now) c.args.rows.now.items c.push-in-loop-day.new.self.items c.loop-day.invariant.more (same ∙ c.loop-day.invariant.appended) c.loop-day.invariant.amounts.keys keys

pub returns-in_err-push-3-clause-kept : goal.returns-in_err-push-3-clause-kept
returns-in_err-push-3-clause-kept c =
    let same : c.push-in-loop-day.new.self.items ≡ c.loop-day.rows.items = search rules in
    old_stay c.args.rows.now.items c.push-in-loop-day.new.self.items c.loop-day.invariant.more (same ∙ c.loop-day.invariant.appended)

pub returns-clause-served : goal.returns-clause-served
returns-clause-served c = λ dim key.
    let held : IsInDay c.args.period.now c.unwrap-last.result (c.args.run.now.until - 1) = search rules in
    all_appended c.args.roll.now.customers c.args.run.now c.args.cause c.args.feeder c.args.period.now c.args.rows.now.items c.loop-day.rows.items c.unwrap-last.result c.loop-day.day dim key c.first_second.ensures.kept held c.loop-day.invariant (omega arith)

pub returns-clause-amounts : goal.returns-clause-amounts
returns-clause-amounts c = λ dim key.
    returns-clause-served c dim key
    ∙ ap (λ (n : ℕ). delta_of c.args.rows.now.items dim key +ℤ pos n) (served_is c.args.roll.now.customers c.args.run.now c.args.cause c.args.feeder (days_of c.args.period.now) dim key (omega arith))

pub returns-clause-keys : goal.returns-clause-keys
returns-clause-keys c = λ keys. keys_stay (day_count c.args.period.now) c.args.rows.now.items c.loop-day.rows.items c.loop-day.invariant.more c.loop-day.invariant.appended c.loop-day.invariant.amounts.keys keys

pub returns-clause-kept : goal.returns-clause-kept
returns-clause-kept c = old_stay c.args.rows.now.items c.loop-day.rows.items c.loop-day.invariant.more c.loop-day.invariant.appended
