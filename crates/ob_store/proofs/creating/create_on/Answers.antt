use Rattle.std.proofs.Common.{◌≡◌, inr, Err, sym, ap, ◌∙◌, pos, ◌+ℤ◌, arith}
use Rattle.std.proofs.lemmas.Int.{ints}
use Rattle.ob_time.specs.Dates.{day_text}
use Rattle.ob_time.specs.Moment.{IsTextOfDay}
use Rattle.ob_store.proofs.Beginning.{caused, no_memory, no_period, none_refused, kept, failed}
use Rattle.ob_store.proofs.Failing.{no_store}
use Rattle.ob_store.proofs.creating.create_on.Goals as goal

pub returns-in-Err-clause-creates : goal.returns-in-Err-clause-creates
returns-in-Err-clause-creates g c =
    no_period g.S.Store c.args.conn.now c.args.first.now c.args.days c.args.zone.now c.in-Err.stop c.in-Err.ensures.errors (λ e. c.in-Err.ensures.refused.0 (ap Err e))

pub returns-in-Err-date_text-clause-creates : goal.returns-in-Err-date_text-clause-creates
returns-in-Err-date_text-clause-creates g c = no_memory g.S.Store c.args.conn.now c.args.first.now c.args.days c.args.zone.now c.in-Err-date_text.stop c.in-Err-date_text.ensures.errors

pub returns-in-Err-new-clause-creates : goal.returns-in-Err-new-clause-creates
returns-in-Err-new-clause-creates g c = no_memory g.S.Store c.args.conn.now c.args.first.now c.args.days c.args.zone.now c.in-Err-new.stop c.in-Err-new.ensures.err

pub returns-in-Ok-commit_new-clause-creates : goal.returns-in-Ok-commit_new-clause-creates
returns-in-Ok-commit_new-clause-creates g c =
    let p = c.in-Ok.period in
    let text = c.as_bytes.result.now in
    let of_text = c.in-Ok.ensures.ok in
    let at : p.first_day +ℤ pos 0 ≡ p.first_day = omega (arith, ints) in
    let text_is : text ≡ day_text p.first_day = c.as_bytes.ensures.value ∙ c.in-Ok-date_text.ensures.value ∙ ap day_text at in
    let dated : IsTextOfDay c.args.first.now (p.first_day +ℤ pos 0) = (of_text.date, sym of_text.period.first ∙ sym at, of_text.date_is) in
    let first_is : c.args.first.now ≡ text = c.in-Ok-date_text.ensures.only c.args.first.now dated ∙ sym c.as_bytes.ensures.value in (
      p,
      of_text,
      record { schema = c.in-Ok-commit_new.ensures.empty (λ e. absurd cc); live = c.in-Ok-commit_new.ensures.live },
      kept p c.args.first.now text c.args.days c.args.zone.now of_text text_is first_is g.S.Store c.args.conn.now c.commit_new.new.conn c.reached_law.ensures.empty c.reached_law.ensures.starts c.in-Ok-commit_new.ensures.done,
      c.in-Ok-new.ensures.state,
    )

pub returns-in-Ok-commit_new-clause-clean : goal.returns-in-Ok-commit_new-clause-clean
returns-in-Ok-commit_new-clause-clean g c clean = let it = c.in-Ok-commit_new.ensures.survives in omega (arith, it.clean, clean)

pub returns-clause-clean : goal.returns-clause-clean
returns-clause-clean g c clean = let it = c.in-Err-commit_new.ensures.survives in omega (arith, it.clean, clean)

pub returns-clause-creates : goal.returns-clause-creates
returns-clause-creates g c =
    let p = c.in-Ok.period in
    let text = c.as_bytes.result.now in
    let of_text = c.in-Ok.ensures.ok in
    let at : p.first_day +ℤ pos 0 ≡ p.first_day = omega (arith, ints) in
    let text_is : text ≡ day_text p.first_day = c.as_bytes.ensures.value ∙ c.in-Ok-date_text.ensures.value ∙ ap day_text at in
    let dated : IsTextOfDay c.args.first.now (p.first_day +ℤ pos 0) = (of_text.date, sym of_text.period.first ∙ sym at, of_text.date_is) in
    let first_is : c.args.first.now ≡ text = c.in-Ok-date_text.ensures.only c.args.first.now dated ∙ sym c.as_bytes.ensures.value in
    let it = c.in-Err-commit_new in
    failed p c.args.first.now text c.args.days c.args.zone.now of_text text_is first_is g.S.Store c.args.conn.now c.commit_new.new.conn c.reached_law.ensures.empty c.reached_law.ensures.starts (λ clean. omega (arith, it.ensures.survives.clean, clean))
    it.stop it.ensures.faults (λ e. it.ensures.refused.0 (ap Err e)) it.ensures.same it.ensures.either

pub returns-in-Err-clause-cause : goal.returns-in-Err-clause-cause
returns-in-Err-clause-cause g c clean = none_refused c.in-Err.stop c.in-Err.ensures.errors

pub returns-in-Err-date_text-clause-cause : goal.returns-in-Err-date_text-clause-cause
returns-in-Err-date_text-clause-cause g c clean = no_store c.in-Err-date_text.stop (inr c.in-Err-date_text.ensures.errors)

pub returns-in-Err-new-clause-cause : goal.returns-in-Err-new-clause-cause
returns-in-Err-new-clause-cause g c clean = no_store c.in-Err-new.stop (inr c.in-Err-new.ensures.err)

pub returns-clause-cause : goal.returns-clause-cause
returns-clause-cause g c clean =
    let p = c.in-Ok.period in
    let text = c.as_bytes.result.now in
    let of_text = c.in-Ok.ensures.ok in
    let at : p.first_day +ℤ pos 0 ≡ p.first_day = omega (arith, ints) in
    let text_is : text ≡ day_text p.first_day = c.as_bytes.ensures.value ∙ c.in-Ok-date_text.ensures.value ∙ ap day_text at in
    let dated : IsTextOfDay c.args.first.now (p.first_day +ℤ pos 0) = (of_text.date, sym of_text.period.first ∙ sym at, of_text.date_is) in
    let first_is : c.args.first.now ≡ text = c.in-Ok-date_text.ensures.only c.args.first.now dated ∙ sym c.as_bytes.ensures.value in
    let it = c.in-Err-commit_new in
    caused p c.args.first.now text c.args.days c.args.zone.now of_text text_is first_is g.S.Store c.args.conn.now c.commit_new.new.conn c.reached_law.ensures.empty
    it.stop (λ store. it.ensures.cause store clean)
