use Rattle.std.proofs.Common.{◌≡◌, inl, inr, Result, Ok, Err, refl}
use Rattle.std.proofs.lemmas.Result.{err_from_is_err_and}
use Rattle.ob_base.specs.declared.stop.Stop.{Stop}
use Rattle.ob_base.specs.declared.stop.Stop.TheVariants.{Fault}
use Rattle.ob_base.specs.declared.stop.Fault.TheVariants.{Store}
use Rattle.ob_store.specs.Acting.{reply_as, under}
use Rattle.ob_store.specs.declared.reply.Reply.{Reply}
use Rattle.ob_store.proofs.Faults.{act_tells, tells_as, tells_nothing}
use Rattle.ob_import.specs.Imports.{Says}
use Rattle.ob_import.proofs.Importing.{adds_err, adds_ok, answer_not_store, refusal_not_store, same_stop}
use Rattle.ob_import.proofs.acting.act_row.Goals as goal

pub returns-clause-acted : goal.returns-clause-acted
returns-clause-acted g c clean b ties =
    let a = under c.in-Ok.said.0 c.in-Ok.said.1 in
    let says : Says c.args.row.now a = c.in-Ok.ensures in
    let made = c.in_ok-act.ensures.acted clean b ties c.requires in (
    inl (
      a,
      says,
      adds_ok c.args.keeper.now c.act.new.self b a (reply_as c.in_ok-act.field-0) c.accepted_count-before.result c.accepted_count.result c.reached_law.ensures.counts c.requires ties
          c.accepted_count-before.ensures c.accepted_count.ensures made,
    )
    )

pub returns-in_err-act-clause-acted : goal.returns-in_err-act-clause-acted
returns-in_err-act-clause-acted g c clean b ties =
    let p = err_from_is_err_and c.from_residual.result c.from_residual.ensures.1 in
    let a = under c.in-Ok.said.0 c.in-Ok.said.1 in
    let says : Says c.args.row.now a = c.in-Ok.ensures in
    rw (p.1, p.2) (inl (a, says, adds_err c.args.keeper.now c.act.new.self b a c.in_err-act.field-0.0 c.requires (c.in_err-act.ensures.acted clean b ties c.requires)))

pub returns-in-Err-clause-acted : goal.returns-in-Err-clause-acted
returns-in-Err-clause-acted g c clean b ties = inr (c.in-Err.refusal, c.in-Err.ensures, refl, (ties, c.requires))

pub returns-clause-tells : goal.returns-clause-tells
returns-clause-tells g c =
    let a = under c.in-Ok.said.0 c.in-Ok.said.1 in
    let old = c.args.keeper.now in
    let new = c.act.new.self in
    let made = c.in_ok-act.ensures in
    tells_as old new (◌≡◌ {A = Result Reply Stop} (Ok c.in_ok-act.field-0) (Err (Fault Store))) _ (λ e. answer_not_store _ e)
    (act_tells (Ok c.in_ok-act.field-0) old new a made.survives made.numbered made.cause)

pub returns-in_err-act-clause-tells : goal.returns-in_err-act-clause-tells
returns-in_err-act-clause-tells g c =
    let p = err_from_is_err_and c.from_residual.result c.from_residual.ensures.1 in
    let a = under c.in-Ok.said.0 c.in-Ok.said.1 in
    let old = c.args.keeper.now in
    let new = c.act.new.self in
    let made = c.in_err-act.ensures in
    rw (p.1, p.2) (tells_as old new (◌≡◌ {A = Result Reply Stop} (Err c.in_err-act.field-0.0) (Err (Fault Store))) _ (same_stop c.in_err-act.field-0.0 (Fault Store))
    (act_tells {X = Reply} (Err c.in_err-act.field-0.0) old new a made.survives made.numbered made.cause))

pub returns-in-Err-clause-tells : goal.returns-in-Err-clause-tells
returns-in-Err-clause-tells g c = tells_nothing c.args.keeper.now c.args.keeper.now _ refl (refusal_not_store c.in-Err.refusal)
