use Rattle.std.proofs.Common.{refl, Ok, Err}
use Rattle.ob_store.specs.Acting.{under}
use Rattle.ob_store.specs.declared.reply.Reply.{Reply}
use Rattle.ob_store.proofs.Faults.{act_tells}
use Rattle.ob_http_routes.proofs.ServingLemmas.{serves_acted}
use Rattle.ob_http_routes.proofs.post.act.Goals as goal

pub returns-in-Ok : goal.returns-in-Ok
returns-in-Ok g c =
    let e = c.in-Ok.ensures in
    serves_acted c.args.keeper.now c.act.new.self (under c.args.reference c.args.command) (Ok c.in-Ok.reply) c.args.closes c.accepted_reply.result c.requires e.faults e.dropped e.clean
    (act_tells {X = Reply} (Ok c.in-Ok.reply) c.args.keeper.now c.act.new.self (under c.args.reference c.args.command) e.survives e.numbered e.cause) e.acted
    c.accepted_reply.ensures

pub returns-in-Err-Refused : goal.returns-in-Err-Refused
returns-in-Err-Refused g c =
    let e = c.in-Err-Refused.ensures in
    serves_acted c.args.keeper.now c.act.new.self (under c.args.reference c.args.command) (Err c.in-Err-Refused.field-0) c.args.closes c.refused_reply.result c.requires e.faults e.dropped e.clean
    (act_tells {X = Reply} (Err c.in-Err-Refused.field-0) c.args.keeper.now c.act.new.self (under c.args.reference c.args.command) e.survives e.numbered e.cause) e.acted
    (rw c.in-Err-Refused.field-0-is c.refused_reply.ensures)

pub returns-in-Err-Fault : goal.returns-in-Err-Fault
returns-in-Err-Fault g c =
    let e = c.in-Err-Fault.ensures in
    serves_acted c.args.keeper.now c.act.new.self (under c.args.reference c.args.command) (Err c.in-Err-Fault.field-0) c.args.closes (Err c.in-Err-Fault.fault) c.requires e.faults e.dropped e.clean
    (act_tells {X = Reply} (Err c.in-Err-Fault.field-0) c.args.keeper.now c.act.new.self (under c.args.reference c.args.command) e.survives e.numbered e.cause) e.acted
    (rw c.in-Err-Fault.field-0-is refl)
