use Rattle.std.proofs.Common.{refl, Ok, Err, Option}
use Rattle.ob_base.specs.declared.stop.Fault.TheVariants.{OutOfMemory}
use Rattle.ob_store.specs.declared.reply.Reply.{Reply}
use Rattle.ob_store.proofs.Faults.{read_tells}
use Rattle.ob_http_routes.proofs.ServingLemmas.{serves_found}
use Rattle.ob_http_routes.proofs.show.show_command.Goals as goal

pub returns-in-Ok-Some : goal.returns-in-Ok-Some
returns-in-Ok-Some g c =
    let e = c.in-Ok-Some.ensures in
    serves_found c.args.keeper.now c.reply_of.new.self c.args.«no» (Ok c.in-Ok-Some.field-0) c.args.closes c.accepted_reply.result e.reopen e.unopened e.faults e.dropped e.clean
    (read_tells {X = Option Reply} (Ok c.in-Ok-Some.field-0) c.args.keeper.now c.reply_of.new.self e.survives e.cause) e.replied
    (rw c.in-Ok-Some.field-0-is c.accepted_reply.ensures)

pub returns-in-Ok-None : goal.returns-in-Ok-None
returns-in-Ok-None g c =
    let e = c.in-Ok-None.ensures in
    serves_found c.args.keeper.now c.reply_of.new.self c.args.«no» (Ok c.in-Ok-None.field-0) c.args.closes (Ok c.bare_reply.result) e.reopen e.unopened e.faults e.dropped e.clean
    (read_tells {X = Option Reply} (Ok c.in-Ok-None.field-0) c.args.keeper.now c.reply_of.new.self e.survives e.cause) e.replied
    (rw c.in-Ok-None.field-0-is c.bare_reply.ensures)

pub returns-in-Err-Fault : goal.returns-in-Err-Fault
returns-in-Err-Fault g c =
    let e = c.in-Err-Fault.ensures in
    serves_found c.args.keeper.now c.reply_of.new.self c.args.«no» (Err c.in-Err-Fault.field-0) c.args.closes _ e.reopen e.unopened e.faults e.dropped e.clean
    (read_tells {X = Option Reply} (Err c.in-Err-Fault.field-0) c.args.keeper.now c.reply_of.new.self e.survives e.cause) e.replied
    (rw c.in-Err-Fault.field-0-is refl)

pub returns-in-Err-Refused : goal.returns-in-Err-Refused
returns-in-Err-Refused g c =
    let e = c.in-Err-Refused.ensures in
    serves_found c.args.keeper.now c.reply_of.new.self c.args.«no» (Err c.in-Err-Refused.field-0) c.args.closes (Err OutOfMemory) e.reopen e.unopened e.faults e.dropped e.clean
    (read_tells {X = Option Reply} (Err c.in-Err-Refused.field-0) c.args.keeper.now c.reply_of.new.self e.survives e.cause) e.replied
    (rw c.in-Err-Refused.field-0-is refl)
