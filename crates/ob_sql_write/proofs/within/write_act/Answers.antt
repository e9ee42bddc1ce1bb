use Rattle.std.proofs.Common.{◌∙◌, arith}
use Rattle.sqlite.specs.State.{HasCleanDisk}
use Rattle.sqlite.specs.Held.{state}
use Rattle.ob_sql_rows.specs.Rules.{HasKey}
use Rattle.ob_sql_rows.specs.Rows.{Tables}
use Rattle.ob_sql_rows.specs.declared.table.Table.TheVariants.{Command}
use Rattle.ob_sql_rows.proofs.Silence.{silent_then}
use Rattle.ob_sql_write.specs.Acts.{LetsAct, NeedsRows, with_command}
use Rattle.ob_sql_write.specs.Changing.{NeedsRow}
use Rattle.ob_sql_write.specs.Moves.{HasRows, LetsMoves, with_moves}
use Rattle.ob_sql_write.proofs.Acting.{both_made, command_stopped, rows_stopped}
use Rattle.ob_sql_write.proofs.Causes.{change_stopped, last_cause, lets_then}
use Rattle.ob_sql_write.proofs.Letting.{lets_moves}
use Rattle.ob_sql_write.proofs.Steps.{makes_then, on_ok}
use Rattle.ob_sql_write.proofs.within.write_act.Goals as goal

pub returns : goal.returns
returns g c =
    let act = c.args.act.now in
    let p = c.args.postings.now in
    let begun = c.args.tx.now.conn in
    let one = c.write_rows.new.tx.conn in
    let two = c.add_command.new.tx.conn in
    let last = c.write_moves.new.tx.conn in
    let a = state g.S.Store begun.now in
    let b = state g.S.Store two.now in
    let d = state g.S.Store last.now in
    let rows = c.in_ok-write_rows.ensures in
    let command = c.in_ok-add_command.ensures in
    let moves = c.write_moves.ensures in
    let quiet = silent_then a (state g.S.Store one.now) b rows.silent command.silent in
    let lets : Tables → Type 0 = λ t. HasKey Command act.no t × LetsMoves act.no act.moves.now t in
    record {
      same_reference = moves.same_reference ∙ command.same_reference ∙ rows.same_reference;
      silent = silent_then a b d quiet moves.silent;
      faults = moves.faults;
      makes = λ clean.
          let late : HasCleanDisk b = omega (arith, moves.silent.survives.clean, clean) in
          on_ok c.write_moves.result (moves.makes clean) (λ third inside.
          let both = both_made g.S.Store p act begun one two _ rows _ command late inside in
          makes_then a b d (NeedsRow act.resolved.now) (HasRows act.no p act.moves.now) (NeedsRows p act) (with_command act) (with_moves act.no p act.moves.now)
          (λ t has. (has.change, has.amounts)) both (third both.stays both.inside));
      cause = λ clean. last_cause a b d c.write_moves.result quiet moves.silent clean (moves.cause clean)
          (λ late live inside allowed.
          let both = both_made g.S.Store p act begun one two _ rows _ command late inside in (
            both.inside,
            lets_then a b (NeedsRow act.resolved.now) (NeedsRows p act) (LetsAct act) (HasRows act.no p act.moves.now) lets (with_command act)
                (λ t has it. (has.change, has.amounts, lets_moves act t it.moves)) both allowed,
          ));
    }

pub returns-in_err-write_rows : goal.returns-in_err-write_rows
returns-in_err-write_rows g c =
    change_stopped g.S.Store c.args.tx.now.conn c.write_rows.new.tx.conn c.from_residual.result _ c.from_residual.ensures.1
    (rows_stopped g.S.Store c.args.postings.now c.args.act.now c.args.tx.now.conn c.write_rows.new.tx.conn _ c.in_err-write_rows.ensures)

pub returns-in_err-add_command : goal.returns-in_err-add_command
returns-in_err-add_command g c =
    change_stopped g.S.Store c.args.tx.now.conn c.add_command.new.tx.conn c.from_residual-in_err-add_command.result _ c.from_residual-in_err-add_command.ensures.1
    (command_stopped g.S.Store c.args.postings.now c.args.act.now c.args.tx.now.conn c.write_rows.new.tx.conn c.add_command.new.tx.conn _ c.in_ok-write_rows.ensures _ c.in_err-add_command.ensures)
