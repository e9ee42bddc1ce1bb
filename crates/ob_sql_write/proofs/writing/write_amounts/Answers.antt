use Rattle.std.proofs.Common.{◌++◌, ◌∙◌, subst, arith}
use Rattle.std.specs.List.{range_with_len}
use Rattle.sqlite.specs.State.{HasCleanDisk}
use Rattle.sqlite.specs.Held.{state}
use Rattle.ob_post.specs.Keys.{keys}
use Rattle.ob_post.specs.declared.Dim.TheVariants.{Cause, Feeder, Day}
use Rattle.ob_sql_rows.specs.Steps.{Makes}
use Rattle.ob_sql_rows.specs.Rows.{Always}
use Rattle.ob_sql_rows.proofs.Silence.{silent_then}
use Rattle.ob_sql_write.proofs.Steps.{on_ok}
use Rattle.ob_sql_write.specs.Amounts.{all_keys}
use Rattle.ob_sql_write.specs.NewBook.{LetsZeros, with_zeros, keys_of}
use Rattle.ob_sql_write.proofs.Causes.{last_cause, lets_then, lets_weaker, of_open, open_stopped, stopped_after, stopped_first}
use Rattle.ob_sql_write.proofs.Letting.{lets_causes, lets_days, lets_feeders}
use Rattle.ob_sql_write.proofs.Zeros.{zeros_then, ranges_are_all}
use Rattle.ob_sql_write.proofs.writing.write_amounts.Goals as goal

pub returns : goal.returns
unfolding keys
returns g c =
    let old = state g.S.Store c.args.tx.now.conn.now in
    let one = state g.S.Store c.write_keys.new.tx.conn.now in
    let two = state g.S.Store c.write_keys-2.new.tx.conn.now in
    let new = state g.S.Store c.write_keys-3.new.tx.conn.now in
    let causes = keys_of Cause (range_with_len 0 64) in
    let feeders = keys_of Feeder (range_with_len 1 255) in
    let all_days = keys_of Day (range_with_len 0 c.args.days) in
    let last = c.write_keys-3.ensures in
    let quiet = silent_then one two new c.write_keys-2.ensures.silent last.silent in
    record {
      same_reference = last.same_reference ∙ (c.write_keys-2.ensures.same_reference ∙ c.write_keys.ensures.same_reference);
      silent = silent_then old one new c.write_keys.ensures.silent quiet;
      faults = last.faults;
      makes = λ clean.
          let late : HasCleanDisk two = omega (arith, last.silent.survives.clean, clean) in
          let early : HasCleanDisk one = omega (arith, quiet.survives.clean, clean) in
          on_ok c.write_keys-3.result (last.makes clean) (λ third live inside.
          let first = c.in_ok-write_keys.ensures.makes early live inside in
          let second = c.in_ok-write_keys-2.ensures.makes late first.stays first.inside in
          subst (λ l. Makes old new Always (with_zeros l)) (ranges_are_all c.args.days)
          (zeros_then old one new causes (feeders ++ all_days) first
          (zeros_then one two new feeders all_days second (third second.stays second.inside))));
      cause = λ clean. last_cause old two new c.write_keys-3.result (silent_then old one two c.write_keys.ensures.silent c.write_keys-2.ensures.silent) last.silent clean (last.cause clean)
          (λ late live inside allowed.
          let early : HasCleanDisk one = omega (arith, c.write_keys-2.ensures.silent.survives.clean, late) in
          let first = c.in_ok-write_keys.ensures.makes early live inside in
          let second = c.in_ok-write_keys-2.ensures.makes late first.stays first.inside in
          let both : Makes old two Always (with_zeros (causes ++ feeders)) = zeros_then old one two causes feeders first second in
          (second.inside, lets_then old two Always Always (LetsZeros (all_keys c.args.days)) Always (LetsZeros all_days) (with_zeros (causes ++ feeders)) (λ t any it. (tt, tt, lets_days c.args.days t it)) both allowed));
    }

pub returns-in_err-write_keys : goal.returns-in_err-write_keys
unfolding keys
returns-in_err-write_keys g c =
    let causes = keys_of Cause (range_with_len 0 64) in
    open_stopped g.S.Store c.args.tx.now.conn c.write_keys.new.tx.conn c.from_residual.result _ c.from_residual.ensures.1
    (stopped_first g.S.Store _ _ _ (lets_weaker _ Always (LetsZeros (all_keys c.args.days)) Always (LetsZeros causes) (λ t any it. (tt, lets_causes c.args.days t it))) (of_open g.S.Store _ _ _ c.in_err-write_keys.ensures))

pub returns-in_err-write_keys-2 : goal.returns-in_err-write_keys-2
unfolding keys
returns-in_err-write_keys-2 g c =
    let old = state g.S.Store c.args.tx.now.conn.now in
    let one = state g.S.Store c.write_keys.new.tx.conn.now in
    let causes = keys_of Cause (range_with_len 0 64) in
    let feeders = keys_of Feeder (range_with_len 1 255) in
    open_stopped g.S.Store c.args.tx.now.conn c.write_keys-2.new.tx.conn c.from_residual-in_err-write_keys-2.result _ c.from_residual-in_err-write_keys-2.ensures.1
    (stopped_after g.S.Store c.args.tx.now.conn c.write_keys.new.tx.conn c.write_keys-2.new.tx.conn _ c.write_keys.ensures.same_reference c.write_keys.ensures.silent (of_open g.S.Store _ _ _ c.in_err-write_keys-2.ensures)
    (λ early live inside allowed.
    let first = c.in_ok-write_keys.ensures.makes early live inside in
    (first.inside, lets_then old one Always Always (LetsZeros (all_keys c.args.days)) Always (LetsZeros feeders) (with_zeros causes) (λ t any it. (tt, tt, lets_feeders c.args.days t it)) first allowed)))
