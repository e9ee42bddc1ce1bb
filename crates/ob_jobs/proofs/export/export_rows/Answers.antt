use Rattle.ob_jobs.proofs.export.export_rows.Goals as goal

pub returns : goal.returns
returns g c =
    let all = c.export_moves.ensures in
    record {
      reopen = all.reopen;
      unopened = all.unopened;
      output = all.output;
      kept = all.kept;
      dropped = all.dropped;
      clean = all.clean;
      survives = all.survives;
      exports = all.exports;
      tries = all.tries;
    }
