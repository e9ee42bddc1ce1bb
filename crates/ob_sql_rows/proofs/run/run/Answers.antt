use Rattle.ob_sql_rows.proofs.run.run.Goals as goal

pub returns : goal.returns
returns g c = rw c.values-params.ensures at c.run_values.ensures
