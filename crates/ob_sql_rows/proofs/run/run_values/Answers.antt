use Rattle.std.proofs.Common.{rules, inl, inr, refl, sym, subst, ◌∙◌}
use Rattle.std.proofs.lemmas.Bool.{cases_Bool}
use Rattle.sqlite.specs.State.{KeepsCommit}
use Rattle.sqlite.specs.Held.{state}
use Rattle.ob_sql_rows.proofs.Silence.{kept_failing}
use Rattle.ob_sql_rows.proofs.run.run_values.Goals as goal

pub returns-in-Err : goal.returns-in-Err
returns-in-Err g c =
    let old = state g.S.Store c.args.tx.now.conn.now in
    let new = state g.S.Store c.execute.new.self.conn.now in
    record {
      same_reference = c.execute.ensures.same_reference;
      silent = record {
        survives = c.execute.ensures.survives;
        kept = λ clean. elim (cases_Bool old.in_transaction) [
          | inl inside ↦ kept_failing _ _ old new _ ((rw c.in-Err.is at c.execute.ensures.runs) clean inside)
          | inr outside ↦
              let same = (c.execute.ensures.ended outside).1 in
              subst (λ h. KeepsCommit old (state g.S.Store h)) (sym same) (record { was_open = λ live. live; committed = λ live. refl })
        ];
      };
      faults = c.stop_of.ensures.faults;
      ran = λ clean. tt;
      -- memory that was refused is told as such
      fails = λ clean store inside. (
        c.in-Err.error,
        λ memory. absurd (let it = sym (c.stop_of.ensures.memory memory) ∙ store in cc),
        (rw c.in-Err.is at c.execute.ensures.runs) clean inside,
      );
    }

pub returns-in-Ok : goal.returns-in-Ok
returns-in-Ok g c = search rules
