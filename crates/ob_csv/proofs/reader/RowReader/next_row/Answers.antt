use Rattle.std.proofs.Common.{inl, inr}
use Rattle.std.proofs.lemmas.Bool.{cases_Bool}
use Rattle.csv.specs.Reading.{has_failed}
use Rattle.ob_csv.proofs.RowLaws.{failed_takes, ready_of, takes_row}
use Rattle.ob_csv.proofs.reader.RowReader.next_row.Goals.{in-Ok, in-Err}
use Rattle.ob_csv.proofs.reader.RowReader.next_row.Goals as goal

pub returns-clause-takes : goal.returns-clause-takes
returns-clause-takes g c =
    let old = c.args.self.now.records in
    let new = c.read_byte_record.new.self in
    elim c.match-read_byte_record.branch [
      | in-Ok w ↦ rw w.result-is (elim (cases_Bool (has_failed old)) [
        | inl failed ↦ failed_takes g.R.Read.remaining old new w.in-Ok.found _ failed
        | inr going ↦
            let s = c.args.self.now.set_up going in
            takes_row g.R.Read.remaining old new w.in-Ok.found _ s (w.in-Ok.ensures.reads s.plain (ready_of old s.ready))
      ])
      | in-Err w ↦ rw w.result-is tt
    ]
