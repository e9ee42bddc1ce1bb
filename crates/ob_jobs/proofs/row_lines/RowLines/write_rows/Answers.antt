use Rattle.std.proofs.Common.{◌≡◌, Ok, Err}
use Rattle.std.proofs.lemmas.Result.{err_from_is_err_and}
use Rattle.ob_rows.specs.Rows.{interruption_rows}
use Rattle.ob_stream.proofs.Trying.{all_then, all_then_all}
use Rattle.ob_jobs.proofs.RowsWritten.{failed_text, name_after, tries_after, unfinished, written}
use Rattle.ob_jobs.proofs.row_lines.RowLines.write_rows.Goals as goal

pub returns-in_err-rows-clause-same_reference : goal.returns-in_err-rows-clause-same_reference
returns-in_err-rows-clause-same_reference g c =
    name_after g.W.Write.contents c.args.self.now c.each_row.new.sink (interruption_rows c.args.book.now.state) (Err c.in_err-rows.field-0.0) c.in_err-rows.ensures.hands

pub returns-in_err-rows-clause-rows : goal.returns-in_err-rows-clause-rows
returns-in_err-rows-clause-rows g c =
    let p = err_from_is_err_and c.from_residual.result c.from_residual.ensures.1 in
    let b = c.args.book.now.state in
    rw (p.1, p.2)
    (failed_text g.W.Write.contents b c.args.self.now c.each_row.new.sink (interruption_rows b) c.in_err-rows.field-0.0 c.requires.book c.requires.nothing
    c.in_err-rows.ensures.hands)

pub returns-in_err-write_gathered-clause-same_reference : goal.returns-in_err-write_gathered-clause-same_reference
returns-in_err-write_gathered-clause-same_reference g c =
    name_after g.W.Write.contents c.args.self.now c.each_row.new.sink (interruption_rows c.args.book.now.state) (Ok c.in_ok-rows.rows) c.in_ok-rows.ensures.hands

pub returns-in_err-write_gathered-clause-rows : goal.returns-in_err-write_gathered-clause-rows
returns-in_err-write_gathered-clause-rows g c =
    let p = err_from_is_err_and c.from_residual-in_err-write_gathered.result c.from_residual-in_err-write_gathered.ensures.1 in
    let b = c.args.book.now.state in
    rw (p.1, p.2)
    (unfinished g.W.Write.contents b c.args.self.now c.each_row.new.sink c.write_gathered.new.writer c.write_gathered.new.gathered.items (interruption_rows b)
    c.in_ok-rows.rows c.in_err-write_gathered.field-0.0 c.requires.book c.requires.nothing c.in_ok-rows.ensures.hands c.in_err-write_gathered.ensures.empties)

pub returns-clause-same_reference : goal.returns-clause-same_reference
returns-clause-same_reference g c =
    name_after g.W.Write.contents c.args.self.now c.each_row.new.sink (interruption_rows c.args.book.now.state) (Ok c.in_ok-rows.rows) c.in_ok-rows.ensures.hands

pub returns-clause-rows : goal.returns-clause-rows
returns-clause-rows g c =
    let b = c.args.book.now.state in
    written g.W.Write.contents b c.args.self.now c.each_row.new.sink c.write_gathered.new.writer c.write_gathered.new.gathered.items (interruption_rows b)
    c.in_ok-rows.rows c.requires.book c.requires.nothing c.in_ok-rows.ensures.hands c.in_ok-write_gathered.ensures.empties

pub returns-in_err-rows-clause-tries : goal.returns-in_err-rows-clause-tries
returns-in_err-rows-clause-tries g c =
    let p = err_from_is_err_and c.from_residual.result c.from_residual.ensures.1 in
    rw p.1
    (tries_after g.W.Write.contents c.args.self.now c.each_row.new.sink (interruption_rows c.args.book.now.state) (Err c.in_err-rows.field-0.0) c.in_err-rows.ensures.hands)

pub returns-in_err-write_gathered-clause-tries : goal.returns-in_err-write_gathered-clause-tries
returns-in_err-write_gathered-clause-tries g c =
    let p = err_from_is_err_and c.from_residual-in_err-write_gathered.result c.from_residual-in_err-write_gathered.ensures.1 in
    rw p.1
    (all_then (tries_after g.W.Write.contents c.args.self.now c.each_row.new.sink (interruption_rows c.args.book.now.state) (Ok c.in_ok-rows.rows) c.in_ok-rows.ensures.hands)
    c.in_err-write_gathered.ensures.tries)

pub returns-clause-tries : goal.returns-clause-tries
returns-clause-tries g c =
    all_then_all (tries_after g.W.Write.contents c.args.self.now c.each_row.new.sink (interruption_rows c.args.book.now.state) (Ok c.in_ok-rows.rows) c.in_ok-rows.ensures.hands)
    c.in_ok-write_gathered.ensures.tries
