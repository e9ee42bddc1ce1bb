use Rattle.std.proofs.Common.{◌≡◌, ◌++◌, rules}
use Rattle.ob_rows.specs.RowText.{row_line}
use Rattle.ob_jobs.proofs.RowsWritten.{gathered_line}
use Rattle.ob_jobs.proofs.row_lines.gather_row.Goals as goal

pub returns-clause-gathers : goal.returns-clause-gathers
returns-clause-gathers g c =
    let line = row_line c.args.text.now c.args.row.now in
    let is : c.push_line.new.text.items ≡ c.args.gathered.now.items ++ line = search rules in
    gathered_line g.W.Write.contents c.args.writer.now c.write_gathered.new.writer c.args.gathered.now.items c.push_line.new.text.items
    c.write_gathered.new.gathered.items line c.write_gathered.result is c.write_gathered.ensures.empties
