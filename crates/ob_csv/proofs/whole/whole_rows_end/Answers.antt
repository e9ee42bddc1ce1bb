use Rattle.std.proofs.Common.{subst}
use Rattle.std.proofs.lemmas.List.{take_rest}
use Rattle.ob_csv.specs.Scanning.{Ends}
use Rattle.ob_csv.proofs.WholeLaws.{rows_of_front}
use Rattle.ob_csv.proofs.whole.whole_rows_end.Goals as goal

pub returns-clause-rows : goal.returns-clause-rows
returns-clause-rows c =
    let text = c.args.text.now in
    let mark = c.mark_length-mark.result in
    rows_of_front text mark c.last_row_end.result c.mark_length-mark.ensures (subst (λ t. Ends t c.last_row_end.result) (take_rest text mark) c.last_row_end.ensures)
