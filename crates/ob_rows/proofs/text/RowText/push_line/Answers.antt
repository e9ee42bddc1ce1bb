use Rattle.std.proofs.Common.{◌≡◌, ◌++◌, ◌∙◌, OnOk, subst}
use Rattle.ob_rows.specs.RowText.{row_line}
use Rattle.ob_rows.proofs.RowLine.{with_line}
use Rattle.ob_rows.proofs.text.RowText.push_line.Goals as goal

pub returns-clause-line : goal.returns-clause-line
returns-clause-line g c =
    let b = c.self.inside.book.now.state in
    let row = c.args.row.now in
    let text = c.args.text.now.items in
    subst (λ s. OnOk c.push_end.result (c.push_end.new.line.items ≡ text ++ row_line s row)) c.self.view_is
    (subst (λ t. OnOk c.push_end.result (c.push_end.new.line.items ≡ t))
    (with_line b row text c.deref.result.now c.extend_from_slice.new.self.items c.in_ok-extend_from_slice.ensures.items
    (c.deref.ensures.value ∙ c.in_ok-keep_start.ensures.made))
    c.push_end.ensures)
