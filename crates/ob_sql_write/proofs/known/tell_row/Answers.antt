use Rattle.std.proofs.Common.{◌≡◌, ℕ, List, [], ◌∷◌, length, sym, ap, ap₂, ◌∙◌, arith}
use Rattle.ob_sql_rows.specs.Rows.{Columns, command_row}
use Rattle.ob_sql_write.proofs.Knowing.{is_command, same_texts, other_texts, not_other}
use Rattle.ob_sql_write.proofs.known.tell_row.Goals as goal

pub returns-then-eq-clause-told : goal.returns-then-eq-clause-told
returns-then-eq-clause-told c =
    let long : length c.args.row.now ≡ 3 = omega arith in
    let no = c.in_ok-no.no in
    let its_reference = c.in_ok-its_reference.its_reference.now in
    let its_body = c.in_ok-its_body.its_body.now in
    let it = is_command c.args.row.now no its_reference its_body long c.in_ok-no.ensures.value c.in_ok-its_reference.ensures.value c.in_ok-its_body.ensures.value in
    let same_reference = same_texts its_reference c.args.reference.now (not_other _ (sym c.if-ne.ensures)) in
    let same_body = same_texts its_body c.args.body.now (sym c.if-eq.ensures) in
    ap (λ (r : Columns). r ∷ []) it ∙ ap₂ (λ (r b : List ℕ). command_row no r b ∷ []) same_reference same_body

pub returns-else-eq-clause-told : goal.returns-else-eq-clause-told
returns-else-eq-clause-told c =
    let long : length c.args.row.now ≡ 3 = omega arith in
    let no = c.in_ok-no.no in
    let its_reference = c.in_ok-its_reference.its_reference.now in
    let its_body = c.in_ok-its_body.its_body.now in
    let it = is_command c.args.row.now no its_reference its_body long c.in_ok-no.ensures.value c.in_ok-its_reference.ensures.value c.in_ok-its_body.ensures.value in
    let same_reference = same_texts its_reference c.args.reference.now (not_other _ (sym c.if-ne.ensures)) in
    let differs = other_texts its_body c.args.body.now (sym c.if-eq.ensures) in
    (its_body, differs, ap (λ (r : Columns). r ∷ []) it ∙ ap (λ (r : List ℕ). command_row no r its_body ∷ []) same_reference)
