use Rattle.std.proofs.Common.{ap, ap₂, ◌∙◌}
use Rattle.std.proofs.lemmas.Result.{IfOk-weaker}
use Rattle.clap.specs.Words.{App, Shape, with_subcommand}
use Rattle.ob_cli.proofs.command.outagebook_command.Goals as goal

abbrev top : App → Shape
top a = a.top

-- one line for each subcommand, and the last of them below
pub returns : goal.returns
returns c =
    let one = c.in_ok-subcommand.ensures.shape c.total_command.ensures.local
    ∙ ap₂ with_subcommand c.bare_command.ensures.app (ap top c.total_command.ensures.app) in
    let two = c.in_ok-subcommand-2.ensures.shape c.in_ok-init_command.ensures.local
    ∙ ap₂ with_subcommand one (ap top c.in_ok-init_command.ensures.app) in
    let three = c.in_ok-subcommand-3.ensures.shape c.in_ok-import_command.ensures.local
    ∙ ap₂ with_subcommand two (ap top c.in_ok-import_command.ensures.app) in
    let four = c.in_ok-subcommand-4.ensures.shape c.in_ok-export_command.ensures.local
    ∙ ap₂ with_subcommand three (ap top c.in_ok-export_command.ensures.app) in
    let five = c.in_ok-subcommand-5.ensures.shape c.in_ok-interruptions_command.ensures.local
    ∙ ap₂ with_subcommand four (ap top c.in_ok-interruptions_command.ensures.app) in
    let six = c.in_ok-subcommand-6.ensures.shape c.in_ok-table_command.ensures.local
    ∙ ap₂ with_subcommand five (ap top c.in_ok-table_command.ensures.app) in
    let seven = c.in_ok-subcommand-7.ensures.shape c.in_ok-indices_command.ensures.local
    ∙ ap₂ with_subcommand six (ap top c.in_ok-indices_command.ensures.app) in
    let eight = c.in_ok-subcommand-8.ensures.shape c.in_ok-audit_command.ensures.local
    ∙ ap₂ with_subcommand seven (ap top c.in_ok-audit_command.ensures.app) in
    let nine = c.in_ok-subcommand-9.ensures.shape c.in_ok-migrate_command.ensures.local
    ∙ ap₂ with_subcommand eight (ap top c.in_ok-migrate_command.ensures.app) in
    IfOk-weaker c.subcommand-10.result _ _
    (λ r h. h.shape c.in_ok-serve_command.ensures.local
    ∙ ap₂ with_subcommand nine (ap top c.in_ok-serve_command.ensures.app)) c.subcommand-10.ensures
