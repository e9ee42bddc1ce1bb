use Rattle.ob_cust.specs.Blocks.{service_of}
use Rattle.ob_rows.proofs.Handing.{err_from, fails_first}
use Rattle.ob_rows.proofs.Outages.{some_row}
use Rattle.ob_rows.proofs.rows.hand_run.Goals as goal

pub returns-in_err-take-clause-hands : goal.returns-in_err-take-clause-hands
returns-in_err-take-clause-hands g c =
    let block = c.args.block.now in
    let fault = c.in_err-take.field-0.0 in
    let one = some_row c.args.book.now.state block.section c.args.feeder (service_of block.block) c.args.run.now c.part_in_service-part.result c.row_of.result c.part_in_service-part.ensures.part c.if-part.false c.row_of.ensures in
    fails_first g.V.RowSink.takes c.args.sink.now c.take.new.self c.row_of.result _ fault c.from_residual.result one (err_from c.from_residual.result fault c.from_residual.ensures.1) c.in_err-take.ensures
