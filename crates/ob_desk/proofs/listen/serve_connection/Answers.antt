use Rattle.ob_desk.proofs.ListenLemmas.{result-left}
use Rattle.ob_desk.proofs.listen.serve_connection.Goals as goal

pub returns-clause-left : goal.returns-clause-left
returns-clause-left g c disk b ties some =
    result-left c.serve_stream.result _ _ _ _ _ _ c.args.keeper.now c.serve_stream.new.keeper b c.serve_stream.ensures.serves c.serve_stream.ensures.fails (disk, ties, some)

pub returns-clause-tells : goal.returns-clause-tells
returns-clause-tells g c = c.serve_stream.ensures.tells
