use Rattle.ob_lists.proofs.Telling.{rows_in, streams_in, told_in}
use Rattle.ob_lists.proofs.Written.{written_in}
use Rattle.ob_lists.proofs.laws.told_law.Goals as goal

pub returns : goal.returns
returns c = record {
  commands = told_in;
  rows = rows_in;
  streams = streams_in c.answers_law.ensures.one;
  written = written_in c.one_request.ensures.request c.answers_law.ensures.one;
}
