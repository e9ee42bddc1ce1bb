use Rattle.ob_http_requests.proofs.MessageLemmas.{one-ending, ending-or-cut}
use Rattle.ob_http_requests.proofs.laws.one_ending.Goals as goal

pub returns-clause-ending : goal.returns-clause-ending
returns-clause-ending c = one-ending

pub returns-clause-no_cut : goal.returns-clause-no_cut
returns-clause-no_cut c = ending-or-cut
