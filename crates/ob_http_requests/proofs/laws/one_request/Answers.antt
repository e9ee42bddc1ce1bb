use Rattle.ob_http_requests.specs.Message.{asked}
use Rattle.ob_http_requests.proofs.MessageLemmas.{one-message, start-or-ending, message-or-cut}
use Rattle.ob_http_requests.proofs.laws.one_request.Goals as goal

pub returns-clause-request : goal.returns-clause-request
returns-clause-request c = one-message

pub returns-clause-no_ending : goal.returns-clause-no_ending
returns-clause-no_ending c = λ bytes m rest x. (start-or-ending bytes (asked m) m.target x.after x.starts, message-or-cut bytes m rest x)
