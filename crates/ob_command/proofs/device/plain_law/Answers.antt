use Rattle.ob_command.proofs.Plain.{plain_text}
use Rattle.ob_command.proofs.device.plain_law.Goals as goal

pub returns : goal.returns
returns c = plain_text
