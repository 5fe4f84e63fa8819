use Rattle.cm_command.proofs.OneCommand.{one-command}
use Rattle.cm_command.proofs.law.words_ask_for_one.Goals as goal

pub returns : goal.returns
returns c = one-command
