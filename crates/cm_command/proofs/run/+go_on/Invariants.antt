use Rattle.std.proofs.Common.{length}
use Rattle.cm_command.proofs.run.+go_on.Given as goal

abbrev pub decreases-go_on : goal.decreases-go_on
decreases-go_on l = length l.words.now
