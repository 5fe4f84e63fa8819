use Rattle.std.proofs.Common.{length}
use Rattle.cm_command.proofs.kill.+are_kills.Given as goal

abbrev pub decreases-are_kills : goal.decreases-are_kills
decreases-are_kills l = length l.words.now
