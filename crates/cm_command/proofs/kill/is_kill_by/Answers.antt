use Rattle.std.proofs.Common.{refl}
use Rattle.cm_command.proofs.ReadKills.{by-caller}
use Rattle.cm_command.proofs.kill.is_kill_by.Goals as goal

pub returns-in-Some : goal.returns-in-Some
returns-in-Some c = by-caller c.args.caller c.args.text.now c.in-Some.kill _ c.in-Some.ensures refl
