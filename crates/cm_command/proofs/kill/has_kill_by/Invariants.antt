use Rattle.std.proofs.Common.{All, take}
use Rattle.cm_command.specs.Texts.{IsOfNoKillBy}
use Rattle.cm_command.proofs.kill.has_kill_by.Given as goal

abbrev pub invariant-loop-word : goal.invariant-loop-word
invariant-loop-word l = All (IsOfNoKillBy l.caller) (take l.word-index l.words)
