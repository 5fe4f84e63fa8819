use Rattle.std.proofs.Common.{◌≡◌, All, map, take}
use Rattle.cm_command.specs.Kills.{IsKill, kill_text}
use Rattle.cm_command.proofs.values.kills_of.Given as goal

-- the kills so far are those of the first texts
abbrev pub invariant-loop-text : goal.invariant-loop-text
invariant-loop-text l = (map (λ text. text.now) (take l.text-index l.texts) ≡ map kill_text l.kills.items) × All IsKill l.kills.items
