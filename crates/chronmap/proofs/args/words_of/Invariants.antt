use Rattle.std.proofs.Common.{◌≡◌, map, take, string_bytes}
use Rattle.chronmap.proofs.args.words_of.Given as goal

abbrev pub invariant-loop-arg : goal.invariant-loop-arg
invariant-loop-arg l = l.words.items ≡ map string_bytes (take l.arg-index l.others)
