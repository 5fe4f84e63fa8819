-- The callers of the records so far.
use Rattle.std.proofs.Common.{◌≡◌, ℕ, ◌<◌, ◌==◌, false, get_or, length, take}
use Rattle.std.specs.List.{list_any}
use Rattle.cm_run.proofs.run.askers.Given as goal

abbrev pub invariant-loop-at : goal.invariant-loop-at
invariant-loop-at l = record {
  long : length l.asks ≡ 64;
  so_far : (caller : ℕ) → caller < 64 → get_or l.asks caller false ≡ list_any (λ line. line.caller == caller) (take l.at l.script);
}
