-- Counts of callers in arrays.
use Rattle.std.proofs.Common.{◌≡◌, ℕ, Option, None, [], get_or, replicate, refl, zero, suc}
use Rattle.cm_command.specs.declared.kill.Kill.{Kill}
use Rattle.cm_run.specs.GateCounts.{counts_in}

-- an array of one value has it at each place
pub each_same : (X : Type 0) (count i : ℕ) (x : X) → get_or (replicate count x) i x ≡ x
each_same X zero i x = refl
each_same X (suc count) zero x = refl
each_same X (suc count) (suc i) x = each_same X count i x

-- nothing was counted of any caller
pub none_counted : (caller : ℕ) → counts_in (replicate 64 0) (replicate 64 None) (replicate 64 0) caller ≡ record { made = 0; last_kill = None; deaths = 0 }
none_counted caller = rw (each_same ℕ 64 caller 0, each_same (Option Kill) 64 caller None) refl

-- nor where no deaths are counted at all
pub none_counted_alive : (caller : ℕ) → counts_in (replicate 64 0) (replicate 64 None) [] caller ≡ record { made = 0; last_kill = None; deaths = 0 }
none_counted_alive caller = rw (each_same ℕ 64 caller 0, each_same (Option Kill) 64 caller None) refl
