-- The first chunk of a run fits 64 bits.
use Rattle.std.proofs.Common.{◌≤◌, arith}
use Rattle.std.proofs.Math.Nat.{mul-le-mul_left}
use Rattle.cm_geo.proofs.Ranges.{chunks_range}
use Rattle.cm_plain.proofs.entries.run_start.Goals as goal

pub overflow_add-result : goal.overflow_add-result
overflow_add-result c =
    let within_limit : c.from.result ≤ 4096 = omega (arith, (chunks_range c.args.geo.now).1) in
    omega (arith, mul-le-mul_left c.from-place.result within_limit)
