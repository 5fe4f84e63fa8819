use Rattle.std.proofs.Common.{arith}
use Rattle.cm_geo.proofs.AddressOrder.{segment_head_within}
use Rattle.cm_entry.proofs.span.span_at.Goals as goal
use Rattle.cm_entry.proofs.span.span_at.Goals.{else-len-most-via-then-len-most+else-at-div_ceil, else-len-most-via-else-len-most}

pub returns-else-len-most : goal.returns-else-len-most
returns-else-len-most c = record {
  inside = record { inner = omega arith; within_limit = omega arith; inside = omega (arith, segment_head_within c.args.geo.now) };
  within_limit = omega arith;
  whole = λ few within. elim c.else-len-most.branch [
    | else-len-most-via-then-len-most+else-at-div_ceil w ↦ absurd (omega arith)
    | else-len-most-via-else-len-most w ↦ absurd (omega arith)
  ];
}
