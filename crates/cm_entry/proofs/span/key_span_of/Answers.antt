use Rattle.std.proofs.Common.{arith}
use Rattle.cm_geo.proofs.AddressOrder.{segment_limit}
use Rattle.cm_entry.proofs.span.key_span_of.Goals as goal

pub overflow_add-chunk_at : goal.overflow_add-chunk_at
overflow_add-chunk_at c = omega (arith, segment_limit c.args.geo.now, c.chunk_at.ensures.in_range)

pub span_at-requires : goal.span_at-requires
span_at-requires c = record { inner = omega arith; low = omega (arith, segment_limit c.args.geo.now, c.chunk_at.ensures.in_range); most_short = omega arith }
