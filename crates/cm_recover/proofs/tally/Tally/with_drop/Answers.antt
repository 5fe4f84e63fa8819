use Rattle.std.proofs.Common.{arith}
use Rattle.cm_recover.specs.declared.cause.Cause.TheVariants as cause
use Rattle.cm_recover.proofs.tally.Tally.with_drop.Goals as goal

pub overflow_add-drops : goal.overflow_add-drops
overflow_add-drops c = omega (arith, c.requires cause.Allowance)

pub overflow_add-drops-in-Range : goal.overflow_add-drops-in-Range
overflow_add-drops-in-Range c = omega (arith, c.requires cause.Range)

pub overflow_add-drops-in-Lengths : goal.overflow_add-drops-in-Lengths
overflow_add-drops-in-Lengths c = omega (arith, c.requires cause.Lengths)

pub overflow_add-drops-in-Checksum : goal.overflow_add-drops-in-Checksum
overflow_add-drops-in-Checksum c = omega (arith, c.requires cause.Checksum)

pub overflow_add-drops-in-Padding : goal.overflow_add-drops-in-Padding
overflow_add-drops-in-Padding c = omega (arith, c.requires cause.Padding)

pub overflow_add-drops-in-Segment : goal.overflow_add-drops-in-Segment
overflow_add-drops-in-Segment c = omega (arith, c.requires cause.Segment)

pub overflow_add-drops-in-Fingerprint : goal.overflow_add-drops-in-Fingerprint
overflow_add-drops-in-Fingerprint c = omega (arith, c.requires cause.Fingerprint)

pub overflow_add-drops-in-Duplicate : goal.overflow_add-drops-in-Duplicate
overflow_add-drops-in-Duplicate c = omega (arith, c.requires cause.Duplicate)

pub overflow_add-drops-in-Overlap : goal.overflow_add-drops-in-Overlap
overflow_add-drops-in-Overlap c = omega (arith, c.requires cause.Overlap)
