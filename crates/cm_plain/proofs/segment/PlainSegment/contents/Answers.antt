use Rattle.cm_plain.proofs.EntryCount.{few_entries}
use Rattle.cm_plain.proofs.SegmentState.{seen_in}
use Rattle.cm_plain.proofs.segment.PlainSegment.contents.Goals as goal

pub sorted_pairs-requires : goal.sorted_pairs-requires
sorted_pairs-requires c =
    let seen = seen_in c.self.inside in
    rw c.as_slice.ensures.value (few_entries seen.geo seen.segment seen.state c.self.invariant.is_state)
