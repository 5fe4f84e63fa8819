-- Each law in turn.
use Rattle.std.proofs.Common.{[], ◌∷◌}
use Rattle.std.proofs.lemmas.Result.{err_from_is_err_and}
use Rattle.cm_check.specs.declared.law.Law.TheVariants.{Bits, SegmentCount, TierCount, Unlinked}
use Rattle.cm_check.specs.HeadLaws.{unlinked_broken}
use Rattle.cm_check.specs.CountLaws.{bits_broken, segment_count_broken, tier_count_broken}
use Rattle.cm_check.specs.Quiets.{geo_of, words_of}
use Rattle.cm_check.proofs.BrokenLaws.{answer_err, answer_last, answer_ok, law_broken, law_kept, law_last, law_names}
use Rattle.cm_check.proofs.BrokenLaws.{each_kept}
use Rattle.cm_check.specs.declared.law.Law.TheVariants.{Duplicate, Gap, Overlap, Slot}
use Rattle.cm_check.proofs.LawsKept.{counts_kept, overlaps_kept, slots_kept, words_named_none}
use Rattle.cm_check.proofs.laws.count_laws.Goals as goal

pub bits-requires-clause-rightful : goal.bits-requires-clause-rightful
bits-requires-clause-rightful c =
    let q = c.args.quiet.now in
    slots_kept (geo_of q) q.segment (words_of q) (each_kept Slot (Gap ∷ Duplicate ∷ Overlap ∷ []) (geo_of q) q.segment (words_of q) c.requires).0

pub bits-requires-clause-apart : goal.bits-requires-clause-apart
bits-requires-clause-apart c =
    let q = c.args.quiet.now in
    let behind = (each_kept Slot (Gap ∷ Duplicate ∷ Overlap ∷ []) (geo_of q) q.segment (words_of q) c.requires).1 in
    let more = (each_kept Gap (Duplicate ∷ Overlap ∷ []) (geo_of q) q.segment (words_of q) behind).1 in
    let last = (each_kept Duplicate (Overlap ∷ []) (geo_of q) q.segment (words_of q) more).1 in
    overlaps_kept (geo_of q) (words_of q) (each_kept Overlap [] (geo_of q) q.segment (words_of q) last).0

pub segment_count-requires : goal.segment_count-requires
segment_count-requires c =
    let q = c.args.quiet.now in
    counts_kept (geo_of q) (words_of q) (words_named_none TierCount (geo_of q) q.segment (words_of q) (answer_ok TierCount (geo_of q) q.segment c.segment-segment.result (words_of q) c.named-2.result c.in_ok-named-2.field-0 c.segment-segment.ensures.value (c.named-2.ensures (tier_count_broken (geo_of q) (words_of q)) c.tier_counts.ensures) c.in_ok-named-2.was))

pub returns-in_err-named : goal.returns-in_err-named
returns-in_err-named c =
    let q = c.args.quiet.now in
    let p = err_from_is_err_and c.from_residual.result c.from_residual.ensures.1 in
    rw (p.1, p.2) (law_broken Bits (TierCount ∷ SegmentCount ∷ Unlinked ∷ []) (geo_of q) q.segment (words_of q) c.in_err-named.field-0.0 (answer_err Bits (geo_of q) q.segment c.segment-segment.result (words_of q) c.named.result c.in_err-named.field-0.0 c.segment-segment.ensures.value (c.named.ensures (bits_broken (geo_of q) (words_of q)) c.bits.ensures) c.in_err-named.was))

pub returns-in_err-named-2 : goal.returns-in_err-named-2
returns-in_err-named-2 c =
    let q = c.args.quiet.now in
    let p = err_from_is_err_and c.from_residual-in_err-named-2.result c.from_residual-in_err-named-2.ensures.1 in
    rw (p.1, p.2) (law_kept Bits (TierCount ∷ SegmentCount ∷ Unlinked ∷ []) (geo_of q) q.segment (words_of q) c.in_err-named-2.field-0.0 (answer_ok Bits (geo_of q) q.segment c.segment-segment.result (words_of q) c.named.result c.in_ok-named.field-0 c.segment-segment.ensures.value (c.named.ensures (bits_broken (geo_of q) (words_of q)) c.bits.ensures) c.in_ok-named.was)
    (law_broken TierCount (SegmentCount ∷ Unlinked ∷ []) (geo_of q) q.segment (words_of q) c.in_err-named-2.field-0.0 (answer_err TierCount (geo_of q) q.segment c.segment-segment.result (words_of q) c.named-2.result c.in_err-named-2.field-0.0 c.segment-segment.ensures.value (c.named-2.ensures (tier_count_broken (geo_of q) (words_of q)) c.tier_counts.ensures) c.in_err-named-2.was)))

pub returns-in_err-named-3 : goal.returns-in_err-named-3
returns-in_err-named-3 c =
    let q = c.args.quiet.now in
    let p = err_from_is_err_and c.from_residual-in_err-named-3.result c.from_residual-in_err-named-3.ensures.1 in
    rw (p.1, p.2) (law_kept Bits (TierCount ∷ SegmentCount ∷ Unlinked ∷ []) (geo_of q) q.segment (words_of q) c.in_err-named-3.field-0.0 (answer_ok Bits (geo_of q) q.segment c.segment-segment.result (words_of q) c.named.result c.in_ok-named.field-0 c.segment-segment.ensures.value (c.named.ensures (bits_broken (geo_of q) (words_of q)) c.bits.ensures) c.in_ok-named.was)
    (law_kept TierCount (SegmentCount ∷ Unlinked ∷ []) (geo_of q) q.segment (words_of q) c.in_err-named-3.field-0.0 (answer_ok TierCount (geo_of q) q.segment c.segment-segment.result (words_of q) c.named-2.result c.in_ok-named-2.field-0 c.segment-segment.ensures.value (c.named-2.ensures (tier_count_broken (geo_of q) (words_of q)) c.tier_counts.ensures) c.in_ok-named-2.was)
    (law_broken SegmentCount (Unlinked ∷ []) (geo_of q) q.segment (words_of q) c.in_err-named-3.field-0.0 (answer_err SegmentCount (geo_of q) q.segment c.segment-segment.result (words_of q) c.named-3.result c.in_err-named-3.field-0.0 c.segment-segment.ensures.value (c.named-3.ensures (segment_count_broken (geo_of q) (words_of q)) c.segment_count.ensures) c.in_err-named-3.was))))

pub returns : goal.returns
returns c =
    let q = c.args.quiet.now in
    law_names Bits (TierCount ∷ SegmentCount ∷ Unlinked ∷ []) (geo_of q) q.segment (words_of q) c.named-4.result (answer_ok Bits (geo_of q) q.segment c.segment-segment.result (words_of q) c.named.result c.in_ok-named.field-0 c.segment-segment.ensures.value (c.named.ensures (bits_broken (geo_of q) (words_of q)) c.bits.ensures) c.in_ok-named.was)
    (law_names TierCount (SegmentCount ∷ Unlinked ∷ []) (geo_of q) q.segment (words_of q) c.named-4.result (answer_ok TierCount (geo_of q) q.segment c.segment-segment.result (words_of q) c.named-2.result c.in_ok-named-2.field-0 c.segment-segment.ensures.value (c.named-2.ensures (tier_count_broken (geo_of q) (words_of q)) c.tier_counts.ensures) c.in_ok-named-2.was)
    (law_names SegmentCount (Unlinked ∷ []) (geo_of q) q.segment (words_of q) c.named-4.result (answer_ok SegmentCount (geo_of q) q.segment c.segment-segment.result (words_of q) c.named-3.result c.in_ok-named-3.field-0 c.segment-segment.ensures.value (c.named-3.ensures (segment_count_broken (geo_of q) (words_of q)) c.segment_count.ensures) c.in_ok-named-3.was)
    (law_last Unlinked (geo_of q) q.segment (words_of q) c.named-4.result (answer_last Unlinked (geo_of q) q.segment c.segment-segment.result (words_of q) c.named-4.result c.segment-segment.ensures.value (c.named-4.ensures (unlinked_broken (geo_of q) (words_of q)) c.unlinked.ensures)))))
