-- Each law in turn.
use Rattle.std.proofs.Common.{[], ◌∷◌}
use Rattle.std.proofs.lemmas.Result.{err_from_is_err_and}
use Rattle.cm_check.specs.declared.law.Law.TheVariants.{Duplicate, Gap, Overlap, Slot}
use Rattle.cm_check.specs.SlotLaws.{duplicate_broken, gap_broken, overlap_broken, slot_broken}
use Rattle.cm_check.specs.Quiets.{geo_of, words_of}
use Rattle.cm_check.proofs.BrokenLaws.{answer_err, answer_last, answer_ok, law_broken, law_kept, law_last, law_names}
use Rattle.cm_check.proofs.LawsKept.{gaps_kept, slots_kept, words_named_none}
use Rattle.cm_check.proofs.laws.slot_laws.Goals as goal

pub repeats-requires-clause-rightful : goal.repeats-requires-clause-rightful
repeats-requires-clause-rightful c =
    let q = c.args.quiet.now in
    slots_kept (geo_of q) q.segment (words_of q) (words_named_none Slot (geo_of q) q.segment (words_of q) (answer_ok Slot (geo_of q) q.segment c.segment-segment.result (words_of q) c.named.result c.in_ok-named.field-0 c.segment-segment.ensures.value (c.named.ensures (slot_broken (geo_of q) q.segment (words_of q)) c.slots.ensures) c.in_ok-named.was))

pub repeats-requires-clause-reached : goal.repeats-requires-clause-reached
repeats-requires-clause-reached c =
    let q = c.args.quiet.now in
    gaps_kept (geo_of q) (words_of q) (words_named_none Gap (geo_of q) q.segment (words_of q) (answer_ok Gap (geo_of q) q.segment c.segment-segment.result (words_of q) c.named-2.result c.in_ok-named-2.field-0 c.segment-segment.ensures.value (c.named-2.ensures (gap_broken (geo_of q) (words_of q)) c.gaps.ensures) c.in_ok-named-2.was))

pub overlaps-requires : goal.overlaps-requires
overlaps-requires c =
    let q = c.args.quiet.now in
    slots_kept (geo_of q) q.segment (words_of q) (words_named_none Slot (geo_of q) q.segment (words_of q) (answer_ok Slot (geo_of q) q.segment c.segment-segment.result (words_of q) c.named.result c.in_ok-named.field-0 c.segment-segment.ensures.value (c.named.ensures (slot_broken (geo_of q) q.segment (words_of q)) c.slots.ensures) c.in_ok-named.was))

pub returns-in_err-named : goal.returns-in_err-named
returns-in_err-named c =
    let q = c.args.quiet.now in
    let p = err_from_is_err_and c.from_residual.result c.from_residual.ensures.1 in
    rw (p.1, p.2) (law_broken Slot (Gap ∷ Duplicate ∷ Overlap ∷ []) (geo_of q) q.segment (words_of q) c.in_err-named.field-0.0 (answer_err Slot (geo_of q) q.segment c.segment-segment.result (words_of q) c.named.result c.in_err-named.field-0.0 c.segment-segment.ensures.value (c.named.ensures (slot_broken (geo_of q) q.segment (words_of q)) c.slots.ensures) c.in_err-named.was))

pub returns-in_err-named-2 : goal.returns-in_err-named-2
returns-in_err-named-2 c =
    let q = c.args.quiet.now in
    let p = err_from_is_err_and c.from_residual-in_err-named-2.result c.from_residual-in_err-named-2.ensures.1 in
    rw (p.1, p.2) (law_kept Slot (Gap ∷ Duplicate ∷ Overlap ∷ []) (geo_of q) q.segment (words_of q) c.in_err-named-2.field-0.0 (answer_ok Slot (geo_of q) q.segment c.segment-segment.result (words_of q) c.named.result c.in_ok-named.field-0 c.segment-segment.ensures.value (c.named.ensures (slot_broken (geo_of q) q.segment (words_of q)) c.slots.ensures) c.in_ok-named.was)
    (law_broken Gap (Duplicate ∷ Overlap ∷ []) (geo_of q) q.segment (words_of q) c.in_err-named-2.field-0.0 (answer_err Gap (geo_of q) q.segment c.segment-segment.result (words_of q) c.named-2.result c.in_err-named-2.field-0.0 c.segment-segment.ensures.value (c.named-2.ensures (gap_broken (geo_of q) (words_of q)) c.gaps.ensures) c.in_err-named-2.was)))

pub returns-in_err-named-3 : goal.returns-in_err-named-3
returns-in_err-named-3 c =
    let q = c.args.quiet.now in
    let p = err_from_is_err_and c.from_residual-in_err-named-3.result c.from_residual-in_err-named-3.ensures.1 in
    rw (p.1, p.2) (law_kept Slot (Gap ∷ Duplicate ∷ Overlap ∷ []) (geo_of q) q.segment (words_of q) c.in_err-named-3.field-0.0 (answer_ok Slot (geo_of q) q.segment c.segment-segment.result (words_of q) c.named.result c.in_ok-named.field-0 c.segment-segment.ensures.value (c.named.ensures (slot_broken (geo_of q) q.segment (words_of q)) c.slots.ensures) c.in_ok-named.was)
    (law_kept Gap (Duplicate ∷ Overlap ∷ []) (geo_of q) q.segment (words_of q) c.in_err-named-3.field-0.0 (answer_ok Gap (geo_of q) q.segment c.segment-segment.result (words_of q) c.named-2.result c.in_ok-named-2.field-0 c.segment-segment.ensures.value (c.named-2.ensures (gap_broken (geo_of q) (words_of q)) c.gaps.ensures) c.in_ok-named-2.was)
    (law_broken Duplicate (Overlap ∷ []) (geo_of q) q.segment (words_of q) c.in_err-named-3.field-0.0 (answer_err Duplicate (geo_of q) q.segment c.segment-segment.result (words_of q) c.named-3.result c.in_err-named-3.field-0.0 c.segment-segment.ensures.value (c.named-3.ensures (duplicate_broken (geo_of q) (words_of q)) c.repeats.ensures) c.in_err-named-3.was))))

pub returns : goal.returns
returns c =
    let q = c.args.quiet.now in
    law_names Slot (Gap ∷ Duplicate ∷ Overlap ∷ []) (geo_of q) q.segment (words_of q) c.named-4.result (answer_ok Slot (geo_of q) q.segment c.segment-segment.result (words_of q) c.named.result c.in_ok-named.field-0 c.segment-segment.ensures.value (c.named.ensures (slot_broken (geo_of q) q.segment (words_of q)) c.slots.ensures) c.in_ok-named.was)
    (law_names Gap (Duplicate ∷ Overlap ∷ []) (geo_of q) q.segment (words_of q) c.named-4.result (answer_ok Gap (geo_of q) q.segment c.segment-segment.result (words_of q) c.named-2.result c.in_ok-named-2.field-0 c.segment-segment.ensures.value (c.named-2.ensures (gap_broken (geo_of q) (words_of q)) c.gaps.ensures) c.in_ok-named-2.was)
    (law_names Duplicate (Overlap ∷ []) (geo_of q) q.segment (words_of q) c.named-4.result (answer_ok Duplicate (geo_of q) q.segment c.segment-segment.result (words_of q) c.named-3.result c.in_ok-named-3.field-0 c.segment-segment.ensures.value (c.named-3.ensures (duplicate_broken (geo_of q) (words_of q)) c.repeats.ensures) c.in_ok-named-3.was)
    (law_last Overlap (geo_of q) q.segment (words_of q) c.named-4.result (answer_last Overlap (geo_of q) q.segment c.segment-segment.result (words_of q) c.named-4.result c.segment-segment.ensures.value (c.named-4.ensures (overlap_broken (geo_of q) (words_of q)) c.overlaps.ensures)))))
