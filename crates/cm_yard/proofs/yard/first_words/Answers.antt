use Rattle.std.proofs.Common.{◌++◌, ◌∙◌, ◌+◌, ℕ, List, ap, arith, get_or, replicate}
use Rattle.cm_yard.proofs.Owners.{owners_done, owners_next, owners_room}
use Rattle.cm_yard.proofs.yard.first_words.Goals as goal

pub loop-segment-preserved : goal.loop-segment-preserved
loop-segment-preserved c =
    let linked = c.args.linked.now in
    c.in_ok-push_copies.ensures
    ∙ (ap (λ (words : List ℕ). words ++ replicate (get_or linked c.loop-segment.segment 0) (c.loop-segment.segment + 1)) c.loop-segment.invariant ∙ owners_next (replicate c.args.geo.now.segments 0) linked c.loop-segment.segment (omega arith))

pub overflow_sub-rest : goal.overflow_sub-rest
overflow_sub-rest c =
    let room = owners_room c.args.geo.now c.args.linked.now c.loop-segment.words.items c.loop-segment.segment c.requires.within_limit c.loop-segment.invariant in
    omega (arith, room, c.loop-segment.words.ok.0, c.len.ensures, c.segments.ensures, c.extra.ensures)

pub returns : goal.returns
returns c =
    let geo = c.args.geo.now in
    let words = c.loop-segment.words in
    let all = owners_done geo c.args.linked.now words.items c.loop-segment.segment c.len.result (omega arith) (omega (arith, words.ok.0, c.len.ensures)) c.loop-segment.invariant in
    c.in_ok-push_copies-2.ensures ∙ rw (c.segments.ensures, c.extra.ensures) all
