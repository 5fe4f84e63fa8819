-- By the chunk to which the slot points.
use Rattle.std.proofs.Common.{◌<◌, subst, sym}
use Rattle.std.proofs.lemmas.List.Elements.{All-contains}
use Rattle.cm_recover.specs.Judgements.{Judgement}
use Rattle.cm_recover.specs.Rebuilding.{IsJudged}
use Rattle.cm_recover.proofs.JudgedSlots.{judged_in, judged_range, place_among}
use Rattle.cm_recover.proofs.judging.judge.Goals as goal

pub returns-in_default-clause-verdict : goal.returns-in_default-clause-verdict
returns-in_default-clause-verdict g c =
    let none = rw (c.in_default.is, c.chunks.ensures) at c.chunk_of.ensures in
    λ words old kept at fits is so_far. judged_range c.args.geo.now c.args.segment old c.args.places.now kept at c.args.place c.args.word is
    (sym c.if-not-contains.ensures.value) none

pub returns-clause-verdict : goal.returns-clause-verdict
returns-clause-verdict g c =
    let points = rw (c.in-Some.is, c.chunks.ensures) at c.chunk_of.ensures in
    let among = sym c.if-not-contains.ensures.value in
    λ words old kept at fits is so_far.
    subst (λ (it : Judgement). IsJudged c.args.geo.now it c.judge_chunk.result)
    (sym (judged_in c.args.geo.now c.args.segment old c.args.places.now words kept at c.args.place c.args.word c.in-Some.chunk is among
    (All-contains (λ place. place < c.args.geo.now.tiers) c.args.places.now c.args.place c.requires.places
    (place_among c.args.places.now c.args.place among)) points so_far))
    (c.judge_chunk.ensures.verdict words old kept fits so_far)
