-- By the verdict on what is read at the chunk.
use Rattle.std.proofs.Common.{◌<◌}
use Rattle.std.proofs.lemmas.List.Elements.{All-contains}
use Rattle.cm_plain.proofs.OutsideHead.{resting_many}
use Rattle.cm_words.proofs.CallSequences.{loaded_then}
use Rattle.cm_words.specs.Effects.{Reads}
use Rattle.cm_recover.proofs.JudgedSlots.{chunk_judged, judged_checksum, judged_lengths, judged_padding, reads_entry, run_there}
use Rattle.cm_recover.proofs.OpenMemories.{answered}
use Rattle.cm_recover.proofs.judging.judge_chunk.Goals as goal

pub returns-in-Lengths-clause-verdict : goal.returns-in-Lengths-clause-verdict
returns-in-Lengths-clause-verdict g c =
    let verdict = rw (c.alive.ensures, c.in-Lengths.is) at c.verify.ensures.verdict in
    λ words old kept fits so_far. judged_lengths c.args.geo.now c.args.segment kept c.args.fingerprint c.args.place c.args.chunk _
    (verdict words fits).verdict_is

pub returns-in-Checksum-clause-verdict : goal.returns-in-Checksum-clause-verdict
returns-in-Checksum-clause-verdict g c =
    let verdict = rw (c.alive.ensures, c.in-Checksum.is) at c.verify.ensures.verdict in
    λ words old kept fits so_far. judged_checksum c.args.geo.now c.args.segment kept c.args.fingerprint c.args.place c.args.chunk _
    (verdict words fits).verdict_is

pub returns-in-Padding-clause-verdict : goal.returns-in-Padding-clause-verdict
returns-in-Padding-clause-verdict g c =
    let verdict = rw (c.alive.ensures, c.in-Padding.is) at c.verify.ensures.verdict in
    λ words old kept fits so_far. judged_padding c.args.geo.now c.args.segment kept c.args.fingerprint c.args.place c.args.chunk _
    (verdict words fits).verdict_is

pub returns-in_default-clause-verdict : goal.returns-in_default-clause-verdict
returns-in_default-clause-verdict g c =
    let verdict = rw (c.alive.ensures, c.in-Good.is) at c.verify.ensures.verdict in
    let none = rw c.in_default.is at c.run_in.ensures in
    λ words old kept fits so_far.
    absurd (none (run_there c.args.geo.now words c.args.place c.args.chunk c.in-Good.chunks
    (resting_many c.args.geo.now c.args.segment words _ so_far.rests)
    (All-contains (λ place. place < c.args.geo.now.tiers) c.args.places.now c.args.place c.requires.places c.requires.place)
    (reads_entry c.args.geo.now _ c.in-Good.key_len c.in-Good.value_len c.in-Good.chunks (verdict words fits).verdict_is)))

pub returns-clause-loads : goal.returns-clause-loads
returns-clause-loads g c =
    loaded_then g.M.Mem.seen g.M.Mem.same_rest _ _ _ (g.met.M.Mem.rest_transitive _ _ _)
    (answered g.M.Mem.seen g.M.Mem.same_rest Reads Reads _ _ _ _ c.alive.ensures c.verify.ensures.loads.loads) c.judge_entry.ensures.loads

pub returns-clause-verdict : goal.returns-clause-verdict
returns-clause-verdict g c =
    let verdict = rw (c.alive.ensures, c.in-Good.is) at c.verify.ensures.verdict in
    let run = rw c.in-Some.is at c.run_in.ensures in
    λ words old kept fits so_far.
    chunk_judged c.args.geo.now c.args.segment kept c.args.fingerprint c.args.place c.args.chunk c.in-Good.chunks words c.in-Some.run'
    c.judge_entry.result
    (reads_entry c.args.geo.now _ c.in-Good.key_len c.in-Good.value_len c.in-Good.chunks
    (verdict words (c.judge_entry.ensures.loads.done.fits words fits)).verdict_is) run.1
    (λ pair reads run_is. c.judge_entry.ensures.verdict words old kept pair fits so_far reads run_is)
