-- The slot is judged, and then its entry is kept, or the slot dropped.
use Rattle.std.proofs.Common.{arith, ap, refl}
use Rattle.cm_words.specs.Effects.{Changes, Reads}
use Rattle.cm_words.proofs.CallSequences.{done_then}
use Rattle.cm_plain.specs.declared.found.Drops.{Drops}
use Rattle.cm_recover.specs.Tallies.{count_for}
use Rattle.cm_recover.specs.Rebuilding.{IsAdded}
use Rattle.cm_recover.proofs.SettledSlots.{drops_slot, keeps_slot}
use Rattle.cm_recover.proofs.rebuilding.settle.Goals as goal

pub returns-in-Dropped-clause-settles : goal.returns-in-Dropped-clause-settles
returns-in-Dropped-clause-settles g c =
    let judged = rw c.in-Dropped.is at c.judge.ensures.verdict in
    record {
      rest = c.judge.ensures.loads.rest;
      survives = c.judge.ensures.loads.survives;
      done = drops_slot _ _ c.args.geo.now c.args.segment c.args.places.now c.args.place c.args.word c.args.tally c.with_drop.result
          c.in-Dropped.why c.judge.ensures.loads.done judged
          c.with_drop.ensures.entries c.with_drop.ensures.drops;
    }

pub returns-in-Kept-clause-settles : goal.returns-in-Kept-clause-settles
returns-in-Kept-clause-settles g c =
    let judged = rw c.in-Kept.is at c.judge.ensures.verdict in
    let inside = rw c.in-Kept.is at c.judge.ensures.run in
    done_then g.M.Mem.seen g.M.Mem.same_rest Reads
    (λ old now. Changes old now (IsAdded c.args.geo.now c.in-Kept.run' _)) _ _ c.judge.new.mem c.keep.new.mem
    (g.met.M.Mem.rest_transitive _ _ _)
    c.judge.ensures.loads c.keep.ensures.adds
    (λ reads adds. keeps_slot _ _ _ c.args.geo.now c.args.segment c.args.places.now c.args.place c.args.word _ c.in-Kept.run' c.args.tally
    c.with_entry.result reads judged inside refl adds
    c.with_entry.ensures.entries c.with_entry.ensures.drops)

pub returns-in-Kept-clause-tally : goal.returns-in-Kept-clause-tally
returns-in-Kept-clause-tally g c = λ most within. record {
  kept = omega (arith, c.with_entry.ensures.entries, within.kept);
  drops = λ why. (let same = ap (λ (d : Drops). count_for d why) c.with_entry.ensures.drops in omega (arith, same, within.drops why));
}
