-- The segments are recovered in their order.
use Rattle.std.proofs.Common.{arith, ◌+◌, List, subst, sym, ap}
use Rattle.cm_geo.specs.declared.geo.Geo.{Geo}
use Rattle.cm_plain.specs.declared.found.SegFound.{SegFound}
use Rattle.cm_recover.proofs.RecoveredMaps.{AreRecovered, all_recovered, recovered_more}
use Rattle.cm_recover.proofs.recovery.recover.Goals as goal

pub loop-segment-preserved : goal.loop-segment-preserved
loop-segment-preserved c = record {
  room = c.loop-segment.invariant.room;
  capacity = omega (arith, c.loop-segment.invariant.capacity, c.push_reserved.ensures.capacity);
  recovered = subst (λ (found : List SegFound). AreRecovered c.args.words.now c.recover_segment-left.new.words
      (c.loop-segment.segment + 1) c.recover_segment-left.result.1 found) (sym c.push_reserved.ensures.items)
      (recovered_more c.args.words.now c.loop-segment.words c.recover_segment-left.new.words c.loop-segment.segment c.loop-segment.extra
      c.recover_segment-left.result.1 c.loop-segment.found.items
      c.recover_segment-left.result.0
      (let size = ap (λ (g : Geo). g.segments) c.geo.ensures in omega (arith, c.loop-segment-test.true, c.segments-segment-end.ensures, size))
      c.loop-segment.invariant.recovered c.recover_segment-left.ensures.geo c.recover_segment-left.ensures.others
      c.recover_segment-left.ensures.extra
      c.recover_segment-left.ensures.state);
}

pub returns-clause-words : goal.returns-clause-words
returns-clause-words c =
    all_recovered c.args.words.now c.loop-segment.words c.loop-segment.segment c.loop-segment.extra c.loop-segment.found.items
    (let size = ap (λ (g : Geo). g.segments) c.geo.ensures in omega (arith, c.loop-segment-test.false, c.segments-segment-end.ensures, size))
    c.loop-segment.invariant.recovered c.are_whole.ensures.whole c.are_whole.ensures.fit
