-- The tiers are settled in the order of the chain.
use Rattle.std.proofs.Common.{arith, ◌*◌, ◌+◌, take, get_or}
use Rattle.cm_geo.proofs.Ranges.{chunks_range}
use Rattle.cm_recover.specs.Rebuilding.{SettlesAll, SettlesTier}
use Rattle.cm_recover.proofs.SettledTiers.{SettlesFirst, changed_as, changed_then, first_all, first_more, within_more}
use Rattle.cm_recover.proofs.rebuilding.settle_all.Goals as goal

pub loop-place-preserved : goal.loop-place-preserved
loop-place-preserved g c = record {
  settles = changed_then g.M.Mem.seen g.M.Mem.same_rest
      (SettlesFirst c.args.geo.now c.args.segment
      (take c.args.covered c.args.chain.now) c.args.chain.now c.args.words.now c.loop-place.place-index c.loop-place.tally)
      (SettlesTier c.args.geo.now c.args.segment (take c.args.covered c.args.chain.now)
      (get_or c.args.chain.now c.loop-place.place-index 0) c.args.words.now c.loop-place.tally c.settle_tier-tally.result)
      (SettlesFirst c.args.geo.now c.args.segment (take c.args.covered c.args.chain.now) c.args.chain.now c.args.words.now
      (c.loop-place.place-index + 1) c.settle_tier-tally.result)
      _ c.loop-place.mem c.settle_tier-tally.new.mem (g.met.M.Mem.rest_transitive _ _ _)
      (λ before mid words first tier. first_more c.args.geo.now c.args.segment
      (take c.args.covered c.args.chain.now) c.args.chain.now c.args.words.now c.loop-place.place-index c.loop-place.tally
      c.settle_tier-tally.result
      before mid words (omega (arith, c.loop-place-test.true)) first tier)
      c.loop-place.invariant.settles c.settle_tier-tally.ensures.settles;
  within = within_more _ _ c.settle_tier-tally.result (omega (arith, chunks_range c.args.geo.now))
      (c.settle_tier-tally.ensures.tally (8192 * c.loop-place.place-index) c.loop-place.invariant.within);
}

pub returns : goal.returns
returns g c = changed_as g.M.Mem.seen g.M.Mem.same_rest
    (SettlesFirst c.args.geo.now c.args.segment
    (take c.args.covered c.args.chain.now) c.args.chain.now c.args.words.now c.loop-place.place-index c.loop-place.tally)
    (SettlesAll c.args.geo.now c.args.segment (take c.args.covered c.args.chain.now) c.args.chain.now c.args.words.now c.loop-place.tally)
    _ c.loop-place.mem
    (λ before words first. first_all c.args.geo.now c.args.segment
    (take c.args.covered c.args.chain.now) c.args.chain.now c.args.words.now c.loop-place.place-index c.loop-place.tally before words
    (omega (arith, c.loop-place-test.false)) first)
    c.loop-place.invariant.settles
