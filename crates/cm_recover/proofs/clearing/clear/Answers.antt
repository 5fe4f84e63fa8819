-- The head, then each tier, and then the link of the last one.
use Rattle.std.proofs.Common.{arith, refl}
use Rattle.cm_geo.proofs.AddressOrder.{segment_head_within}
use Rattle.cm_recover.proofs.ClearedTiers.{cleared_by}
use Rattle.cm_recover.proofs.clearing.clear.Goals as goal

pub clear_between-requires-clause-in_range : goal.clear_between-requires-clause-in_range
clear_between-requires-clause-in_range c = omega (arith, c.requires.length, segment_head_within c.args.geo.now)

pub returns : goal.returns
returns c =
    cleared_by c.args.geo.now c.args.places.now c.args.words.now c.clear_between.new.words c.clear_tiers.new.words _ _ c.tier_at.ensures.value refl
    c.requires.nonempty c.requires.inside c.requires.apart c.requires.length c.clear_between.ensures c.clear_tiers.ensures
