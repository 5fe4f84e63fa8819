use Rattle.cm_recover.proofs.ClearedTiers.{below_more}
use Rattle.cm_recover.proofs.clearing.clear_tiers.Goals as goal

pub loop-place-preserved : goal.loop-place-preserved
loop-place-preserved c =
    below_more c.args.geo.now c.args.places.now c.loop-place.place-counter c.contains.result c.args.words.now c.loop-place.words
    c.clear_tier.new.words c.contains.ensures.value
    c.loop-place.invariant c.clear_tier.ensures
