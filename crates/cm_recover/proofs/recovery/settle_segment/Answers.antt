-- The words of the memory, when it is let go, are those of the map.
use Rattle.std.proofs.Common.{rules, subst, take}
use Rattle.cm_geo.specs.declared.geo.Geo.{Geo}
use Rattle.cm_words.specs.Effects.{Changes}
use Rattle.cm_words.specs.Plain.{plain_seen}
use Rattle.cm_words.specs.KillFuses.{never_seen}
use Rattle.cm_recover.specs.Rebuilding.{SettlesAll}
use Rattle.cm_recover.proofs.SegmentWords.{lender_changed, lender_others}
use Rattle.cm_recover.proofs.recovery.settle_segment.Goals as goal

pub returns-clause-others : goal.returns-clause-others
returns-clause-others c =
    lender_others c.free-mem.result c.settle_all.new.mem c.args.words.now _ c.args.segment c.settle_all.ensures.rest c.free-mem.ensures.over.map_is
    c.free-mem.ensures.over.segment_is (search rules) c.are_whole.ensures.whole
    c.requires.segment

pub returns-clause-settles : goal.returns-clause-settles
returns-clause-settles c =
    lender_changed (λ _. never_seen) c.free-mem.result c.settle_all.new.mem c.args.words.now _ c.args.segment
    (SettlesAll c.args.words.now.geo c.args.segment (take c.args.covered c.args.chain.now) c.args.chain.now c.args.old.now c.settle_all.result)
    (subst (λ (geo : Geo). Changes (plain_seen (λ _. never_seen) c.free-mem.result) (plain_seen (λ _. never_seen) c.settle_all.new.mem)
    (SettlesAll geo c.args.segment (take c.args.covered c.args.chain.now) c.args.chain.now c.args.old.now c.settle_all.result)) c.geo.ensures
    c.settle_all.ensures.done)
    c.free-mem.ensures.over.map_is c.free-mem.ensures.over.segment_is c.settle_all.ensures.rest.segment (search rules)
