-- A segment is copied, its chain found, and then it is cleared and settled.
use Rattle.std.proofs.Common.{arith, ◌+◌, ◌∙◌, ap, subst, take, List, ℕ}
use Rattle.cm_geo.proofs.AddressOrder.{segment_head_within}
use Rattle.cm_geo.specs.declared.geo.Geo.{Geo}
use Rattle.cm_tiers.specs.Chains.{places_of}
use Rattle.cm_recover.specs.Rebuilding.{SettlesAll}
use Rattle.cm_recover.specs.Tallies.{IsToldOf}
use Rattle.cm_words.specs.Maps.{segment_in}
use Rattle.cm_recover.proofs.SegmentWords.{part_long}
use Rattle.cm_recover.proofs.StartState.{segment_recovered}
use Rattle.cm_recover.proofs.recovery.recover_segment.Goals as goal

pub found_in-found-requires : goal.found_in-found-requires
found_in-found-requires c = omega (arith, c.requires.room, c.copy_from_slice.ensures.len, segment_head_within c.args.words.now.geo)

pub returns-clause-state : goal.returns-clause-state
returns-clause-state c =
    let old_is = c.copy_from_slice.ensures.after ∙ c.segment.ensures in
    λ words_of is extra_is.
    segment_recovered c.args.words.now.geo c.args.segment c.args.extra _ words_of c.chain_in-chain.result (segment_in c.args.words.now c.args.segment)
    (segment_in c.clear_segment.new.words c.args.segment) (segment_in c.settle_segment-tally.new.words c.args.segment) c.settle_segment-tally.result
    c.found_in-found.result is extra_is
    (part_long c.args.words.now c.args.segment c.are_whole.ensures.whole c.requires.segment) c.chain_in-chain.ensures.read.nonzero
    c.chain_in-chain.ensures.linked
    (ap (λ (n : ℕ). 1 + n) c.min.ensures) c.clear_segment.ensures.words
    (subst (λ (geo : Geo). SettlesAll geo c.args.segment (take (1 + c.min.result) (places_of c.chain_in-chain.result))
    (places_of c.chain_in-chain.result) (segment_in c.args.words.now c.args.segment)
    c.settle_segment-tally.result (segment_in c.clear_segment.new.words c.args.segment)
    (segment_in c.settle_segment-tally.new.words c.args.segment)) c.clear_segment.ensures.geo
    (subst (λ (old : List ℕ). SettlesAll c.clear_segment.new.words.geo c.args.segment (take (1 + c.min.result) (places_of c.chain_in-chain.result))
    (places_of c.chain_in-chain.result) old
    c.settle_segment-tally.result (segment_in c.clear_segment.new.words c.args.segment)
    (segment_in c.settle_segment-tally.new.words c.args.segment)) old_is c.settle_segment-tally.ensures.settles))
    (subst (λ (old : List ℕ). IsToldOf c.args.segment c.chain_in-chain.result c.settle_segment-tally.result old c.found_in-found.result) old_is
    c.found_in-found.ensures)
