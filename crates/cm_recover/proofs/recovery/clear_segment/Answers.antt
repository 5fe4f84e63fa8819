-- The segment's words are written over those of the map.
use Rattle.std.proofs.Common.{◌∙◌, ap, sym, subst, List, ℕ, length}
use Rattle.cm_geo.specs.declared.geo.Geo.{Geo}
use Rattle.cm_words.specs.Maps.{segment_in}
use Rattle.cm_recover.specs.Clearing.{IsCleared}
use Rattle.cm_recover.proofs.SegmentWords.{others_same, part_long, written_here, written_rest, written_whole}
use Rattle.cm_recover.proofs.recovery.clear_segment.Goals as goal

pub returns-clause-others : goal.returns-clause-others
returns-clause-others c =
    let long = c.clear.ensures.length_is
    ∙ (ap (λ (ws : List ℕ). length ws) c.segment_mut.ensures.value
    ∙ part_long c.args.words.now c.args.segment c.are_whole.ensures.whole c.requires.segment) in
    others_same c.args.words.now _ c.args.segment
    (written_rest c.args.words.now c.args.segment c.clear.new.words c.are_whole.ensures.whole c.requires.segment long)
    c.are_whole.ensures.whole (written_whole c.args.words.now c.args.segment c.clear.new.words c.are_whole.ensures.whole c.requires.segment long)
    c.requires.segment

pub returns-clause-words : goal.returns-clause-words
returns-clause-words c =
    let long = c.clear.ensures.length_is
    ∙ (ap (λ (ws : List ℕ). length ws) c.segment_mut.ensures.value
    ∙ part_long c.args.words.now c.args.segment c.are_whole.ensures.whole c.requires.segment) in
    subst (λ (ws : List ℕ). IsCleared c.args.words.now.geo c.args.places.now (segment_in c.args.words.now c.args.segment) ws)
    (sym (written_here c.args.words.now c.args.segment c.clear.new.words c.are_whole.ensures.whole c.requires.segment long))
    (subst (λ (ws : List ℕ). IsCleared c.args.words.now.geo c.args.places.now ws c.clear.new.words) c.segment_mut.ensures.value
    (subst (λ (geo : Geo). IsCleared geo c.args.places.now c.segment_mut.result.now c.clear.new.words) c.geo.ensures c.clear.ensures))
