-- The chain that is read is that of the segment's words.
use Rattle.std.proofs.Common.{ℕ, List, ap, subst}
use Rattle.cm_geo.specs.declared.geo.Geo.{Geo}
use Rattle.cm_tiers.specs.Chains.{IsLinked, IsRead}
use Rattle.cm_words.specs.Maps.{segment_in}
use Rattle.cm_words.specs.Memory.{FitsNotes, MemSeen}
use Rattle.cm_words.specs.Fixed.{fixed_seen}
use Rattle.cm_check.proofs.QuietReads.{fits_words}
use Rattle.cm_check.proofs.quiet.Quiet.new.Goals as goal

pub invariant_of-result : goal.invariant_of-result
invariant_of-result c =
    let fits = fits_words c.new.result c.chain.new.mem c.args.words.now c.args.segment c.chain.ensures.loads.rest c.new.ensures.words (ap (λ (m : MemSeen). m.setting.segment) c.new.ensures.seen) in
    let read : IsRead c.geo.result.now c.unwrap-chain.result = rw c.unwrap-chain.ensures at c.chain.ensures.read in
    let linked : (words : List ℕ) → FitsNotes (fixed_seen c.chain.new.mem) words → IsLinked c.geo.result.now words c.unwrap-chain.result = rw c.unwrap-chain.ensures at c.chain.ensures.linked in
    let geo = c.geo.ensures in
    record {
      here = c.requires;
      whole = c.are_whole.ensures.whole;
      fit = c.are_whole.ensures.fit;
      read = subst (λ (g : Geo). IsRead g c.unwrap-chain.result) geo read;
      linked = subst (λ (g : Geo). IsLinked g (segment_in c.args.words.now c.args.segment) c.unwrap-chain.result) geo (linked (segment_in c.args.words.now c.args.segment) fits);
    }
