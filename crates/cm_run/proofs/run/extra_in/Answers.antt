use Rattle.std.proofs.Common.{◌≡◌, length, arith, ap, subst}
use Rattle.cm_geo.specs.declared.geo.Geo.{Geo}
use Rattle.cm_words.specs.Memory.{MemSeen}
use Rattle.cm_words.specs.Maps.{segment_in}
use Rattle.cm_tiers.specs.Chains.{IsLinked, IsRead}
use Rattle.cm_store.proofs.Starting.{fits_words, linked_is}
use Rattle.cm_run.proofs.run.extra_in.Goals as goal

pub returns : goal.returns
returns c =
    let eight : length c.in-Ok.chain.places ≡ 8 = omega arith in
    let fits = fits_words c.new-mem.result c.chain.new.mem c.args.words.now c.args.segment c.in-Ok.ensures.loads.rest c.new-mem.ensures.words (ap (λ (m : MemSeen). m.setting.segment) c.new-mem.ensures.seen) in
    linked_is c.args.words.now c.args.segment c.in-Ok.chain eight (subst (λ (g : Geo). IsRead g c.in-Ok.chain) c.geo.ensures c.in-Ok.ensures.read)
    (subst (λ (g : Geo). IsLinked g (segment_in c.args.words.now c.args.segment) c.in-Ok.chain) c.geo.ensures (c.in-Ok.ensures.linked (segment_in c.args.words.now c.args.segment) fits))
