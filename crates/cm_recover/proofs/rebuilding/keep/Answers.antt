-- The stores that keep an entry, one after the other.
use Rattle.std.proofs.Common.{arith, ◌+◌, ◌∙◌, ap, refl, ℕ}
use Rattle.cm_geo.proofs.AddressOrder.{segment_limit, tier_behind_head}
use Rattle.cm_words.specs.Memory.{Setting}
use Rattle.cm_words.specs.Effects.{IsAsBefore, Reads}
use Rattle.cm_recover.proofs.AddedEntries.{adds}
use Rattle.cm_recover.proofs.OpenMemories.{answered}
use Rattle.cm_recover.proofs.rebuilding.keep.Goals as goal

pub overflow_add-tier_at : goal.overflow_add-tier_at
overflow_add-tier_at g c = omega (arith, c.tier_at.ensures.in_range, segment_limit c.args.geo.now)

pub raise-requires-clause-inner : goal.raise-requires-clause-inner
raise-requires-clause-inner g c = omega (arith, c.tier_at.ensures.value, tier_behind_head c.args.geo.now c.args.run.place)

pub returns : goal.returns
returns g c =
    let loaded = answered g.M.Mem.seen g.M.Mem.same_rest Reads Reads c.set.new.mem c.free_slot.new.mem _ _ c.alive-slot.ensures
    c.free_slot.ensures.loads in
    let sets = answered g.M.Mem.seen g.M.Mem.same_rest _ _ _ c.set.new.mem _ _ c.alive.ensures c.set.ensures.stores in
    let geo_is = ap (λ (s : Setting). s.geo) (loaded.done.keeps.setting ∙ sets.done.keeps.setting) ∙ c.requires.open.geo_is in
    record {
      adds = adds g.M.Mem.seen g.M.Mem.same_rest _ c.set.new.mem c.free_slot.new.mem c.put_slot.new.mem c.raise.new.mem c.raise-2.new.mem
          c.args.geo.now c.args.run c.args.fingerprint c.alive-slot.result _ _
          g.met.M.Mem.rest_transitive geo_is (rw c.alive-slot.ensures at c.free_slot.ensures.in_range) refl
          (ap (λ (n : ℕ). n + 1) c.tier_at.ensures.value)
          (rw c.alive-slot.ensures at c.free_slot.ensures.first)
          sets
          loaded
          (answered g.M.Mem.seen g.M.Mem.same_rest _ IsAsBefore _ _ _ _ c.alive-2.ensures c.put_slot.ensures.call)
          c.raise.ensures.raises c.raise-2.ensures.raises;
    }
