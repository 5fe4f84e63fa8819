use Rattle.std.proofs.Common.{arith}
use Rattle.cm_words.proofs.CallSequences.{stores_once_as}
use Rattle.cm_lookup.specs.Tiers.{slot_word}
use Rattle.cm_lookup.proofs.slots.put_slot.Goals as goal

pub returns : goal.returns
returns g c =
    stores_once_as g.M.Mem.seen g.M.Mem.same_rest _ _ _ (slot_word c.args.fingerprint c.args.chunk) _ c.store.new.self _ c.slot_at.ensures.value (omega arith) c.in_ok-store.ensures.stores
