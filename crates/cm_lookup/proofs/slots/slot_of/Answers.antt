use Rattle.std.proofs.Common.{arith, refl}
use Rattle.std.proofs.lemmas.Grind.{common_steps}
use Rattle.cm_geo.specs.Addresses.{slot_at}
use Rattle.cm_words.proofs.FittingLists.{known_word}
use Rattle.cm_lookup.proofs.Tiers.{slot_inner}
use Rattle.cm_lookup.proofs.slots.slot_of.Goals as goal

pub returns-clause-parts : goal.returns-clause-parts
returns-clause-parts g c = λ words fits.
    rw (known_word (g.M.Mem.seen c.load.new.self) (slot_at c.args.geo.now c.args.place c.args.slot) c.slot_at.result c.in_ok-word.word (slot_inner c.args.geo.now c.args.place c.args.slot) c.slot_at.ensures.value c.in_ok-word.ensures.word words fits)
    (record { upper = refl; lower = grind (arith, common_steps) })
