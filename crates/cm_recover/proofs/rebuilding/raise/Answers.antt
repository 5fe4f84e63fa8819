-- The count is loaded, and stored again.
use Rattle.std.proofs.Common.{arith, refl, ◌≡◌, [], ◌∷◌}
use Rattle.cm_words.specs.Effects.{IsAsBefore, Reads}
use Rattle.cm_words.specs.Stores.{Writes, store_at}
use Rattle.cm_words.proofs.CallSequences.{done_then}
use Rattle.cm_recover.specs.Rebuilding.{raised}
use Rattle.cm_words.specs.Effects.{Changes}
use Rattle.cm_recover.proofs.OpenMemories.{answered, raised_by}
use Rattle.cm_recover.proofs.rebuilding.raise.Goals as goal

pub returns : goal.returns
returns g c = record {
  raises = done_then g.M.Mem.seen g.M.Mem.same_rest Reads (λ old now. Writes old now (store_at c.args.at _ ∷ []))
      (λ old now. Changes old now (λ before words. words ≡ raised c.args.at before)) _ c.load.new.self c.store.new.self
      (g.met.M.Mem.rest_transitive _ _ _)
      (answered g.M.Mem.seen g.M.Mem.same_rest Reads IsAsBefore _ _ _ _ c.alive-word.ensures c.load.ensures.loads.call)
      (answered g.M.Mem.seen g.M.Mem.same_rest _ IsAsBefore _ _ _ _ c.alive.ensures c.store.ensures.stores.call)
      (λ reads writes. raised_by _ _ _ c.args.at c.alive-word.result _ reads (omega (arith, c.requires.inner))
      (rw c.alive-word.ensures at c.load.ensures.word) refl writes);
}
