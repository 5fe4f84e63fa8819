use Rattle.std.proofs.Common.{[], ◌∷◌}
use Rattle.cm_words.specs.Effects.{IsAsBefore, Reads}
use Rattle.cm_words.specs.Stores.{Writes, WritesEach, store_at}
use Rattle.cm_words.proofs.CallSequences.{done_by, done_then, ends_ok}
use Rattle.cm_entry.specs.EntryStores.{head_stores}
use Rattle.cm_entry.proofs.EntryStores.{head_stored}
use Rattle.cm_entry.proofs.store.store_head.Goals as goal

pub returns : goal.returns
returns g c =
    ends_ok g.M.Mem.seen g.M.Mem.same_rest (λ old now. WritesEach old now (head_stores c.args.at c.args.head)) Reads _ c.store.new.self _
    (done_then g.M.Mem.seen g.M.Mem.same_rest Reads (λ old now. Writes old now (store_at c.args.at c.args.head ∷ [])) (λ old now. WritesEach old now (head_stores c.args.at c.args.head)) _ c.load.new.self _ (g.met.M.Mem.rest_transitive _ _ _)
    (done_by g.M.Mem.seen g.M.Mem.same_rest Reads IsAsBefore _ _ _ c.in_ok-stood.ensures.loads.call) (done_by g.M.Mem.seen g.M.Mem.same_rest _ IsAsBefore _ _ _ c.in_ok-store.ensures.stores.call)
    (λ reads writes. head_stored (g.M.Mem.seen c.args.mem.now) (g.M.Mem.seen c.load.new.self) (g.M.Mem.seen c.store.new.self) c.args.at c.args.head c.in_ok-stood.stood c.requires.room.inner reads c.in_ok-stood.ensures.word c.if-stood-head.false writes))
