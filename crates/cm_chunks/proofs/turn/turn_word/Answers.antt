use Rattle.std.proofs.Common.{[], ◌∷◌}
use Rattle.cm_words.specs.Effects.{IsAsBefore, Reads}
use Rattle.cm_words.specs.Stores.{Writes, WritesEach, store_at}
use Rattle.cm_words.proofs.CallSequences.{done_by, done_then, ends_err, ends_ok, then_err}
use Rattle.cm_words.proofs.FittingLists.{reads_transitive}
use Rattle.cm_chunks.specs.Turns.{turn_at}
use Rattle.cm_chunks.proofs.TurnStores.{may_turn, turns_word}
use Rattle.cm_chunks.proofs.turn.turn_word.Goals as goal

pub store-requires-clause-allowed : goal.store-requires-clause-allowed
store-requires-clause-allowed g c =
    may_turn (g.M.Mem.seen c.args.mem.now) (g.M.Mem.seen c.load.new.self) c.args.turn c.args.geo.now c.args.run c.args.number c.bits_at-at.result c.in_ok-word.word c.args.bits c.turned_word.result
    (record { at_is = c.bits_at-at.ensures.value; bits_are = c.requires.bits; knows = c.in_ok-word.ensures.word; word_is = c.turned_word.ensures })
    c.requires.allowed c.in_ok-word.ensures.loads.call.done

pub returns-in_err-word-clause-stores : goal.returns-in_err-word-clause-stores
returns-in_err-word-clause-stores g c = ends_err g.M.Mem.seen g.M.Mem.same_rest Reads IsAsBefore _ Reads _ _ _ c.from_residual.result c.from_residual.ensures.0 c.in_err-word.ensures.loads.call (λ same. same.reads)

pub returns-in_err-store-clause-stores : goal.returns-in_err-store-clause-stores
returns-in_err-store-clause-stores g c =
    then_err g.M.Mem.seen g.M.Mem.same_rest Reads (λ old now. Writes old now (store_at _ _ ∷ [])) IsAsBefore _ Reads _ c.load.new.self _ _ c.from_residual-in_err-store.result c.from_residual-in_err-store.ensures.0 (g.met.M.Mem.rest_transitive _ _ _)
    (done_by g.M.Mem.seen g.M.Mem.same_rest Reads IsAsBefore _ _ _ c.in_ok-word.ensures.loads.call) c.in_err-store.ensures.stores.call (λ reads same. reads_transitive _ _ _ reads same.reads)

pub returns-clause-stores : goal.returns-clause-stores
returns-clause-stores g c =
    ends_ok g.M.Mem.seen g.M.Mem.same_rest (λ old now. WritesEach old now (turn_at c.args.turn c.args.geo.now c.args.run c.args.number)) Reads _ c.store.new.self _
    (done_then g.M.Mem.seen g.M.Mem.same_rest Reads (λ old now. Writes old now (store_at _ _ ∷ [])) (λ old now. WritesEach old now (turn_at c.args.turn c.args.geo.now c.args.run c.args.number)) _ c.load.new.self _ (g.met.M.Mem.rest_transitive _ _ _)
    (done_by g.M.Mem.seen g.M.Mem.same_rest Reads IsAsBefore _ _ _ c.in_ok-word.ensures.loads.call) (done_by g.M.Mem.seen g.M.Mem.same_rest _ IsAsBefore _ _ _ c.in_ok-store.ensures.stores.call)
    (λ reads writes. turns_word (g.M.Mem.seen c.args.mem.now) (g.M.Mem.seen c.load.new.self) (g.M.Mem.seen c.store.new.self) c.args.turn c.args.geo.now c.args.run c.args.number c.bits_at-at.result c.in_ok-word.word c.args.bits c.turned_word.result
    (record { at_is = c.bits_at-at.ensures.value; bits_are = c.requires.bits; knows = c.in_ok-word.ensures.word; word_is = c.turned_word.ensures })
    reads writes))
