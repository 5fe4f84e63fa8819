use Rattle.std.proofs.Common.{◌/◌, ◌+◌, arith}
use Rattle.cm_words.specs.Effects.{Reads}
use Rattle.cm_words.specs.Stores.{WritesEach, WritesPrefixEach}
use Rattle.cm_words.proofs.CallSequences.{done_by, done_then, ends_err, ends_ok, then_err}
use Rattle.cm_words.proofs.StoreLists.{prefix_each_none}
use Rattle.cm_chunks.specs.Turns.{stores_for, turn_at}
use Rattle.cm_chunks.proofs.TurnStores.{dies_second, may_first, may_one, may_second, turns_one, turns_two}
use Rattle.cm_chunks.proofs.turn.turn_run.Goals as goal

pub turn_word-requires-clause-allowed : goal.turn_word-requires-clause-allowed
turn_word-requires-clause-allowed g c = may_one (g.M.Mem.seen c.args.mem.now) c.args.turn c.args.geo.now c.args.run (record { in_one_word = omega arith }) c.requires.allowed

pub returns-in_err-turn_word-clause-stores : goal.returns-in_err-turn_word-clause-stores
returns-in_err-turn_word-clause-stores g c = ends_err g.M.Mem.seen g.M.Mem.same_rest _ Reads (λ old now. WritesEach old now (stores_for c.args.turn c.args.geo.now c.args.run)) (λ old now. WritesPrefixEach old now (stores_for c.args.turn c.args.geo.now c.args.run)) _ _ _ c.from_residual.result c.from_residual.ensures.0 c.in_err-turn_word.ensures.stores (λ reads. prefix_each_none _ _ _ reads)

pub returns-then-end-le64-clause-stores : goal.returns-then-end-le64-clause-stores
returns-then-end-le64-clause-stores g c =
    ends_ok g.M.Mem.seen g.M.Mem.same_rest (λ old now. WritesEach old now (stores_for c.args.turn c.args.geo.now c.args.run)) (λ old now. WritesPrefixEach old now (stores_for c.args.turn c.args.geo.now c.args.run)) _ c.turn_word.new.mem _
    (record { rest = c.in_ok-turn_word.ensures.stores.rest; survives = c.in_ok-turn_word.ensures.stores.fuse.survives; done = turns_one (g.M.Mem.seen c.args.mem.now) (g.M.Mem.seen c.turn_word.new.mem) c.args.turn c.args.geo.now c.args.run (record { in_one_word = omega arith }) c.in_ok-turn_word.ensures.stores.done })

pub turn_word-requires-2-clause-allowed : goal.turn_word-requires-2-clause-allowed
turn_word-requires-2-clause-allowed g c = may_first (g.M.Mem.seen c.args.mem.now) c.args.turn c.args.geo.now c.args.run (record { inside = c.requires.run.inside; long = omega arith }) c.requires.allowed

pub returns-in_err-turn_word-2-clause-stores : goal.returns-in_err-turn_word-2-clause-stores
returns-in_err-turn_word-2-clause-stores g c =
    ends_err g.M.Mem.seen g.M.Mem.same_rest _ Reads (λ old now. WritesEach old now (stores_for c.args.turn c.args.geo.now c.args.run)) (λ old now. WritesPrefixEach old now (stores_for c.args.turn c.args.geo.now c.args.run)) _ _ _ c.from_residual-in_err-turn_word-2.result c.from_residual-in_err-turn_word-2.ensures.0 c.in_err-turn_word-2.ensures.stores (λ reads. prefix_each_none _ _ _ reads)

pub turn_word-requires-3-clause-allowed : goal.turn_word-requires-3-clause-allowed
turn_word-requires-3-clause-allowed g c =
    may_second (g.M.Mem.seen c.args.mem.now) (g.M.Mem.seen c.turn_word-2.new.mem) c.args.turn c.args.geo.now c.args.run (record { inside = c.requires.run.inside; long = omega arith }) c.requires.allowed c.in_ok-turn_word-2.ensures.stores.done

pub returns-in_err-turn_word-3-clause-stores : goal.returns-in_err-turn_word-3-clause-stores
returns-in_err-turn_word-3-clause-stores g c =
    then_err g.M.Mem.seen g.M.Mem.same_rest (λ old now. WritesEach old now (turn_at c.args.turn c.args.geo.now c.args.run (c.args.run.chunk / 64))) (λ old now. WritesEach old now (turn_at c.args.turn c.args.geo.now c.args.run (c.args.run.chunk / 64 + 1))) Reads (λ old now. WritesEach old now (stores_for c.args.turn c.args.geo.now c.args.run)) (λ old now. WritesPrefixEach old now (stores_for c.args.turn c.args.geo.now c.args.run)) _ c.turn_word-2.new.mem c.turn_word-3.new.mem _ c.from_residual-in_err-turn_word-3.result c.from_residual-in_err-turn_word-3.ensures.0 (g.met.M.Mem.rest_transitive _ _ _)
    (done_by g.M.Mem.seen g.M.Mem.same_rest (λ old now. WritesEach old now (turn_at c.args.turn c.args.geo.now c.args.run (c.args.run.chunk / 64))) Reads _ _ _ c.in_ok-turn_word-2.ensures.stores) c.in_err-turn_word-3.ensures.stores
    (λ first reads. dies_second _ (g.M.Mem.seen c.turn_word-2.new.mem) (g.M.Mem.seen c.turn_word-3.new.mem) c.args.turn c.args.geo.now c.args.run (record { inside = c.requires.run.inside; long = omega arith }) first reads)

pub returns-clause-stores : goal.returns-clause-stores
returns-clause-stores g c =
    ends_ok g.M.Mem.seen g.M.Mem.same_rest (λ old now. WritesEach old now (stores_for c.args.turn c.args.geo.now c.args.run)) (λ old now. WritesPrefixEach old now (stores_for c.args.turn c.args.geo.now c.args.run)) _ c.turn_word-3.new.mem _
    (done_then g.M.Mem.seen g.M.Mem.same_rest (λ old now. WritesEach old now (turn_at c.args.turn c.args.geo.now c.args.run (c.args.run.chunk / 64))) (λ old now. WritesEach old now (turn_at c.args.turn c.args.geo.now c.args.run (c.args.run.chunk / 64 + 1))) (λ old now. WritesEach old now (stores_for c.args.turn c.args.geo.now c.args.run)) _ c.turn_word-2.new.mem _ (g.met.M.Mem.rest_transitive _ _ _) (done_by g.M.Mem.seen g.M.Mem.same_rest (λ old now. WritesEach old now (turn_at c.args.turn c.args.geo.now c.args.run (c.args.run.chunk / 64))) Reads _ _ _ c.in_ok-turn_word-2.ensures.stores) (done_by g.M.Mem.seen g.M.Mem.same_rest (λ old now. WritesEach old now (turn_at c.args.turn c.args.geo.now c.args.run (c.args.run.chunk / 64 + 1))) Reads _ _ _ c.in_ok-turn_word-3.ensures.stores)
    (λ first second. turns_two _ (g.M.Mem.seen c.turn_word-2.new.mem) (g.M.Mem.seen c.turn_word-3.new.mem) c.args.turn c.args.geo.now c.args.run (record { inside = c.requires.run.inside; long = omega arith }) first second))
