-- A hit of the key is its entry, and one of another key is passed.
use Rattle.std.proofs.Common.{arith, ◌≡◌, refl, false, true}
use Rattle.cm_recover.proofs.KeySearch.{absent_by, absent_round, has_by, no_key, passed_more, some_key}
use Rattle.cm_recover.proofs.OpenMemories.{answered, loaded_answered}
use Rattle.cm_words.specs.Effects.{Reads}
use Rattle.cm_recover.proofs.judging.has_key_in.Goals as goal

pub returns-in_default-clause-loads : goal.returns-in_default-clause-loads
returns-in_default-clause-loads g c =
    loaded_answered g.M.Mem.seen g.M.Mem.same_rest _ c.loop-from.mem c.find.new.mem _ _
    (g.met.M.Mem.rest_transitive _ _ _) c.alive.ensures c.loop-from.invariant.loaded c.find.ensures.loads

pub returns-in_default-clause-found : goal.returns-in_default-clause-found
returns-in_default-clause-found g c =
    let finds = rw (c.alive.ensures, c.in_default.is, c.requires.fingerprint) at c.find.ensures.found in
    λ words state fits rests chained.
    no_key state c.args.place c.args.key.now
    (absent_by (g.M.Mem.seen c.loop-from.mem) (g.M.Mem.seen c.find.new.mem) c.args.geo.now c.args.segment c.args.place c.args.key.now c.loop-from.from
    c.loop-from.invariant.passed (answered g.M.Mem.seen g.M.Mem.same_rest Reads Reads _ _ _ _ c.alive.ensures c.find.ensures.loads).done
    finds words state fits rests chained)

pub returns-then-alive-clause-loads : goal.returns-then-alive-clause-loads
returns-then-alive-clause-loads g c =
    loaded_answered g.M.Mem.seen g.M.Mem.same_rest _ c.find.new.mem c.key_equals.new.mem _ _
    (g.met.M.Mem.rest_transitive _ _ _) c.alive-in-loop-from.ensures
    (loaded_answered g.M.Mem.seen g.M.Mem.same_rest _ c.loop-from.mem c.find.new.mem _ _
    (g.met.M.Mem.rest_transitive _ _ _) c.alive.ensures c.loop-from.invariant.loaded c.find.ensures.loads)
    c.key_equals.ensures.loads.loads

pub returns-then-alive-clause-found : goal.returns-then-alive-clause-found
returns-then-alive-clause-found g c =
    let finds = rw (c.alive.ensures, c.in-Some.is, c.requires.fingerprint) at c.find.ensures.found in
    let equals = rw (c.alive-in-loop-from.ensures, c.if-alive.true) at c.key_equals.ensures.equals in
    λ words state fits rests chained.
    some_key state c.args.place c.args.key.now
    (has_by (g.M.Mem.seen c.find.new.mem)
    (g.M.Mem.seen c.key_equals.new.mem) c.args.geo.now c.args.segment c.args.place c.args.key.now c.loop-from.from c.in-Some.hit
    (answered g.M.Mem.seen g.M.Mem.same_rest Reads Reads _ _ _ _ c.alive-in-loop-from.ensures c.key_equals.ensures.loads.loads).done
    finds (λ words fits pair e. (equals words fits pair e).0 refl) words state fits rests chained)

pub loop-from-preserved : goal.loop-from-preserved
loop-from-preserved g c =
    let finds = rw (c.alive.ensures, c.in-Some.is, c.requires.fingerprint) at c.find.ensures.found in
    let equals = rw (c.alive-in-loop-from.ensures, c.if-alive.false) at c.key_equals.ensures.equals in
    record {
      slots_are = c.loop-from.invariant.slots_are;
      loaded = loaded_answered g.M.Mem.seen g.M.Mem.same_rest _ c.find.new.mem c.key_equals.new.mem _ _
          (g.met.M.Mem.rest_transitive _ _ _) c.alive-in-loop-from.ensures
          (loaded_answered g.M.Mem.seen g.M.Mem.same_rest _ c.loop-from.mem c.find.new.mem _ _
          (g.met.M.Mem.rest_transitive _ _ _) c.alive.ensures c.loop-from.invariant.loaded c.find.ensures.loads)
          c.key_equals.ensures.loads.loads;
      passed = passed_more (g.M.Mem.seen c.loop-from.mem) (g.M.Mem.seen c.find.new.mem)
          (g.M.Mem.seen c.key_equals.new.mem) c.args.geo.now c.args.segment c.args.place
          c.args.key.now c.loop-from.from c.in-Some.hit c.loop-from.invariant.passed
          (answered g.M.Mem.seen g.M.Mem.same_rest Reads Reads _ _ _ _ c.alive.ensures c.find.ensures.loads).done
          (answered g.M.Mem.seen g.M.Mem.same_rest Reads Reads _ _ _ _ c.alive-in-loop-from.ensures c.key_equals.ensures.loads.loads).done
          finds
          (λ words fits pair e same. (let clash : false ≡ true = (equals words fits pair e).1 same in cc clash));
    }

pub returns-clause-found : goal.returns-clause-found
returns-clause-found g c = λ words state fits rests chained.
    no_key state c.args.place c.args.key.now
    (absent_round (g.M.Mem.seen c.loop-from.mem) c.args.geo.now c.args.segment c.args.place c.args.key.now c.loop-from.from
    c.loop-from.invariant.passed
    (omega (arith, c.loop-from.invariant.slots_are, c.loop-from-test.false)) words state fits rests chained)
