-- The tiers are looked at in order, up to one with the key.
use Rattle.std.proofs.Common.{arith}
use Rattle.cm_words.proofs.CallSequences.{loaded_then}
use Rattle.cm_recover.proofs.KeySearch.{before_more, no_key_in, some_key_in}
use Rattle.cm_recover.proofs.judging.has_key.Goals as goal

pub returns-then-has_key_in-clause-loads : goal.returns-then-has_key_in-clause-loads
returns-then-has_key_in-clause-loads g c = loaded_then g.M.Mem.seen g.M.Mem.same_rest _ _ _
    (g.met.M.Mem.rest_transitive _ _ _) c.loop-place.invariant.loaded c.has_key_in.ensures.loads

pub returns-then-has_key_in-clause-found : goal.returns-then-has_key_in-clause-found
returns-then-has_key_in-clause-found g c =
    let found = rw c.if-has_key_in.true at c.has_key_in.ensures.found in
    some_key_in (g.M.Mem.seen c.has_key_in.new.mem) c.args.geo.now c.args.segment c.args.places.now c.args.key.now c.loop-place.place-index
    (omega (arith, c.loop-place-test.true)) found

pub loop-place-preserved : goal.loop-place-preserved
loop-place-preserved g c =
    let found = rw c.if-has_key_in.false at c.has_key_in.ensures.found in
    record {
      loaded = loaded_then g.M.Mem.seen g.M.Mem.same_rest _ _ _
          (g.met.M.Mem.rest_transitive _ _ _) c.loop-place.invariant.loaded c.has_key_in.ensures.loads;
      absent = before_more (g.M.Mem.seen c.loop-place.mem)
          (g.M.Mem.seen c.has_key_in.new.mem) c.args.geo.now c.args.segment c.args.places.now c.args.key.now c.loop-place.place-index
          (omega (arith, c.loop-place-test.true)) c.loop-place.invariant.absent c.has_key_in.ensures.loads.done found;
    }

pub returns-clause-found : goal.returns-clause-found
returns-clause-found g c =
    no_key_in (g.M.Mem.seen c.loop-place.mem) c.args.geo.now c.args.segment c.args.places.now c.args.key.now c.loop-place.place-index
    (omega (arith, c.loop-place-test.false)) c.loop-place.invariant.absent
