-- A hit of the key is its entry, and one of another key is passed.
use Rattle.std.proofs.Common.{arith, ◌*◌, ap}
use Rattle.cm_geo.proofs.Ranges.{chunks_range}
use Rattle.cm_words.proofs.CallSequences.{loaded_none, loads_then_ok}
use Rattle.cm_segment.proofs.LoadSequences.{loaded_call}
use Rattle.cm_segment.proofs.KeySearch.{absent_by, absent_round, passed_more, passed_none, sight_by}
use Rattle.cm_segment.proofs.seek.look_in.Goals as goal

pub loop-from-init : goal.loop-from-init
loop-from-init g c = record {
  slots_are = ap (λ n. 2 * n) c.chunks-slots.ensures;
  loaded = loaded_none g.M.Mem.seen g.M.Mem.same_rest c.args.mem.now (g.met.M.Mem.rest_reflexive _);
  passed = passed_none (g.M.Mem.seen c.args.mem.now) c.args.geo.now c.args.place c.args.key.now;
}

pub returns-in_default-clause-loads : goal.returns-in_default-clause-loads
returns-in_default-clause-loads g c =
    loads_then_ok g.M.Mem.seen g.M.Mem.same_rest _ c.loop-from.mem c.find.new.mem _ _ (g.met.M.Mem.rest_transitive _ _ _) c.loop-from.invariant.loaded
    c.in_ok-hit.ensures.loads

pub returns-in_default-clause-found : goal.returns-in_default-clause-found
returns-in_default-clause-found g c =
    absent_by (g.M.Mem.seen c.loop-from.mem) (g.M.Mem.seen c.find.new.mem) c.args.geo.now c.args.place c.args.key.now c.loop-from.from
    c.loop-from.invariant.passed c.in_ok-hit.ensures.loads.done
    (λ words fits. rw c.requires.fingerprint at (rw c.in_default.is at c.in_ok-hit.ensures.found words fits))

pub returns-in-Some-2-clause-loads : goal.returns-in-Some-2-clause-loads
returns-in-Some-2-clause-loads g c =
    loads_then_ok g.M.Mem.seen g.M.Mem.same_rest _ c.find.new.mem c.lengths_if_key.new.mem _ _ (g.met.M.Mem.rest_transitive _ _ _)
    (loaded_call g.M.Mem.seen g.M.Mem.same_rest _ c.loop-from.mem c.find.new.mem _ (g.met.M.Mem.rest_transitive _ _ _) c.loop-from.invariant.loaded
    c.in_ok-hit.ensures.loads) c.in_ok-key_len.ensures.loads.loads

pub returns-in-Some-2-clause-found : goal.returns-in-Some-2-clause-found
returns-in-Some-2-clause-found g c =
    sight_by (g.M.Mem.seen c.find.new.mem) (g.M.Mem.seen c.lengths_if_key.new.mem) c.args.geo.now c.args.place c.args.key.now c.loop-from.from
    c.in-Some-2.key_len c.in-Some-2.value_len c.in-Some.hit c.in_ok-key_len.ensures.loads.loads.done
    (λ words fits. rw c.requires.fingerprint at (rw c.in-Some.is at c.in_ok-hit.ensures.found words fits))
    (λ words fits pair e. (rw c.in-Some-2.is at c.in_ok-key_len.ensures.lengths) words fits pair e)

pub overflow_add-from : goal.overflow_add-from
overflow_add-from g c = (let within = rw c.in-Some.is at c.in_ok-hit.ensures.inside in omega (arith, within.steps, chunks_range c.args.geo.now))

pub loop-from-smaller : goal.loop-from-smaller
loop-from-smaller g c =
    (let within = rw c.in-Some.is at c.in_ok-hit.ensures.inside in omega
    (arith, within.not_before, within.steps, c.loop-from.invariant.slots_are, c.loop-from-test.true))

pub loop-from-preserved : goal.loop-from-preserved
loop-from-preserved g c = record {
  slots_are = c.loop-from.invariant.slots_are;
  loaded = loaded_call g.M.Mem.seen g.M.Mem.same_rest _ c.find.new.mem c.lengths_if_key.new.mem _ (g.met.M.Mem.rest_transitive _ _ _)
      (loaded_call g.M.Mem.seen g.M.Mem.same_rest _ c.loop-from.mem c.find.new.mem _ (g.met.M.Mem.rest_transitive _ _ _) c.loop-from.invariant.loaded
      c.in_ok-hit.ensures.loads) c.in_ok-key_len.ensures.loads.loads;
  passed = passed_more (g.M.Mem.seen c.loop-from.mem) (g.M.Mem.seen c.find.new.mem) (g.M.Mem.seen c.lengths_if_key.new.mem) c.args.geo.now c.args.place
      c.args.key.now c.loop-from.from c.in-Some.hit c.loop-from.invariant.passed
      c.in_ok-hit.ensures.loads.done c.in_ok-key_len.ensures.loads.loads.done
      (λ words fits. rw c.requires.fingerprint at (rw c.in-Some.is at c.in_ok-hit.ensures.found words fits))
      (λ words fits pair e. (rw c.in_default-2.is at c.in_ok-key_len.ensures.lengths) words fits pair e);
}

pub returns-clause-found : goal.returns-clause-found
returns-clause-found g c =
    absent_round (g.M.Mem.seen c.loop-from.mem) c.args.geo.now c.args.place c.args.key.now c.loop-from.from c.loop-from.invariant.passed
    (omega (arith, c.loop-from.invariant.slots_are, c.loop-from-test.false))
