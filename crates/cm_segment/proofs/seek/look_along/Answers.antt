-- The tiers are looked at in order, up to one with the key.
use Rattle.std.proofs.Common.{arith}
use Rattle.cm_words.proofs.CallSequences.{loaded_none, loads_then_err, loads_then_ok}
use Rattle.cm_tiers.proofs.TiersFound.{found_after}
use Rattle.cm_segment.specs.Sights.{IsAbsentAt}
use Rattle.cm_segment.proofs.LoadSequences.{loaded_call}
use Rattle.cm_segment.proofs.ChainSearch.{absent_behind, absent_end, place_chained, so_far_more_in, so_far_none_in}
use Rattle.cm_segment.proofs.seek.look_along.Goals as goal

pub loop-number-init : goal.loop-number-init
loop-number-init g c = record {
  loaded = loaded_none g.M.Mem.seen g.M.Mem.same_rest c.args.mem.now (g.met.M.Mem.rest_reflexive _);
  tiers = c.requires.tiers;
  found = omega arith;
  absent = so_far_none_in (g.M.Mem.seen c.args.mem.now) c.args.geo.now (λ _ state _ place. IsAbsentAt state place c.args.key.now);
}

pub returns-in_err-place-clause-loads : goal.returns-in_err-place-clause-loads
returns-in_err-place-clause-loads g c =
    loads_then_err g.M.Mem.seen g.M.Mem.same_rest _ c.loop-number.mem c.place.new.mem _ c.from_residual.result c.from_residual.ensures.0
    (g.met.M.Mem.rest_transitive _ _ _) c.loop-number.invariant.loaded c.in_err-place.ensures.loads

pub returns-in_default-clause-loads : goal.returns-in_default-clause-loads
returns-in_default-clause-loads g c =
    loads_then_ok g.M.Mem.seen g.M.Mem.same_rest _ c.loop-number.mem c.place.new.mem _ _ (g.met.M.Mem.rest_transitive _ _ _) c.loop-number.invariant.loaded
    c.in_ok-place.ensures.loads

pub returns-in_default-clause-found : goal.returns-in_default-clause-found
returns-in_default-clause-found g c =
    absent_behind (g.M.Mem.seen c.loop-number.mem) (g.M.Mem.seen c.place.new.mem) c.args.geo.now c.args.key.now c.loop-number.number
    c.loop-number.invariant.absent c.in_ok-place.ensures.loads.done (rw c.in_default.is at c.in_ok-place.ensures.place)

pub returns-in_err-sight-clause-loads : goal.returns-in_err-sight-clause-loads
returns-in_err-sight-clause-loads g c =
    loads_then_err g.M.Mem.seen g.M.Mem.same_rest _ c.place.new.mem c.look_in.new.mem _ c.from_residual-in_err-sight.result
    c.from_residual-in_err-sight.ensures.0 (g.met.M.Mem.rest_transitive _ _ _)
    (loaded_call g.M.Mem.seen g.M.Mem.same_rest _ c.loop-number.mem c.place.new.mem _ (g.met.M.Mem.rest_transitive _ _ _) c.loop-number.invariant.loaded
    c.in_ok-place.ensures.loads) c.in_err-sight.ensures.loads

pub returns-in_err-sight-clause-tiers : goal.returns-in_err-sight-clause-tiers
returns-in_err-sight-clause-tiers g c =
    found_after (g.M.Mem.seen c.place.new.mem) (g.M.Mem.seen c.look_in.new.mem) c.args.geo.now c.place.new.self c.in_ok-place.ensures.found
    c.in_err-sight.ensures.loads.cut

pub returns-in-Some-2-clause-loads : goal.returns-in-Some-2-clause-loads
returns-in-Some-2-clause-loads g c =
    loads_then_ok g.M.Mem.seen g.M.Mem.same_rest _ c.place.new.mem c.look_in.new.mem _ _ (g.met.M.Mem.rest_transitive _ _ _)
    (loaded_call g.M.Mem.seen g.M.Mem.same_rest _ c.loop-number.mem c.place.new.mem _ (g.met.M.Mem.rest_transitive _ _ _) c.loop-number.invariant.loaded
    c.in_ok-place.ensures.loads) c.in_ok-sight.ensures.loads

pub returns-in-Some-2-clause-tiers : goal.returns-in-Some-2-clause-tiers
returns-in-Some-2-clause-tiers g c =
    found_after (g.M.Mem.seen c.place.new.mem) (g.M.Mem.seen c.look_in.new.mem) c.args.geo.now c.place.new.self c.in_ok-place.ensures.found
    c.in_ok-sight.ensures.loads.done

pub returns-in-Some-2-clause-found : goal.returns-in-Some-2-clause-found
returns-in-Some-2-clause-found g c = λ words state fits has.
    (rw c.in-Some-2.is at c.in_ok-sight.ensures.found) words state fits has
    (place_chained (g.M.Mem.seen c.look_in.new.mem) c.args.geo.now c.loop-number.number c.in-Some.place words state
    (λ ws at. (rw c.in-Some.is at c.in_ok-place.ensures.place) ws (c.in_ok-sight.ensures.loads.done.fits ws at)) fits has.chain)

pub loop-number-preserved : goal.loop-number-preserved
loop-number-preserved g c = record {
  loaded = loaded_call g.M.Mem.seen g.M.Mem.same_rest _ c.place.new.mem c.look_in.new.mem _ (g.met.M.Mem.rest_transitive _ _ _)
      (loaded_call g.M.Mem.seen g.M.Mem.same_rest _ c.loop-number.mem c.place.new.mem _ (g.met.M.Mem.rest_transitive _ _ _) c.loop-number.invariant.loaded
      c.in_ok-place.ensures.loads) c.in_ok-sight.ensures.loads;
  tiers = found_after (g.M.Mem.seen c.place.new.mem) (g.M.Mem.seen c.look_in.new.mem) c.args.geo.now c.place.new.self c.in_ok-place.ensures.found
      c.in_ok-sight.ensures.loads.done;
  found = (let at = rw c.in-Some.is at c.in_ok-place.ensures.inside in omega (arith, at.found));
  absent = so_far_more_in (g.M.Mem.seen c.loop-number.mem) (g.M.Mem.seen c.place.new.mem) (g.M.Mem.seen c.look_in.new.mem) c.args.geo.now c.loop-number.number
      c.in-Some.place (λ _ state _ place. IsAbsentAt state place c.args.key.now)
      c.loop-number.invariant.absent c.in_ok-place.ensures.loads.done (rw c.in-Some.is at c.in_ok-place.ensures.place) c.in_ok-sight.ensures.loads.done
      (λ words state fits has chained. (rw c.in_default-2.is at c.in_ok-sight.ensures.found) words state fits has chained);
}

pub returns-clause-found : goal.returns-clause-found
returns-clause-found g c =
    absent_end (g.M.Mem.seen c.loop-number.mem) c.args.geo.now c.args.key.now c.loop-number.number c.loop-number.invariant.absent
    (omega (arith, c.loop-number-test.false, c.tiers-number-end.ensures))
