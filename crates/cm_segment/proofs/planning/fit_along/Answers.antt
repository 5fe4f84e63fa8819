-- The tiers are searched in order, up to one with room.
use Rattle.std.proofs.Common.{arith}
use Rattle.cm_words.proofs.CallSequences.{loaded_none, loads_then_err, loads_then_ok}
use Rattle.cm_tiers.proofs.TiersFound.{all_found, found_after}
use Rattle.cm_segment.proofs.LoadSequences.{loaded_call}
use Rattle.cm_segment.proofs.FitSearch.{fit_is, no_fit_behind, no_fit_end, no_fit_more, no_fit_none}
use Rattle.cm_segment.proofs.planning.fit_along.Goals as goal

pub loop-number-init : goal.loop-number-init
loop-number-init g c = record {
  loaded = loaded_none g.M.Mem.seen g.M.Mem.same_rest c.args.mem.now (g.met.M.Mem.rest_reflexive _);
  tiers = c.requires.tiers;
  found = omega arith;
  none = no_fit_none (g.M.Mem.seen c.args.mem.now) c.args.geo.now c.args.chunks;
}

pub returns-in_err-place-clause-loads : goal.returns-in_err-place-clause-loads
returns-in_err-place-clause-loads g c =
    loads_then_err g.M.Mem.seen g.M.Mem.same_rest _ c.loop-number.mem c.place.new.mem _ c.from_residual.result c.from_residual.ensures.0
    (g.met.M.Mem.rest_transitive _ _ _) c.loop-number.invariant.loaded c.in_err-place.ensures.loads

pub returns-in_default-clause-loads : goal.returns-in_default-clause-loads
returns-in_default-clause-loads g c =
    loads_then_ok g.M.Mem.seen g.M.Mem.same_rest _ c.loop-number.mem c.place.new.mem _ _ (g.met.M.Mem.rest_transitive _ _ _) c.loop-number.invariant.loaded
    c.in_ok-place.ensures.loads

pub returns-in_default-clause-all : goal.returns-in_default-clause-all
returns-in_default-clause-all g c _ = c.in_ok-place.ensures.all c.in_default.is

pub returns-in_default-clause-found : goal.returns-in_default-clause-found
returns-in_default-clause-found g c =
    no_fit_behind (g.M.Mem.seen c.loop-number.mem) (g.M.Mem.seen c.place.new.mem) c.args.geo.now c.args.chunks c.loop-number.number c.loop-number.invariant.none
    c.in_ok-place.ensures.loads.done (rw c.in_default.is at c.in_ok-place.ensures.place)

pub returns-in_err-chunk-clause-loads : goal.returns-in_err-chunk-clause-loads
returns-in_err-chunk-clause-loads g c =
    loads_then_err g.M.Mem.seen g.M.Mem.same_rest _ c.place.new.mem c.first_fit.new.mem _ c.from_residual-in_err-chunk.result
    c.from_residual-in_err-chunk.ensures.0 (g.met.M.Mem.rest_transitive _ _ _)
    (loaded_call g.M.Mem.seen g.M.Mem.same_rest _ c.loop-number.mem c.place.new.mem _ (g.met.M.Mem.rest_transitive _ _ _) c.loop-number.invariant.loaded
    c.in_ok-place.ensures.loads) c.in_err-chunk.ensures.loads

pub returns-in_err-chunk-clause-tiers : goal.returns-in_err-chunk-clause-tiers
returns-in_err-chunk-clause-tiers g c =
    found_after (g.M.Mem.seen c.place.new.mem) (g.M.Mem.seen c.first_fit.new.mem) c.args.geo.now c.place.new.self c.in_ok-place.ensures.found
    c.in_err-chunk.ensures.loads.cut

pub returns-in-Some-2-clause-loads : goal.returns-in-Some-2-clause-loads
returns-in-Some-2-clause-loads g c =
    loads_then_ok g.M.Mem.seen g.M.Mem.same_rest _ c.place.new.mem c.first_fit.new.mem _ _ (g.met.M.Mem.rest_transitive _ _ _)
    (loaded_call g.M.Mem.seen g.M.Mem.same_rest _ c.loop-number.mem c.place.new.mem _ (g.met.M.Mem.rest_transitive _ _ _) c.loop-number.invariant.loaded
    c.in_ok-place.ensures.loads) c.in_ok-chunk.ensures.loads

pub returns-in-Some-2-clause-tiers : goal.returns-in-Some-2-clause-tiers
returns-in-Some-2-clause-tiers g c =
    found_after (g.M.Mem.seen c.place.new.mem) (g.M.Mem.seen c.first_fit.new.mem) c.args.geo.now c.place.new.self c.in_ok-place.ensures.found
    c.in_ok-chunk.ensures.loads.done

pub returns-in-Some-2-clause-inside : goal.returns-in-Some-2-clause-inside
returns-in-Some-2-clause-inside g c = ((rw c.in-Some.is at c.in_ok-place.ensures.inside).below, rw c.in-Some-2.is at c.in_ok-chunk.ensures.inside)

pub returns-in-Some-2-clause-found : goal.returns-in-Some-2-clause-found
returns-in-Some-2-clause-found g c =
    fit_is (g.M.Mem.seen c.loop-number.mem) (g.M.Mem.seen c.place.new.mem) (g.M.Mem.seen c.first_fit.new.mem) c.args.geo.now c.args.chunks c.loop-number.number
    c.in-Some.place c.in-Some-2.chunk c.loop-number.invariant.none
    c.in_ok-place.ensures.loads.done (rw c.in-Some.is at c.in_ok-place.ensures.place) c.in_ok-chunk.ensures.loads.done c.requires.nonzero
    (λ words fits. rw c.in-Some-2.is at c.in_ok-chunk.ensures.found words fits)

pub loop-number-preserved : goal.loop-number-preserved
loop-number-preserved g c = record {
  loaded = loaded_call g.M.Mem.seen g.M.Mem.same_rest _ c.place.new.mem c.first_fit.new.mem _ (g.met.M.Mem.rest_transitive _ _ _)
      (loaded_call g.M.Mem.seen g.M.Mem.same_rest _ c.loop-number.mem c.place.new.mem _ (g.met.M.Mem.rest_transitive _ _ _) c.loop-number.invariant.loaded
      c.in_ok-place.ensures.loads) c.in_ok-chunk.ensures.loads;
  tiers = found_after (g.M.Mem.seen c.place.new.mem) (g.M.Mem.seen c.first_fit.new.mem) c.args.geo.now c.place.new.self c.in_ok-place.ensures.found
      c.in_ok-chunk.ensures.loads.done;
  found = (let at = rw c.in-Some.is at c.in_ok-place.ensures.inside in omega (arith, at.found));
  none = no_fit_more (g.M.Mem.seen c.loop-number.mem) (g.M.Mem.seen c.place.new.mem) (g.M.Mem.seen c.first_fit.new.mem) c.args.geo.now c.args.chunks
      c.loop-number.number c.in-Some.place c.loop-number.invariant.none
      c.in_ok-place.ensures.loads.done (rw c.in-Some.is at c.in_ok-place.ensures.place) c.in_ok-chunk.ensures.loads.done c.requires.nonzero
      (λ words fits. rw c.in_default-2.is at c.in_ok-chunk.ensures.found words fits);
}

pub returns-clause-all : goal.returns-clause-all
returns-clause-all g c _ =
    all_found (g.M.Mem.seen c.loop-number.mem) c.args.geo.now c.loop-number.tiers c.loop-number.invariant.tiers
    (omega (arith, c.loop-number-test.false, c.tiers-number-end.ensures, c.loop-number.invariant.found, c.loop-number.invariant.tiers.read.within_limit))

pub returns-clause-found : goal.returns-clause-found
returns-clause-found g c =
    no_fit_end (g.M.Mem.seen c.loop-number.mem) c.args.geo.now c.args.chunks c.loop-number.number c.loop-number.invariant.none
    (omega (arith, c.loop-number-test.false, c.tiers-number-end.ensures))
