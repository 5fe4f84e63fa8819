-- The tiers are walked in order, up to one with a match.
use Rattle.std.proofs.Common.{arith, ◌∙◌, refl, length, min}
use Rattle.cm_words.proofs.CallSequences.{loaded_none, loads_then_err, loads_then_ok}
use Rattle.cm_entry.proofs.EntryParts.{keeps_if_err, rest_behind}
use Rattle.cm_tiers.proofs.TiersFound.{found_after}
use Rattle.cm_segment.specs.declared.walks.Stand.{Stand}
use Rattle.cm_segment.proofs.LoadSequences.{loaded_call}
use Rattle.cm_segment.proofs.ChainSearch.{so_far_more, so_far_none}
use Rattle.cm_segment.proofs.WalkSteps.{HasNoMatchFrom, first_match, none_behind, none_end, none_from}
use Rattle.cm_segment.proofs.walks.walk.Goals as goal

pub loop-link-init : goal.loop-link-init
loop-link-init g c = record {
  loaded = loaded_none g.M.Mem.seen g.M.Mem.same_rest c.args.mem.now (g.met.M.Mem.rest_reflexive _);
  tiers = c.first-tiers.ensures (g.M.Mem.seen c.args.mem.now) c.args.geo.now;
  found = omega arith;
  none = so_far_none (g.M.Mem.seen c.args.mem.now) c.args.geo.now (HasNoMatchFrom c.args.geo.now c.args.from c.args.prefix.now);
  behind = refl;
}

pub returns-in_err-place-clause-loads : goal.returns-in_err-place-clause-loads
returns-in_err-place-clause-loads g c =
    loads_then_err g.M.Mem.seen g.M.Mem.same_rest _ c.loop-link.mem c.place.new.mem _ c.from_residual.result c.from_residual.ensures.0
    (g.met.M.Mem.rest_transitive _ _ _) c.loop-link.invariant.loaded c.in_err-place.ensures.loads

pub returns-in_err-place-clause-rest : goal.returns-in_err-place-clause-rest
returns-in_err-place-clause-rest g c =
    keeps_if_err 256 (min 256 (length c.args.prefix.now)) (λ (stand : Stand). stand.key_len) c.args.out.now c.loop-link.out c.from_residual.result
    c.from_residual.ensures.0
    (rest_behind c.args.out.now c.loop-link.out (min 256 (length c.args.prefix.now)) 256 (omega arith) c.loop-link.invariant.behind)

pub returns-in_default-clause-loads : goal.returns-in_default-clause-loads
returns-in_default-clause-loads g c =
    loads_then_ok g.M.Mem.seen g.M.Mem.same_rest _ c.loop-link.mem c.place.new.mem _ _ (g.met.M.Mem.rest_transitive _ _ _) c.loop-link.invariant.loaded
    c.in_ok-place.ensures.loads

pub returns-in_default-clause-found : goal.returns-in_default-clause-found
returns-in_default-clause-found g c =
    none_behind (g.M.Mem.seen c.loop-link.mem) (g.M.Mem.seen c.place.new.mem) c.args.geo.now c.args.from c.args.prefix.now c.loop-link.link
    c.loop-link.invariant.none c.in_ok-place.ensures.loads.done (rw c.in_default.is at c.in_ok-place.ensures.place)

pub walk_tier-requires-clause-place : goal.walk_tier-requires-clause-place
walk_tier-requires-clause-place g c = (rw c.in-Some.is at c.in_ok-place.ensures.inside).below

pub returns-in_err-slot-clause-loads : goal.returns-in_err-slot-clause-loads
returns-in_err-slot-clause-loads g c =
    loads_then_err g.M.Mem.seen g.M.Mem.same_rest _ c.place.new.mem c.walk_tier.new.mem _ c.from_residual-in_err-slot.result
    c.from_residual-in_err-slot.ensures.0 (g.met.M.Mem.rest_transitive _ _ _)
    (loaded_call g.M.Mem.seen g.M.Mem.same_rest _ c.loop-link.mem c.place.new.mem _ (g.met.M.Mem.rest_transitive _ _ _) c.loop-link.invariant.loaded
    c.in_ok-place.ensures.loads) c.in_err-slot.ensures.loads

pub returns-in_err-slot-clause-rest : goal.returns-in_err-slot-clause-rest
returns-in_err-slot-clause-rest g c =
    keeps_if_err 256 (min 256 (length c.args.prefix.now)) (λ (stand : Stand). stand.key_len) c.args.out.now c.walk_tier.new.out
    c.from_residual-in_err-slot.result c.from_residual-in_err-slot.ensures.0
    (c.in_err-slot.ensures.rest ∙ rest_behind c.args.out.now c.loop-link.out (min 256 (length c.args.prefix.now)) 256 (omega arith)
    c.loop-link.invariant.behind)

pub returns-in-Some-2-clause-loads : goal.returns-in-Some-2-clause-loads
returns-in-Some-2-clause-loads g c =
    loads_then_ok g.M.Mem.seen g.M.Mem.same_rest _ c.place.new.mem c.walk_tier.new.mem _ _ (g.met.M.Mem.rest_transitive _ _ _)
    (loaded_call g.M.Mem.seen g.M.Mem.same_rest _ c.loop-link.mem c.place.new.mem _ (g.met.M.Mem.rest_transitive _ _ _) c.loop-link.invariant.loaded
    c.in_ok-place.ensures.loads) c.in_ok-slot.ensures.loads

pub returns-in-Some-2-clause-inside : goal.returns-in-Some-2-clause-inside
returns-in-Some-2-clause-inside g c =
    let at = rw c.in-Some-2.is at c.in_ok-slot.ensures.inside in
    record {
      link = omega (arith, c.loop-link-test.true, c.tiers-link-end.ensures);
      slot = at.slot;
      key_len = at.len;
      not_before =
          (c.first_slot-first.ensures c.in-Some-2.slot at.slot).0 at.not_before;
    }

pub returns-in-Some-2-clause-found : goal.returns-in-Some-2-clause-found
returns-in-Some-2-clause-found g c =
    first_match (g.M.Mem.seen c.loop-link.mem) (g.M.Mem.seen c.place.new.mem) (g.M.Mem.seen c.walk_tier.new.mem) c.args.geo.now c.args.from c.args.prefix.now
    c.walk_tier.new.out c.loop-link.link c.in-Some.place c.first_slot-first.result c.in-Some-2.slot c.in-Some-2.key_len
    c.loop-link.invariant.none c.in_ok-place.ensures.loads.done (rw c.in-Some.is at c.in_ok-place.ensures.place) c.in_ok-slot.ensures.loads.done
    c.first_slot-first.ensures (rw c.in-Some-2.is at c.in_ok-slot.ensures.found)

pub returns-in-Some-2-clause-rest : goal.returns-in-Some-2-clause-rest
returns-in-Some-2-clause-rest g c =
    let at = rw c.in-Some-2.is at c.in_ok-slot.ensures.inside in
    (rw c.in-Some-2.is at c.in_ok-slot.ensures.rest) ∙ rest_behind c.args.out.now c.loop-link.out (min 256 (length c.args.prefix.now)) c.in-Some-2.key_len
    (omega (arith, at.longer)) c.loop-link.invariant.behind

pub loop-link-preserved : goal.loop-link-preserved
loop-link-preserved g c = record {
  loaded = loaded_call g.M.Mem.seen g.M.Mem.same_rest _ c.place.new.mem c.walk_tier.new.mem _ (g.met.M.Mem.rest_transitive _ _ _)
      (loaded_call g.M.Mem.seen g.M.Mem.same_rest _ c.loop-link.mem c.place.new.mem _ (g.met.M.Mem.rest_transitive _ _ _) c.loop-link.invariant.loaded
      c.in_ok-place.ensures.loads) c.in_ok-slot.ensures.loads;
  tiers = found_after (g.M.Mem.seen c.place.new.mem) (g.M.Mem.seen c.walk_tier.new.mem) c.args.geo.now c.place.new.self c.in_ok-place.ensures.found
      c.in_ok-slot.ensures.loads.done;
  found = (let at = rw c.in-Some.is at c.in_ok-place.ensures.inside in omega (arith, at.found));
  none = so_far_more (g.M.Mem.seen c.loop-link.mem) (g.M.Mem.seen c.place.new.mem) (g.M.Mem.seen c.walk_tier.new.mem) c.args.geo.now c.loop-link.link
      c.in-Some.place (HasNoMatchFrom c.args.geo.now c.args.from c.args.prefix.now)
      c.loop-link.invariant.none c.in_ok-place.ensures.loads.done (rw c.in-Some.is at c.in_ok-place.ensures.place) c.in_ok-slot.ensures.loads.done
      (none_from (g.M.Mem.seen c.walk_tier.new.mem) c.args.geo.now c.args.from c.loop-link.link c.in-Some.place c.first_slot-first.result c.args.prefix.now
      c.first_slot-first.ensures (rw c.in_default-2.is at c.in_ok-slot.ensures.found));
  behind = (rw c.in_default-2.is at c.in_ok-slot.ensures.rest) ∙ c.loop-link.invariant.behind;
}

pub returns-clause-found : goal.returns-clause-found
returns-clause-found g c =
    none_end (g.M.Mem.seen c.loop-link.mem) c.args.geo.now c.args.from c.args.prefix.now c.loop-link.link c.loop-link.invariant.none
    (omega (arith, c.loop-link-test.false, c.tiers-link-end.ensures))
