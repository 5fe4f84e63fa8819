-- The slots are read in order, up to one with a match.
use Rattle.std.proofs.Common.{arith, ◌∙◌, refl, length, min, ℕ}
use Rattle.cm_words.proofs.CallSequences.{loaded_none, loads_then_err, loads_then_ok}
use Rattle.cm_entry.proofs.EntryParts.{keeps_if_err, rest_behind}
use Rattle.cm_segment.proofs.LoadSequences.{loaded_call}
use Rattle.cm_segment.proofs.WalkSteps.{first_in_tier, none_in_tier, none_more, none_yet}
use Rattle.cm_segment.proofs.walks.walk_tier.Goals as goal

pub loop-slot-init : goal.loop-slot-init
loop-slot-init g c = record {
  loaded = loaded_none g.M.Mem.seen g.M.Mem.same_rest c.args.mem.now (g.met.M.Mem.rest_reflexive _);
  none = none_yet (g.M.Mem.seen c.args.mem.now) c.args.geo.now c.args.place c.args.first c.args.prefix.now;
  behind = refl;
}

pub returns-in_err-key_len-clause-loads : goal.returns-in_err-key_len-clause-loads
returns-in_err-key_len-clause-loads g c =
    loads_then_err g.M.Mem.seen g.M.Mem.same_rest _ c.loop-slot.mem c.key_at.new.mem _ c.from_residual.result c.from_residual.ensures.0
    (g.met.M.Mem.rest_transitive _ _ _) c.loop-slot.invariant.loaded c.in_err-key_len.ensures.loads

pub returns-in_err-key_len-clause-rest : goal.returns-in_err-key_len-clause-rest
returns-in_err-key_len-clause-rest g c =
    keeps_if_err 256 (min 256 (length c.args.prefix.now)) (λ (found : ℕ × ℕ). found.1) c.args.out.now c.key_at.new.out c.from_residual.result
    c.from_residual.ensures.0
    (c.in_err-key_len.ensures.rest ∙ rest_behind c.args.out.now c.loop-slot.out (min 256 (length c.args.prefix.now)) 256 (omega arith)
    c.loop-slot.invariant.behind)

pub returns-in-Some-clause-loads : goal.returns-in-Some-clause-loads
returns-in-Some-clause-loads g c =
    loads_then_ok g.M.Mem.seen g.M.Mem.same_rest _ c.loop-slot.mem c.key_at.new.mem _ _ (g.met.M.Mem.rest_transitive _ _ _) c.loop-slot.invariant.loaded
    c.in_ok-key_len.ensures.loads

pub returns-in-Some-clause-inside : goal.returns-in-Some-clause-inside
returns-in-Some-clause-inside g c =
    let at = rw c.in-Some.is at c.in_ok-key_len.ensures.inside in
    record { not_before = omega arith; slot = omega (arith, c.loop-slot-test.true); longer = at.0; len = at.1 }

pub returns-in-Some-clause-found : goal.returns-in-Some-clause-found
returns-in-Some-clause-found g c =
    first_in_tier (g.M.Mem.seen c.loop-slot.mem) (g.M.Mem.seen c.key_at.new.mem) c.args.geo.now c.args.place c.args.first c.loop-slot.slot c.in-Some.key_len
    c.args.prefix.now c.key_at.new.out c.loop-slot.invariant.none c.in_ok-key_len.ensures.loads.done (omega arith)
    (rw c.in-Some.is at c.in_ok-key_len.ensures.found)

pub returns-in-Some-clause-rest : goal.returns-in-Some-clause-rest
returns-in-Some-clause-rest g c =
    let at = rw c.in-Some.is at c.in_ok-key_len.ensures.inside in
    (rw c.in-Some.is at c.in_ok-key_len.ensures.rest) ∙ rest_behind c.args.out.now c.loop-slot.out (min 256 (length c.args.prefix.now)) c.in-Some.key_len
    (omega (arith, at.0)) c.loop-slot.invariant.behind

pub loop-slot-preserved : goal.loop-slot-preserved
loop-slot-preserved g c = record {
  loaded = loaded_call g.M.Mem.seen g.M.Mem.same_rest _ c.loop-slot.mem c.key_at.new.mem _ (g.met.M.Mem.rest_transitive _ _ _) c.loop-slot.invariant.loaded
      c.in_ok-key_len.ensures.loads;
  none = none_more (g.M.Mem.seen c.loop-slot.mem) (g.M.Mem.seen c.key_at.new.mem) c.args.geo.now c.args.place c.args.first c.args.prefix.now c.loop-slot.slot
      c.loop-slot.invariant.none c.in_ok-key_len.ensures.loads.done
      (rw c.in_default.is at c.in_ok-key_len.ensures.found);
  behind = (rw c.in_default.is at c.in_ok-key_len.ensures.rest) ∙ c.loop-slot.invariant.behind;
}

pub returns-clause-found : goal.returns-clause-found
returns-clause-found g c =
    none_in_tier (g.M.Mem.seen c.loop-slot.mem) c.args.geo.now c.args.place c.args.first c.loop-slot.slot c.args.prefix.now c.loop-slot.invariant.none
    (omega (arith, c.loop-slot-test.false))
