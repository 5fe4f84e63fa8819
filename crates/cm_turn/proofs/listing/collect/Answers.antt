use Rattle.std.proofs.Common.{◌∙◌, arith}
use Rattle.cm_words.proofs.CallSequences.{loads_then_err, loads_then_ok}
use Rattle.cm_segment.proofs.ChainedTiers.{rests_before}
use Rattle.cm_segment.proofs.LoadSequences.{loaded_call}
use Rattle.cm_turn.proofs.Cursors.{moves_on, within_all}
use Rattle.cm_turn.proofs.NextPairs.{lists_all, lists_more, one_more}
use Rattle.cm_turn.proofs.listing.collect.Goals as goal

pub returns-in_err-next-clause-loads : goal.returns-in_err-next-clause-loads
returns-in_err-next-clause-loads g c =
    loads_then_err g.M.Mem.seen g.M.Mem.same_rest _ c.loop-pairs.mem c.next_pair.new.mem _ c.from_residual.result c.from_residual.ensures.0
    (g.met.M.Mem.rest_transitive _ _ _) c.loop-pairs.invariant.loaded c.in_err-next.ensures.loads

pub returns-in-Ok-None-clause-loads : goal.returns-in-Ok-None-clause-loads
returns-in-Ok-None-clause-loads g c =
    loads_then_ok g.M.Mem.seen g.M.Mem.same_rest _ c.loop-pairs.mem c.next_pair.new.mem _ _ (g.met.M.Mem.rest_transitive _ _ _) c.loop-pairs.invariant.loaded
    c.in_ok-next.ensures.loads

pub returns-in-Ok-None-clause-all : goal.returns-in-Ok-None-clause-all
returns-in-Ok-None-clause-all g c = λ words state fits rests.
    let reads = c.in_ok-next.ensures.loads.done in
    lists_all c.args.geo.now (g.M.Mem.seen c.next_pair.new.mem).setting.segment words state rests c.loop-pairs.from c.loop-pairs.pairs.items
    (c.loop-pairs.invariant.listed words state (reads.fits words fits) (rests_before _ _ c.args.geo.now words state reads rests))
    ((rw c.in-Ok-None.field-0-is at (rw c.in-Ok-None.is at c.in_ok-next.ensures.found)) words state fits rests)

pub returns-in-Err-clause-loads : goal.returns-in-Err-clause-loads
returns-in-Err-clause-loads g c =
    loads_then_ok g.M.Mem.seen g.M.Mem.same_rest _ c.loop-pairs.mem c.next_pair.new.mem _ _ (g.met.M.Mem.rest_transitive _ _ _) c.loop-pairs.invariant.loaded
    c.in_ok-next.ensures.loads

pub returns-then-is_err-clause-loads : goal.returns-then-is_err-clause-loads
returns-then-is_err-clause-loads g c =
    loads_then_ok g.M.Mem.seen g.M.Mem.same_rest _ c.loop-pairs.mem c.next_pair.new.mem _ _ (g.met.M.Mem.rest_transitive _ _ _) c.loop-pairs.invariant.loaded
    c.in_ok-next.ensures.loads

pub loop-pairs-smaller : goal.loop-pairs-smaller
loop-pairs-smaller g c =
    let after = rw c.in-Ok-Some.field-0-is at (rw c.in-Ok-Some.is at c.in_ok-next.ensures.not_before) in
    omega (
      arith,
      moves_on c.args.geo.now c.loop-pairs.from c.in-Ok-Some.next.0 c.loop-pairs.invariant.slot after,
      within_all c.args.geo.now c.loop-pairs.from c.loop-pairs.invariant.link c.loop-pairs.invariant.slot,
    )

pub loop-pairs-preserved : goal.loop-pairs-preserved
loop-pairs-preserved g c =
    let inside = rw c.in-Ok-Some.field-0-is at (rw c.in-Ok-Some.is at c.in_ok-next.ensures.inside) in
    let found = rw c.in-Ok-Some.field-0-is at (rw c.in-Ok-Some.is at c.in_ok-next.ensures.found) in
    let after = rw c.in-Ok-Some.field-0-is at (rw c.in-Ok-Some.is at c.in_ok-next.ensures.not_before) in
    let reads = c.in_ok-next.ensures.loads.done in
    let items = rw c.if-is_err.ensures.negation at c.push.ensures.items in
    record {
      loaded = loaded_call g.M.Mem.seen g.M.Mem.same_rest _ c.loop-pairs.mem c.next_pair.new.mem _ (g.met.M.Mem.rest_transitive _ _ _)
          c.loop-pairs.invariant.loaded c.in_ok-next.ensures.loads;
      link = inside.0;
      slot = (let h = inside.1 in omega arith);
      few = rw items (one_more c.loop-pairs.pairs.items c.in-Ok-Some.next.1 _ _ c.loop-pairs.invariant.few
          (moves_on c.args.geo.now c.loop-pairs.from c.in-Ok-Some.next.0 c.loop-pairs.invariant.slot after));
      listed = λ words state fits rests. rw items (lists_more c.args.geo.now (g.M.Mem.seen c.next_pair.new.mem).setting.segment words state rests c.loop-pairs.from
          c.in-Ok-Some.next.0 c.loop-pairs.pairs.items c.in-Ok-Some.next.1
          (c.loop-pairs.invariant.listed words state (reads.fits words fits) (rests_before _ _ c.args.geo.now words state reads rests))
          (found words state fits rests));
      key_long = c.next_pair.ensures.key_long ∙ c.loop-pairs.invariant.key_long;
      value_long = c.next_pair.ensures.value_long ∙ c.loop-pairs.invariant.value_long;
    }
