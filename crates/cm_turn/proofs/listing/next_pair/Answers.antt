use Rattle.cm_words.specs.Effects.{Reads}
use Rattle.cm_words.proofs.CallSequences.{done_by, loads_then_ok}
use Rattle.cm_segment.proofs.ChainedTiers.{rests_before}
use Rattle.cm_turn.proofs.NextPairs.{walked_none, walked_pair}
use Rattle.cm_turn.proofs.listing.next_pair.Goals as goal

pub returns-in_default-2-clause-loads : goal.returns-in_default-2-clause-loads
returns-in_default-2-clause-loads g c =
    loads_then_ok g.M.Mem.seen g.M.Mem.same_rest _ c.walk.new.mem c.find_value.new.mem _ _ (g.met.M.Mem.rest_transitive _ _ _)
    (done_by g.M.Mem.seen g.M.Mem.same_rest Reads Reads _ _ _ c.in_ok-stand.ensures.loads) c.in_ok-len.ensures.loads

pub returns-in_default-2-clause-found : goal.returns-in_default-2-clause-found
returns-in_default-2-clause-found g c = λ words state fits rests placed cursor stands after.
    let reads = c.in_ok-len.ensures.loads.done in
    walked_none c.args.geo.now (g.M.Mem.seen c.find_value.new.mem).setting.segment words state c.args.from c.walk.new.out c.in-Some.stand rests
    ((rw c.in-Some.is at c.in_ok-stand.ensures.found) words state (reads.fits words fits) (rests_before _ _ c.args.geo.now words state reads rests))
    ((rw c.in_default-2.is at c.in_ok-len.ensures.finds) words state fits rests)

pub returns-in-Ok-clause-loads : goal.returns-in-Ok-clause-loads
returns-in-Ok-clause-loads g c =
    loads_then_ok g.M.Mem.seen g.M.Mem.same_rest _ c.walk.new.mem c.find_value.new.mem _ _ (g.met.M.Mem.rest_transitive _ _ _)
    (done_by g.M.Mem.seen g.M.Mem.same_rest Reads Reads _ _ _ c.in_ok-stand.ensures.loads) c.in_ok-len.ensures.loads

pub returns-in-Ok-clause-found : goal.returns-in-Ok-clause-found
returns-in-Ok-clause-found g c = λ words state fits rests.
    let reads = c.in_ok-len.ensures.loads.done in
    walked_pair c.args.geo.now (g.M.Mem.seen c.find_value.new.mem).setting.segment words state c.args.from c.walk.new.out c.find_value.new.out c.in-Some.stand
    c.in-Some-2.len c.in-Ok.pair rests
    ((rw c.in-Some.is at c.in_ok-stand.ensures.found) words state (reads.fits words fits) (rests_before _ _ c.args.geo.now words state reads rests))
    ((rw c.in-Some-2.is at c.in_ok-len.ensures.finds) words state fits rests) c.in-Ok.ensures

pub returns-in-Err-clause-loads : goal.returns-in-Err-clause-loads
returns-in-Err-clause-loads g c =
    loads_then_ok g.M.Mem.seen g.M.Mem.same_rest _ c.walk.new.mem c.find_value.new.mem _ _ (g.met.M.Mem.rest_transitive _ _ _)
    (done_by g.M.Mem.seen g.M.Mem.same_rest Reads Reads _ _ _ c.in_ok-stand.ensures.loads) c.in_ok-len.ensures.loads
