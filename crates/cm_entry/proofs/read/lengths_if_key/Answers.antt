use Rattle.std.proofs.Common.{arith}
use Rattle.cm_words.specs.Effects.{IsAsBefore, Reads}
use Rattle.cm_words.proofs.CallSequences.{done_by, loads_then_err, loads_then_ok}
use Rattle.cm_entry.proofs.EntryParts.{key_part, lengths_by, other_by}
use Rattle.cm_entry.proofs.LoadCounts.{at_most_err}
use Rattle.cm_entry.proofs.read.lengths_if_key.Goals as goal

pub same_bytes-requires : goal.same_bytes-requires
same_bytes-requires g c =
    (key_part (g.M.Mem.seen c.args.mem.now) (g.M.Mem.seen c.lengths.new.mem) c.args.geo.now c.args.place c.args.chunk c.in_ok-key_len.key_len _ c.key_span_of-span.result c.requires.readable c.in_ok-key_len.ensures.loads.call.done c.in_ok-key_len.ensures.lengths c.key_span_of-span.ensures).readable

pub returns-in_err-same_bytes-clause-loads : goal.returns-in_err-same_bytes-clause-loads
returns-in_err-same_bytes-clause-loads g c =
    at_most_err g.M.Mem.seen g.M.Mem.same_rest _ c.same_bytes.new.mem c.from_residual-in_err-same_bytes.result c.from_residual-in_err-same_bytes.ensures.0
    (loads_then_err g.M.Mem.seen g.M.Mem.same_rest _ c.lengths.new.mem c.same_bytes.new.mem _ c.from_residual-in_err-same_bytes.result c.from_residual-in_err-same_bytes.ensures.0 (g.met.M.Mem.rest_transitive _ _ _)
    (done_by g.M.Mem.seen g.M.Mem.same_rest Reads IsAsBefore _ _ _ c.in_ok-key_len.ensures.loads.call) c.in_err-same_bytes.ensures.loads.loads) _

pub returns-then-branch-clause-loads : goal.returns-then-branch-clause-loads
returns-then-branch-clause-loads g c = record {
  loads = loads_then_ok g.M.Mem.seen g.M.Mem.same_rest _ c.lengths.new.mem c.same_bytes.new.mem _ _ (g.met.M.Mem.rest_transitive _ _ _)
      (done_by g.M.Mem.seen g.M.Mem.same_rest Reads IsAsBefore _ _ _ c.in_ok-key_len.ensures.loads.call) c.in_ok-same_bytes.ensures.loads.loads;
  count = omega (arith, c.in_ok-key_len.ensures.loads.event.events, c.in_ok-same_bytes.ensures.loads.count);
}

pub returns-then-branch-clause-key_within_limit : goal.returns-then-branch-clause-key_within_limit
returns-then-branch-clause-key_within_limit g c _ = omega (arith, c.in_ok-same_bytes.ensures.length c.if-branch.true, c.key_span_of-span.ensures.within_limit)

pub returns-then-branch-clause-lengths : goal.returns-then-branch-clause-lengths
returns-then-branch-clause-lengths g c =
    lengths_by (g.M.Mem.seen c.lengths.new.mem) (g.M.Mem.seen c.same_bytes.new.mem) c.args.geo.now c.args.place c.args.chunk c.in_ok-key_len.key_len c.in_ok-key_len.value_len c.key_span_of-span.result c.args.key.now
    (key_part (g.M.Mem.seen c.args.mem.now) (g.M.Mem.seen c.lengths.new.mem) c.args.geo.now c.args.place c.args.chunk c.in_ok-key_len.key_len _ c.key_span_of-span.result c.requires.readable c.in_ok-key_len.ensures.loads.call.done c.in_ok-key_len.ensures.lengths c.key_span_of-span.ensures).stands
    c.in_ok-same_bytes.ensures.loads.loads.done c.in_ok-key_len.ensures.lengths (λ words fits. rw c.if-branch.true at c.in_ok-same_bytes.ensures.same words fits)

pub returns-clause-loads : goal.returns-clause-loads
returns-clause-loads g c = record {
  loads = loads_then_ok g.M.Mem.seen g.M.Mem.same_rest _ c.lengths.new.mem c.same_bytes.new.mem _ _ (g.met.M.Mem.rest_transitive _ _ _)
      (done_by g.M.Mem.seen g.M.Mem.same_rest Reads IsAsBefore _ _ _ c.in_ok-key_len.ensures.loads.call) c.in_ok-same_bytes.ensures.loads.loads;
  count = omega (arith, c.in_ok-key_len.ensures.loads.event.events, c.in_ok-same_bytes.ensures.loads.count);
}

pub returns-clause-lengths : goal.returns-clause-lengths
returns-clause-lengths g c =
    other_by (g.M.Mem.seen c.lengths.new.mem) (g.M.Mem.seen c.same_bytes.new.mem) c.args.geo.now c.args.place c.args.chunk c.key_span_of-span.result c.args.key.now
    (key_part (g.M.Mem.seen c.args.mem.now) (g.M.Mem.seen c.lengths.new.mem) c.args.geo.now c.args.place c.args.chunk c.in_ok-key_len.key_len _ c.key_span_of-span.result c.requires.readable c.in_ok-key_len.ensures.loads.call.done c.in_ok-key_len.ensures.lengths c.key_span_of-span.ensures).stands
    c.in_ok-same_bytes.ensures.loads.loads.done (λ words fits. rw c.if-branch.false at c.in_ok-same_bytes.ensures.same words fits)
