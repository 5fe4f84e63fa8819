use Rattle.std.proofs.Common.{arith}
use Rattle.cm_geo.proofs.AddressOrder.{segment_limit}
use Rattle.cm_words.proofs.CallSequences.{loaded_more, loaded_none, loads_more_ok}
use Rattle.cm_entry.proofs.SpanHashes.{hash_none, hash_rest, hash_whole, inside_kept}
use Rattle.cm_entry.proofs.checksum.hash_span.Goals as goal

pub loop-i-init : goal.loop-i-init
loop-i-init g c = record {
  loaded = loaded_none g.M.Mem.seen g.M.Mem.same_rest c.args.mem.now (g.met.M.Mem.rest_reflexive _);
  events = omega arith;
  so_far = hash_none (g.M.Mem.seen c.args.mem.now) c.args.span c.args.start;
}

pub overflow_add-span : goal.overflow_add-span
overflow_add-span g c = omega (arith, segment_limit (g.M.Mem.seen c.args.mem.now).setting.geo, c.requires.inside.inside)

pub loop-i-preserved : goal.loop-i-preserved
loop-i-preserved g c = record {
  loaded = loaded_more g.M.Mem.seen g.M.Mem.same_rest _ c.loop-i.mem _ _ (g.met.M.Mem.rest_transitive _ _ _) c.loop-i.invariant.loaded c.in_ok-last.ensures.loads;
  events = omega (arith, c.loop-i.invariant.events, c.in_ok-last.ensures.loads.event.events);
  so_far = hash_whole (g.M.Mem.seen c.loop-i.mem) (g.M.Mem.seen c.load.new.self) c.args.span c.args.start c.loop-i.state c.loop-i.last c.loop-i.i c.in_ok-last.last c.hash_word-state.result
      c.loop-i.invariant.so_far c.in_ok-last.ensures.loads.call.done c.in_ok-last.ensures.word c.requires.inside.inner
      (inside_kept (g.M.Mem.seen c.args.mem.now) (g.M.Mem.seen c.loop-i.mem) (g.M.Mem.seen c.load.new.self) c.args.span c.loop-i.invariant.loaded.done c.in_ok-last.ensures.loads.call.done c.requires.inside)
      (omega arith) c.hash_word-state.ensures;
}

pub overflow_add-span-2 : goal.overflow_add-span-2
overflow_add-span-2 g c = omega (arith, segment_limit (g.M.Mem.seen c.args.mem.now).setting.geo, c.requires.inside.inside)

pub returns : goal.returns
returns g c = record {
  counted = record {
    loads = loads_more_ok g.M.Mem.seen g.M.Mem.same_rest _ c.loop-i.mem c.load-2.new.self _ _ (g.met.M.Mem.rest_transitive _ _ _) c.loop-i.invariant.loaded c.in_ok-last-2.ensures.loads;
    count = omega (arith, c.loop-i.invariant.events, c.in_ok-last-2.ensures.loads.event.events);
  };
  answer = hash_rest (g.M.Mem.seen c.loop-i.mem) (g.M.Mem.seen c.load-2.new.self) c.args.span c.args.start c.loop-i.state c.loop-i.last c.loop-i.i c.in_ok-last-2.last c.hash_prefix-state.result
      c.loop-i.invariant.so_far (omega arith) (omega arith) c.in_ok-last-2.ensures.loads.call.done c.in_ok-last-2.ensures.word c.requires.inside.inner
      (inside_kept (g.M.Mem.seen c.args.mem.now) (g.M.Mem.seen c.loop-i.mem) (g.M.Mem.seen c.load-2.new.self) c.args.span c.loop-i.invariant.loaded.done c.in_ok-last-2.ensures.loads.call.done c.requires.inside)
      c.hash_prefix-state.ensures;
}
