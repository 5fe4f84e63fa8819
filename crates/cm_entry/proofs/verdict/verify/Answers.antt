use Rattle.std.proofs.Common.{arith}
use Rattle.cm_geo.proofs.AddressOrder.{segment_limit}
use Rattle.cm_plain.specs.Readings.{key_len, value_len}
use Rattle.cm_words.specs.Effects.{IsAsBefore, Reads}
use Rattle.cm_words.proofs.CallSequences.{done_by, loaded_more, loads_more_err, loads_more_ok, loads_then_err}
use Rattle.cm_words.proofs.FittingLists.{reads_transitive}
use Rattle.cm_entry.proofs.LoadCounts.{at_most_after, at_most_err, loads_once_err}
use Rattle.cm_entry.proofs.SpanHashes.{words_long}
use Rattle.cm_entry.proofs.VerdictCases.{AreFit, are_fit, first_two, not_false, not_true, read_of, readable_entry, verdict_checksum, verdict_good, verdict_lengths, verdict_padding, verdict_words_all, verdict_words_few}
use Rattle.cm_entry.proofs.verdict.verify.Goals as goal

pub returns-in_err-head-clause-loads : goal.returns-in_err-head-clause-loads
returns-in_err-head-clause-loads g c =
    at_most_err g.M.Mem.seen g.M.Mem.same_rest _ c.load.new.self c.from_residual.result c.from_residual.ensures.0
    (loads_once_err g.M.Mem.seen g.M.Mem.same_rest _ c.load.new.self _ c.from_residual.result c.from_residual.ensures.0 c.in_err-head.ensures.loads) _

pub overflow_add-at : goal.overflow_add-at
overflow_add-at g c = omega (arith, segment_limit c.args.geo.now, c.chunk_at-at.ensures.in_range)

pub returns-in_err-stored_checksum-clause-loads : goal.returns-in_err-stored_checksum-clause-loads
returns-in_err-stored_checksum-clause-loads g c =
    at_most_err g.M.Mem.seen g.M.Mem.same_rest _ c.load-2.new.self c.from_residual-in_err-stored_checksum.result c.from_residual-in_err-stored_checksum.ensures.0
    (loads_more_err g.M.Mem.seen g.M.Mem.same_rest _ c.load.new.self c.load-2.new.self _ c.from_residual-in_err-stored_checksum.result c.from_residual-in_err-stored_checksum.ensures.0 (g.met.M.Mem.rest_transitive _ _ _) (done_by g.M.Mem.seen g.M.Mem.same_rest Reads IsAsBefore _ _ _ c.in_ok-head.ensures.loads.call) c.in_err-stored_checksum.ensures.loads) _

pub returns-in_default-clause-loads : goal.returns-in_default-clause-loads
returns-in_default-clause-loads g c = record {
  loads = loads_more_ok g.M.Mem.seen g.M.Mem.same_rest _ c.load.new.self c.load-2.new.self _ _ (g.met.M.Mem.rest_transitive _ _ _) (done_by g.M.Mem.seen g.M.Mem.same_rest Reads IsAsBefore _ _ _ c.in_ok-head.ensures.loads.call) c.in_ok-stored_checksum.ensures.loads;
  count = omega (arith, c.in_ok-head.ensures.loads.event.events, c.in_ok-stored_checksum.ensures.loads.event.events);
}

pub returns-in_default-clause-verdict : goal.returns-in_default-clause-verdict
returns-in_default-clause-verdict g c words fits =
    let first = first_two (g.M.Mem.seen c.load.new.self) (g.M.Mem.seen c.load-2.new.self) c.args.geo.now c.args.place c.args.chunk c.chunk_at-at.result c.in_ok-head.head c.in_ok-stored_checksum.stored_checksum c.chunk_at-at.ensures.value c.in_ok-head.ensures.word c.in_ok-stored_checksum.ensures.loads.call.done c.in_ok-stored_checksum.ensures.word words fits in
    record {
      verdict_is = verdict_lengths c.args.geo.now words c.args.place c.args.chunk c.in_ok-head.head c.in_ok-stored_checksum.stored_checksum first c.in_default.ensures;
      count = omega (arith, verdict_words_few c.args.geo.now words c.args.place c.args.chunk c.in_ok-head.head c.in_ok-stored_checksum.stored_checksum first c.in_default.ensures, c.in_ok-head.ensures.loads.event.events, c.in_ok-stored_checksum.ensures.loads.event.events);
    }

pub overflow_add-at-2 : goal.overflow_add-at-2
overflow_add-at-2 g c = omega (arith, segment_limit c.args.geo.now, c.chunk_at-at.ensures.in_range)

pub hash_entry-requires : goal.hash_entry-requires
hash_entry-requires g c =
    readable_entry (g.M.Mem.seen c.args.mem.now) (g.M.Mem.seen c.load-2.new.self) c.args.geo.now c.args.place c.args.chunk c.chunk_at-at.result c.halves-key_len.result.0 c.halves-key_len.result.1 c.in_ok-head.head c.requires.readable
    ((loaded_more g.M.Mem.seen g.M.Mem.same_rest _ c.load.new.self c.load-2.new.self _ (g.met.M.Mem.rest_transitive _ _ _) (done_by g.M.Mem.seen g.M.Mem.same_rest Reads IsAsBefore _ _ _ c.in_ok-head.ensures.loads.call) c.in_ok-stored_checksum.ensures.loads).done) c.chunk_at-at.ensures.value c.halves-key_len.ensures.key_is c.halves-key_len.ensures.value_is c.in-Some.ensures.0

pub returns-in_err-entry-clause-loads : goal.returns-in_err-entry-clause-loads
returns-in_err-entry-clause-loads g c =
    at_most_err g.M.Mem.seen g.M.Mem.same_rest _ c.hash_entry.new.mem c.from_residual-in_err-entry.result c.from_residual-in_err-entry.ensures.0
    (loads_then_err g.M.Mem.seen g.M.Mem.same_rest _ c.load-2.new.self c.hash_entry.new.mem _ c.from_residual-in_err-entry.result c.from_residual-in_err-entry.ensures.0 (g.met.M.Mem.rest_transitive _ _ _) (loaded_more g.M.Mem.seen g.M.Mem.same_rest _ c.load.new.self c.load-2.new.self _ (g.met.M.Mem.rest_transitive _ _ _) (done_by g.M.Mem.seen g.M.Mem.same_rest Reads IsAsBefore _ _ _ c.in_ok-head.ensures.loads.call) c.in_ok-stored_checksum.ensures.loads) c.in_err-entry.ensures.counted.loads) _

pub returns-then-entry-stored_checksum-clause-loads : goal.returns-then-entry-stored_checksum-clause-loads
returns-then-entry-stored_checksum-clause-loads g c =
    at_most_after g.M.Mem.seen g.M.Mem.same_rest _ c.load-2.new.self c.hash_entry.new.mem _ _ _ _ (g.met.M.Mem.rest_transitive _ _ _)
    (loaded_more g.M.Mem.seen g.M.Mem.same_rest _ c.load.new.self c.load-2.new.self _ (g.met.M.Mem.rest_transitive _ _ _) (done_by g.M.Mem.seen g.M.Mem.same_rest Reads IsAsBefore _ _ _ c.in_ok-head.ensures.loads.call) c.in_ok-stored_checksum.ensures.loads)
    c.in_ok-entry.ensures.counted (let lengths : AreFit c.args.geo.now c.args.chunk (key_len c.in_ok-head.head) (value_len c.in_ok-head.head) = are_fit c.args.geo.now c.args.chunk c.in_ok-head.head c.in-Some.ensures.0 in
    omega (arith, lengths.key_short, lengths.value_short, c.in_ok-head.ensures.loads.event.events, c.in_ok-stored_checksum.ensures.loads.event.events, c.halves-key_len.ensures.key_is, c.halves-key_len.ensures.value_is))

pub returns-then-entry-stored_checksum-clause-verdict : goal.returns-then-entry-stored_checksum-clause-verdict
returns-then-entry-stored_checksum-clause-verdict g c words fits = record {
  verdict_is = verdict_checksum c.args.geo.now words c.args.place c.args.chunk c.in_ok-head.head c.in_ok-stored_checksum.stored_checksum c.hash_head-start.result c.in_ok-entry.entry
      (read_of c.args.geo.now words c.args.place c.args.chunk c.in_ok-head.head c.in_ok-stored_checksum.stored_checksum c.hash_head-start.result c.chunk_at-at.result c.halves-key_len.result.0 c.halves-key_len.result.1 c.in_ok-entry.entry
      (first_two (g.M.Mem.seen c.load.new.self) (g.M.Mem.seen c.load-2.new.self) c.args.geo.now c.args.place c.args.chunk c.chunk_at-at.result c.in_ok-head.head c.in_ok-stored_checksum.stored_checksum c.chunk_at-at.ensures.value c.in_ok-head.ensures.word c.in_ok-stored_checksum.ensures.loads.call.done c.in_ok-stored_checksum.ensures.word words (c.in_ok-entry.ensures.counted.loads.done.fits words fits)) c.in-Some.ensures.0 c.hash_head-start.ensures c.chunk_at-at.ensures.value c.halves-key_len.ensures.key_is c.halves-key_len.ensures.value_is (c.in_ok-entry.ensures.answer words fits))
      c.if-entry-stored_checksum.true;
  count = omega (arith, verdict_words_all c.args.geo.now words c.args.place c.args.chunk c.in_ok-head.head c.in_ok-stored_checksum.stored_checksum (first_two (g.M.Mem.seen c.load.new.self) (g.M.Mem.seen c.load-2.new.self) c.args.geo.now c.args.place c.args.chunk c.chunk_at-at.result c.in_ok-head.head c.in_ok-stored_checksum.stored_checksum c.chunk_at-at.ensures.value c.in_ok-head.ensures.word c.in_ok-stored_checksum.ensures.loads.call.done c.in_ok-stored_checksum.ensures.word words (c.in_ok-entry.ensures.counted.loads.done.fits words fits)) c.in-Some.ensures.0, c.in_ok-head.ensures.loads.event.events, c.in_ok-stored_checksum.ensures.loads.event.events, c.in_ok-entry.ensures.counted.count, c.halves-key_len.ensures.key_is, c.halves-key_len.ensures.value_is);
}

pub returns-then-not-entry-clause-loads : goal.returns-then-not-entry-clause-loads
returns-then-not-entry-clause-loads g c =
    at_most_after g.M.Mem.seen g.M.Mem.same_rest _ c.load-2.new.self c.hash_entry.new.mem _ _ _ _ (g.met.M.Mem.rest_transitive _ _ _)
    (loaded_more g.M.Mem.seen g.M.Mem.same_rest _ c.load.new.self c.load-2.new.self _ (g.met.M.Mem.rest_transitive _ _ _) (done_by g.M.Mem.seen g.M.Mem.same_rest Reads IsAsBefore _ _ _ c.in_ok-head.ensures.loads.call) c.in_ok-stored_checksum.ensures.loads)
    c.in_ok-entry.ensures.counted (let lengths : AreFit c.args.geo.now c.args.chunk (key_len c.in_ok-head.head) (value_len c.in_ok-head.head) = are_fit c.args.geo.now c.args.chunk c.in_ok-head.head c.in-Some.ensures.0 in
    omega (arith, lengths.key_short, lengths.value_short, c.in_ok-head.ensures.loads.event.events, c.in_ok-stored_checksum.ensures.loads.event.events, c.halves-key_len.ensures.key_is, c.halves-key_len.ensures.value_is))

pub returns-then-not-entry-clause-verdict : goal.returns-then-not-entry-clause-verdict
returns-then-not-entry-clause-verdict g c words fits = record {
  verdict_is = verdict_padding c.args.geo.now words c.args.place c.args.chunk c.in_ok-head.head c.in_ok-stored_checksum.stored_checksum c.hash_head-start.result c.in_ok-entry.entry
      (read_of c.args.geo.now words c.args.place c.args.chunk c.in_ok-head.head c.in_ok-stored_checksum.stored_checksum c.hash_head-start.result c.chunk_at-at.result c.halves-key_len.result.0 c.halves-key_len.result.1 c.in_ok-entry.entry
      (first_two (g.M.Mem.seen c.load.new.self) (g.M.Mem.seen c.load-2.new.self) c.args.geo.now c.args.place c.args.chunk c.chunk_at-at.result c.in_ok-head.head c.in_ok-stored_checksum.stored_checksum c.chunk_at-at.ensures.value c.in_ok-head.ensures.word c.in_ok-stored_checksum.ensures.loads.call.done c.in_ok-stored_checksum.ensures.word words (c.in_ok-entry.ensures.counted.loads.done.fits words fits)) c.in-Some.ensures.0 c.hash_head-start.ensures c.chunk_at-at.ensures.value c.halves-key_len.ensures.key_is c.halves-key_len.ensures.value_is (c.in_ok-entry.ensures.answer words fits))
      c.if-entry-stored_checksum.false (not_true c.in_ok-entry.entry.padded c.if-not-entry.true);
  count = omega (arith, verdict_words_all c.args.geo.now words c.args.place c.args.chunk c.in_ok-head.head c.in_ok-stored_checksum.stored_checksum (first_two (g.M.Mem.seen c.load.new.self) (g.M.Mem.seen c.load-2.new.self) c.args.geo.now c.args.place c.args.chunk c.chunk_at-at.result c.in_ok-head.head c.in_ok-stored_checksum.stored_checksum c.chunk_at-at.ensures.value c.in_ok-head.ensures.word c.in_ok-stored_checksum.ensures.loads.call.done c.in_ok-stored_checksum.ensures.word words (c.in_ok-entry.ensures.counted.loads.done.fits words fits)) c.in-Some.ensures.0, c.in_ok-head.ensures.loads.event.events, c.in_ok-stored_checksum.ensures.loads.event.events, c.in_ok-entry.ensures.counted.count, c.halves-key_len.ensures.key_is, c.halves-key_len.ensures.value_is);
}

pub returns-clause-loads : goal.returns-clause-loads
returns-clause-loads g c =
    at_most_after g.M.Mem.seen g.M.Mem.same_rest _ c.load-2.new.self c.hash_entry.new.mem _ _ _ _ (g.met.M.Mem.rest_transitive _ _ _)
    (loaded_more g.M.Mem.seen g.M.Mem.same_rest _ c.load.new.self c.load-2.new.self _ (g.met.M.Mem.rest_transitive _ _ _) (done_by g.M.Mem.seen g.M.Mem.same_rest Reads IsAsBefore _ _ _ c.in_ok-head.ensures.loads.call) c.in_ok-stored_checksum.ensures.loads)
    c.in_ok-entry.ensures.counted (let lengths : AreFit c.args.geo.now c.args.chunk (key_len c.in_ok-head.head) (value_len c.in_ok-head.head) = are_fit c.args.geo.now c.args.chunk c.in_ok-head.head c.in-Some.ensures.0 in
    omega (arith, lengths.key_short, lengths.value_short, c.in_ok-head.ensures.loads.event.events, c.in_ok-stored_checksum.ensures.loads.event.events, c.halves-key_len.ensures.key_is, c.halves-key_len.ensures.value_is))

pub returns-clause-verdict : goal.returns-clause-verdict
returns-clause-verdict g c words fits = record {
  verdict_is = verdict_good c.args.geo.now words c.args.place c.args.chunk c.in_ok-head.head c.in_ok-stored_checksum.stored_checksum c.hash_head-start.result c.in_ok-entry.entry
      (read_of c.args.geo.now words c.args.place c.args.chunk c.in_ok-head.head c.in_ok-stored_checksum.stored_checksum c.hash_head-start.result c.chunk_at-at.result c.halves-key_len.result.0 c.halves-key_len.result.1 c.in_ok-entry.entry
      (first_two (g.M.Mem.seen c.load.new.self) (g.M.Mem.seen c.load-2.new.self) c.args.geo.now c.args.place c.args.chunk c.chunk_at-at.result c.in_ok-head.head c.in_ok-stored_checksum.stored_checksum c.chunk_at-at.ensures.value c.in_ok-head.ensures.word c.in_ok-stored_checksum.ensures.loads.call.done c.in_ok-stored_checksum.ensures.word words (c.in_ok-entry.ensures.counted.loads.done.fits words fits)) c.in-Some.ensures.0 c.hash_head-start.ensures c.chunk_at-at.ensures.value c.halves-key_len.ensures.key_is c.halves-key_len.ensures.value_is (c.in_ok-entry.ensures.answer words fits))
      c.halves-key_len.result.0 c.halves-key_len.result.1 c.in-Some.chunks c.requires.readable.place_low
      (words_long (g.M.Mem.seen c.args.mem.now) (g.M.Mem.seen c.hash_entry.new.mem) c.args.geo.now (reads_transitive _ (g.M.Mem.seen c.load-2.new.self) _ (loaded_more g.M.Mem.seen g.M.Mem.same_rest _ c.load.new.self c.load-2.new.self _ (g.met.M.Mem.rest_transitive _ _ _) (done_by g.M.Mem.seen g.M.Mem.same_rest Reads IsAsBefore _ _ _ c.in_ok-head.ensures.loads.call) c.in_ok-stored_checksum.ensures.loads).done c.in_ok-entry.ensures.counted.loads.done) c.requires.readable.readable.geo_is words fits)
      c.halves-key_len.ensures.key_is c.halves-key_len.ensures.value_is c.in-Some.ensures.1 c.if-entry-stored_checksum.false (not_false c.in_ok-entry.entry.padded c.if-not-entry.false);
  count = omega (arith, verdict_words_all c.args.geo.now words c.args.place c.args.chunk c.in_ok-head.head c.in_ok-stored_checksum.stored_checksum (first_two (g.M.Mem.seen c.load.new.self) (g.M.Mem.seen c.load-2.new.self) c.args.geo.now c.args.place c.args.chunk c.chunk_at-at.result c.in_ok-head.head c.in_ok-stored_checksum.stored_checksum c.chunk_at-at.ensures.value c.in_ok-head.ensures.word c.in_ok-stored_checksum.ensures.loads.call.done c.in_ok-stored_checksum.ensures.word words (c.in_ok-entry.ensures.counted.loads.done.fits words fits)) c.in-Some.ensures.0, c.in_ok-head.ensures.loads.event.events, c.in_ok-stored_checksum.ensures.loads.event.events, c.in_ok-entry.ensures.counted.count, c.halves-key_len.ensures.key_is, c.halves-key_len.ensures.value_is);
}
