use Rattle.cm_entry.proofs.SpanHashes.{words_long}
use Rattle.cm_entry.proofs.EntryAt.{entry_lengths, loaded_lengths}
use Rattle.cm_entry.proofs.span.lengths.Goals as goal

pub returns-clause-lengths : goal.returns-clause-lengths
returns-clause-lengths g c words fits =
    let halves = loaded_lengths (g.M.Mem.seen c.load.new.self) c.args.geo.now c.args.place c.args.chunk c.chunk_at.result c.in_ok-head.head c.halves.result.0 c.halves.result.1
    c.chunk_at.ensures.value c.in_ok-head.ensures.word c.halves.ensures.key_is c.halves.ensures.value_is words fits in
    record {
      halves = halves;
      entry = λ pair stands. entry_lengths c.args.geo.now words c.args.place c.args.chunk c.halves.result.0 c.halves.result.1 pair c.requires.readable.place_low
          (words_long (g.M.Mem.seen c.args.mem.now) (g.M.Mem.seen c.load.new.self) c.args.geo.now c.in_ok-head.ensures.loads.call.done c.requires.readable.readable.geo_is words fits) halves stands;
    }
