-- The lengths are those of the entry that stands there, which may be stored.
use Rattle.std.proofs.Common.{ℕ, List, subst, arith}
use Rattle.cm_geo.specs.declared.geo.Geo.{Geo}
use Rattle.cm_plain.specs.Readings.{reading_at}
use Rattle.cm_words.specs.Memory.{FitsNotes}
use Rattle.cm_words.specs.Fixed.{fixed_seen}
use Rattle.cm_entry.specs.Spans.{AreLengthsAt}
use Rattle.cm_check.specs.Quiets.{geo_of, words_of}
use Rattle.cm_check.proofs.QuietReads.{fits_quiet, many_words}
use Rattle.cm_check.proofs.EntryReads.{pair_read, stands_run}
use Rattle.cm_check.proofs.quiet.Quiet.chunks_at.Goals as goal

-- the lengths that were read are those of an entry, which may be stored
pub need-requires-clause-key_len : goal.need-requires-clause-key_len
need-requires-clause-key_len c =
    let found : (words : List ℕ) → FitsNotes (fixed_seen c.lengths.new.mem) words → AreLengthsAt c.geo.result.now words c.args.place c.args.chunk c.unwrap-key_len.result.0 c.unwrap-key_len.result.1 = rw c.unwrap-key_len.ensures at c.lengths.ensures.lengths in
    let here = subst (λ (g : Geo). AreLengthsAt g (words_of c.args.self.now) c.args.place c.args.chunk c.unwrap-key_len.result.0 c.unwrap-key_len.result.1) c.geo.ensures
    (found (words_of c.args.self.now) (fits_quiet c.args.self.now c.reader.result c.lengths.new.mem c.reader.ensures c.lengths.ensures.loads.call.rest)) in
    let pair = pair_read c.args.place c.args.chunk (reading_at (geo_of c.args.self.now) (words_of c.args.self.now) c.args.place c.args.chunk) c.requires.there in
    let run = stands_run (geo_of c.args.self.now) (words_of c.args.self.now) c.args.place c.args.chunk pair.0 (many_words c.args.self.now) c.requires.chunk.place_low pair.1 in
    let long = (here.entry pair.0 pair.1).0 in
    let short = run.fits.key_short in
    omega (arith, long, short)

pub need-requires-clause-value_len : goal.need-requires-clause-value_len
need-requires-clause-value_len c =
    let found : (words : List ℕ) → FitsNotes (fixed_seen c.lengths.new.mem) words → AreLengthsAt c.geo.result.now words c.args.place c.args.chunk c.unwrap-key_len.result.0 c.unwrap-key_len.result.1 = rw c.unwrap-key_len.ensures at c.lengths.ensures.lengths in
    let here = subst (λ (g : Geo). AreLengthsAt g (words_of c.args.self.now) c.args.place c.args.chunk c.unwrap-key_len.result.0 c.unwrap-key_len.result.1) c.geo.ensures
    (found (words_of c.args.self.now) (fits_quiet c.args.self.now c.reader.result c.lengths.new.mem c.reader.ensures c.lengths.ensures.loads.call.rest)) in
    let pair = pair_read c.args.place c.args.chunk (reading_at (geo_of c.args.self.now) (words_of c.args.self.now) c.args.place c.args.chunk) c.requires.there in
    let run = stands_run (geo_of c.args.self.now) (words_of c.args.self.now) c.args.place c.args.chunk pair.0 (many_words c.args.self.now) c.requires.chunk.place_low pair.1 in
    let long = (here.entry pair.0 pair.1).1 in
    let short = run.fits.value_short in
    omega (arith, long, short)

pub returns : goal.returns
returns c =
    let found : (words : List ℕ) → FitsNotes (fixed_seen c.lengths.new.mem) words → AreLengthsAt c.geo.result.now words c.args.place c.args.chunk c.unwrap-key_len.result.0 c.unwrap-key_len.result.1 = rw c.unwrap-key_len.ensures at c.lengths.ensures.lengths in
    let here = subst (λ (g : Geo). AreLengthsAt g (words_of c.args.self.now) c.args.place c.args.chunk c.unwrap-key_len.result.0 c.unwrap-key_len.result.1) c.geo.ensures
    (found (words_of c.args.self.now) (fits_quiet c.args.self.now c.reader.result c.lengths.new.mem c.reader.ensures c.lengths.ensures.loads.call.rest)) in
    λ pair reads.
    let long = here.entry pair reads in
    let geo = c.geo-2.ensures in
    let is = c.need.ensures.value in
    rw (← geo, ← long.0, ← long.1) is
