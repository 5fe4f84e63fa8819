-- What is compared in each list that fits is compared in the segment's words.
use Rattle.std.proofs.Common.{subst}
use Rattle.cm_geo.specs.declared.geo.Geo.{Geo}
use Rattle.cm_words.specs.Fixed.{fixed_seen}
use Rattle.cm_entry.specs.Parts.{IsPartEqual}
use Rattle.cm_check.specs.Quiets.{words_of}
use Rattle.cm_check.proofs.QuietReads.{fits_quiet}
use Rattle.cm_check.proofs.quiet.Quiet.has_key.Goals as goal

pub returns : goal.returns
returns c =
    let found : IsPartEqual (fixed_seen c.key_equals.new.mem) c.geo.result.now c.args.place c.args.chunk (λ pair. pair.key) c.args.key.now c.unwrap.result = rw c.unwrap.ensures at c.key_equals.ensures.equals in
    let here : IsPartEqual (fixed_seen c.key_equals.new.mem) c.args.self.now.words.now.geo c.args.place c.args.chunk (λ pair. pair.key) c.args.key.now c.unwrap.result =
    subst (λ (g : Geo). IsPartEqual (fixed_seen c.key_equals.new.mem) g c.args.place c.args.chunk (λ pair. pair.key) c.args.key.now c.unwrap.result) c.geo.ensures found in
    here (words_of c.args.self.now) (fits_quiet c.args.self.now c.reader.result c.key_equals.new.mem c.reader.ensures c.key_equals.ensures.loads.loads.rest)
