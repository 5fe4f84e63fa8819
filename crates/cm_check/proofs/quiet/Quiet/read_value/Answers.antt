-- What is copied from each list that fits is copied from the segment's words.
use Rattle.std.proofs.Common.{subst}
use Rattle.cm_geo.specs.declared.geo.Geo.{Geo}
use Rattle.cm_words.specs.Fixed.{fixed_seen}
use Rattle.cm_entry.specs.Parts.{IsPartCopy}
use Rattle.cm_check.specs.Quiets.{words_of}
use Rattle.cm_check.proofs.QuietReads.{fits_quiet}
use Rattle.cm_check.proofs.quiet.Quiet.read_value.Goals as goal

pub returns-clause-copied : goal.returns-clause-copied
returns-clause-copied c =
    let found : IsPartCopy (fixed_seen c.read_value_into.new.mem) c.geo.result.now c.args.place c.args.chunk 4096 (λ pair. pair.value) c.read_value_into.new.out c.unwrap.result = rw c.unwrap.ensures at c.read_value_into.ensures.value in
    let here = subst (λ (g : Geo). IsPartCopy (fixed_seen c.read_value_into.new.mem) g c.args.place c.args.chunk 4096 (λ pair. pair.value) c.read_value_into.new.out c.unwrap.result) c.geo.ensures found in
    λ pair reads. (here.copied (words_of c.args.self.now) (fits_quiet c.args.self.now c.reader.result c.read_value_into.new.mem c.reader.ensures c.read_value_into.ensures.loads.loads.rest) pair reads).1
