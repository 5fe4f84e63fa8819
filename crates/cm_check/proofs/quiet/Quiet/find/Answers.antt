-- What is found in each list that fits is found in the segment's words.
use Rattle.std.proofs.Common.{ℕ, List, subst}
use Rattle.cm_geo.specs.declared.geo.Geo.{Geo}
use Rattle.cm_lookup.specs.Probing.{Finds}
use Rattle.cm_words.specs.Memory.{FitsNotes}
use Rattle.cm_words.specs.Fixed.{fixed_seen}
use Rattle.cm_check.specs.Quiets.{words_of}
use Rattle.cm_check.proofs.QuietReads.{fits_quiet}
use Rattle.cm_check.proofs.quiet.Quiet.find.Goals as goal

pub returns-clause-found : goal.returns-clause-found
returns-clause-found c =
    let found : (words : List ℕ) → FitsNotes (fixed_seen c.find.new.mem) words → Finds c.geo.result.now words c.args.place c.args.fingerprint c.args.from c.unwrap.result = rw c.unwrap.ensures at c.find.ensures.found in
    subst (λ (g : Geo). Finds g (words_of c.args.self.now) c.args.place c.args.fingerprint c.args.from c.unwrap.result) c.geo.ensures
    (found (words_of c.args.self.now) (fits_quiet c.args.self.now c.reader.result c.find.new.mem c.reader.ensures c.find.ensures.loads.rest))
