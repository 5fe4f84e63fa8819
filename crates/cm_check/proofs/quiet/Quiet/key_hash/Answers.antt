-- What is read in each list that fits is read in the segment's words.
use Rattle.std.proofs.Common.{◌≡◌, ℕ, List, subst}
use Rattle.cm_geo.specs.declared.geo.Geo.{Geo}
use Rattle.cm_geo.specs.Hash.{hash}
use Rattle.cm_plain.specs.declared.reply.Pair.{Pair}
use Rattle.cm_plain.specs.Readings.{entry, reading_at}
use Rattle.cm_words.specs.Memory.{FitsNotes}
use Rattle.cm_words.specs.Fixed.{fixed_seen}
use Rattle.cm_check.specs.Quiets.{words_of}
use Rattle.cm_check.proofs.QuietReads.{fits_quiet}
use Rattle.cm_check.proofs.quiet.Quiet.key_hash.Goals as goal

pub returns : goal.returns
returns c =
    let found : (words : List ℕ) → FitsNotes (fixed_seen c.key_hash.new.mem) words → (pair : Pair) → reading_at c.geo.result.now words c.args.place c.args.chunk ≡ entry pair → c.unwrap.result ≡ hash pair.key = rw c.unwrap.ensures at c.key_hash.ensures.hash in
    subst (λ (g : Geo). (pair : Pair) → reading_at g (words_of c.args.self.now) c.args.place c.args.chunk ≡ entry pair → c.unwrap.result ≡ hash pair.key) c.geo.ensures
    (found (words_of c.args.self.now) (fits_quiet c.args.self.now c.reader.result c.key_hash.new.mem c.reader.ensures c.key_hash.ensures.loads.loads.rest))
