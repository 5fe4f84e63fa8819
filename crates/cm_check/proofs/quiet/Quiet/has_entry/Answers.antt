-- The verdict is that on what is read in the segment's words.
use Rattle.std.proofs.Common.{◌≡◌, ℕ, List, subst, sym, ◌∙◌}
use Rattle.cm_geo.specs.declared.geo.Geo.{Geo}
use Rattle.cm_plain.specs.Readings.{reading_at}
use Rattle.cm_words.specs.Memory.{FitsNotes}
use Rattle.cm_words.specs.Fixed.{fixed_seen}
use Rattle.cm_entry.specs.Verdicts.{IsVerdict, verdict_of}
use Rattle.cm_check.specs.Quiets.{geo_of, words_of}
use Rattle.cm_check.proofs.QuietReads.{fits_quiet}
use Rattle.cm_check.proofs.EntryReads.{good_is_entry, other_is_none}
use Rattle.cm_check.proofs.quiet.Quiet.has_entry.Goals as goal

pub returns-in-Good : goal.returns-in-Good
returns-in-Good c =
    let found : (words : List ℕ) → FitsNotes (fixed_seen c.verify.new.mem) words → IsVerdict c.geo.result.now words c.args.place c.args.chunk (fixed_seen c.reader.result).meter.events (fixed_seen c.verify.new.mem).meter.events c.unwrap-verdict.result = rw c.unwrap-verdict.ensures at c.verify.ensures.verdict in
    let is = (found (words_of c.args.self.now) (fits_quiet c.args.self.now c.reader.result c.verify.new.mem c.reader.ensures c.verify.ensures.loads.loads.rest)).verdict_is in
    let here = subst (λ (g : Geo). c.unwrap-verdict.result ≡ verdict_of g (reading_at g (words_of c.args.self.now) c.args.place c.args.chunk)) c.geo.ensures is in
    sym (good_is_entry (geo_of c.args.self.now) c.args.place c.args.chunk _ _ _ (reading_at (geo_of c.args.self.now) (words_of c.args.self.now) c.args.place c.args.chunk) (sym c.in-Good.is ∙ here))

pub returns-in_default : goal.returns-in_default
returns-in_default c =
    let found : (words : List ℕ) → FitsNotes (fixed_seen c.verify.new.mem) words → IsVerdict c.geo.result.now words c.args.place c.args.chunk (fixed_seen c.reader.result).meter.events (fixed_seen c.verify.new.mem).meter.events c.unwrap-verdict.result = rw c.unwrap-verdict.ensures at c.verify.ensures.verdict in
    let is = (found (words_of c.args.self.now) (fits_quiet c.args.self.now c.reader.result c.verify.new.mem c.reader.ensures c.verify.ensures.loads.loads.rest)).verdict_is in
    let here = subst (λ (g : Geo). c.unwrap-verdict.result ≡ verdict_of g (reading_at g (words_of c.args.self.now) c.args.place c.args.chunk)) c.geo.ensures is in
    sym (other_is_none (geo_of c.args.self.now) c.args.place c.args.chunk (reading_at (geo_of c.args.self.now) (words_of c.args.self.now) c.args.place c.args.chunk) (λ a b n e. c.in_default.not-Good a b n (here ∙ sym e)))
