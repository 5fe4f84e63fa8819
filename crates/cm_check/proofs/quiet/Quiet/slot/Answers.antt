-- A slot is empty just where both halves of its word are 0.
use Rattle.std.proofs.Common.{◌≡◌, ℕ, List, ◌⊎◌, inl, inr, subst, sym}
use Rattle.cm_geo.specs.declared.geo.Geo.{Geo}
use Rattle.cm_geo.specs.Addresses.{slot_at}
use Rattle.cm_plain.specs.Slots.{word_at}
use Rattle.cm_words.specs.Memory.{FitsNotes}
use Rattle.cm_words.specs.Fixed.{fixed_seen}
use Rattle.cm_lookup.specs.Probing.{AreHalves}
use Rattle.cm_check.specs.Quiets.{geo_of, words_of}
use Rattle.cm_check.proofs.QuietReads.{fits_quiet, halves_none, halves_some}
use Rattle.cm_check.proofs.quiet.Quiet.slot.Goals as goal

pub returns-then-parts-eq0-2 : goal.returns-then-parts-eq0-2
returns-then-parts-eq0-2 c =
    let found : (words : List ℕ) → FitsNotes (fixed_seen c.slot_of.new.mem) words → AreHalves (word_at words (slot_at c.geo.result.now c.args.place c.args.number)) c.unwrap-parts.result = rw c.unwrap-parts.ensures at c.slot_of.ensures.parts in
    let here = subst (λ (g : Geo). AreHalves (word_at (words_of c.args.self.now) (slot_at g c.args.place c.args.number)) c.unwrap-parts.result) c.geo.ensures
    (found (words_of c.args.self.now) (fits_quiet c.args.self.now c.reader.result c.slot_of.new.mem c.reader.ensures c.slot_of.ensures.loads.call.rest)) in
    sym (halves_none (geo_of c.args.self.now) (words_of c.args.self.now) c.args.place c.args.number c.unwrap-parts.result here c.if-parts-eq0.true c.if-parts-eq0-2.true)

-- one of two numbers isn't 0
some_half : (a b : ℕ) → ((a ≡ 0) × (b ≡ 0 → ⊥)) ⊎ (a ≡ 0 → ⊥) → a ≡ 0 → b ≡ 0 → ⊥
some_half a b (inl other) e f = other.1 f
some_half a b (inr other) e f = other e

pub returns-else-parts-eq0 : goal.returns-else-parts-eq0
returns-else-parts-eq0 c =
    let found : (words : List ℕ) → FitsNotes (fixed_seen c.slot_of.new.mem) words → AreHalves (word_at words (slot_at c.geo.result.now c.args.place c.args.number)) c.unwrap-parts.result = rw c.unwrap-parts.ensures at c.slot_of.ensures.parts in
    let here = subst (λ (g : Geo). AreHalves (word_at (words_of c.args.self.now) (slot_at g c.args.place c.args.number)) c.unwrap-parts.result) c.geo.ensures
    (found (words_of c.args.self.now) (fits_quiet c.args.self.now c.reader.result c.slot_of.new.mem c.reader.ensures c.slot_of.ensures.loads.call.rest)) in
    halves_some (geo_of c.args.self.now) (words_of c.args.self.now) c.args.place c.args.number c.unwrap-parts.result here (some_half _ _ c.else-parts-eq0.either)
